-- What is wrong first with a name without pointers.
use Rattle.std.proofs.Common.{◌≡◌, ℕ, zero, suc, ◌+◌, ◌≤◌, ◌<◌, List, [], ◌∷◌, ◌++◌, length, take, drop, refl, sym, ap, ap₂, subst, ◌∙◌, arith, append_assoc, drop-drop, drop_at, length-append, length-take-le, take-append-drop}
use Rattle.dn_name.specs.Name.{Labels, IsLabel, wire_len, wire_of}
use Rattle.dn_name.specs.PlainFault.{NoneStands, PlainFault, Cut, Ended, Later, TooLong, TooMany}
use Rattle.dn_name.specs.declared.error.NameFault.{NameFault}
use Rattle.dn_name.specs.declared.error.NameFault.TheVariants.{Short, LabelTooLong, NameTooLong}
use Rattle.dn_name.proofs.SpelledLemmas.{heads, same_front}

module _ (message : List ℕ) (at size : ℕ) (rest : List ℕ) (none : NoneStands message at size) (few : size ≤ 255) where
  -- a zero byte would end a name
  pub no_zero : (len : ℕ) → drop at message ≡ len ∷ rest → 1 ≤ len
  no_zero zero there = absurd (none [] rest tt (omega arith) there)
  no_zero (suc len) there = omega arith

  pub too_many : (len : ℕ) → drop at message ≡ len ∷ rest → len ≤ 63 → 255 < size + len + 1 → PlainFault message at size NameTooLong at
  too_many len there short long = TooMany len rest there (no_zero len there) short long

  pub cut : (len : ℕ) → drop at message ≡ len ∷ rest → len ≤ 63 → size + len + 1 ≤ 255 → length rest < len → PlainFault message at size Short (length message)
  cut len there short fits less = Cut len rest there (no_zero len there) short fits less

  -- a whole label
  module _ (len : ℕ) (there : drop at message ≡ len ∷ rest) (short : len ≤ 63) (fits : size + len + 1 ≤ 255) (whole : len ≤ length rest) where
    label_len : length (take len rest) ≡ len
    label_len = length-take-le len rest whole

    is_label : IsLabel (take len rest)
    is_label = (omega (arith, label_len, no_zero len there), omega (arith, label_len))

    splits : drop at message ≡ (length (take len rest) ∷ take len rest) ++ drop len rest
    splits = there ∙ ap₂ (λ (n : ℕ) (xs : List ℕ). n ∷ xs) (sym label_len) (sym (take-append-drop len rest))

    behind : drop (at + (1 + len)) message ≡ drop len rest
    behind =
        let further : at + (1 + len) ≡ at + suc len = omega arith in
        ap (λ n. drop n message) further ∙ sym (drop-drop (suc len) at message) ∙ ap (drop (suc len)) there

    pub none_behind : NoneStands message (at + (1 + len)) (size + (1 + len))
    none_behind name back is most stands =
        none (take len rest ∷ name) back (is_label, is) (omega (arith, label_len, most))
        (splits ∙ ap (λ xs. (length (take len rest) ∷ take len rest) ++ xs) (sym behind ∙ stands) ∙ sym (append_assoc (length (take len rest) ∷ take len rest) (wire_of name) back))

    pub later : (kind : NameFault) (place : ℕ) → PlainFault message (at + (1 + len)) (size + (1 + len)) kind place → PlainFault message at size kind place
    later kind place fault =
        let at_is : at + (1 + len) ≡ at + 1 + length (take len rest) = omega (arith, label_len) in
        let size_is : size + (1 + len) ≡ size + length (take len rest) + 1 = omega (arith, label_len) in
        Later (take len rest) (drop len rest) is_label splits (omega (arith, label_len))
        (subst (λ n. PlainFault message n (size + length (take len rest) + 1) kind place) at_is
        (subst (λ n. PlainFault message (at + (1 + len)) n kind place) size_is fault))

wire_some : (name : Labels) → 1 ≤ wire_len name
wire_some [] = omega arith
wire_some (label ∷ name) = omega arith

module _ (message : List ℕ) where
  empty : {at place byte : ℕ} {rest : List ℕ} → at ≡ place → length (drop at message) ≡ 0 → drop place message ≡ byte ∷ rest → ⊥
  empty e none is = omega (arith, none, ap length is, ap (λ k. length (drop k message)) e)

  -- by the cases of both; a case meets another where the bytes or the size would differ
  pub one_plain : {at place size other here there : ℕ} {kind another : NameFault} → at ≡ place → size ≡ other
      → PlainFault message at size kind here → PlainFault message place other another there → (kind ≡ another) × (here ≡ there)
  one_plain at_is size_is (Ended none) (Ended none') = (refl, refl)
  one_plain at_is size_is (Ended none) (TooLong byte' rest' is' least') = absurd (empty at_is none is')
  one_plain at_is size_is (Ended none) (TooMany len' rest' is' some' few' long') = absurd (empty at_is none is')
  one_plain at_is size_is (Ended none) (Cut len' rest' is' some' few' fits' cut') = absurd (empty at_is none is')
  one_plain at_is size_is (Ended none) (Later label' rest' sized' is' fits' more') = absurd (empty at_is none is')
  one_plain at_is size_is (TooLong byte rest is least) (Ended none') = absurd (empty (sym at_is) none' is)
  one_plain at_is size_is (TooLong byte rest is least) (TooLong byte' rest' is' least') = (refl, at_is)
  one_plain at_is size_is (TooLong byte rest is least) (TooMany len' rest' is' some' few' long') = absurd (omega (arith, (heads message at_is is is').0))
  one_plain at_is size_is (TooLong byte rest is least) (Cut len' rest' is' some' few' fits' cut') = absurd (omega (arith, (heads message at_is is is').0))
  one_plain at_is size_is (TooLong byte rest is least) (Later label' rest' sized' is' fits' more') = absurd (omega (arith, (heads message at_is is is').0, sized'.0, sized'.1))
  one_plain at_is size_is (TooMany len rest is some few long) (Ended none') = absurd (empty (sym at_is) none' is)
  one_plain at_is size_is (TooMany len rest is some few long) (TooLong byte' rest' is' least') = absurd (omega (arith, (heads message at_is is is').0))
  one_plain at_is size_is (TooMany len rest is some few long) (TooMany len' rest' is' some' few' long') = (refl, at_is)
  one_plain at_is size_is (TooMany len rest is some few long) (Cut len' rest' is' some' few' fits' cut') = absurd (omega (arith, size_is, (heads message at_is is is').0))
  one_plain at_is size_is (TooMany len rest is some few long) (Later label' rest' sized' is' fits' more') = absurd (omega (arith, size_is, (heads message at_is is is').0, sized'.0, sized'.1))
  one_plain at_is size_is (Cut len rest is some few fits cut) (Ended none') = absurd (empty (sym at_is) none' is)
  one_plain at_is size_is (Cut len rest is some few fits cut) (TooLong byte' rest' is' least') = absurd (omega (arith, (heads message at_is is is').0))
  one_plain at_is size_is (Cut len rest is some few fits cut) (TooMany len' rest' is' some' few' long') = absurd (omega (arith, size_is, (heads message at_is is is').0))
  one_plain at_is size_is (Cut len rest is some few fits cut) (Cut len' rest' is' some' few' fits' cut') = (refl, refl)
  one_plain at_is size_is (Cut len rest is some few fits cut) (Later label' rest' sized' is' fits' more') = absurd (omega (arith, (heads message at_is is is').0, sized'.0, sized'.1, ap length (heads message at_is is is').1, length-append label' rest'))
  one_plain at_is size_is (Later label rest sized is fits more) (Ended none') = absurd (empty (sym at_is) none' is)
  one_plain at_is size_is (Later label rest sized is fits more) (TooLong byte' rest' is' least') = absurd (omega (arith, (heads message at_is is is').0, sized.0, sized.1))
  one_plain at_is size_is (Later label rest sized is fits more) (TooMany len' rest' is' some' few' long') = absurd (omega (arith, size_is, (heads message at_is is is').0, sized.0, sized.1))
  one_plain at_is size_is (Later label rest sized is fits more) (Cut len' rest' is' some' few' fits' cut') = absurd (omega (arith, (heads message at_is is is').0, sized.0, sized.1, ap length (heads message at_is is is').1, length-append label rest))
  one_plain at_is size_is (Later label rest sized is fits more) (Later label' rest' sized' is' fits' more') =
      let same = heads message at_is is is' in
      let label_same : label ≡ label' = same_front label label' rest rest' same.0 same.1 in
      one_plain (omega (arith, at_is, ap length label_same)) (omega (arith, size_is, ap length label_same)) more more'

  -- where a name stands nothing is wrong with it
  pub no_name : {at size place : ℕ} {kind : NameFault} → PlainFault message at size kind place → NoneStands message at size
  no_name (Ended none) [] back named most stands = omega (arith, none, ap length stands)
  no_name (Ended none) (label ∷ name) back named most stands = omega (arith, none, ap length stands)
  no_name (TooLong byte rest is least) [] back named most stands = omega (arith, (heads message refl is stands).0)
  no_name (TooLong byte rest is least) (label ∷ name) back named most stands = omega (arith, (heads message refl is stands).0, named.0.1)
  no_name (TooMany len rest is some few long) [] back named most stands = omega (arith, (heads message refl is stands).0)
  no_name (TooMany len rest is some few long) (label ∷ name) back named most stands = omega (arith, (heads message refl is stands).0, wire_some name)
  no_name (Cut len rest is some few fits cut) [] back named most stands = omega (arith, (heads message refl is stands).0)
  no_name (Cut len rest is some few fits cut) (label ∷ name) back named most stands =
      let same = heads message refl is stands in
      omega (arith, same.0, ap length same.1, length-append (label ++ wire_of name) back, length-append label (wire_of name))
  no_name (Later first rest sized is fits more) [] back named most stands = omega (arith, sized.0, (heads message refl is stands).0)
  no_name {at} (Later first rest sized is fits more) (label ∷ name) back named most stands =
      let same = heads message refl is stands in
      let whole : first ++ rest ≡ label ++ (wire_of name ++ back) = same.1 ∙ append_assoc label (wire_of name) back in
      let first_is : first ≡ label = same_front first label rest (wire_of name ++ back) same.0 whole in
      let rest_is : rest ≡ wire_of name ++ back = sym (drop_at first rest (length first) refl) ∙ ap (drop (length first)) whole ∙ drop_at label (wire_of name ++ back) (length first) (sym same.0) in
      let further : at + 1 + length first ≡ at + suc (length first) = omega arith in
      let there : drop (at + 1 + length first) message ≡ rest =
      ap (λ n. drop n message) further ∙ sym (drop-drop (suc (length first)) at message) ∙ ap (drop (suc (length first))) is ∙ drop_at first rest (length first) refl in
      no_name more name back named.1 (omega (arith, same.0)) (there ∙ rest_is)
