-- Names walked label by label.
use Rattle.std.proofs.Common.{◌≡◌, ℕ, zero, suc, ◌+◌, ◌-◌, ◌<◌, ◌≤◌, Bool, true, false, ◌&&◌, nat_le, if◌then◌else◌, List, [], ◌∷◌, ◌++◌, length, take, drop, Option, None, Some, option_map, option_and_then, IfSome, length-take-le, replicate, refl, sym, ap, ap₂, ◌∙◌, subst, arith, append-nil, length-drop, take_at, drop_at, take-append-drop, append_assoc}
use Rattle.std.specs.List.{AllByRecursion}
use Rattle.std.proofs.lemmas.Bool.Decides.{nat_tests}
use Rattle.std.proofs.lemmas.List.{drop-replicate, drop_all}
use Rattle.dn_name.specs.Name.{Labels, wire_of, wire_len, parent_of, IsLabel, IsName}
use Rattle.dn_name.specs.Walk.{IsWhole, first_of}
use Rattle.dn_name.specs.Wire.{labels_in, labels_at, padded, then_label, plain_name}
use Rattle.dn_name.proofs.WireNameLemmas.{labels_in-wire, two_a_label, length-wire_of}

labels_in-whole : (name : Labels) → IsName name → labels_in 128 (wire_of name) ≡ name
labels_in-whole name is =
    ap (labels_in 128) (sym (append-nil (wire_of name)))
    ∙ labels_in-wire 128 name [] is.0 (omega (arith, two_a_label name is.0, is.1))

-- the bytes of a name are read as that name
pub read_again : (name : Labels) → IsName name → (bytes : List ℕ) → bytes ≡ wire_of name → labels_in 128 bytes ≡ name
read_again name is bytes e = ap (labels_in 128) e ∙ labels_in-whole name is

pub whole : (name : Labels) → IsName name → (bytes : List ℕ) → bytes ≡ wire_of name → IsWhole bytes
whole name is bytes e =
    let found = read_again name is bytes e in
    (e ∙ ap wire_of (sym found), subst IsName (sym found) is)

pub length-whole : (bytes : List ℕ) → IsWhole bytes → length bytes ≡ wire_len (labels_in 128 bytes)
length-whole bytes is = ap length is.0 ∙ length-wire_of (labels_in 128 bytes)

-- the bytes of a name over the root's
module _ (bytes ys zeros : List ℕ) (is : IsWhole bytes) (root : zeros ≡ padded []) (same : ys ≡ bytes) where
  pub over_root : ys ++ drop (length bytes) zeros ≡ padded (labels_in 128 bytes)
  over_root =
      ap₂ ◌++◌ (same ∙ is.0)
      (ap (drop (length bytes)) root
      ∙ drop-replicate (length bytes) 255 0
      ∙ ap (λ (k : ℕ). replicate {A = ℕ} (255 - k) 0) (length-whole bytes is))

pub length-root : (zeros : List ℕ) → zeros ≡ padded [] → length zeros ≡ 255
length-root zeros root = ap length root

pub wire-injective : (name other : Labels) → AllByRecursion IsLabel name → AllByRecursion IsLabel other → wire_of name ≡ wire_of other → name ≡ other
wire-injective name other is is' e =
    sym (labels_in-wire (length name + length other + 1) name [] is (omega arith))
    ∙ ap (λ (xs : List ℕ). labels_in (length name + length other + 1) (xs ++ [])) e
    ∙ labels_in-wire (length name + length other + 1) other [] is' (omega arith)

abbrev pub the_first : Option (List ℕ × List ℕ) → List ℕ
the_first None = []
the_first (Some parts) = parts.0

abbrev pub behind_first : Option (List ℕ × List ℕ) → List ℕ
behind_first None = []
behind_first (Some parts) = parts.1

pub all-drop : (count : ℕ) (name : Labels) → AllByRecursion IsLabel name → AllByRecursion IsLabel (drop count name)
all-drop zero name h = h
all-drop (suc count) [] h = h
all-drop (suc count) (label ∷ name) h = all-drop count name h.1

pub none_first : (name : Labels) → None ≡ first_of name → name ≡ []
none_first [] e = refl
none_first (label ∷ name) e = cc

-- a step behind the first labels
pub one_more : (count next : ℕ) (name : Labels) (label rest : List ℕ) → next ≡ count + 1 → Some (label, rest) ≡ first_of (drop count name) → (rest ≡ wire_of (drop next name)) × (count < length name)
one_more count zero name label rest is e = absurd (omega arith)
one_more zero (suc next) [] label rest is e = cc
one_more zero (suc next) (first ∷ name) label rest is e =
    let none : next ≡ 0 = omega arith in
    (ap behind_first e ∙ ap (λ (k : ℕ). wire_of (drop k name)) (sym none), omega arith)
one_more (suc count) (suc next) [] label rest is e = cc
one_more (suc count) (suc next) (first ∷ name) label rest is e =
    let more = one_more count next name label rest (omega arith) e in
    (more.0, omega (arith, more.1))

pub all_counted : (count : ℕ) (name : Labels) → count ≤ length name → None ≡ first_of (drop count name) → count ≡ length name
all_counted count name below e = omega (arith, length-drop count name, ap length (none_first (drop count name) e))

-- past the last label nothing more is skipped
pub ended : (counter count : ℕ) (name : Labels) → counter ≤ count → None ≡ first_of (drop counter name) → drop counter name ≡ drop count name
ended counter count name below e =
    let none = none_first (drop counter name) e in
    none ∙ sym (drop_all count name (omega (arith, length-drop counter name, ap length none)))

-- the name behind the first label
pub record Behind (name : Labels) (rest : List ℕ) : Type 0 where
  pub labels : Labels
  pub parent : parent_of name ≡ Some labels
  pub wire : rest ≡ wire_of labels
  pub is : IsName labels

pub behind : (name : Labels) (label rest : List ℕ) → IsName name → Some (label, rest) ≡ first_of name → Behind name rest
behind [] label rest is e = absurd (cc)
behind (first ∷ name) label rest is e = record {
  labels = name;
  parent = refl;
  wire = ap behind_first e;
  is = (is.0.1, omega (arith, is.1));
}

-- ---- names at the front of bytes

pub record IsFound (most : ℕ) (bytes : List ℕ) (found : Labels × List ℕ) : Type 0 where
  pub spelled : bytes ≡ wire_of found.0 ++ found.1
  pub labels : AllByRecursion IsLabel found.0
  pub few : length found.0 < most

one_before : (most k : ℕ) (bytes : List ℕ) → suc k ≤ 63 → suc k ≤ length bytes → (o : Option (Labels × List ℕ)) → IfSome o (IsFound most (drop (suc k) bytes)) → IfSome (then_label (take (suc k) bytes) o) (IsFound (suc most) (suc k ∷ bytes))
one_before most k bytes fits within None h = tt
one_before most k bytes fits within (Some found) h =
    let count : length (take (suc k) bytes) ≡ suc k = length-take-le (suc k) bytes within in
    record {
      spelled =
          ap₂ (λ (n : ℕ) (xs : List ℕ). n ∷ xs) (sym count)
          (sym (take-append-drop (suc k) bytes)
          ∙ ap (λ (xs : List ℕ). take (suc k) bytes ++ xs) h.spelled
          ∙ sym (append_assoc (take (suc k) bytes) (wire_of found.0) found.1));
      labels = ((omega arith, omega arith), h.labels);
      few = omega (arith, h.few);
    }

chosen : (test : Bool) (o : Option (Labels × List ℕ)) (P : Labels × List ℕ → Type 0) → (test ≡ true → IfSome o P) → IfSome (if test then o else None) P
chosen true o P h = h refl
chosen false o P h = tt

fits_both : (k n : ℕ) → (nat_le (suc k) 63 && nat_le (suc k) n) ≡ true → (suc k ≤ 63) × (suc k ≤ n)
fits_both k n h = (grind (arith, nat_tests), grind (arith, nat_tests))

pub found_at : (most : ℕ) (bytes : List ℕ) → IfSome (labels_at most bytes) (IsFound most bytes)
found_at zero bytes = tt
found_at (suc most) [] = tt
found_at (suc most) (zero ∷ bytes) = record { spelled = refl; labels = tt; few = omega arith }
found_at (suc most) (suc k ∷ bytes) =
    chosen (nat_le (suc k) 63 && nat_le (suc k) (length bytes)) (then_label (take (suc k) bytes) (labels_at most (drop (suc k) bytes))) (IsFound (suc most) (suc k ∷ bytes))
    (λ h. one_before most k bytes (fits_both k (length bytes) h).0 (fits_both k (length bytes) h).1 (labels_at most (drop (suc k) bytes)) (found_at most (drop (suc k) bytes)))

-- what is read where the labels take so many bytes
module _ (bytes : List ℕ) where
  abbrev kept : Option (Labels × List ℕ) → Option (Labels × List ℕ)
  kept o = option_and_then (λ found. if nat_le (wire_len found.0) 255 then Some found else None) o

  kept_none : (o : Option (Labels × List ℕ)) → None ≡ option_map (λ found. wire_len found.0) o → None ≡ kept o
  kept_none None e = refl
  kept_none (Some found) e = cc

  kept_long : (o : Option (Labels × List ℕ)) (len : ℕ) → Some len ≡ option_map (λ found. wire_len found.0) o → 255 < len → None ≡ kept o
  kept_long None len e h = refl
  kept_long (Some found) len e h = let same : len ≡ wire_len found.0 = cc in grind (arith, nat_tests)

  pub record Kept (len : ℕ) (o : Option (Labels × List ℕ)) : Type 0 where
    pub whole : IsWhole (take len bytes)
    pub found : Some (labels_in 128 (take len bytes), drop len bytes) ≡ kept o

  kept_short : (o : Option (Labels × List ℕ)) (len : ℕ) → IfSome o (IsFound 128 bytes) → Some len ≡ option_map (λ found. wire_len found.0) o → len ≤ 255 → Kept len o
  kept_short None len is e h = absurd (cc)
  kept_short (Some found) len is e h =
      let same : len ≡ wire_len found.0 = cc in
      let named : IsName found.0 = (is.labels, omega arith) in
      let front : take len bytes ≡ wire_of found.0 = ap (take len) is.spelled ∙ take_at (wire_of found.0) found.1 len (length-wire_of found.0 ∙ sym same) in
      let rest : drop len bytes ≡ found.1 = ap (drop len) is.spelled ∙ drop_at (wire_of found.0) found.1 len (length-wire_of found.0 ∙ sym same) in
      let again : labels_in 128 (take len bytes) ≡ found.0 = read_again found.0 named (take len bytes) front in
      record {
        whole = whole found.0 named (take len bytes) front;
        found = short_name found named (labels_in 128 (take len bytes)) (drop len bytes) again rest;
      }
    where
      short_name : (found : Labels × List ℕ) → IsName found.0 → (name : Labels) (rest : List ℕ) → name ≡ found.0 → rest ≡ found.1 → Some (name, rest) ≡ (if nat_le (wire_len found.0) 255 then Some found else None)
      short_name found named name rest e f =
          let short : wire_len found.0 ≤ 255 = named.1 in
          let kept : (if nat_le (wire_len found.0) 255 then Some found else None) ≡ Some found = grind (arith, nat_tests) in
          ap₂ (λ (xs : Labels) (ys : List ℕ). Some (xs, ys)) e f ∙ sym kept

  pub plain_none : None ≡ option_map (λ found. wire_len found.0) (labels_at 128 bytes) → None ≡ plain_name bytes
  plain_none e = kept_none (labels_at 128 bytes) e

  pub plain_long : (len : ℕ) → Some len ≡ option_map (λ found. wire_len found.0) (labels_at 128 bytes) → 255 < len → None ≡ plain_name bytes
  plain_long len e h = kept_long (labels_at 128 bytes) len e h

  pub plain_whole : (len : ℕ) → Some len ≡ option_map (λ found. wire_len found.0) (labels_at 128 bytes) → len ≤ 255 → IsWhole (take len bytes)
  plain_whole len e h = (kept_short (labels_at 128 bytes) len (found_at 128 bytes) e h).whole

  pub plain_found : (len : ℕ) → Some len ≡ option_map (λ found. wire_len found.0) (labels_at 128 bytes) → len ≤ 255 → Some (labels_in 128 (take len bytes), drop len bytes) ≡ plain_name bytes
  plain_found len e h = (kept_short (labels_at 128 bytes) len (found_at 128 bytes) e h).found
