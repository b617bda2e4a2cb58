-- What is spelled at a place is spelled once, its pointers fall, and names without pointers are spelled.
use Rattle.std.proofs.Common.{◌≡◌, ℕ, suc, ◌+◌, ◌≤◌, List, [], ◌∷◌, ◌++◌, length, take, drop, Bool, true, false, nat_le, if◌then◌else◌, Option, None, Some, IfSome, refl, sym, ap, ap₂, subst, ◌∙◌, arith, take_at, drop_at, drop-drop, length-drop, append_assoc}
use Rattle.std.specs.List.{AllByRecursion}
use Rattle.std.specs.Prelude.{option_and_then}
use Rattle.std.proofs.lemmas.Bool.Decides.{nat_tests}
use Rattle.dn_name.specs.Name.{Labels, IsLabel, IsName, wire_len, wire_of}
use Rattle.dn_name.specs.Spelled.{target, Segment, Ends, Goes, Leads, Spelled, starts_behind, Falls}
use Rattle.dn_name.specs.Wire.{labels_at, plain_name}
use Rattle.dn_name.proofs.LabelWalkLemmas.{IsFound, found_at}

-- two fronts of one list with one length are equal
pub same_front : (left right more rest : List ℕ) → length left ≡ length right → left ++ more ≡ right ++ rest → left ≡ right
same_front left right more rest count same = sym (take_at left more (length left) refl) ∙ ap (take (length left)) same ∙ take_at right rest (length left) (sym count)

module _ (message : List ℕ) where
  -- the byte at a place, and the bytes behind it
  pub heads : {at place byte other : ℕ} {rest more : List ℕ} → at ≡ place → drop at message ≡ byte ∷ rest → drop place message ≡ other ∷ more → (byte ≡ other) × (rest ≡ more)
  heads {at} {place} {byte} {other} {rest} {more} e left right =
      let same : byte ∷ rest ≡ other ∷ more = sym left ∙ ap (λ n. drop n message) e ∙ right in (cc, cc)

  pub once : {start origin at place next after : ℕ} {labels other : Labels} → at ≡ place → Segment message start at labels next → Segment message origin place other after
      → (labels ≡ other) × (next ≡ after)
  once e (Ends rest is) (Ends rest' is') = (refl, omega arith)
  once e (Ends rest is) (Goes label rest' sized is' more) = absurd (omega (arith, sized.0, (heads e is is').0))
  once e (Ends rest is) (Leads high low rest' marked is' below more) = absurd (omega (arith, (heads e is is').0))
  once e (Goes label rest sized is more) (Ends rest' is') = absurd (omega (arith, sized.0, (heads e is is').0))
  once e (Goes label rest sized is more) (Goes label' rest' sized' is' more') =
      let same : label ≡ label' = same_front label label' rest rest' (heads e is is').0 (heads e is is').1 in
      let behind = once (omega (arith, e, ap length same)) more more' in
      (ap₂ ◌∷◌ same behind.0, behind.1)
  once e (Goes label rest sized is more) (Leads high low rest' marked is' below more') = absurd (omega (arith, sized.1, (heads e is is').0))
  once e (Leads high low rest marked is below more) (Ends rest' is') = absurd (omega (arith, (heads e is is').0))
  once e (Leads high low rest marked is below more) (Goes label' rest' sized' is' more') = absurd (omega (arith, sized'.1, (heads e is is').0))
  once {at} {place} e (Leads high low rest marked is below more) (Leads high' low' rest' marked' is' below' more') =
      let first = heads e is is' in
      let second : low ≡ low' = cc in
      ((once (ap₂ target first.0 second) more more').0, omega arith)

  -- a spelling stands inside the message
  pub inside : {start at next : ℕ} {labels : Labels} → Segment message start at labels next → next ≤ length message
  inside {start} {at} (Ends rest is) = omega (arith, ap length is, length-drop at message)
  inside (Goes label rest sized is more) = inside more
  inside {start} {at} (Leads high low rest marked is below more) = omega (arith, ap length is, length-drop at message)

  -- what is spelled is the one value that is spelled there
  pub only_one : (at next : ℕ) (name : Labels) → Spelled message at name next → (found : Labels × ℕ) → Spelled message at found.0 found.1 → found ≡ (name, next)
  only_one at next name spelled found other =
      let same = once {at = at} {place = at} refl other.1 spelled.1 in
      ap₂ (λ (xs : Labels) (n : ℕ). (xs, n)) same.0 same.1

  -- the segments that pointers lead to begin ever further to the front
  pub falls : {start at next : ℕ} {labels : Labels} (segment : Segment message start at labels next) → Falls start (starts_behind segment) × (length (starts_behind segment) ≤ start)
  falls (Ends rest is) = (tt, omega arith)
  falls (Goes label rest sized is more) = falls more
  falls (Leads high low rest marked is below more) = let behind = falls more in ((below, behind.0), omega (arith, behind.1))

  -- a name that stands without pointers is spelled
  plain_segment : (start at : ℕ) (name : Labels) (back : List ℕ) → AllByRecursion IsLabel name → drop at message ≡ wire_of name ++ back
      → Segment message start at name (at + wire_len name)
  plain_segment start at [] back sized e = Ends back e
  plain_segment start at (label ∷ name) back sized e =
      let split : drop at message ≡ (length label ∷ label) ++ (wire_of name ++ back) = e ∙ ap (λ xs. length label ∷ xs) (append_assoc label (wire_of name) back) in
      let behind : drop (at + 1 + length label) message ≡ wire_of name ++ back =
      ap (λ k. drop k message) (omega arith) ∙ sym (drop-drop (suc (length label)) at message) ∙ ap (drop (suc (length label))) split
      ∙ drop_at (length label ∷ label) (wire_of name ++ back) (suc (length label)) refl in
      subst (λ next. Segment message start at (label ∷ name) next) (omega arith)
      (Goes label (wire_of name ++ back) sized.0 split (plain_segment start (at + 1 + length label) name back sized.1 behind))

  pub plain_spelled : (at : ℕ) (name : Labels) (back : List ℕ) → IsName name → drop at message ≡ wire_of name ++ back → Spelled message at name (at + wire_len name)
  plain_spelled at name back is e = (is, plain_segment at at name back is.0 e)

-- what is found of a name without pointers
kept_is : (bytes : List ℕ) (o : Option (Labels × List ℕ)) (name : Labels) (rest : List ℕ) → IfSome o (IsFound 128 bytes)
    → option_and_then (λ found. if nat_le (wire_len found.0) 255 then Some found else None) o ≡ Some (name, rest) → IsName name × (bytes ≡ wire_of name ++ rest)
kept_is bytes None name rest is e = absurd (cc)
kept_is bytes (Some found) name rest is e = both (nat_le (wire_len found.0) 255) refl e
  where
    both : (fits : Bool) → nat_le (wire_len found.0) 255 ≡ fits → (if fits then Some found else None) ≡ Some (name, rest) → IsName name × (bytes ≡ wire_of name ++ rest)
    both false test e = absurd (cc)
    both true test e =
        let short : wire_len found.0 ≤ 255 = grind (arith, nat_tests) in
        let same : found ≡ (name, rest) = cc in
        subst (λ (all : Labels × List ℕ). IsName all.0 × (bytes ≡ wire_of all.0 ++ all.1)) same ((is.labels, short), is.spelled)

pub plain_found_spelled : (message : List ℕ) (at : ℕ) (name : Labels) (rest : List ℕ) → plain_name (drop at message) ≡ Some (name, rest) → Spelled message at name (at + wire_len name)
plain_found_spelled message at name rest e =
    let found = kept_is (drop at message) (labels_at 128 (drop at message)) name rest (found_at 128 (drop at message)) e in
    plain_spelled message at name rest found.0 found.1

-- what was written behind the front of a buffer is spelled there
pub written_spelled : (new front rest : List ℕ) (at after : ℕ) (name : Labels) → IsName name → length front ≡ at → after ≡ at + wire_len name
    → new ≡ front ++ (wire_of name ++ rest) → Spelled new at name after
written_spelled new front rest at after name is front_len after_is e =
    subst (λ next. Spelled new at name next) (sym after_is)
    (plain_spelled new at name rest is (ap (drop at) e ∙ drop_at front (wire_of name ++ rest) at front_len))
