-- A name with a label more, on the wire.
use Rattle.std.proofs.lemmas.Bool.Decides.{nat_tests}
use Rattle.std.proofs.Common.{Some, None, if◌then◌else◌, nat_le, ◌≡◌, ℕ, suc, ◌+◌, ◌-◌, ◌<◌, ◌≤◌, List, [], ◌∷◌, ◌++◌, length, take, drop, set, replicate, refl, sym, ap, ap₂, ◌∙◌, arith, append_assoc, length-append, take_at, drop_at}
use Rattle.std.specs.List.{AllByRecursion}
use Rattle.std.proofs.lemmas.List.{set_at, drop-replicate}
use Rattle.dn_name.specs.Name.{Labels, wire_of, wire_len, IsLabel, IsName}
use Rattle.dn_name.specs.Wire.{padded}

-- the bytes of the labels, without the zero byte
abbrev front : Labels → List ℕ
front [] = []
front (label ∷ name) = length label ∷ label ++ front name

front-zero : (name : Labels) → wire_of name ≡ front name ++ 0 ∷ []
front-zero [] = refl
front-zero (label ∷ name) = ap (λ (xs : List ℕ). length label ∷ xs) (ap (λ (xs : List ℕ). label ++ xs) (front-zero name) ∙ sym (append_assoc label (front name) (0 ∷ [])))

front-push : (name : Labels) (label : List ℕ) → wire_of (name ++ label ∷ []) ≡ front name ++ (length label ∷ (label ++ 0 ∷ []))
front-push [] label = refl
front-push (first ∷ name) label =
    ap (λ (xs : List ℕ). length first ∷ xs) (ap (λ (xs : List ℕ). first ++ xs) (front-push name label) ∙ sym (append_assoc first (front name) _))

length-front : (name : Labels) → length (front name) + 1 ≡ wire_len name
length-front [] = refl
length-front (label ∷ name) = omega (arith, length-append label (front name), length-front name)

pub wire_len-push : (name : Labels) (label : List ℕ) → wire_len (name ++ label ∷ []) ≡ wire_len name + length label + 1
wire_len-push [] label = omega arith
wire_len-push (first ∷ name) label = omega (arith, wire_len-push name label)

all-push : (name : Labels) (label : List ℕ) → AllByRecursion IsLabel name → IsLabel label → AllByRecursion IsLabel (name ++ label ∷ [])
all-push [] label h l = (l, tt)
all-push (first ∷ name) label h l = (h.0, all-push name label h.1 l)

pub name-push : (name : Labels) (label : List ℕ) → IsName name → IsLabel label → wire_len name + length label ≤ 254 → IsName (name ++ label ∷ [])
name-push name label is l fits = (all-push name label is.0 l, omega (arith, wire_len-push name label))

-- the bytes after the length is set over the zero byte and the label is written behind it
module _ (name : Labels) (label w ys : List ℕ) (at k : ℕ) (was : w ≡ padded name) (is : at ≡ wire_len name) (fits : at + length label ≤ 254) (count : k ≡ length label) (same : ys ≡ label) where
  marked : set w (at - 1) (length label) ≡ (front name ++ length label ∷ []) ++ replicate (255 - wire_len name) 0
  marked =
      ap (λ (xs : List ℕ). set xs (at - 1) (length label)) was
      ∙ ap (λ (xs : List ℕ). set (xs ++ replicate (255 - wire_len name) 0) (at - 1) (length label)) (front-zero name)
      ∙ ap (λ (xs : List ℕ). set xs (at - 1) (length label)) (append_assoc (front name) (0 ∷ []) (replicate (255 - wire_len name) 0))
      ∙ set_at (front name) 0 (replicate (255 - wire_len name) 0) (length label) (at - 1) (omega (arith, length-front name))
      ∙ sym (append_assoc (front name) (length label ∷ []) (replicate (255 - wire_len name) 0))

  length-marked : length (front name ++ length label ∷ []) ≡ at
  length-marked = omega (arith, length-append (front name) (length label ∷ []), length-front name)

  one_zero_more : (n m : ℕ) → n ≡ m + 1 → replicate {A = ℕ} n 0 ≡ 0 ∷ replicate m 0
  one_zero_more n m e = let e' : n ≡ suc m = omega arith in ap (λ (k : ℕ). replicate {A = ℕ} k 0) e'

  behind : drop k (drop at ((front name ++ length label ∷ []) ++ replicate (255 - wire_len name) 0)) ≡ 0 ∷ replicate (255 - wire_len (name ++ label ∷ [])) 0
  behind =
      ap (drop k) (drop_at (front name ++ length label ∷ []) (replicate (255 - wire_len name) 0) at length-marked)
      ∙ drop-replicate k (255 - wire_len name) 0
      ∙ one_zero_more (255 - wire_len name - k) (255 - wire_len (name ++ label ∷ [])) (omega (arith, wire_len-push name label))

  pub padded-push : take at (set w (at - 1) (length label)) ++ (ys ++ drop k (drop at (set w (at - 1) (length label)))) ≡ padded (name ++ label ∷ [])
  padded-push =
      ap₂ (λ (xs zs : List ℕ). xs ++ (ys ++ zs))
      (ap (take at) marked ∙ take_at (front name ++ length label ∷ []) (replicate (255 - wire_len name) 0) at length-marked)
      (ap (λ (xs : List ℕ). drop k (drop at xs)) marked ∙ behind)
      ∙ ap (λ (zs : List ℕ). (front name ++ length label ∷ []) ++ (zs ++ 0 ∷ replicate (255 - wire_len (name ++ label ∷ [])) 0)) same
      ∙ append_assoc (front name) (length label ∷ []) (label ++ 0 ∷ replicate (255 - wire_len (name ++ label ∷ [])) 0)
      ∙ ap (λ (xs : List ℕ). front name ++ (length label ∷ xs)) (sym (append_assoc label (0 ∷ []) (replicate (255 - wire_len (name ++ label ∷ [])) 0)))
      ∙ sym (append_assoc (front name) (length label ∷ (label ++ 0 ∷ [])) (replicate (255 - wire_len (name ++ label ∷ [])) 0))
      ∙ ap (λ (xs : List ℕ). xs ++ replicate (255 - wire_len (name ++ label ∷ [])) 0) (sym (front-push name label))

module _ (name : Labels) (label : List ℕ) where
  pub push_passes : 254 < wire_len name + length label → (if nat_le (wire_len (name ++ label ∷ [])) 255 then Some (name ++ label ∷ []) else None) ≡ None
  push_passes h = grind (arith, nat_tests, wire_len-push name label)

  pub push_fits : wire_len name + length label ≤ 254 → (if nat_le (wire_len (name ++ label ∷ [])) 255 then Some (name ++ label ∷ []) else None) ≡ Some (name ++ label ∷ [])
  push_fits h = grind (arith, nat_tests, wire_len-push name label)
