-- How many of a list pass a test.
use Rattle.std.proofs.Common.{◌≡◌, ℕ, ◌+◌, ◌<◌, ◌≤◌, Bool, true, false, ◌||◌, nat_le, cond, List, [], ◌∷◌, count_by, refl, ap, ◌∙◌, arith, ⊎_elim}
use Rattle.std.proofs.lemmas.Bool.{false≢true, lt-leb, or_cases}
use Rattle.std.proofs.lemmas.List.Sums.{sum_by-cons}
use Rattle.std.specs.List.{AllByRecursion}
use Rattle.dn_store.proofs.ListLemmas.{all_of}

-- how many of one
abbrev pub ones : Bool → ℕ
ones b = cond b 1 0

pub count_cons : {X : Type 0} (p : X → Bool) (one : X) (list : List X) → count_by p (one ∷ list) ≡ ones (p one) + count_by p list
count_cons p one list = sum_by-cons (λ other. ones (p other)) one list

-- the first doesn't pass
pub count_out : {X : Type 0} (p : X → Bool) (one : X) (list : List X) → p one ≡ false → count_by p (one ∷ list) ≡ count_by p list
count_out p one list is =
    let here : count_by p (one ∷ list) ≡ ones (p one) + count_by p list = count_cons p one list in
    let none : ones (p one) ≡ 0 = ap ones is in
    omega arith

pub ones_mono : (a b : Bool) → (a ≡ true → b ≡ true) → ones a ≤ ones b
ones_mono false b is = omega arith
ones_mono true true is = omega arith
ones_mono true false is = absurd (false≢true (is refl))

-- one more, which where it passes another passes a wider test
pub count_more : {X : Type 0} (p r : X → Bool) (one other : X) (left right : List X) → (p one ≡ true → r other ≡ true) → count_by p left ≤ count_by r right
    → count_by p (one ∷ left) ≤ count_by r (other ∷ right)
count_more p r one other left right then later =
    let first : ones (p one) ≤ ones (r other) = ones_mono (p one) (r other) then in
    let here : count_by p (one ∷ left) ≡ ones (p one) + count_by p left = count_cons p one left in
    let there : count_by r (other ∷ right) ≡ ones (r other) + count_by r right = count_cons r other right in
    omega arith

-- what passes a test passes a wider one
pub count_mono : {X : Type 0} (p r : X → Bool) (list : List X) → AllByRecursion (λ one. p one ≡ true → r one ≡ true) list → count_by p list ≤ count_by r list
count_mono p r [] all = omega arith
count_mono p r (one ∷ list) all = count_more p r one one list list all.0 (count_mono p r list all.1)

pub none_counted : {X : Type 0} (p : X → Bool) (list : List X) → AllByRecursion (λ one. p one ≡ false) list → count_by p list ≡ 0
none_counted p [] all = refl
none_counted p (one ∷ list) all = count_out p one list all.0 ∙ none_counted p list all.1

pub count_none : {X : Type 0} (p : X → Bool) (list : List X) → ((one : X) → p one ≡ false) → count_by p list ≡ 0
count_none p list none = none_counted p list (all_of (λ one. p one ≡ false) list none)

-- ---- tests

pub either : (a b : Bool) (Goal : Type 0) → (a || b) ≡ true → (a ≡ true → Goal) → (b ≡ true → Goal) → Goal
either a b Goal is left right = ⊎_elim left right (or_cases a b is)

pub past : (number top start : ℕ) → start ≤ top → top < number → nat_le number start ≡ false
past number top start within more = lt-leb number start (omega arith)
