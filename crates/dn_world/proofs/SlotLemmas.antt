-- What holds of each item of a list, where one is added behind it, takes another's place, or is looked up or found.
use Rattle.std.proofs.Common.{◌≡◌, ℕ, zero, suc, ◌+◌, Bool, true, false, cond, not, length, nat_lt, List, [], ◌∷◌, ◌++◌, Option, None, Some, refl, ap, subst, arith, ◌∙◌}
use Rattle.std.specs.List.{AllByRecursion, position_or_len}
use Rattle.std.specs.Prelude.{◌≢◌, find, position, slice_get, slice_set}

pub all_one_more : {A : Type 0} (P : A → Type 0) (list : List A) (one : A) → AllByRecursion P list → P one → AllByRecursion P (list ++ one ∷ [])
all_one_more P [] one all holds = (holds, tt)
all_one_more P (first ∷ rest) one all holds = (all.0, all_one_more P rest one all.1 holds)

pub all_set : {A : Type 0} (P : A → Type 0) (list : List A) (at : ℕ) (one : A) → AllByRecursion P list → P one → AllByRecursion P (slice_set list at one)
all_set P [] at one all holds = all
all_set P (first ∷ rest) zero one all holds = (holds, all.1)
all_set P (first ∷ rest) (suc at) one all holds = (all.0, all_set P rest at one all.1 holds)

pub all_get : {A : Type 0} (P : A → Type 0) (list : List A) (at : ℕ) (one : A) → AllByRecursion P list → slice_get list at ≡ Some one → P one
all_get P [] at one all is = absurd (cc)
all_get P (first ∷ rest) zero one all is = let e : first ≡ one = cc in subst P e all.0
all_get P (first ∷ rest) (suc at) one all is = all_get P rest at one all.1 is

-- an item put at a place stands there, and each other stays
pub get_set : {A : Type 0} (list : List A) (at : ℕ) (one new : A) → slice_get list at ≡ Some one → slice_get (slice_set list at new) at ≡ Some new
get_set [] at one new is = absurd (cc)
get_set (first ∷ rest) zero one new is = refl
get_set (first ∷ rest) (suc at) one new is = get_set rest at one new is

pub get_other : {A : Type 0} (list : List A) (at place : ℕ) (new : A) → place ≢ at → slice_get (slice_set list at new) place ≡ slice_get list place
get_other [] at place new differ = refl
get_other (first ∷ rest) zero zero new differ = absurd (differ refl)
get_other (first ∷ rest) zero (suc place) new differ = refl
get_other (first ∷ rest) (suc at) zero new differ = refl
get_other (first ∷ rest) (suc at) (suc place) new differ = get_other rest at place new (λ same. differ (ap suc same))

-- ---- the first item that passes a test

place_by : {A : Type 0} (one : A) (list : List A) (place : ℕ) (found : Option A) (b : Bool) → slice_get list place ≡ found
    → slice_get (one ∷ list) (cond (not b) (1 + place) 0) ≡ cond b (Some one) found
place_by one list place found true is = refl
place_by one list place found false is = let e : 1 + place ≡ suc place = omega arith in rw e is

-- the item at the first place that passes a test is the first that does
pub place_found : {A : Type 0} (test : A → Bool) (list : List A) → slice_get list (position_or_len test list) ≡ find test list
place_found test [] = refl
place_found test (one ∷ list) = place_by one list (position_or_len test list) (find test list) (test one) (place_found test list)

found_by : {A : Type 0} (P : A → Type 0) (test : A → Bool) (first one : A) (found : Option A) (b : Bool) → test first ≡ b → P first → (found ≡ Some one → (test one ≡ true) × P one)
    → cond b (Some first) found ≡ Some one → (test one ≡ true) × P one
found_by P test first one found true passes holds later is =
    let e : first ≡ one = cc in subst (λ it. (test it ≡ true) × P it) e (passes, holds)
found_by P test first one found false passes holds later is = later is

-- what is found passes the test, and what holds of all holds of it
pub found_holds : {A : Type 0} (P : A → Type 0) (test : A → Bool) (list : List A) (one : A) → AllByRecursion P list → find test list ≡ Some one → (test one ≡ true) × P one
found_holds P test [] one all is = absurd (cc)
found_holds P test (first ∷ rest) one all is =
    found_by P test first one (find test rest) (test first) refl all.0 (found_holds P test rest one all.1) is

set_by : {A : Type 0} (test : A → Bool) (first one changed : A) (rest : List A) (place : ℕ) (b : Bool) → test first ≡ b → test changed ≡ true
    → (find test rest ≡ Some one → find test (slice_set rest place changed) ≡ Some changed) → cond b (Some first) (find test rest) ≡ Some one
    → find test (slice_set (first ∷ rest) (cond (not b) (1 + place) 0) changed) ≡ Some changed
set_by test first one changed rest place true is passes later found = ap (λ b. cond b (Some changed) (find test rest)) passes
set_by test first one changed rest place false is passes later found =
    let e : 1 + place ≡ suc place = omega arith in
    rw e (ap (λ b. cond b (Some first) (find test (slice_set rest place changed))) is ∙ later found)

-- an item that passes the test too is found where it takes the place of the one that was found
pub set_found : {A : Type 0} (test : A → Bool) (list : List A) (one changed : A) → test changed ≡ true → find test list ≡ Some one
    → find test (slice_set list (position_or_len test list) changed) ≡ Some changed
set_found test [] one changed passes is = absurd (cc)
set_found test (first ∷ rest) one changed passes is =
    set_by test first one changed rest (position_or_len test rest) (test first) refl passes (set_found test rest one changed passes) is

some_place : {A : Type 0} (there : Bool) (first place : ℕ) (list : List A) (found : Option A) → slice_get list first ≡ found → cond there (Some first) None ≡ Some place → slice_get list place ≡ found
some_place true first place list found is placed = let e : first ≡ place = cc in subst (λ at. slice_get list at ≡ found) e is
some_place false first place list found is placed = absurd (cc)

-- the item at the place of the first that passes a test, where there is one
pub position_found : {A : Type 0} (test : A → Bool) (list : List A) (place : ℕ) → position test list ≡ Some place → slice_get list place ≡ find test list
position_found test list place is =
    some_place (nat_lt (position_or_len test list) (length list)) (position_or_len test list) place list (find test list) (place_found test list) is
