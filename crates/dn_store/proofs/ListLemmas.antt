-- What holds of each element of a list, and which elements a test keeps.
use Rattle.std.proofs.Common.{◌≡◌, ℕ, zero, suc, ◌+◌, ◌≤◌, Bool, true, List, [], ◌∷◌, ◌++◌, length, drop, filter, find, map, take, take-append-drop, take_all, None, Some, refl, ap, sym, subst, ◌∙◌, arith, ⊎_elim}
use Rattle.std.proofs.lemmas.Bool.{cases_Bool, cond_both, false_from_ne_true, false≢true}
use Rattle.std.proofs.lemmas.List.{take_more}
use Rattle.std.proofs.lemmas.List.Elements.{All-append, All-filter, All-from_recursion, All-get_or, All-map, All-take, All-weaker, filter_passes, recursion_from_All}
use Rattle.std.proofs.lemmas.List.Sorted.{All-permutation}
use Rattle.std.proofs.lemmas.Option.{get_or_from_slice_get, none-some, slice_get_cases, slice_get_within}
use Rattle.std.specs.List.{All, AllByRecursion}
use Rattle.std.specs.List.Sorted.{IsPermutation, IsStrictlySortedBy}
use Rattle.std.specs.Prelude.{slice_get}
use Rattle.std.specs.declared.cmp.Ordering.{Ordering}
use Rattle.std.specs.declared.cmp.Ordering.TheVariants.{Less}

-- ---- what holds of each

pub all_of : {X : Type 0} (P : X → Type 0) (list : List X) → ((one : X) → P one) → AllByRecursion P list
all_of P [] holds = tt
all_of P (one ∷ list) holds = (holds one, all_of P list holds)

pub all_then : {X : Type 0} (P Q : X → Type 0) (list : List X) → ((one : X) → P one → Q one) → AllByRecursion P list → AllByRecursion Q list
all_then P Q list on all = recursion_from_All Q list (All-weaker P Q on list (All-from_recursion P list all))

pub all_both : {X : Type 0} (P Q R : X → Type 0) (list : List X) → ((one : X) → P one → Q one → R one) → AllByRecursion P list → AllByRecursion Q list → AllByRecursion R list
all_both P Q R [] on left right = tt
all_both P Q R (one ∷ list) on left right = (on one left.0 right.0, all_both P Q R list on left.1 right.1)

-- in another order
pub all_permuted : {X : Type 0} (P : X → Type 0) (xs ys : List X) → IsPermutation xs ys → AllByRecursion P xs → AllByRecursion P ys
all_permuted P xs ys same all = recursion_from_All P ys (All-permutation P xs ys same (All-from_recursion P xs all))

pub all_at : {X : Type 0} (P : X → Type 0) (list : List X) (at : ℕ) (one : X) → AllByRecursion P list → slice_get list at ≡ Some one → P one
all_at P list at one all is = subst P (get_or_from_slice_get list at one one is) (All-get_or P list at one (slice_get_within list at one is) (All-from_recursion P list all))

pub all_filter : {X : Type 0} (P : X → Type 0) (test : X → Bool) (list : List X) → AllByRecursion P list → AllByRecursion P (filter test list)
all_filter P test list all = recursion_from_All P (filter test list) (All-filter test P list (All-from_recursion P list all))

pub all_take : {X : Type 0} (P : X → Type 0) (count : ℕ) (list : List X) → AllByRecursion P list → AllByRecursion P (take count list)
all_take P count list all = recursion_from_All P (take count list) (All-take P count list (All-from_recursion P list all))

-- of a front and of the rest
pub all_join : {X : Type 0} (P : X → Type 0) (count : ℕ) (list : List X) → AllByRecursion P (take count list) → AllByRecursion P (drop count list) → AllByRecursion P list
all_join P count list front rest =
    let all : All P (take count list ++ drop count list) = All-append P (take count list) (drop count list) (All-from_recursion P (take count list) front) (All-from_recursion P (drop count list) rest) in
    recursion_from_All P list (subst (All P) (take-append-drop count list) all)

pub all_map : {X Y : Type 0} (P : Y → Type 0) (f : X → Y) (list : List X) → AllByRecursion (λ one. P (f one)) list → AllByRecursion P (map f list)
all_map P f list all = recursion_from_All P (map f list) (All-map P f list (All-from_recursion (λ one. P (f one)) list all))

pub all_unmap : {X Y : Type 0} (P : Y → Type 0) (f : X → Y) (list : List X) → AllByRecursion P (map f list) → AllByRecursion (λ one. P (f one)) list
all_unmap P f [] all = tt
all_unmap P f (one ∷ list) all = (all.0, all_unmap P f list all.1)

-- ---- the elements that a test keeps

pub filter_all : {X : Type 0} (test : X → Bool) (list : List X) → AllByRecursion (λ one. test one ≡ true) list → filter test list ≡ list
filter_all test [] all = refl
filter_all test (one ∷ list) all = rw all.0 (ap (λ rest. one ∷ rest) (filter_all test list all.1))

-- each passes the test
pub all_passes : {X : Type 0} (test : X → Bool) (list : List X) → AllByRecursion (λ one. test one ≡ true) (filter test list)
all_passes test list = recursion_from_All (λ one. test one ≡ true) (filter test list) (filter_passes test list)

-- a wider test keeps them
pub filter_within : {X : Type 0} (test wider : X → Bool) (list : List X) → ((one : X) → test one ≡ true → wider one ≡ true) → filter test (filter wider list) ≡ filter test list
filter_within test wider [] on = refl
filter_within test wider (one ∷ list) on =
    let later : filter test (filter wider list) ≡ filter test list = filter_within test wider list on in
    cond_both (wider one) (one ∷ filter wider list) (filter wider list) (λ kept. filter test kept ≡ filter test (one ∷ list)) (λ is. rw later refl)
    (λ out. rw (false_from_ne_true (test one) (λ is. false≢true (sym out ∙ on one is)), later) refl)

-- the first of them is found
pub find_first : {X : Type 0} (test : X → Bool) (list : List X) → find test list ≡ slice_get (filter test list) 0
find_first test [] = refl
find_first test (one ∷ list) = ⊎_elim (λ is. rw is refl) (λ is. rw is (find_first test list)) (cases_Bool (test one))

-- what holds of each holds of the one that is found
pub all_found : {X : Type 0} (P : X → Type 0) (test : X → Bool) (list : List X) (one : X) → AllByRecursion P list → find test list ≡ Some one → P one
all_found P test [] one all is = absurd (none-some one is)
all_found P test (next ∷ rest) one all is =
    cond_both (test next) (Some next) (find test rest) (λ found. found ≡ Some one → P one) (λ yes found. let e : next ≡ one = cc in subst P e all.0) (λ no found. all_found P test rest one all.1 found) is

-- and that one passes
pub found_passes : {X : Type 0} (test : X → Bool) (list : List X) (one : X) → find test list ≡ Some one → test one ≡ true
found_passes test [] one is = absurd (none-some one is)
found_passes test (next ∷ rest) one is =
    cond_both (test next) (Some next) (find test rest) (λ found. found ≡ Some one → test one ≡ true) (λ yes found. let e : next ≡ one = cc in subst (λ other. test other ≡ true) e yes) (λ no found. found_passes test rest one found) is

-- ---- fronts

-- one more of a list
pub take_next : {X : Type 0} (list : List X) (at : ℕ) (one : X) → slice_get list at ≡ Some one → take (at + 1) list ≡ take at list ++ one ∷ []
take_next list at one is = take_more list at one (slice_get_within list at one is) ∙ ap (λ other. take at list ++ other ∷ []) (get_or_from_slice_get list at one one is)

-- where no element is, the list has ended
pub over_end : {X : Type 0} (list : List X) (at : ℕ) → slice_get list at ≡ None → length list ≤ at
over_end list at is = ⊎_elim (λ there. absurd (none-some there.0 (sym is ∙ there.2))) (λ none. none.0) (slice_get_cases list at).1

-- behind the end a front is the whole list
pub take_over : {X : Type 0} (list : List X) (at most : ℕ) → slice_get list at ≡ None → at ≤ most → take at list ≡ take most list
take_over list at most is le =
    let over : length list ≤ at = over_end list at is in
    take_all at list over ∙ sym (take_all most list (omega arith))

pub sorted_take : {X : Type 0} (order : X → X → Ordering) (count : ℕ) (list : List X) → IsStrictlySortedBy order list → IsStrictlySortedBy order (take count list)
unfolding IsStrictlySortedBy
sorted_take order zero list sorted = tt
sorted_take order (suc count) [] sorted = tt
sorted_take order (suc count) (one ∷ list) sorted = (all_take (λ later. order one later ≡ Less) count list sorted.0, sorted_take order count list sorted.1)
