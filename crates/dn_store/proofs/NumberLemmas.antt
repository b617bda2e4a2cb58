-- Units in the order of their numbers: they are the same units, and their numbers grow where they differ.
use Rattle.std.proofs.Common.{◌≡◌, ◌≢◌, ℕ, ◌<◌, ◌≤◌, Bool, List, [], ◌∷◌, filter, map, refl, arith, nat_lt}
use Rattle.std.proofs.lemmas.Bool.{cond_both, lt-ltb, ltb-false}
use Rattle.std.proofs.lemmas.Cmp.{nat_cmp_total, on_total}
use Rattle.std.proofs.lemmas.List.Sorted.{IsPermutation-cons, IsPermutation-middle, IsPermutation-refl, IsPermutation-sym, IsPermutation-trans}
use Rattle.std.specs.Cmp.{IsTotalOrder}
use Rattle.std.specs.List.{AllByRecursion}
use Rattle.std.specs.List.Sorted.{IsPermutation, IsStrictlySortedBy}
use Rattle.std.specs.declared.cmp.Ordering.TheVariants.{Less}
use Rattle.dn_store.specs.declared.unit.Unit as units
use Rattle.dn_store.specs.Run.{usn_order}
use Rattle.dn_store.specs.Table.{Differ, by_number, placed_by_number}
use Rattle.dn_store.proofs.ListLemmas.{all_filter, all_map, all_permuted, all_then, all_unmap}

-- ---- the same units

placed_permutes : (unit : units.Unit) (list : List units.Unit) → IsPermutation (unit ∷ list) (placed_by_number unit list)
placed_permutes unit [] = IsPermutation-refl (unit ∷ [])
placed_permutes unit (next ∷ rest) =
    let swapped : IsPermutation (unit ∷ next ∷ rest) (next ∷ unit ∷ rest) = IsPermutation-sym (next ∷ unit ∷ rest) (unit ∷ next ∷ rest) (IsPermutation-middle (next ∷ []) unit rest) in
    cond_both (nat_lt unit.usn next.usn) (unit ∷ next ∷ rest) (next ∷ placed_by_number unit rest) (IsPermutation (unit ∷ next ∷ rest)) (λ is. IsPermutation-refl (unit ∷ next ∷ rest))
    (λ is. IsPermutation-trans (unit ∷ next ∷ rest) (next ∷ unit ∷ rest) (next ∷ placed_by_number unit rest) swapped
    (IsPermutation-cons next (unit ∷ rest) (placed_by_number unit rest) (placed_permutes unit rest)))

pub sorted_permutes : (list : List units.Unit) → IsPermutation list (by_number list)
sorted_permutes [] = IsPermutation-refl []
sorted_permutes (unit ∷ list) =
    IsPermutation-trans (unit ∷ list) (unit ∷ by_number list) (placed_by_number unit (by_number list)) (IsPermutation-cons unit list (by_number list) (sorted_permutes list))
    (placed_permutes unit (by_number list))

-- ---- by growing numbers

usn_total : IsTotalOrder usn_order
usn_total = on_total (λ (unit : units.Unit). unit.usn) nat_cmp_total

usn_less : (unit other : units.Unit) → unit.usn < other.usn → usn_order unit other ≡ Less
usn_less unit other lt = rw (lt-ltb unit.usn other.usn lt) refl

below : (x y : ℕ) → y ≤ x → y ≢ x → y < x
below x y le apart = omega arith

grow_placed : (unit : units.Unit) (list : List units.Unit) → AllByRecursion (λ other. other.usn ≢ unit.usn) list → IsStrictlySortedBy usn_order list
    → IsStrictlySortedBy usn_order (placed_by_number unit list)
unfolding IsStrictlySortedBy
grow_placed unit [] apart grow = (tt, tt)
grow_placed unit (next ∷ rest) apart grow =
    let After : units.Unit → units.Unit → Type 0 = λ one later. usn_order one later ≡ Less in
    cond_both (nat_lt unit.usn next.usn) (unit ∷ next ∷ rest) (next ∷ placed_by_number unit rest) (IsStrictlySortedBy usn_order)
    (λ is.
    let less : After unit next = rw is refl in
    ((less, all_then (After next) (After unit) rest (λ later. usn_total.trans unit next later less) grow.0), grow))
    (λ is.
    let less : After next unit = usn_less next unit (below unit.usn next.usn (ltb-false unit.usn next.usn is) apart.0) in
    (all_permuted (After next) (unit ∷ rest) (placed_by_number unit rest) (placed_permutes unit rest) (less, grow.0), grow_placed unit rest apart.1 grow.1))

pub grow_by_number : (list : List units.Unit) → Differ (map (λ unit. unit.usn) list) → IsStrictlySortedBy usn_order (by_number list)
unfolding IsStrictlySortedBy
grow_by_number [] differ = tt
grow_by_number (unit ∷ list) differ =
    let apart : AllByRecursion (λ other. other.usn ≢ unit.usn) list = all_unmap (λ other. other ≢ unit.usn) (λ one. one.usn) list differ.0 in
    grow_placed unit (by_number list) (all_permuted (λ other. other.usn ≢ unit.usn) list (by_number list) (sorted_permutes list) apart) (grow_by_number list differ.1)

-- ---- of the units that a test keeps the numbers differ too

pub differ_filter : (test : units.Unit → Bool) (list : List units.Unit) → Differ (map (λ unit. unit.usn) list) → Differ (map (λ unit. unit.usn) (filter test list))
differ_filter test [] differ = tt
differ_filter test (unit ∷ list) differ =
    let Apart : ℕ → Type 0 = λ other. other ≢ unit.usn in
    let usn : units.Unit → ℕ = λ one. one.usn in
    cond_both (test unit) (unit ∷ filter test list) (filter test list) (λ kept. Differ (map usn kept))
    (λ is. (all_map Apart usn (filter test list) (all_filter (λ one. Apart one.usn) test list (all_unmap Apart usn list differ.0)), differ_filter test list differ.1))
    (λ is. differ_filter test list differ.1)
