-- What the runs of changes keep of a table, how many units they have, where they end, and which units they leave over.
use Rattle.std.proofs.Common.{◌≡◌, ℕ, ◌+◌, ◌*◌, ◌<◌, ◌≤◌, ◌==◌, if◌then◌else◌, List, [], ◌∷◌, ◌++◌, filter, length, map, refl, ap, sym, subst, ◌∙◌, arith, nat_lt, Bool, true, false}
use Rattle.std.proofs.lemmas.Bool.{cond_both, ltb-true}
use Rattle.std.proofs.lemmas.Bool.Decides.{nat_tests}
use Rattle.std.proofs.lemmas.Cmp.{eq_by_cmp_equiv}
use Rattle.std.proofs.lemmas.List.{length-append, length-map}
use Rattle.std.proofs.lemmas.List.Kept.{IsStrictlySortedBy-filter}
use Rattle.std.proofs.lemmas.Result.{IfOk-weaker}
use Rattle.std.proofs.lemmas.Map.Keys.{IsDistinct-IsPermutation, IsDistinct-from_sorted}
use Rattle.std.specs.Prelude.{IfOk, IsTrue, Result, sum_by}
use Rattle.std.specs.List.{AllByRecursion, IsDistinct}
use Rattle.std.specs.List.Sorted.{IsPermutation, IsStrictlySortedBy}
use Rattle.dn_store.specs.declared.table.ChangeRun.{ChangeRun}
use Rattle.dn_store.specs.declared.unit.Unit as units
use Rattle.dn_store.specs.Run.{IsRun, reached, usn_order}
use Rattle.dn_store.specs.Table.{Differ, IsNumber, KeysDiffer, KeysGrow, by_number, form_size, front_within, last_number, newer, run_after, write_of}
use Rattle.dn_store.specs.Value.{fits}
use Rattle.dn_store.proofs.FrontLemmas.{all_front, behind_front, distinct_front, front_over, front_room, front_split, same, size_count}
use Rattle.dn_store.proofs.ListLemmas.{all_both, all_filter, all_map, all_passes, all_permuted}
use Rattle.dn_store.proofs.NumberLemmas.{differ_filter, grow_by_number, sorted_permutes}
use Rattle.dn_store.proofs.OrderLemmas.{differ_map, unit_order, unit_total}

-- ---- runs

-- what holds of each unit above the number
pub run_each : (P : units.Unit → Type 0) (usn room top : ℕ) (list : List units.Unit) → AllByRecursion P (filter (λ unit. nat_lt usn unit.usn) list) → AllByRecursion P (run_after usn room top list).units
run_each P usn room top list all =
    let kept : List units.Unit = filter (λ unit. nat_lt usn unit.usn) list in
    all_front P room (by_number kept) (all_permuted P kept (by_number kept) (sorted_permutes kept) all)

-- what holds of each unit
pub run_all : (P : units.Unit → Type 0) (usn room top : ℕ) (list : List units.Unit) → AllByRecursion P list → AllByRecursion P (run_after usn room top list).units
run_all P usn room top list all = run_each P usn room top list (all_filter P (λ unit. nat_lt usn unit.usn) list all)

-- the keys of a run differ
pub run_differ : (usn room top : ℕ) (list : List units.Unit) → KeysGrow list → KeysDiffer (map write_of (run_after usn room top list).units)
run_differ usn room top list grow =
    let kept : List units.Unit = filter (λ unit. nat_lt usn unit.usn) list in
    let apart : IsDistinct same kept = IsDistinct-from_sorted unit_order kept (IsStrictlySortedBy-filter unit_order (λ unit. nat_lt usn unit.usn) list grow) in
    differ_map write_of (λ unit. refl) (front_within room (by_number kept))
    (distinct_front room (by_number kept) (IsDistinct-IsPermutation same (eq_by_cmp_equiv unit_total).symm kept (by_number kept) (sorted_permutes kept) apart))

-- the values of a run fit
pub run_fit : (usn room top : ℕ) (list : List units.Unit) → AllByRecursion (λ unit. IsTrue (fits unit.value)) list
    → AllByRecursion (λ write. IsTrue (fits write.value)) (map write_of (run_after usn room top list).units)
run_fit usn room top list fitting =
    all_map (λ write. IsTrue (fits write.value)) write_of (run_after usn room top list).units (run_all (λ unit. IsTrue (fits unit.value)) usn room top list fitting)

-- ---- how many units a run has

-- a unit takes at least 29 bytes
pub run_room : (usn room top : ℕ) (list : List units.Unit) → 29 * length (map write_of (run_after usn room top list).units) ≤ room
run_room usn room top list =
    let run : List units.Unit = (run_after usn room top list).units in
    let same_length : length (map write_of run) ≡ length run = length-map run write_of in
    let size : sum_by form_size run ≤ room = front_room room (newer usn list) in
    omega (arith, same_length, size, size_count run)

pub run_short : (usn room top : ℕ) (list : List units.Unit) → length (map write_of (run_after usn room top list).units) ≤ room
run_short usn room top list = omega (arith, run_room usn room top list)

-- ---- where a run ends

abbrev IsWithin : ℕ → ℕ → ℕ → Type 0
IsWithin low high number = (low ≤ number) × (number ≤ high)

last_within : (low high none : ℕ) (list : List units.Unit) → IsWithin low high none → AllByRecursion (λ unit. IsWithin low high unit.usn) list → IsWithin low high (last_number none list)
last_within low high none [] within all = within
last_within low high none (unit ∷ list) within all = last_within low high unit.usn list all.0 all.1

-- not before the number that it begins behind, nor past the change count
pub run_order : (usn room top : ℕ) (list : List units.Unit) → usn ≤ top → AllByRecursion (λ unit. IsNumber top unit.usn) list
    → (usn ≤ (run_after usn room top list).to) × ((run_after usn room top list).to ≤ top)
run_order usn room top list le numbers =
    let is_newer : units.Unit → Bool = λ unit. nat_lt usn unit.usn in
    let kept : List units.Unit = filter is_newer list in
    let front : List units.Unit = front_within room (by_number kept) in
    let above : AllByRecursion (λ unit. IsWithin usn top unit.usn) kept =
    all_both (λ unit. is_newer unit ≡ true) (λ unit. IsNumber top unit.usn) (λ unit. IsWithin usn top unit.usn) kept
    (λ unit more number. let lt : usn < unit.usn = ltb-true usn unit.usn more in (omega arith, number.1)) (all_passes is_newer list) (all_filter (λ unit. IsNumber top unit.usn) is_newer list numbers) in
    let here : IsWithin usn top usn = (omega arith, le) in
    cond_both (length front == length (by_number kept)) top (last_number usn front) (IsWithin usn top) (λ is. (le, omega arith))
    (λ is. last_within usn top usn front here (run_each (λ unit. IsWithin usn top unit.usn) usn room top list above))

-- ---- a run beside its table

reached_by : (top last count all : ℕ) (rest : List units.Unit) → all ≡ count + length rest → (if count == all then top else last) ≡ reached top last rest
reached_by top last count all [] is = let e : (count == all) ≡ true = grind (arith, nat_tests) in rw e refl
reached_by top last count all (unit ∷ rest) is = let e : (count == all) ≡ false = grind (arith, nat_tests) in rw e refl

pub run_is : (usn room top : ℕ) (list : List units.Unit) → Differ (map (λ unit. unit.usn) list) → IsRun usn room top list (run_after usn room top list)
run_is usn room top list differ =
    let is_newer : units.Unit → Bool = λ unit. nat_lt usn unit.usn in
    let kept : List units.Unit = filter is_newer list in
    let all : List units.Unit = by_number kept in
    let front : List units.Unit = front_within room all in
    let rest : List units.Unit = behind_front room all in
    let split : all ≡ front ++ rest = sym (front_split room all) in
    record {
      rest = rest;
      whole = subst (IsPermutation kept) split (sorted_permutes kept);
      ordered = subst (IsStrictlySortedBy usn_order) split (grow_by_number kept (differ_filter is_newer list differ));
      within = front_room room all;
      full = front_over room all;
      end = reached_by top (last_number usn front) (length front) (length all) rest (ap length split ∙ length-append front rest);
    }

-- what holds of the run of a table holds of a result that is the run of the table's units as a call saw them
pub run_seen : {E : Type 0} (P : ChangeRun → Type 0) (usn room top : ℕ) (seen inside : List units.Unit) (result : Result ChangeRun E) → IfOk result (λ run. run ≡ run_after usn room top seen)
    → seen ≡ inside → P (run_after usn room top inside) → IfOk result P
run_seen P usn room top seen inside result is view holds =
    IfOk-weaker result (λ run. run ≡ run_after usn room top seen) P (λ run e. subst P (sym (e ∙ ap (run_after usn room top) view)) holds) is
