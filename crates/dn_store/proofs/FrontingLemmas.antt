-- The front of the units above a number, grown unit by unit.
use Rattle.std.proofs.Common.{◌≡◌, ℕ, suc, ◌+◌, ◌-◌, ◌<◌, Bool, true, false, List, [], ◌∷◌, ◌++◌, length, drop, filter, refl, ap, sym, subst, ◌∙◌, arith, cond, nat_le, nat_lt, append-nil, append_assoc, length-append, Option, Some, None}
use Rattle.std.proofs.lemmas.Bool.Decides.{nat_tests}
use Rattle.std.proofs.lemmas.Bool.{false≢true}
use Rattle.std.proofs.lemmas.List.{drop_all, drop_more}
use Rattle.std.proofs.lemmas.Option.{get_or_from_slice_get, slice_get_within}
use Rattle.std.proofs.lemmas.Result.{IfOk-weaker}
use Rattle.std.specs.Prelude.{◌==◌, not, slice_get, IfOk, Result}
use Rattle.dn_pages.specs.Search.{IsCut}
use Rattle.dn_pages.proofs.CallerLemmas.{cut_place}
use Rattle.dn_store.specs.declared.table.ChangeRun.{ChangeRun}
use Rattle.dn_store.specs.declared.unit.Unit as units
use Rattle.dn_store.specs.Fronts.{IsFront, above, added, run_above}
use Rattle.dn_store.specs.Numbers.{Rising}
use Rattle.dn_store.specs.Run.{usn_order}
use Rattle.dn_store.specs.Table.{by_number, form_size, front_within, newer, placed_by_number, run_after, run_among}
use Rattle.dn_store.proofs.ListLemmas.{over_end}
use Rattle.dn_store.proofs.NumberingLemmas.{after_rises, drop_place}

-- ---- growing

less_test : (m n : ℕ) → m < n → (m == n) ≡ false
less_test m n less = grind (arith, nat_tests)

same_test : (m n : ℕ) → m ≡ n → (m == n) ≡ true
same_test m n same = grind (arith, nat_tests)

-- Some of the units are in the front, and the rest is to come: what the front and the rest give is what all of them give.
pub record IsBegun (room : ℕ) (all : List units.Unit) (left : ℕ) (front rest : List units.Unit) : Type 0 where
  pub gives : front ++ front_within left rest ≡ front_within room all
  pub counts : length front + length rest ≡ length all

-- the front goes on with the rest, or it ends where there is too little room
abbrev pub GoesOn : ℕ → List units.Unit → List units.Unit → List units.Unit × Option ℕ → Type 0
GoesOn room all rest (front, Some left) = IsBegun room all left front rest
GoesOn room all rest (front, None) = IsFront room all front false

goes_one : (room : ℕ) (all front rest : List units.Unit) (unit : units.Unit) (left : ℕ) (b : Bool) → front ++ cond b (unit ∷ front_within left rest) [] ≡ front_within room all
    → length front + suc (length rest) ≡ length all → GoesOn room all rest (cond {A = List units.Unit × Option ℕ} b (front ++ unit ∷ [], Some left) (front, None))
goes_one room all front rest unit left true gives counts =
    let more : length (front ++ unit ∷ []) ≡ length front + 1 = length-append front (unit ∷ []) in
    record { gives = append_assoc front (unit ∷ []) (front_within left rest) ∙ gives; counts = omega (arith, more, counts) }
goes_one room all front rest unit left false gives counts =
    record { front_is = sym (append-nil front) ∙ gives; whole_is = sym (less_test (length front) (length all) (omega (arith, counts))) }

-- a unit more
pub unit_more : (list : List units.Unit) (room left at next : ℕ) (all front new : List units.Unit) (unit : units.Unit) (found seen : Option ℕ) → slice_get list at ≡ Some unit → next ≡ at + 1
    → added unit left front ≡ (new, found) → found ≡ seen → IsBegun room all left front (drop at list) → GoesOn room all (drop next list) (new, seen)
unit_more list room left at next all front new unit found seen there behind is same begun =
    let rest : List units.Unit = drop next list in
    let more : drop at list ≡ unit ∷ rest =
    drop_more list at unit (slice_get_within list at unit there) ∙ ap (λ one. one ∷ drop (at + 1) list) (get_or_from_slice_get list at unit unit there)
    ∙ ap (λ (place : ℕ). unit ∷ drop place list) (sym behind) in
    let here : IsBegun room all left front (unit ∷ rest) = subst (IsBegun room all left front) more begun in
    subst (GoesOn room all rest) (is ∙ ap (λ (some : Option ℕ). (new, some)) same)
    (goes_one room all front rest unit (left - form_size unit) (nat_le (form_size unit) left) here.gives here.counts)

-- no unit more
pub units_end : (list : List units.Unit) (room left at : ℕ) (all front : List units.Unit) → slice_get list at ≡ None → IsBegun room all left front (drop at list) → IsFront room all front true
units_end list room left at all front none begun =
    let ends : IsBegun room all left front [] = subst (IsBegun room all left front) (drop_all at list (over_end list at none)) begun in
    let counts : length front + 0 ≡ length all = ends.counts in
    record { front_is = sym (append-nil front) ∙ ends.gives; whole_is = sym (same_test (length front) (length all) (omega (arith, counts))) }

-- ---- the units above a number, before and after they are put in the order of their numbers

abbrev is_newer : ℕ → units.Unit → Bool
is_newer usn unit = nat_lt usn unit.usn

pass_more : (usn m n : ℕ) → nat_lt usn m ≡ true → nat_lt m n ≡ true → nat_lt usn n ≡ true
pass_more usn m n a b = grind (arith, nat_tests)

keep_one : (usn : ℕ) (unit next : units.Unit) (list : List units.Unit) (b t : Bool) → nat_lt unit.usn next.usn ≡ b → nat_lt usn next.usn ≡ t → nat_lt usn unit.usn ≡ true
    → filter (is_newer usn) (placed_by_number unit list) ≡ placed_by_number unit (filter (is_newer usn) list)
    → filter (is_newer usn) (cond b (unit ∷ next ∷ list) (next ∷ placed_by_number unit list)) ≡ placed_by_number unit (cond t (next ∷ filter (is_newer usn) list) (filter (is_newer usn) list))
keep_one usn unit next list true true is passes here later = rw (here, passes, is) refl
keep_one usn unit next list true false is passes here later = absurd (false≢true (sym passes ∙ pass_more usn unit.usn next.usn here is))
keep_one usn unit next list false true is passes here later = rw (passes, is) (ap (λ (l : List units.Unit). next ∷ l) later)
keep_one usn unit next list false false is passes here later = rw passes later

keep_placed : (usn : ℕ) (unit : units.Unit) (list : List units.Unit) → nat_lt usn unit.usn ≡ true → filter (is_newer usn) (placed_by_number unit list) ≡ placed_by_number unit (filter (is_newer usn) list)
keep_placed usn unit [] here = rw here refl
keep_placed usn unit (next ∷ list) here = keep_one usn unit next list (nat_lt unit.usn next.usn) (nat_lt usn next.usn) refl refl here (keep_placed usn unit list here)

drop_one : (usn : ℕ) (unit next : units.Unit) (list : List units.Unit) (b : Bool) → nat_lt usn unit.usn ≡ false → filter (is_newer usn) (placed_by_number unit list) ≡ filter (is_newer usn) list
    → filter (is_newer usn) (cond b (unit ∷ next ∷ list) (next ∷ placed_by_number unit list)) ≡ filter (is_newer usn) (next ∷ list)
drop_one usn unit next list true here later = rw here refl
drop_one usn unit next list false here later = ap (λ (l : List units.Unit). cond (nat_lt usn next.usn) (next ∷ l) l) later

drop_placed : (usn : ℕ) (unit : units.Unit) (list : List units.Unit) → nat_lt usn unit.usn ≡ false → filter (is_newer usn) (placed_by_number unit list) ≡ filter (is_newer usn) list
drop_placed usn unit [] here = rw here refl
drop_placed usn unit (next ∷ list) here = drop_one usn unit next list (nat_lt unit.usn next.usn) here (drop_placed usn unit list here)

sorted_one : (usn : ℕ) (unit : units.Unit) (list : List units.Unit) (b : Bool) → nat_lt usn unit.usn ≡ b → filter (is_newer usn) (by_number list) ≡ by_number (filter (is_newer usn) list)
    → filter (is_newer usn) (placed_by_number unit (by_number list)) ≡ by_number (cond b (unit ∷ filter (is_newer usn) list) (filter (is_newer usn) list))
sorted_one usn unit list true is later = keep_placed usn unit (by_number list) is ∙ ap (placed_by_number unit) later
sorted_one usn unit list false is later = drop_placed usn unit (by_number list) is ∙ later

filter_sorted : (usn : ℕ) (list : List units.Unit) → filter (is_newer usn) (by_number list) ≡ newer usn list
filter_sorted usn [] = refl
filter_sorted usn (unit ∷ list) = sorted_one usn unit list (nat_lt usn unit.usn) refl (filter_sorted usn list)

-- what stands behind the place of a number are the units above it
pub above_place : (usn : ℕ) (list : List units.Unit) (at : ℕ) → Rising list → IsCut (λ unit. not (nat_lt usn unit.usn)) list at → drop at list ≡ above usn list
above_place usn list at rising cut = ap (λ (k : ℕ). drop k list) (cut_place usn_order (is_newer usn) (after_rises usn) list at rising cut) ∙ drop_place usn list rising

-- the run of a table's units in the order of their numbers is that of the table
pub run_by_number : (usn room top : ℕ) (list numbered : List units.Unit) → numbered ≡ by_number list → run_above usn room top numbered ≡ run_after usn room top list
run_by_number usn room top list numbered is =
    ap (run_among usn room top) (ap (above usn) is ∙ filter_sorted usn list)

-- the same for the result of a call
pub numbered_run : {E : Type 0} (usn room top : ℕ) (list numbered : List units.Unit) (result : Result ChangeRun E) → numbered ≡ by_number list → IfOk result (λ run. run ≡ run_above usn room top numbered)
    → IfOk result (λ run. run ≡ run_after usn room top list)
numbered_run usn room top list numbered result is =
    IfOk-weaker result (λ run. run ≡ run_above usn room top numbered) (λ run. run ≡ run_after usn room top list) (λ run e. e ∙ run_by_number usn room top list numbered is)
