-- The records of a node after one is added stand in order, each where it may stand, and have no more SOA records.
use Rattle.std.proofs.Common.{◌≡◌, ℕ, ◌+◌, ◌≤◌, Bool, true, false, not, ◌&&◌, cond, List, [], ◌∷◌, nat_eq, nat_le, ap, arith, ◌∙◌}
use Rattle.std.proofs.lemmas.Bool.{and_from, and_parts}
use Rattle.std.specs.List.{AllByRecursion, list_all, list_any}
use Rattle.std.specs.List.Sorted.{IsStrictlySortedBy}
use Rattle.std.specs.Ordering.{ordering_reverse}
use Rattle.std.specs.declared.cmp.Ordering.TheVariants.{Less, Equal, Greater}
use Rattle.dn_rdata.specs.declared.record.Record.{Record}
use Rattle.dn_rdata.specs.Record.{data_order}
use Rattle.dn_rdata.specs.Types.{SOA}
use Rattle.dn_store.specs.Value.{is_soa, row_ok, rows_grow, soas}
use Rattle.dn_store.proofs.CallerLemmas.{AreRows, RowAfter, RowsGrow, all_filter, all_then, by_order, grow_sorted, one_soa, row_total, rows_kept, soas_more, sorted_grow}
use Rattle.dn_update.specs.Node.{bars, has_data_of, is_alias, is_there_as, placed_row, with_added, without_aliases}

-- ---- a record in its place

-- it stands before the first record, or in its place, or behind it
where_placed : (P : List Record → Type 0) (row next : Record) (rows : List Record) → (data_order row next ≡ Less → P (row ∷ next ∷ rows)) → (data_order row next ≡ Equal → P (row ∷ rows))
    → (data_order row next ≡ Greater → P (next ∷ placed_row row rows)) → P (placed_row row (next ∷ rows))
unfolding placed_row
where_placed P row next rows less same more = by_order P (data_order row next) (row ∷ next ∷ rows) (row ∷ rows) (next ∷ placed_row row rows) less same more

-- what holds of each record
all_placed : (P : Record → Type 0) (row : Record) (rows : List Record) → P row → AllByRecursion P rows → AllByRecursion P (placed_row row rows)
unfolding placed_row
all_placed P row [] holds all = (holds, tt)
all_placed P row (next ∷ rows) holds all =
    where_placed (AllByRecursion P) row next rows (λ less. (holds, all)) (λ same. (holds, all.1)) (λ more. (all.0, all_placed P row rows holds all.1))

row_back : (row next : Record) → data_order row next ≡ Greater → data_order next row ≡ Less
row_back row next more = row_total.antisymm next row ∙ ap ordering_reverse more

grow_placed : (row : Record) (rows : List Record) → RowsGrow rows → RowsGrow (placed_row row rows)
unfolding placed_row IsStrictlySortedBy
grow_placed row [] grow = (tt, tt)
grow_placed row (next ∷ rows) grow =
    let After : Record → Record → Type 0 = RowAfter in
    where_placed RowsGrow row next rows (λ less. ((less, all_then (After next) (After row) rows (λ later. row_total.trans row next later less) grow.0), grow))
    (λ same. (all_then (After next) (After row) rows (λ later is. row_total.congr row next later same ∙ is) grow.0, grow.1))
    (λ more. (all_placed (After next) row rows (row_back row next more) grow.0, grow_placed row rows grow.1))

pass_placed : (ok : Record → Bool) (row : Record) (rows : List Record) → ok row ≡ true → list_all ok rows ≡ true → list_all ok (placed_row row rows) ≡ true
unfolding placed_row
pass_placed ok row [] is all = and_from (ok row) true is all
pass_placed ok row (next ∷ rows) is all =
    let parts = and_parts (ok next) (list_all ok rows) all in
    where_placed (λ list. list_all ok list ≡ true) row next rows (λ less. and_from (ok row) (list_all ok (next ∷ rows)) is all) (λ same. and_from (ok row) (list_all ok rows) is parts.1)
    (λ more. and_from (ok next) (list_all ok (placed_row row rows)) parts.0 (pass_placed ok row rows is parts.1))

-- another record than an SOA counts for none
none_more : (b : Bool) (count : ℕ) → b ≡ false → cond b (1 + count) count ≤ count
none_more true count is = cc
none_more false count is = omega arith

soas_placed : (row : Record) (rows : List Record) → is_soa row ≡ false → soas (placed_row row rows) ≤ soas rows
unfolding placed_row
soas_placed row [] other = none_more (is_soa row) 0 other
soas_placed row (next ∷ rows) other =
    let here : soas (row ∷ rows) ≤ soas rows = none_more (is_soa row) (soas rows) other in
    let first : soas rows ≤ soas (next ∷ rows) = (soas_more (is_soa next) (soas rows) (soas rows) (omega arith)).0 in
    where_placed (λ list. soas list ≤ soas (next ∷ rows)) row next rows (λ less. none_more (is_soa row) (soas (next ∷ rows)) other) (λ same. omega arith)
    (λ more. (soas_more (is_soa next) (soas (placed_row row rows)) (soas rows) (soas_placed row rows other)).1)

are_placed : (at_apex : Bool) (row : Record) (rows : List Record) → row_ok at_apex row ≡ true → is_soa row ≡ false → AreRows at_apex rows → AreRows at_apex (placed_row row rows)
are_placed at_apex row rows ok other are = (
  sorted_grow (placed_row row rows) (grow_placed row rows (grow_sorted rows are.0)),
  pass_placed (row_ok at_apex) row rows ok are.1,
  one_soa (placed_row row rows) rows (soas_placed row rows other) are.2,
)

-- ---- a record that is added

each_case : (P : List Record → Type 0) (a b c : Bool) (w x y z : List Record) → P w → P x → P y → P z → P (cond a w (cond b x (cond c y z)))
each_case P true b c w x y z one two three four = one
each_case P false true c w x y z one two three four = two
each_case P false false true w x y z one two three four = three
each_case P false false false w x y z one two three four = four

pub added_rows : (at_apex : Bool) (row : Record) (rows : List Record) → rows_grow rows ≡ true → list_all (row_ok at_apex) rows ≡ true → nat_le (soas rows) 1 ≡ true
    → row_ok at_apex row ≡ true → nat_eq row.rtype SOA ≡ false
    → (rows_grow (with_added row rows) ≡ true) × (list_all (row_ok at_apex) (with_added row rows) ≡ true) × (nat_le (soas (with_added row rows)) 1 ≡ true)
unfolding with_added
added_rows at_apex row rows grow each one ok other =
    let are : AreRows at_apex rows = (grow, each, one) in
    let fewer : AreRows at_apex (without_aliases rows) = rows_kept at_apex (λ one. not (is_alias one)) rows are in
    each_case (AreRows at_apex) (list_any (bars row) rows) (is_alias row && list_any (λ next. not (has_data_of row next)) rows) (list_any (is_there_as row) rows)
    rows (placed_row row (without_aliases rows)) rows (placed_row row rows)
    are (are_placed at_apex row (without_aliases rows) ok other fewer) are (are_placed at_apex row rows ok other are)

-- what holds of the record that is added and of each before holds of each behind
pub added_all : (P : Record → Type 0) (row : Record) (rows : List Record) → P row → AllByRecursion P rows → AllByRecursion P (with_added row rows)
unfolding with_added
added_all P row rows holds all =
    let fewer : AllByRecursion P (without_aliases rows) = all_filter P (λ one. not (is_alias one)) rows all in
    each_case (AllByRecursion P) (list_any (bars row) rows) (is_alias row && list_any (λ next. not (has_data_of row next)) rows) (list_any (is_there_as row) rows)
    rows (placed_row row (without_aliases rows)) rows (placed_row row rows) all (all_placed P row (without_aliases rows) holds fewer) all (all_placed P row rows holds all)
