-- What is to be written where a record with data of its type is added under a name may stand in the zone, where its units are
-- valid.
use Rattle.std.proofs.Common.{◌≡◌, ℕ, Bool, true, false, not, ◌&&◌, ◌||◌, List, [], ◌∷◌, Option, None, Some, nat_eq, refl, ap, subst, ◌∙◌}
use Rattle.std.proofs.lemmas.Bool.{and_from, cond_both, eqb-true, false_from_ne_true, false≢true, not_from_false}
use Rattle.std.specs.List.{AllByRecursion}
use Rattle.std.specs.Ordering.{is_eq}
use lib.Pointwise.{pointwise}
use Rattle.dn_name.specs.Name.{IsName, Labels, is_same, is_under, lowered}
use Rattle.dn_rdata.specs.declared.record.Record.{Record}
use Rattle.dn_rdata.specs.Layout.{IsData}
use Rattle.dn_rdata.specs.Types.{SOA, answerable}
use Rattle.dn_store.specs.declared.unit.Unit as units
use Rattle.dn_store.specs.declared.unit.UnitKey.{UnitKey}
use Rattle.dn_store.specs.declared.unit.UnitKey.TheVariants as keys
use Rattle.dn_store.specs.declared.unit.UnitValue.{UnitValue}
use Rattle.dn_store.specs.declared.unit.UnitValue.TheVariants.{Live, Tombstone, Gone}
use Rattle.dn_store.specs.declared.unit.UnitValue.TheVariants as values
use Rattle.dn_store.specs.Contents.{node_value, rows_at, rows_in, rows_of_unit}
use Rattle.dn_store.specs.Table.{unit_at}
use Rattle.dn_store.specs.Valid.{IsNamedKey, IsValidUnit}
use Rattle.dn_store.specs.Value.{key_order, row_ok, unit_ok}
use Rattle.dn_store.proofs.CallerLemmas.{AreRows, HasOwnData, key_at, lower_lowered, name_lowered, node_has, node_ok, node_parts, rows_at_have, valid_at}
use Rattle.dn_update.specs.Node.{is_same_set, with_added}
use Rattle.dn_update.specs.Writes.{Wanted, node_change}
use Rattle.dn_update.proofs.AddedRows.{added_all, added_rows}
use Rattle.dn_update.proofs.NameLemmas.{lowered_under, order_same}
use Rattle.dn_update.proofs.ValidWritten.{IsAllowed}

-- ---- the records of a node that is there

no_rows : (at_apex : Bool) → AreRows at_apex []
no_rows at_apex = (refl, refl, refl)

same_apex : (other name apex : Labels) → lowered other ≡ lowered name → is_same other apex ≡ is_same name apex
same_apex other name apex same = ap (λ labels. pointwise (pointwise nat_eq) labels (lowered apex)) same

value_rows : (apex name : Labels) (key : UnitKey) (value : UnitValue) → unit_ok apex key value ≡ true → is_eq (key_order key (keys.Node name)) ≡ true → AreRows (is_same name apex) (rows_in value)
value_rows apex name keys.Props value ok same = absurd (false≢true same)
value_rows apex name (keys.Node other) (values.Props list) ok same = no_rows (is_same name apex)
value_rows apex name (keys.Node other) (Live rows) ok same =
    let node = node_parts apex other rows ok in
    subst (λ at_apex. AreRows at_apex rows) (same_apex other name apex (order_same other name same)) node.good
value_rows apex name (keys.Node other) (Tombstone ticks) ok same = no_rows (is_same name apex)
value_rows apex name (keys.Node other) Gone ok same = no_rows (is_same name apex)

found_rows : (apex name : Labels) (list : List units.Unit) (found : Option units.Unit) → AllByRecursion (IsValidUnit apex) list → unit_at (keys.Node name) list ≡ found
    → AreRows (is_same name apex) (rows_of_unit found)
found_rows apex name list None valid is = no_rows (is_same name apex)
found_rows apex name list (Some unit) valid is =
    let here = valid_at apex (keys.Node name) list unit valid is in
    value_rows apex name unit.key unit.value here.allowed (key_at (keys.Node name) list unit is)

rows_there : (apex name : Labels) (list : List units.Unit) → AllByRecursion (IsValidUnit apex) list → AreRows (is_same name apex) (rows_at (keys.Node name) list)
unfolding rows_at
rows_there apex name list valid = found_rows apex name list (unit_at (keys.Node name) list) valid refl

-- ---- the record that is added

not_zero : (rtype : ℕ) → answerable rtype ≡ true → nat_eq rtype 0 ≡ false
unfolding answerable
not_zero rtype known = false_from_ne_true (nat_eq rtype 0) (λ is. false≢true (subst (λ one. answerable one ≡ true) (eqb-true rtype 0 is) known))

or_first : (a b : Bool) → a ≡ true → (a || b) ≡ true
or_first true b is = refl
or_first false b is = absurd (false≢true is)

row_allowed : (at_apex : Bool) (row : Record) → answerable row.rtype ≡ true → nat_eq row.rtype SOA ≡ false → row_ok at_apex row ≡ true
row_allowed at_apex row known other =
    let alone = not (nat_eq row.rtype SOA) || (at_apex && nat_eq row.hour 0) in
    and_from (not (nat_eq row.rtype 0)) alone (not_from_false (nat_eq row.rtype 0) (not_zero row.rtype known))
    (or_first (not (nat_eq row.rtype SOA)) (at_apex && nat_eq row.hour 0) (not_from_false (nat_eq row.rtype SOA) other))

-- ---- what is to be written

change_allowed : (apex : Labels) (key : UnitKey) (before after : List Record) (ticks : ℕ) → unit_ok apex key (node_value after ticks) ≡ true → AllByRecursion HasOwnData after
    → IsNamedKey key → AllByRecursion (IsAllowed apex) (node_change key before after ticks)
unfolding node_change
change_allowed apex key before after ticks ok have named =
    let wanted : List Wanted = record { key = key; value = node_value after ticks } ∷ [] in
    cond_both (is_same_set before after) [] wanted (AllByRecursion (IsAllowed apex)) (λ is. tt) (λ is. ((ok, node_has after ticks have, named), tt))

pub add_allowed : (apex name : Labels) (row : Record) (list : List units.Unit) (ticks : ℕ) → is_under name apex ≡ true → answerable row.rtype ≡ true → nat_eq row.rtype SOA ≡ false
    → IsData row.rtype row.rdata → IsName name → AllByRecursion (IsValidUnit apex) list
    → AllByRecursion (IsAllowed apex)
    (node_change (keys.Node (lowered name)) (rows_at (keys.Node (lowered name)) list) (with_added row (rows_at (keys.Node (lowered name)) list)) ticks)
add_allowed apex name row list ticks under known other has named valid =
    let lower : Labels = lowered name in
    let at_apex : Bool = is_same lower apex in
    let before : List Record = rows_at (keys.Node lower) list in
    let are : AreRows at_apex before = rows_there apex lower list valid in
    let good : AreRows at_apex (with_added row before) = added_rows at_apex row before are.0 are.1 are.2 (row_allowed at_apex row known other) other in
    let have : AllByRecursion HasOwnData (with_added row before) = added_all HasOwnData row before has (rows_at_have apex (keys.Node lower) list valid) in
    change_allowed apex (keys.Node lower) before (with_added row before) ticks
    (node_ok apex lower (with_added row before) ticks (record { under = lowered_under name apex ∙ under; lower = lower_lowered name; good = good })) have (name_lowered name named)
