-- When the records of a node may stand under a name: what that says, and what it takes.
use Rattle.std.proofs.Common.{◌≡◌, ℕ, true, List, [], ◌∷◌, ◌&&◌, length, nat_le, nat_lt, arith}
use Rattle.std.proofs.lemmas.Bool.{and_from, and_parts, lt-ltb}
use Rattle.std.specs.List.{list_all}
use Rattle.dn_name.specs.Name.{Labels, is_same, is_under}
use Rattle.dn_rdata.specs.declared.record.Record.{Record}
use Rattle.dn_store.specs.declared.unit.UnitKey.TheVariants.{Node}
use Rattle.dn_store.specs.declared.unit.UnitValue.TheVariants.{Live}
use Rattle.dn_store.specs.Contents.{node_value}
use Rattle.dn_store.specs.Value.{is_lower, row_ok, rows_grow, soas, unit_ok}
use Rattle.dn_store.proofs.RowLemmas.{AreRows}

-- a name that a node of the zone may have, and records that may stand there
pub record IsNode (apex name : Labels) (rows : List Record) : Type 0 where
  pub under : is_under name apex ≡ true
  pub lower : is_lower name ≡ true
  pub good : AreRows (is_same name apex) rows

pub node_parts : (apex name : Labels) (rows : List Record) → unit_ok apex (Node name) (Live rows) ≡ true → IsNode apex name rows
node_parts apex name rows ok =
    let under = is_under name apex in
    let named = under && is_lower name in
    let some = named && nat_lt 0 (length rows) in
    let growing = some && rows_grow rows in
    let each = growing && list_all (row_ok (is_same name apex)) rows in
    let one = and_parts each (nat_le (soas rows) 1) ok in
    let all = and_parts growing (list_all (row_ok (is_same name apex)) rows) one.0 in
    let grow = and_parts some (rows_grow rows) all.0 in
    let there = and_parts named (nat_lt 0 (length rows)) grow.0 in
    let name = and_parts under (is_lower name) there.0 in
    record { under = name.0; lower = name.1; good = (grow.1, all.1, one.1) }

pub node_ok : (apex name : Labels) (rows : List Record) (ticks : ℕ) → IsNode apex name rows → unit_ok apex (Node name) (node_value rows ticks) ≡ true
node_ok apex name [] ticks is = and_from (is_under name apex) (is_lower name) is.under is.lower
node_ok apex name (row ∷ rest) ticks is =
    let rows : List Record = row ∷ rest in
    let under = is_under name apex in
    let named = under && is_lower name in
    let some = named && nat_lt 0 (length rows) in
    let growing = some && rows_grow rows in
    let each = growing && list_all (row_ok (is_same name apex)) rows in
    let there = and_from named (nat_lt 0 (length rows)) (and_from under (is_lower name) is.under is.lower) (lt-ltb 0 (length rows) (omega arith)) in
    let grow = and_from some (rows_grow rows) there is.good.0 in
    and_from each (nat_le (soas rows) 1) (and_from growing (list_all (row_ok (is_same name apex)) rows) grow is.good.1) is.good.2
