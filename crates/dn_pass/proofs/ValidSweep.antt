-- What a pass looks at and writes is valid where the units of the zone are.
use Rattle.std.proofs.Common.{◌≡◌, ℕ, ◌+◌, ◌<◌, true, false, not, List, Option, filter, nat_lt, arith}
use Rattle.std.proofs.lemmas.Bool.{and_parts, false≢true, ltb-true, not-false, not-true}
use Rattle.std.specs.List.{AllByRecursion}
use Rattle.dn_io.specs.Moments.{hour_of}
use Rattle.dn_name.specs.Name.{Labels, is_same}
use Rattle.dn_property.specs.declared.rules.ZoneRules.{ZoneRules}
use Rattle.dn_stamp.specs.declared.stamp.ReplicaId.{ReplicaId}
use Rattle.dn_stamp.specs.declared.stamp.Stamp.{Stamp}
use Rattle.dn_stamp.specs.Stamp.{IsVersion, is_last, last_version}
use Rattle.dn_rdata.specs.declared.record.Record.{Record}
use Rattle.dn_store.specs.declared.unit.Unit as units
use Rattle.dn_store.specs.declared.unit.UnitKey.{UnitKey}
use Rattle.dn_store.specs.declared.unit.UnitKey.TheVariants as keys
use Rattle.dn_store.specs.declared.unit.UnitValue.{UnitValue}
use Rattle.dn_store.specs.declared.unit.UnitValue.TheVariants.{Live, Tombstone, Gone}
use Rattle.dn_store.specs.declared.unit.UnitValue.TheVariants as values
use Rattle.dn_store.specs.Table.{is_above}
use Rattle.dn_store.specs.Valid.{HasData, IsValidUnit, IsValidWrite}
use Rattle.dn_store.specs.Value.{unit_ok}
use Rattle.dn_store.proofs.CallerLemmas.{HasOwnData, IsNode, all_both, all_filter, all_map, all_passes, all_take, node_has, node_ok, node_parts, rows_kept}
use Rattle.dn_pass.specs.Pass.{becomes, fresh_rows, is_at_last, is_stale_row, is_swept, is_wanted, looked_at, sweep, swept}
use Rattle.dn_pass.proofs.StepWrites.{fits_swept}

-- ---- what a unit becomes

fresh_ok : (apex name : Labels) (rules : ZoneRules) (ticks : ℕ) (rows : List Record) → IsNode apex name rows → IsNode apex name (fresh_rows rules (hour_of ticks) rows)
unfolding fresh_rows
fresh_ok apex name rules ticks rows node =
    record { under = node.under; lower = node.lower; good = rows_kept (is_same name apex) (λ row. not (is_stale_row rules (hour_of ticks) row)) rows node.good }

becomes_ok : (apex : Labels) (rules : ZoneRules) (ticks : ℕ) (key : UnitKey) (value : UnitValue) → unit_ok apex key value ≡ true → unit_ok apex key (becomes rules ticks value) ≡ true
becomes_ok apex rules ticks keys.Props (values.Props list) ok = ok
becomes_ok apex rules ticks keys.Props (Live rows) ok = absurd (false≢true ok)
becomes_ok apex rules ticks keys.Props (Tombstone since) ok = absurd (false≢true ok)
becomes_ok apex rules ticks keys.Props Gone ok = absurd (false≢true ok)
becomes_ok apex rules ticks (keys.Node name) (values.Props list) ok = absurd (false≢true ok)
becomes_ok apex rules ticks (keys.Node name) (Live rows) ok =
    node_ok apex name (fresh_rows rules (hour_of ticks) rows) ticks (fresh_ok apex name rules ticks rows (node_parts apex name rows ok))
becomes_ok apex rules ticks (keys.Node name) (Tombstone since) ok = ok
becomes_ok apex rules ticks (keys.Node name) Gone ok = ok

-- records that stay have their data as before
fresh_have : (rules : ZoneRules) (hour : ℕ) (rows : List Record) → AllByRecursion HasOwnData rows → AllByRecursion HasOwnData (fresh_rows rules hour rows)
unfolding fresh_rows
fresh_have rules hour rows have = all_filter HasOwnData (λ row. not (is_stale_row rules hour row)) rows have

becomes_has : (rules : ZoneRules) (ticks : ℕ) (value : UnitValue) → HasData value → HasData (becomes rules ticks value)
becomes_has rules ticks (values.Props list) has = tt
becomes_has rules ticks (Live rows) has = node_has (fresh_rows rules (hour_of ticks) rows) ticks (fresh_have rules (hour_of ticks) rows has)
becomes_has rules ticks (Tombstone since) has = tt
becomes_has rules ticks Gone has = tt

-- the version behind one that isn't the last is one that is given
next_version : (stamp : Stamp) → is_last stamp ≡ false → IsVersion (stamp.version + 1)
next_version stamp more =
    let below : stamp.version < last_version = ltb-true stamp.version last_version (not-false (nat_lt stamp.version last_version) more) in (omega arith, omega arith)

one_valid : (apex : Labels) (rules : ZoneRules) (ticks : ℕ) (id : ReplicaId) (unit : units.Unit) → IsValidUnit apex unit → is_swept rules ticks unit ≡ true → IsValidWrite apex (swept rules ticks id unit)
unfolding swept is_swept
one_valid apex rules ticks id unit valid is = record {
  named = valid.named;
  allowed = becomes_ok apex rules ticks unit.key unit.value valid.allowed;
  records = becomes_has rules ticks unit.value valid.records;
  fitting = fits_swept rules ticks id unit valid.fitting;
  version = next_version unit.stamp (not-true (is_at_last unit) (and_parts (is_wanted rules ticks unit.value) (not (is_at_last unit)) is).1);
}

-- ---- a step

pub swept_valid : (apex : Labels) (rules : ZoneRules) (ticks : ℕ) (id : ReplicaId) (looked : List units.Unit) → AllByRecursion (IsValidUnit apex) looked
    → AllByRecursion (IsValidWrite apex) (sweep rules ticks id looked)
unfolding sweep
swept_valid apex rules ticks id looked valid =
    let some : List units.Unit = filter (is_swept rules ticks) looked in
    all_map (IsValidWrite apex) (swept rules ticks id) some
    (all_both (IsValidUnit apex) (λ unit. is_swept rules ticks unit ≡ true) (λ unit. IsValidWrite apex (swept rules ticks id unit)) some (one_valid apex rules ticks id)
    (all_filter (IsValidUnit apex) (is_swept rules ticks) looked valid) (all_passes (is_swept rules ticks) looked))

pub looked_valid : (apex : Labels) (after : Option UnitKey) (most : ℕ) (list : List units.Unit) → AllByRecursion (IsValidUnit apex) list
    → AllByRecursion (IsValidUnit apex) (looked_at after most list)
unfolding looked_at
looked_valid apex after most list valid = all_take (IsValidUnit apex) most (filter (is_above after) list) (all_filter (IsValidUnit apex) (is_above after) list valid)
