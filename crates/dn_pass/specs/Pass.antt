-- A pass of the scavenger over a zone: which records it takes away, and what becomes of their nodes.
use Rattle.std.specs.Prelude.{ℕ, ◌+◌, ◌-◌, ◌^◌, min, Bool, true, false, not, ◌&&◌, nat_lt, nat_le, if◌then◌else◌, List, [], ◌∷◌, length, map, filter, take, count_by, sum_by, Option, None, Some}
use Rattle.std.specs.List.{list_any}
use Rattle.dn_io.specs.Moments.{hour_of, seconds_of}
use Rattle.dn_property.specs.declared.rules.ZoneRules.{ZoneRules}
use Rattle.dn_property.specs.Hours.{is_due, is_stale}
use Rattle.dn_property.specs.Rules.{rules_of}
use Rattle.dn_stamp.specs.declared.stamp.ReplicaId.{ReplicaId}
use Rattle.dn_stamp.specs.Stamp.{is_last, stamp_after}
use Rattle.dn_rdata.specs.declared.record.Record.{Record}
use Rattle.dn_store.specs.declared.unit.Unit as units
use Rattle.dn_store.specs.declared.unit.UnitKey.{UnitKey}
use Rattle.dn_store.specs.declared.unit.UnitValue.{UnitValue}
use Rattle.dn_store.specs.declared.unit.UnitValue.TheVariants.{Props, Live, Tombstone, Gone}
use Rattle.dn_store.specs.declared.unit.Write.{Write}
use Rattle.dn_store.specs.Contents.{node_value, rows_in, properties_of, props_number}
use Rattle.dn_store.specs.Table.{TableState, is_above}
use Rattle.dn_pass.specs.declared.pass.Pass.{Pass}
use Rattle.dn_pass.specs.declared.pass.StepPlan.{StepPlan}
use Rattle.dn_pass.specs.declared.pass.StepPlan.TheVariants.{Void, Moved, Finished}

-- how long a tombstone stands, in ticks: 1,209,600 seconds
abbrev pub tombstone_ticks : ℕ
tombstone_ticks = 12096000000000

abbrev pub is_stale_row : ZoneRules → ℕ → Record → Bool
is_stale_row rules hour row = is_stale row.hour rules hour

-- the records that are stale at an hour, and the others
unfoldable pub stale_rows : ZoneRules → ℕ → List Record → List Record
stale_rows rules hour rows = filter (is_stale_row rules hour) rows

unfoldable pub fresh_rows : ZoneRules → ℕ → List Record → List Record
fresh_rows rules hour rows = filter (λ row. not (is_stale_row rules hour row)) rows

-- ---- one unit, at the moment of a pass

-- Whether the value is to become another: a node has stale records, or a tombstone has stood for its time.
abbrev pub is_wanted : ZoneRules → ℕ → UnitValue → Bool
is_wanted rules ticks (Props list) = false
is_wanted rules ticks (Live rows) = list_any (is_stale_row rules (hour_of ticks)) rows
is_wanted rules ticks (Tombstone since) = nat_le (since + tombstone_ticks) ticks
is_wanted rules ticks Gone = false

-- What it becomes: a node without its stale records, a tombstone where none is left; and nothing but its stamp is left of
-- a tombstone.
abbrev pub becomes : ZoneRules → ℕ → UnitValue → UnitValue
becomes rules ticks (Props list) = Props list
becomes rules ticks (Live rows) = node_value (fresh_rows rules (hour_of ticks) rows) ticks
becomes rules ticks (Tombstone since) = Gone
becomes rules ticks Gone = Gone

abbrev pub is_at_last : units.Unit → Bool
is_at_last unit = is_last unit.stamp

-- the unit is written, or skipped since it is at its last version
unfoldable pub is_swept : ZoneRules → ℕ → units.Unit → Bool
is_swept rules ticks unit = is_wanted rules ticks unit.value && not (is_at_last unit)

unfoldable pub is_skipped : ZoneRules → ℕ → units.Unit → Bool
is_skipped rules ticks unit = is_wanted rules ticks unit.value && is_at_last unit

unfoldable pub swept : ZoneRules → ℕ → ReplicaId → units.Unit → Write
swept rules ticks id unit =
    record {
      key = unit.key;
      stamp = stamp_after unit.stamp id (seconds_of ticks);
      value = becomes rules ticks unit.value;
    }

-- ---- a step: the units of the least keys above those that the pass looked at

unfoldable pub looked_at : Option UnitKey → ℕ → List units.Unit → List units.Unit
looked_at after most list = take most (filter (is_above after) list)

-- no unit is left behind those that a step looks at
unfoldable pub is_last_step : Option UnitKey → ℕ → List units.Unit → Bool
is_last_step after most list = nat_le (length (filter (is_above after) list)) most

-- the writes of a step, in the order of keys
unfoldable pub sweep : ZoneRules → ℕ → ReplicaId → List units.Unit → List Write
sweep rules ticks id looked = map (swept rules ticks id) (filter (is_swept rules ticks) looked)

-- how many records a step takes away
unfoldable pub removed_from : ZoneRules → ℕ → List units.Unit → ℕ
removed_from rules ticks looked =
    sum_by (λ unit. length (stale_rows rules (hour_of ticks) (rows_in unit.value))) (filter (is_swept rules ticks) looked)

abbrev pub is_tombstone : UnitValue → Bool
is_tombstone (Props list) = false
is_tombstone (Live rows) = false
is_tombstone (Tombstone since) = true
is_tombstone Gone = false

abbrev pub is_gone : UnitValue → Bool
is_gone (Props list) = false
is_gone (Live rows) = false
is_gone (Tombstone since) = false
is_gone Gone = true

-- how many nodes become tombstones by these writes, and of how many tombstones nothing is left
abbrev pub entombed_by : List Write → ℕ
entombed_by writes = count_by (λ write. is_tombstone write.value) writes

abbrev pub deleted_by : List Write → ℕ
deleted_by writes = count_by (λ write. is_gone write.value) writes

-- a count and so many more; it ends at the last number of 64 bits
abbrev pub add_capped : ℕ → ℕ → ℕ
add_capped count more = min (count + more) (2 ^ 64 - 1)

abbrev pub last_key : Option UnitKey → List units.Unit → Option UnitKey
last_key before [] = before
last_key before (unit ∷ rest) = last_key (Some unit.key) rest

-- the pass behind the units that a step looked at
unfoldable pub pass_after : Pass → ZoneRules → ReplicaId → List units.Unit → Pass
pass_after pass rules id looked =
    let writes = sweep rules pass.moment id looked in
    record {
      moment = pass.moment;
      start = pass.start;
      after = last_key pass.after looked;
      removed = add_capped pass.removed (removed_from rules pass.moment looked);
      entombed = add_capped pass.entombed (entombed_by writes);
      deleted = add_capped pass.deleted (deleted_by writes);
      skipped = add_capped pass.skipped (count_by (is_skipped rules pass.moment) looked);
    }

abbrev pub plan_for : Bool → List Write → Pass → StepPlan
plan_for true writes pass = Finished writes pass
plan_for false writes pass = Moved writes pass

abbrev pub planned : List units.Unit → Pass → ℕ → ReplicaId → ZoneRules → StepPlan
planned list pass most id rules =
    let looked = looked_at pass.after most list in
    plan_for (is_last_step pass.after most list) (sweep rules pass.moment id looked) (pass_after pass rules id looked)

-- What a step over at most so many units does. A pass is void once the zone's properties were written behind its start.
unfoldable pub step_plan : List units.Unit → Pass → ℕ → ReplicaId → StepPlan
step_plan list pass most id =
    if nat_lt pass.start (props_number list) then Void (props_number list)
    else planned list pass most id (rules_of (properties_of list))

abbrev pub writes_of : StepPlan → List Write
writes_of (Void props_usn) = []
writes_of (Moved writes pass) = writes
writes_of (Finished writes pass) = writes

-- a pass that begins at a moment, behind so many changes
abbrev pub new_pass : ℕ → ℕ → Pass
new_pass moment start =
    record { moment = moment; start = start; after = None; removed = 0; entombed = 0; deleted = 0; skipped = 0 }

-- a pass begins where the zone is due
unfoldable pub new_pass_if_due : TableState → ℕ → Option Pass
new_pass_if_due table moment =
    if is_due (rules_of (properties_of table.0)) (hour_of moment) then Some (new_pass moment table.1) else None
