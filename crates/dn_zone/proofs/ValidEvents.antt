-- Each event that a valid zone may meet leaves it valid, and what it sends and asks for is valid.
use Rattle.std.proofs.Common.{◌≡◌, ℕ, ◌+◌, ◌≤◌, Bool, true, false, cond, List, [], ◌∷◌, length, map, min, max, nat_eq, nat_lt, Option, None, Some, refl, subst, arith}
use Rattle.std.proofs.Math.Nat.{max-le}
use Rattle.std.proofs.lemmas.Bool.{cond_both, ltb-false}
use Rattle.std.specs.Prelude.{IsTrue}
use Rattle.std.specs.List.{AllByRecursion}
use Rattle.dn_io.specs.Moments.{hour_of}
use Rattle.dn_name.specs.Name.{IsName, Labels, is_under}
use Rattle.dn_property.specs.declared.property.Property.{Property}
use Rattle.dn_property.specs.Rules.{rules_of}
use Rattle.dn_stamp.specs.declared.stamp.ReplicaId.{ReplicaId}
use Rattle.dn_stamp.specs.Stamp.{is_id}
use Rattle.dn_rdata.specs.declared.record.Record.{Record}
use Rattle.dn_rdata.specs.Layout.{IsData}
use Rattle.dn_rdata.specs.Record.{made}
use Rattle.dn_rdata.specs.Types.{SOA, answerable}
use Rattle.dn_store.specs.declared.unit.Unit as units
use Rattle.dn_store.specs.declared.unit.Write.{Write}
use Rattle.dn_store.specs.Contents.{props_number, properties_of}
use Rattle.dn_store.specs.Table.{TableState, change_limit, write_of, run_after}
use Rattle.dn_store.specs.Valid.{IsValidTable, IsValidWrite}
use Rattle.dn_store.specs.Value.{fits}
use Rattle.dn_store.proofs.CallerLemmas.{all_filter, all_then, run_differ, run_order, run_short, run_valid, table_taken, valid_taken}
use Rattle.dn_update.specs.Writes.{Wanted, with_writes, written}
use Rattle.dn_update.proofs.CallerLemmas.{IsAllowed, add_allowed, written_keeps}
use Rattle.dn_pass.specs.declared.pass.Pass.{Pass}
use Rattle.dn_pass.specs.declared.pass.StepPlan.{StepPlan}
use Rattle.dn_pass.specs.declared.pass.StepPlan.TheVariants as plans
use Rattle.dn_pass.specs.Pass.{is_last_step, looked_at, new_pass_if_due, plan_for, planned, step_plan, sweep}
use Rattle.dn_pass.proofs.CallerLemmas.{looked_valid, swept_valid}
use Rattle.dn_link.specs.declared.packet.Changes.{Changes}
use Rattle.dn_link.specs.Sent.{IsValidPull, IsValidRun, changes_room}
use Rattle.dn_zone.specs.declared.event.AdminCmd.{AdminCmd}
use Rattle.dn_zone.specs.declared.event.AdminCmd.TheVariants.{Add, AgingOn, AgingOff, NoRefresh, Refresh}
use Rattle.dn_zone.specs.declared.event.Answer.{Answer}
use Rattle.dn_zone.specs.declared.event.Event.{Event}
use Rattle.dn_zone.specs.declared.event.Event.TheVariants as events
use Rattle.dn_zone.specs.State.{ZoneState}
use Rattle.dn_zone.specs.Merge.{changes_of, cursor_of, cursor_set, winners, wins, with_cursor}
use Rattle.dn_zone.specs.Settings.{settings_of}
use Rattle.dn_zone.specs.Valid.{IsProperCommand, IsValidZone, Meets}
use Rattle.dn_zone.specs.Zone.{add_wanted, admin_step, after_merge, begin_at, begin_step, begin_unless, merge_step, merged, pass_step, set_step, settings_wanted, step_by, step_of, swept_zone, with_pass, with_table, zstep}
use Rattle.dn_zone.proofs.ValidSettings.{properties_grow, settings_allowed}

-- ---- a zone with other units, cursors or another pass

abbrev AreCursors : List (ReplicaId × ℕ) → Type 0
AreCursors cursors = AllByRecursion (λ entry. entry.1 ≤ change_limit) cursors

valid_with : (zone : ZoneState) (table : TableState) (cursors : List (ReplicaId × ℕ)) (pass : Option Pass) → IsValidZone zone → IsValidTable zone.apex table → AreCursors cursors
    → IsValidZone (record zone { table = table; cursors = cursors; pass = pass })
valid_with zone table cursors pass valid units are =
    record { host = valid.host; apex = valid.apex; lower = valid.lower; table = units.0; units = units.1; cursors = are }

-- writes that are valid, where the change count stays within its limit
table_with : (zone : ZoneState) (writes : List Write) → IsValidZone zone → AllByRecursion (IsValidWrite zone.apex) writes → zone.table.1 + length writes ≤ change_limit
    → IsValidTable zone.apex (with_writes writes zone.table)
table_with zone writes valid are within = (
  table_taken zone.table.0 zone.table.1 writes within (all_then (IsValidWrite zone.apex) (λ write. IsTrue (fits write.value)) writes (λ write is. is.fitting) are) valid.table,
  valid_taken zone.apex zone.table.0 zone.table.1 writes valid.units are,
)

-- ---- commands

written_valid : (zone : ZoneState) (wanted : List Wanted) (moment : ℕ) → IsValidZone zone → AllByRecursion (IsAllowed zone.apex) wanted
    → IsValidZone (with_table zone (written wanted zone.id moment zone.table)).0
written_valid zone wanted moment valid allowed =
    valid_with zone (written wanted zone.id moment zone.table).0 zone.cursors zone.pass valid
    (written_keeps zone.apex wanted zone.id moment zone.table allowed valid.table valid.units) valid.cursors

set_valid : (zone : ZoneState) (cmd : AdminCmd) (moment : ℕ) → IsValidZone zone → IsValidZone (set_step zone cmd moment).0
unfolding set_step
set_valid zone cmd moment valid =
    let list : List Property = properties_of zone.table.0 in
    let settings = settings_of cmd (rules_of list) (hour_of moment) in
    written_valid zone (settings_wanted list settings) moment valid (settings_allowed zone.apex list settings (properties_grow zone.apex zone.table.0 valid.units))

wanted_allowed : (zone : ZoneState) (name : Labels) (row : Record) (moment : ℕ) → IsValidZone zone → is_under name zone.apex ≡ true → answerable row.rtype ≡ true → nat_eq row.rtype SOA ≡ false
    → IsData row.rtype row.rdata → IsName name → AllByRecursion (IsAllowed zone.apex) (add_wanted zone name row moment)
unfolding add_wanted
wanted_allowed zone name row moment valid under known other has named =
    add_allowed zone.apex name row zone.table.0 moment under known other has named valid.units

add_valid : (under : Bool) (zone : ZoneState) (name : Labels) (row : Record) (moment : ℕ) (answer : Answer) → is_under name zone.apex ≡ under → IsValidZone zone → answerable row.rtype ≡ true
    → nat_eq row.rtype SOA ≡ false → IsData row.rtype row.rdata → IsName name
    → IsValidZone (cond {A = ZoneState × Answer} under (with_table zone (written (add_wanted zone name row moment) zone.id moment zone.table)) (zone, answer)).0
add_valid true zone name row moment answer is valid known other has named =
    written_valid zone (add_wanted zone name row moment) moment valid (wanted_allowed zone name row moment valid is known other has named)
add_valid false zone name row moment answer is valid known other has named = valid

admin_valid : (zone : ZoneState) (cmd : AdminCmd) (moment : ℕ) → IsValidZone zone → IsProperCommand cmd → IsValidZone (admin_step zone cmd moment).0
unfolding admin_step
admin_valid zone (Add name ttl rtype rdata hour) moment valid proper =
    add_valid (is_under name zone.apex) zone name (made rtype ttl hour rdata) moment _ refl valid proper.1 proper.2 proper.3 proper.0
admin_valid zone AgingOn moment valid proper = set_valid zone AgingOn moment valid
admin_valid zone AgingOff moment valid proper = set_valid zone AgingOff moment valid
admin_valid zone (NoRefresh hours) moment valid proper = set_valid zone (NoRefresh hours) moment valid
admin_valid zone (Refresh hours) moment valid proper = set_valid zone (Refresh hours) moment valid

-- ---- passes

pass_valid : (zone : ZoneState) (pass : Option Pass) → IsValidZone zone → IsValidZone (with_pass zone pass)
pass_valid zone pass valid = valid_with zone zone.table zone.cursors pass valid (valid.table, valid.units) valid.cursors

begun_valid : (zone : ZoneState) (moment : ℕ) (found : Option Pass) → IsValidZone zone → IsValidZone (begin_at zone moment found).0
begun_valid zone moment None valid = valid
begun_valid zone moment (Some pass) valid = pass_valid zone (Some pass) valid

begin_by : (running : Option Pass) (zone : ZoneState) (moment : ℕ) → IsValidZone zone → IsValidZone (begin_unless running zone moment).0
begin_by None zone moment valid = begun_valid zone moment (new_pass_if_due zone.table moment) valid
begin_by (Some pass) zone moment valid = valid

begin_valid : (zone : ZoneState) (moment : ℕ) → IsValidZone zone → IsValidZone (begin_step zone moment).0
unfolding begin_step
begin_valid zone moment valid = begin_by zone.pass zone moment valid

swept_zone_valid : (full : Bool) (zone : ZoneState) (writes : List Write) (pass : Option Pass) (one other : Answer) → nat_lt change_limit (zone.table.1 + length writes) ≡ full → IsValidZone zone
    → AllByRecursion (IsValidWrite zone.apex) writes → IsValidZone (cond {A = ZoneState × Answer} full (zone, one) (swept_zone zone writes pass, other)).0
swept_zone_valid true zone writes pass one other is valid are = valid
swept_zone_valid false zone writes pass one other is valid are =
    valid_with zone (with_writes writes zone.table) zone.cursors pass valid (table_with zone writes valid are (ltb-false change_limit (zone.table.1 + length writes) is)) valid.cursors

-- what a step writes is valid
sweep_valid : (zone : ZoneState) (pass : Pass) (most : ℕ) → IsValidZone zone
    → AllByRecursion (IsValidWrite zone.apex) (sweep (rules_of (properties_of zone.table.0)) pass.moment zone.id (looked_at pass.after most zone.table.0))
sweep_valid zone pass most valid =
    let looked : List units.Unit = looked_at pass.after most zone.table.0 in
    swept_valid zone.apex (rules_of (properties_of zone.table.0)) pass.moment zone.id looked (looked_valid zone.apex pass.after most zone.table.0 valid.units)

planned_valid : (last : Bool) (zone : ZoneState) (writes : List Write) (pass : Pass) → IsValidZone zone → AllByRecursion (IsValidWrite zone.apex) writes
    → IsValidZone (step_by zone (plan_for last writes pass)).0
planned_valid true zone writes pass valid are = swept_zone_valid (nat_lt change_limit (zone.table.1 + length writes)) zone writes None _ _ refl valid are
planned_valid false zone writes pass valid are = swept_zone_valid (nat_lt change_limit (zone.table.1 + length writes)) zone writes (Some pass) _ _ refl valid are

void_valid : (void : Bool) (zone : ZoneState) (pass : Pass) (most : ℕ) → IsValidZone zone
    → IsValidZone (step_by zone (cond {A = StepPlan} void (plans.Void (props_number zone.table.0)) (planned zone.table.0 pass most zone.id (rules_of (properties_of zone.table.0))))).0
void_valid true zone pass most valid = pass_valid zone None valid
void_valid false zone pass most valid = planned_valid (is_last_step pass.after most zone.table.0) zone _ _ valid (sweep_valid zone pass most valid)

step_by_pass : (running : Option Pass) (zone : ZoneState) (most : ℕ) → IsValidZone zone → IsValidZone (step_of running zone most).0
unfolding step_plan
step_by_pass None zone most valid = valid
step_by_pass (Some pass) zone most valid = void_valid (nat_lt pass.start (props_number zone.table.0)) zone pass most valid

step_valid : (zone : ZoneState) (most : ℕ) → IsValidZone zone → IsValidZone (pass_step zone most).0
unfolding pass_step
step_valid zone most valid = step_by_pass zone.pass zone most valid

-- ---- merges

set_within : (cursors : List (ReplicaId × ℕ)) (supplier : ReplicaId) (seen : ℕ) → AreCursors cursors → seen ≤ change_limit → AreCursors (cursor_set supplier seen cursors)
set_within [] supplier seen are most = (most, tt)
set_within (entry ∷ cursors) supplier seen are most =
    cond_both (is_id supplier entry.0) ((entry.0, seen) ∷ cursors) (entry ∷ cursor_set supplier seen cursors) AreCursors
    (λ is. (most, are.1)) (λ is. (are.0, set_within cursors supplier seen are.1 most))

cursors_with : (cursors : List (ReplicaId × ℕ)) (supplier : ReplicaId) (seen : ℕ) → AreCursors cursors → seen ≤ change_limit → AreCursors (with_cursor supplier seen cursors)
unfolding with_cursor
cursors_with cursors supplier seen are most =
    cond_both (nat_eq (cursor_of supplier cursors) seen) cursors (cursor_set supplier seen cursors) AreCursors (λ is. are) (λ is. set_within cursors supplier seen are most)

found_within : (cursors : List (ReplicaId × ℕ)) (supplier : ReplicaId) → AreCursors cursors → cursor_of supplier cursors ≤ change_limit
unfolding cursor_of
found_within [] supplier are = omega arith
found_within (entry ∷ cursors) supplier are =
    cond_both (is_id supplier entry.0) entry.1 (cursor_of supplier cursors) (λ found. found ≤ change_limit) (λ is. are.0) (λ is. found_within cursors supplier are.1)

cursor_within : (zone : ZoneState) (supplier : ReplicaId) → IsValidZone zone → cursor_of supplier zone.cursors ≤ change_limit
cursor_within zone supplier valid = found_within zone.cursors supplier valid.cursors

winners_valid : (zone : ZoneState) (changes : Changes) → IsValidRun changes → changes.zone ≡ zone.apex → AllByRecursion (IsValidWrite zone.apex) (winners zone.table.0 changes.units)
unfolding winners
winners_valid zone changes run is =
    all_filter (IsValidWrite zone.apex) (wins zone.table.0) changes.units (subst (λ (apex : Labels). AllByRecursion (IsValidWrite apex) changes.units) is run.units)

joined_in : (full : Bool) (zone : ZoneState) (changes : Changes) (won : List Write) (one other : Answer) → nat_lt change_limit (zone.table.1 + length won) ≡ full → IsValidZone zone
    → changes.to ≤ change_limit → AllByRecursion (IsValidWrite zone.apex) won → IsValidZone (cond {A = ZoneState × Answer} full (zone, one) (after_merge zone changes won, other)).0
joined_in true zone changes won one other is valid most are = valid
joined_in false zone changes won one other is valid most are =
    let seen : ℕ = max (cursor_of changes.supplier zone.cursors) changes.to in
    valid_with zone (with_writes won zone.table) (with_cursor changes.supplier seen zone.cursors) zone.pass valid
    (table_with zone won valid are (ltb-false change_limit (zone.table.1 + length won) is))
    (cursors_with zone.cursors changes.supplier seen valid.cursors (max-le (cursor_within zone changes.supplier valid) most))

gap_valid : (gap : Bool) (zone : ZoneState) (changes : Changes) (answer : Answer) → IsValidZone zone → IsValidRun changes → changes.zone ≡ zone.apex
    → IsValidZone (cond {A = ZoneState × Answer} gap (zone, answer) (merged zone changes (winners zone.table.0 changes.units))).0
gap_valid true zone changes answer valid run is = valid
gap_valid false zone changes answer valid run is =
    let won : List Write = winners zone.table.0 changes.units in
    joined_in (nat_lt change_limit (zone.table.1 + length won)) zone changes won _ _ refl valid run.most (winners_valid zone changes run is)

merge_valid : (zone : ZoneState) (changes : Changes) → IsValidZone zone → IsValidRun changes → changes.zone ≡ zone.apex → IsValidZone (merge_step zone changes).0
unfolding merge_step
merge_valid zone changes valid run is = gap_valid (nat_lt (cursor_of changes.supplier zone.cursors) changes.from) zone changes _ valid run is

-- ---- every event

pub event_valid : (zone : ZoneState) (event : Event) → IsValidZone zone → Meets zone event → IsValidZone (zstep zone event).0
unfolding zstep
event_valid zone (events.Admin cmd moment) valid meets = admin_valid zone cmd moment valid meets
event_valid zone (events.Begin moment) valid meets = begin_valid zone moment valid
event_valid zone (events.Step most) valid meets = step_valid zone most valid
event_valid zone (events.Merge changes) valid meets = merge_valid zone changes valid meets.0 meets.1

-- ---- what is sent and asked for

pub changes_valid : (zone : ZoneState) (after : ℕ) → IsValidZone zone → IsValidRun (changes_of zone.table zone.apex zone.id after)
unfolding changes_of
changes_valid zone after valid =
    let list : List units.Unit = zone.table.0 in
    let top : ℕ = zone.table.1 in
    let from : ℕ = min after top in
    let short : length (map write_of (run_after from changes_room top list).units) ≤ changes_room = run_short from changes_room top list in
    let order = run_order from changes_room top list (omega arith) valid.table.numbers in
    let most : top ≤ change_limit = valid.table.most in
    record {
      name = valid.apex;
      lower = valid.lower;
      units = run_valid zone.apex from changes_room top list valid.units;
      keys = run_differ from changes_room top list valid.table.ordered;
      count = omega arith;
      order = order.0;
      most = omega (arith, order.1, most);
    }

pub pull_valid : (zone : ZoneState) (supplier : ReplicaId) → IsValidZone zone → IsValidPull zone.apex (cursor_of supplier zone.cursors)
pull_valid zone supplier valid = record { name = valid.apex; lower = valid.lower; most = cursor_within zone supplier valid }
