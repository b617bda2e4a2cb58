-- A zone on one replica, and what its events make of it.
pub mod Preparing
use Rattle.std.specs.Prelude.{ℕ, ◌+◌, max, nat_eq, nat_lt, if◌then◌else◌, List, [], ◌∷◌, length, Option, None, Some}
use Rattle.dn_io.specs.Moments.{hour_of}
use Rattle.dn_name.specs.Name.{Labels, is_under, lowered}
use Rattle.dn_property.specs.declared.property.Property.{Property}
use Rattle.dn_property.specs.Rules.{rules_of}
use Rattle.dn_rdata.specs.declared.record.Record.{Record}
use Rattle.dn_rdata.specs.Record.{made}
use Rattle.dn_store.specs.declared.unit.Unit as units
use Rattle.dn_store.specs.declared.unit.UnitKey.TheVariants as keys
use Rattle.dn_store.specs.declared.unit.UnitValue.TheVariants as values
use Rattle.dn_store.specs.declared.unit.Write.{Write}
use Rattle.dn_store.specs.Contents.{rows_at, properties_of}
use Rattle.dn_store.specs.Table.{TableState, change_limit}
use Rattle.dn_update.specs.declared.plan.Limit.TheVariants as limits
use Rattle.dn_update.specs.Node.{with_added}
use Rattle.dn_update.specs.Writes.{Wanted, Outcome, Took, Passed, with_writes, written, node_change}
use Rattle.dn_pass.specs.declared.pass.Pass.{Pass}
use Rattle.dn_pass.specs.declared.pass.StepPlan.{StepPlan}
use Rattle.dn_pass.specs.declared.pass.StepPlan.TheVariants as plans
use Rattle.dn_pass.specs.Pass.{new_pass_if_due, step_plan}
use Rattle.dn_link.specs.declared.packet.Changes.{Changes}
use Rattle.dn_zone.specs.declared.event.AdminCmd.{AdminCmd}
use Rattle.dn_zone.specs.declared.event.AdminCmd.TheVariants.{Add, AgingOn, AgingOff, NoRefresh, Refresh}
use Rattle.dn_zone.specs.declared.event.AdminDone.TheVariants.{Written, Unchanged, NotInZone}
use Rattle.dn_zone.specs.declared.event.Answer.{Answer}
use Rattle.dn_zone.specs.declared.event.Answer.TheVariants as answers
use Rattle.dn_zone.specs.declared.event.Event.{Event}
use Rattle.dn_zone.specs.declared.event.Event.TheVariants as events
use Rattle.dn_zone.specs.declared.settings.Setting.{Setting}
use Rattle.dn_zone.specs.State.{ZoneState}
use Rattle.dn_zone.specs.Merge.{cursor_of, winners, with_cursor}
use Rattle.dn_zone.specs.Settings.{all_set, settings_of, with_settings}

abbrev pub admin_answer : Outcome → Answer
admin_answer (Took units) = answers.Admin (if nat_eq units 0 then Unchanged else Written units)
admin_answer (Passed limit) = answers.Refused limit

abbrev pub with_table : ZoneState → TableState × Outcome → ZoneState × Answer
with_table zone after = (record zone { table = after.0 }, admin_answer after.1)

-- what a command wants written
unfoldable pub add_wanted : ZoneState → Labels → Record → ℕ → List Wanted
add_wanted zone name row ticks =
    let key = keys.Node (lowered name) in
    let before = rows_at key zone.table.0 in
    node_change key before (with_added row before) ticks

-- what settings want written: nothing where each holds already
unfoldable pub settings_wanted : List Property → List Setting → List Wanted
settings_wanted list settings =
    if all_set (rules_of list) settings then []
    else record { key = keys.Props; value = values.Props (with_settings settings list) } ∷ []

-- a command of aging at a moment
unfoldable pub set_step : ZoneState → AdminCmd → ℕ → ZoneState × Answer
set_step zone cmd moment =
    let list = properties_of zone.table.0 in
    let settings = settings_of cmd (rules_of list) (hour_of moment) in
    with_table zone (written (settings_wanted list settings) zone.id moment zone.table)

-- what a command of administration makes of a zone
unfoldable pub admin_step : ZoneState → AdminCmd → ℕ → ZoneState × Answer
admin_step zone (Add name ttl rtype rdata hour) moment =
    if is_under name zone.apex
    then with_table zone (written (add_wanted zone name (made rtype ttl hour rdata) moment) zone.id moment zone.table)
    else (zone, answers.Admin NotInZone)
admin_step zone AgingOn moment = set_step zone AgingOn moment
admin_step zone AgingOff moment = set_step zone AgingOff moment
admin_step zone (NoRefresh hours) moment = set_step zone (NoRefresh hours) moment
admin_step zone (Refresh hours) moment = set_step zone (Refresh hours) moment

-- ---- taking what another replica sent

abbrev pub after_merge : ZoneState → Changes → List Write → ZoneState
after_merge zone changes won =
    record zone {
      table = with_writes won zone.table;
      cursors = with_cursor changes.supplier (max (cursor_of changes.supplier zone.cursors) changes.to) zone.cursors;
    }

abbrev pub merged : ZoneState → Changes → List Write → ZoneState × Answer
merged zone changes won =
    if nat_lt change_limit (zone.table.1 + length won) then (zone, answers.Refused limits.Changes)
    else (after_merge zone changes won, answers.Merged (length won))

-- Where changes are missing before these, nothing is taken. Else the newer of the units are, whatever the order in which
-- packets came, and the cursor moves on.
unfoldable pub merge_step : ZoneState → Changes → ZoneState × Answer
merge_step zone changes =
    if nat_lt (cursor_of changes.supplier zone.cursors) changes.from
    then (zone, answers.Gap (cursor_of changes.supplier zone.cursors) changes.from)
    else merged zone changes (winners zone.table.0 changes.units)

-- ---- passes of the scavenger

abbrev pub with_pass : ZoneState → Option Pass → ZoneState
with_pass zone pass = record zone { pass = pass }

-- a pass begins where none runs and the zone is due
abbrev pub begin_at : ZoneState → ℕ → Option Pass → ZoneState × Answer
begin_at zone moment None = (zone, answers.NotDue)
begin_at zone moment (Some pass) = (with_pass zone (Some pass), answers.Begun)

abbrev pub begin_unless : Option Pass → ZoneState → ℕ → ZoneState × Answer
begin_unless (Some pass) zone moment = (zone, answers.Busy (hour_of pass.moment))
begin_unless None zone moment = begin_at zone moment (new_pass_if_due zone.table moment)

unfoldable pub begin_step : ZoneState → ℕ → ZoneState × Answer
begin_step zone moment = begin_unless zone.pass zone moment

abbrev pub swept_zone : ZoneState → List Write → Option Pass → ZoneState
swept_zone zone writes pass = record zone { table = with_writes writes zone.table; pass = pass }

-- a step's writes are taken, unless the change count would pass 2^63
abbrev pub swept_step : ZoneState → List Write → Option Pass → Answer → ZoneState × Answer
swept_step zone writes pass answer =
    if nat_lt change_limit (zone.table.1 + length writes) then (zone, answers.Refused limits.Changes) else (swept_zone zone writes pass, answer)

abbrev pub finished : ZoneState → Pass → List Write → Answer
finished zone pass writes =
    answers.Finished pass.start (zone.table.1 + length writes) pass.removed pass.entombed pass.deleted pass.skipped

abbrev pub step_by : ZoneState → StepPlan → ZoneState × Answer
step_by zone (plans.Void props_usn) = (with_pass zone None, answers.Void props_usn)
step_by zone (plans.Moved writes pass) = swept_step zone writes (Some pass) answers.Moved
step_by zone (plans.Finished writes pass) = swept_step zone writes None (finished zone pass writes)

abbrev pub step_of : Option Pass → ZoneState → ℕ → ZoneState × Answer
step_of None zone most = (zone, answers.Idle)
step_of (Some pass) zone most = step_by zone (step_plan zone.table.0 pass most zone.id)

-- the pass goes on over at most so many units
unfoldable pub pass_step : ZoneState → ℕ → ZoneState × Answer
pass_step zone most = step_of zone.pass zone most

-- The step of a zone: the zone and the answer after an event.
unfoldable pub zstep : ZoneState → Event → ZoneState × Answer
zstep zone (events.Admin cmd moment) = admin_step zone cmd moment
zstep zone (events.Begin moment) = begin_step zone moment
zstep zone (events.Step most) = pass_step zone most
zstep zone (events.Merge changes) = merge_step zone changes
