-- The table behind an event is the table before with the event's writes taken.
use Rattle.std.proofs.Common.{◌≡◌, ℕ, ◌+◌, Bool, true, false, cond, List, [], ◌∷◌, length, nat_lt, Option, None, Some, refl, ap, arith}
use Rattle.std.specs.List.{list_all}
use Rattle.dn_io.specs.Moments.{hour_of, seconds_of}
use Rattle.dn_name.specs.Name.{is_under}
use Rattle.dn_property.specs.declared.property.Property.{Property}
use Rattle.dn_property.specs.Rules.{rules_of}
use Rattle.dn_rdata.specs.Record.{made}
use Rattle.dn_store.specs.declared.unit.Write.{Write}
use Rattle.dn_store.specs.Contents.{properties_of}
use Rattle.dn_store.specs.Table.{TableState, change_limit}
use Rattle.dn_store.specs.Value.{fits}
use Rattle.dn_update.specs.Writes.{Outcome, Wanted, stamped, when_stamped, with_writes, written}
use Rattle.dn_pass.specs.declared.pass.Pass.{Pass}
use Rattle.dn_pass.specs.declared.pass.StepPlan.{StepPlan}
use Rattle.dn_pass.specs.declared.pass.StepPlan.TheVariants as plans
use Rattle.dn_pass.specs.Pass.{new_pass_if_due, step_plan}
use Rattle.dn_pass.specs.Pass.{writes_of as writes_of_plan}
use Rattle.dn_link.specs.declared.packet.Changes.{Changes}
use Rattle.dn_zone.specs.declared.event.AdminCmd.{AdminCmd}
use Rattle.dn_zone.specs.declared.event.AdminCmd.TheVariants.{Add, AgingOn, AgingOff, NoRefresh, Refresh}
use Rattle.dn_zone.specs.declared.event.Answer.{Answer}
use Rattle.dn_zone.specs.declared.event.Event.{Event}
use Rattle.dn_zone.specs.declared.event.Event.TheVariants as events
use Rattle.dn_zone.specs.State.{ZoneState}
use Rattle.dn_zone.specs.Merge.{cursor_of, winners}
use Rattle.dn_zone.specs.Settings.{settings_of}
use Rattle.dn_zone.specs.Writes.{TakesItsWrites, admin_writes, merge_writes, set_writes, step_writes, unless_full, when_given, writes_for, writes_of}
use Rattle.dn_zone.specs.Zone.{add_wanted, admin_step, after_merge, begin_at, begin_step, begin_unless, merge_step, merged, pass_step, set_step, settings_wanted, step_by, step_of, swept_zone, with_table, zstep}

-- ---- no writes

more_none : (top : ℕ) → top ≡ top + 0
more_none top = omega arith

none_taken : (table : TableState) → table ≡ with_writes [] table
none_taken table = ap (λ (top : ℕ). (table.0, top)) (more_none table.1)

-- ---- writes that are taken unless the table is full

abbrev Takes : ZoneState → ZoneState × Answer → List Write → Type 0
Takes zone after writes = after.0.table ≡ with_writes writes zone.table

unless : (full : Bool) (zone after : ZoneState) (writes : List Write) (one other : Answer) → after.table ≡ with_writes writes zone.table
    → Takes zone (cond {A = ZoneState × Answer} full (zone, one) (after, other)) (cond {A = List Write} full [] writes)
unless true zone after writes one other is = none_taken zone.table
unless false zone after writes one other is = is

-- ---- commands

abbrev Holds : TableState → TableState × Outcome → List Write → Type 0
Holds table after writes = after.0 ≡ with_writes writes table

none_unless : (full : Bool) (table : TableState) → table ≡ with_writes (cond {A = List Write} full [] []) table
none_unless true table = none_taken table
none_unless false table = none_taken table

some_unless : (full : Bool) (table : TableState) (writes : List Write) (one other : Outcome)
    → Holds table (cond {A = TableState × Outcome} full (table, one) (with_writes writes table, other)) (cond {A = List Write} full [] writes)
some_unless true table writes one other = none_taken table
some_unless false table writes one other = refl

when_held : (table : TableState) (given : Option (List Write)) → Holds table (when_stamped table given) (when_given table given)
when_held table None = none_taken table
when_held table (Some []) = none_unless (nat_lt change_limit (table.1 + 0)) table
when_held table (Some (first ∷ rest)) = some_unless (nat_lt change_limit (table.1 + length (first ∷ rest))) table (first ∷ rest) _ _

where_fit : (fit : Bool) (table : TableState) (given : Option (List Write)) (other : Outcome)
    → Holds table (cond {A = TableState × Outcome} fit (when_stamped table given) (table, other)) (cond {A = List Write} fit (when_given table given) [])
where_fit true table given other = when_held table given
where_fit false table given other = none_taken table

pub written_holds : (zone : ZoneState) (wanted : List Wanted) (moment : ℕ) → Holds zone.table (written wanted zone.id moment zone.table) (writes_for zone wanted moment)
unfolding written
written_holds zone wanted moment = where_fit (list_all (λ one. fits one.value) wanted) zone.table (stamped zone.table.0 zone.id (seconds_of moment) wanted) _

set_holds : (zone : ZoneState) (cmd : AdminCmd) (moment : ℕ) → Takes zone (set_step zone cmd moment) (set_writes zone cmd moment)
unfolding set_step
set_holds zone cmd moment =
    let list : List Property = properties_of zone.table.0 in
    written_holds zone (settings_wanted list (settings_of cmd (rules_of list) (hour_of moment))) moment

add_holds : (under : Bool) (zone : ZoneState) (wanted : List Wanted) (moment : ℕ) (answer : Answer)
    → Takes zone (cond {A = ZoneState × Answer} under (with_table zone (written wanted zone.id moment zone.table)) (zone, answer)) (cond {A = List Write} under (writes_for zone wanted moment) [])
add_holds true zone wanted moment answer = written_holds zone wanted moment
add_holds false zone wanted moment answer = none_taken zone.table

admin_holds : (zone : ZoneState) (cmd : AdminCmd) (moment : ℕ) → Takes zone (admin_step zone cmd moment) (admin_writes zone cmd moment)
unfolding admin_step
admin_holds zone (Add name ttl rtype rdata hour) moment = add_holds (is_under name zone.apex) zone (add_wanted zone name (made rtype ttl hour rdata) moment) moment _
admin_holds zone AgingOn moment = set_holds zone AgingOn moment
admin_holds zone AgingOff moment = set_holds zone AgingOff moment
admin_holds zone (NoRefresh hours) moment = set_holds zone (NoRefresh hours) moment
admin_holds zone (Refresh hours) moment = set_holds zone (Refresh hours) moment

-- ---- passes

begun_holds : (zone : ZoneState) (moment : ℕ) (found : Option Pass) → Takes zone (begin_at zone moment found) []
begun_holds zone moment None = none_taken zone.table
begun_holds zone moment (Some pass) = none_taken zone.table

begin_by : (running : Option Pass) (zone : ZoneState) (moment : ℕ) → Takes zone (begin_unless running zone moment) []
begin_by None zone moment = begun_holds zone moment (new_pass_if_due zone.table moment)
begin_by (Some pass) zone moment = none_taken zone.table

begin_holds : (zone : ZoneState) (moment : ℕ) → Takes zone (begin_step zone moment) []
unfolding begin_step
begin_holds zone moment = begin_by zone.pass zone moment

plan_holds : (zone : ZoneState) (plan : StepPlan) → Takes zone (step_by zone plan) (unless_full zone.table (writes_of_plan plan))
plan_holds zone (plans.Void props_usn) = none_unless (nat_lt change_limit (zone.table.1 + 0)) zone.table
plan_holds zone (plans.Moved writes pass) =
    unless (nat_lt change_limit (zone.table.1 + length writes)) zone (swept_zone zone writes (Some pass)) writes _ _ refl
plan_holds zone (plans.Finished writes pass) =
    unless (nat_lt change_limit (zone.table.1 + length writes)) zone (swept_zone zone writes None) writes _ _ refl

step_by_pass : (running : Option Pass) (zone : ZoneState) (most : ℕ) → Takes zone (step_of running zone most) (step_writes running zone most)
step_by_pass None zone most = none_taken zone.table
step_by_pass (Some pass) zone most = plan_holds zone (step_plan zone.table.0 pass most zone.id)

step_holds : (zone : ZoneState) (most : ℕ) → Takes zone (pass_step zone most) (step_writes zone.pass zone most)
unfolding pass_step
step_holds zone most = step_by_pass zone.pass zone most

-- ---- merges

gap_holds : (gap : Bool) (zone : ZoneState) (changes : Changes) (answer : Answer) (won : List Write)
    → Takes zone (cond {A = ZoneState × Answer} gap (zone, answer) (merged zone changes won)) (cond {A = List Write} gap [] (unless_full zone.table won))
gap_holds true zone changes answer won = none_taken zone.table
gap_holds false zone changes answer won = unless (nat_lt change_limit (zone.table.1 + length won)) zone (after_merge zone changes won) won _ _ refl

merge_holds : (zone : ZoneState) (changes : Changes) → Takes zone (merge_step zone changes) (merge_writes zone changes)
unfolding merge_step
merge_holds zone changes = gap_holds (nat_lt (cursor_of changes.supplier zone.cursors) changes.from) zone changes _ (winners zone.table.0 changes.units)

-- ---- every event

pub takes_its_writes : (zone : ZoneState) (event : Event) → TakesItsWrites zone event
unfolding zstep writes_of
takes_its_writes zone (events.Admin cmd moment) = admin_holds zone cmd moment
takes_its_writes zone (events.Begin moment) = begin_holds zone moment
takes_its_writes zone (events.Step most) = step_holds zone most
takes_its_writes zone (events.Merge changes) = merge_holds zone changes
