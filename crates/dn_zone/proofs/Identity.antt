-- No event changes whose zone it is.
use Rattle.std.proofs.Common.{◌≡◌, ℕ, ◌+◌, Bool, true, false, cond, List, length, nat_lt, Option, None, Some, refl}
use Rattle.dn_name.specs.Name.{is_under}
use Rattle.dn_store.specs.declared.unit.Write.{Write}
use Rattle.dn_store.specs.Table.{change_limit}
use Rattle.dn_pass.specs.declared.pass.Pass.{Pass}
use Rattle.dn_pass.specs.declared.pass.StepPlan.{StepPlan}
use Rattle.dn_pass.specs.declared.pass.StepPlan.TheVariants as plans
use Rattle.dn_pass.specs.Pass.{new_pass_if_due, step_plan}
use Rattle.dn_link.specs.declared.packet.Changes.{Changes}
use Rattle.dn_zone.specs.declared.event.AdminCmd.{AdminCmd}
use Rattle.dn_zone.specs.declared.event.AdminCmd.TheVariants.{Add, AgingOn, AgingOff, NoRefresh, Refresh}
use Rattle.dn_zone.specs.declared.event.Event.{Event}
use Rattle.dn_zone.specs.declared.event.Event.TheVariants as events
use Rattle.dn_zone.specs.declared.event.Answer.{Answer}
use Rattle.dn_zone.specs.State.{ZoneState}
use Rattle.dn_zone.specs.Merge.{cursor_of, winners}
use Rattle.dn_zone.specs.Zone.{admin_step, begin_at, begin_step, begin_unless, merge_step, merged, pass_step, set_step, step_by, step_of, swept_step, zstep}

pub record IsSameZone (zone after : ZoneState) : Type 0 where
  pub id : after.id ≡ zone.id
  pub host : after.host ≡ zone.host
  pub apex : after.apex ≡ zone.apex

itself : (zone : ZoneState) → IsSameZone zone zone
itself zone = record { id = refl; host = refl; apex = refl }

either_same : (b : Bool) (zone : ZoneState) (one other : ZoneState × Answer) → IsSameZone zone one.0 → IsSameZone zone other.0 → IsSameZone zone (cond {A = ZoneState × Answer} b one other).0
either_same true zone one other first second = first
either_same false zone one other first second = second

set_same : (zone : ZoneState) (cmd : AdminCmd) (moment : ℕ) → IsSameZone zone (set_step zone cmd moment).0
unfolding set_step
set_same zone cmd moment = record { id = refl; host = refl; apex = refl }

admin_same : (zone : ZoneState) (cmd : AdminCmd) (moment : ℕ) → IsSameZone zone (admin_step zone cmd moment).0
unfolding admin_step
admin_same zone (Add name ttl rtype rdata hour) moment =
    either_same (is_under name zone.apex) zone _ _ (record { id = refl; host = refl; apex = refl }) (itself zone)
admin_same zone AgingOn moment = set_same zone AgingOn moment
admin_same zone AgingOff moment = set_same zone AgingOff moment
admin_same zone (NoRefresh hours) moment = set_same zone (NoRefresh hours) moment
admin_same zone (Refresh hours) moment = set_same zone (Refresh hours) moment

begun_same : (zone : ZoneState) (moment : ℕ) (found : Option Pass) → IsSameZone zone (begin_at zone moment found).0
begun_same zone moment None = itself zone
begun_same zone moment (Some pass) = record { id = refl; host = refl; apex = refl }

begin_by : (running : Option Pass) (zone : ZoneState) (moment : ℕ) → IsSameZone zone (begin_unless running zone moment).0
begin_by None zone moment = begun_same zone moment (new_pass_if_due zone.table moment)
begin_by (Some pass) zone moment = itself zone

begin_same : (zone : ZoneState) (moment : ℕ) → IsSameZone zone (begin_step zone moment).0
unfolding begin_step
begin_same zone moment = begin_by zone.pass zone moment

swept_same : (zone : ZoneState) (writes : List Write) (pass : Option Pass) (answer : Answer) → IsSameZone zone (swept_step zone writes pass answer).0
swept_same zone writes pass answer =
    either_same (nat_lt change_limit (zone.table.1 + length writes)) zone _ _ (itself zone) (record { id = refl; host = refl; apex = refl })

planned_same : (zone : ZoneState) (plan : StepPlan) → IsSameZone zone (step_by zone plan).0
planned_same zone (plans.Void number) = record { id = refl; host = refl; apex = refl }
planned_same zone (plans.Moved writes pass) = swept_same zone writes (Some pass) _
planned_same zone (plans.Finished writes pass) = swept_same zone writes None _

step_of_same : (running : Option Pass) (zone : ZoneState) (most : ℕ) → IsSameZone zone (step_of running zone most).0
step_of_same None zone most = itself zone
step_of_same (Some pass) zone most = planned_same zone (step_plan zone.table.0 pass most zone.id)

step_same : (zone : ZoneState) (most : ℕ) → IsSameZone zone (pass_step zone most).0
unfolding pass_step
step_same zone most = step_of_same zone.pass zone most

joined_same : (zone : ZoneState) (changes : Changes) (won : List Write) → IsSameZone zone (merged zone changes won).0
joined_same zone changes won =
    either_same (nat_lt change_limit (zone.table.1 + length won)) zone _ _ (itself zone) (record { id = refl; host = refl; apex = refl })

merge_same : (zone : ZoneState) (changes : Changes) → IsSameZone zone (merge_step zone changes).0
unfolding merge_step
merge_same zone changes =
    either_same (nat_lt (cursor_of changes.supplier zone.cursors) changes.from) zone _ _ (itself zone)
    (joined_same zone changes (winners zone.table.0 changes.units))

pub event_same : (zone : ZoneState) (event : Event) → IsSameZone zone (zstep zone event).0
unfolding zstep
event_same zone (events.Admin cmd moment) = admin_same zone cmd moment
event_same zone (events.Begin moment) = begin_same zone moment
event_same zone (events.Step most) = step_same zone most
event_same zone (events.Merge changes) = merge_same zone changes
