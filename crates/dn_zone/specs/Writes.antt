-- The writes that an event makes of a zone.
use Rattle.std.specs.Prelude.{◌≡◌, ℕ, ◌+◌, nat_lt, if◌then◌else◌, List, [], length, Option, None, Some}
use Rattle.std.specs.List.{list_all}
use Rattle.dn_io.specs.Moments.{hour_of, seconds_of}
use Rattle.dn_name.specs.Name.{is_under}
use Rattle.dn_property.specs.Rules.{rules_of}
use Rattle.dn_rdata.specs.Record.{made}
use Rattle.dn_store.specs.declared.unit.Write.{Write}
use Rattle.dn_store.specs.Contents.{properties_of}
use Rattle.dn_store.specs.Table.{TableState, change_limit}
use Rattle.dn_store.specs.Value.{fits}
use Rattle.dn_update.specs.Writes.{Wanted, stamped, with_writes}
use Rattle.dn_pass.specs.declared.pass.Pass.{Pass}
use Rattle.dn_pass.specs.Pass.{step_plan}
use Rattle.dn_pass.specs.Pass.{writes_of as writes_of_plan}
use Rattle.dn_link.specs.declared.packet.Changes.{Changes}
use Rattle.dn_zone.specs.declared.event.AdminCmd.{AdminCmd}
use Rattle.dn_zone.specs.declared.event.AdminCmd.TheVariants.{Add, AgingOn, AgingOff, NoRefresh, Refresh}
use Rattle.dn_zone.specs.declared.event.Event.{Event}
use Rattle.dn_zone.specs.declared.event.Event.TheVariants as events
use Rattle.dn_zone.specs.State.{ZoneState}
use Rattle.dn_zone.specs.Merge.{cursor_of, winners}
use Rattle.dn_zone.specs.Settings.{settings_of}
use Rattle.dn_zone.specs.Zone.{add_wanted, settings_wanted, zstep}

-- all of the writes, or none where the change count would pass its limit
abbrev pub unless_full : TableState → List Write → List Write
unless_full table writes = if nat_lt change_limit (table.1 + length writes) then [] else writes

abbrev pub when_given : TableState → Option (List Write) → List Write
when_given table None = []
when_given table (Some writes) = unless_full table writes

-- the writes that values come to; none where a limit is passed: one doesn't fit, a unit is at its last version, or the change
-- count would pass 2^63
abbrev pub writes_for : ZoneState → List Wanted → ℕ → List Write
writes_for zone wanted moment =
    if list_all (λ one. fits one.value) wanted then when_given zone.table (stamped zone.table.0 zone.id (seconds_of moment) wanted) else []

-- what a command of aging writes
abbrev pub set_writes : ZoneState → AdminCmd → ℕ → List Write
set_writes zone cmd moment =
    let list = properties_of zone.table.0 in
    writes_for zone (settings_wanted list (settings_of cmd (rules_of list) (hour_of moment))) moment

-- what a command writes: nothing for a name that isn't under the zone's
abbrev pub admin_writes : ZoneState → AdminCmd → ℕ → List Write
admin_writes zone (Add name ttl rtype rdata hour) moment =
    if is_under name zone.apex then writes_for zone (add_wanted zone name (made rtype ttl hour rdata) moment) moment else []
admin_writes zone AgingOn moment = set_writes zone AgingOn moment
admin_writes zone AgingOff moment = set_writes zone AgingOff moment
admin_writes zone (NoRefresh hours) moment = set_writes zone (NoRefresh hours) moment
admin_writes zone (Refresh hours) moment = set_writes zone (Refresh hours) moment

-- what a step of a pass writes, where one runs
abbrev pub step_writes : Option Pass → ZoneState → ℕ → List Write
step_writes None zone most = []
step_writes (Some pass) zone most = unless_full zone.table (writes_of_plan (step_plan zone.table.0 pass most zone.id))

-- what is taken of changes: those that win, where none are missing before them
abbrev pub merge_writes : ZoneState → Changes → List Write
merge_writes zone changes =
    if nat_lt (cursor_of changes.supplier zone.cursors) changes.from then [] else unless_full zone.table (winners zone.table.0 changes.units)

-- The writes that an event makes of a zone, in the order in which they are numbered. An event that is refused makes none, and
-- the beginning of a pass makes none.
unfoldable pub writes_of : ZoneState → Event → List Write
writes_of zone (events.Admin cmd moment) = admin_writes zone cmd moment
writes_of zone (events.Begin moment) = []
writes_of zone (events.Step most) = step_writes zone.pass zone most
writes_of zone (events.Merge changes) = merge_writes zone changes

-- The table behind an event is the table before with the event's writes taken.
abbrev pub TakesItsWrites : ZoneState → Event → Type 0
TakesItsWrites zone event = (zstep zone event).0.table ≡ with_writes (writes_of zone event) zone.table
