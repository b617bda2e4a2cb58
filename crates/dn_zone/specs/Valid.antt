-- What makes a zone valid, and which events keep it so.
use Rattle.std.specs.Prelude.{◌≡◌, ℕ, ◌≤◌, true, false, nat_eq}
use Rattle.std.specs.List.{AllByRecursion}
use Rattle.dn_name.specs.Name.{IsName}
use Rattle.dn_rdata.specs.Layout.{IsData}
use Rattle.dn_rdata.specs.Types.{SOA, answerable}
use Rattle.dn_store.specs.Table.{IsTable, change_limit}
use Rattle.dn_store.specs.Valid.{IsValidUnit}
use Rattle.dn_store.specs.Value.{is_lower}
use Rattle.dn_link.specs.Sent.{IsValidRun}
use Rattle.dn_zone.specs.declared.event.AdminCmd.{AdminCmd}
use Rattle.dn_zone.specs.declared.event.AdminCmd.TheVariants.{Add, AgingOn, AgingOff, NoRefresh, Refresh}
use Rattle.dn_zone.specs.declared.event.Event.{Event}
use Rattle.dn_zone.specs.declared.event.Event.TheVariants as events
use Rattle.dn_zone.specs.State.{ZoneState}

-- A valid zone: the replica's host and the apex are names, the apex in lower case; the units are those of a table, each
-- valid for the apex; and each cursor is a number of changes.
pub record IsValidZone (zone : ZoneState) : Type 0 where
  pub host : IsName zone.host
  pub apex : IsName zone.apex
  pub lower : is_lower zone.apex ≡ true
  pub table : IsTable zone.table.0 zone.table.1
  pub units : AllByRecursion (IsValidUnit zone.apex) zone.table.0
  pub cursors : AllByRecursion (λ entry. entry.1 ≤ change_limit) zone.cursors

-- the longest interval, in hours: ten years
abbrev pub interval_limit : ℕ
interval_limit = 87600

-- A proper command: a record that is added has a name, a type that is answered, other than SOA, and data that are valid for
-- this type; an interval is within its limit.
abbrev pub IsProperCommand : AdminCmd → Type 0
IsProperCommand (Add name ttl rtype rdata hour) =
    IsName name × (answerable rtype ≡ true) × (nat_eq rtype SOA ≡ false) × IsData rtype rdata
IsProperCommand AgingOn = Unit {0}
IsProperCommand AgingOff = Unit {0}
IsProperCommand (NoRefresh hours) = hours ≤ interval_limit
IsProperCommand (Refresh hours) = hours ≤ interval_limit

-- a proper event of a zone, whatever zone: a command or a part of a pass, and no merge
abbrev pub IsProperEvent : Event → Type 0
IsProperEvent (events.Admin cmd moment) = IsProperCommand cmd
IsProperEvent (events.Begin moment) = Unit {0}
IsProperEvent (events.Step most) = 1 ≤ most
IsProperEvent (events.Merge changes) = ⊥

-- an event that a zone may meet: a proper one, or a merge of valid changes of this zone
abbrev pub Meets : ZoneState → Event → Type 0
Meets zone (events.Admin cmd moment) = IsProperCommand cmd
Meets zone (events.Begin moment) = Unit {0}
Meets zone (events.Step most) = 1 ≤ most
Meets zone (events.Merge changes) = IsValidRun changes × (changes.zone ≡ zone.apex)
