-- What a body tells of an event is the zone's step: the zone and the answer behind it.
use Rattle.std.specs.Prelude.{◌≡◌, ⊤}
use Rattle.dn_zone.specs.declared.event.Answer.{Answer}
use Rattle.dn_zone.specs.declared.zone.Prepared.{Prepared}
use Rattle.dn_zone.specs.declared.zone.Prepared.TheVariants.{Same, Became}
use Rattle.dn_zone.specs.State.{ZoneState}

abbrev pub Prepares : Prepared → ZoneState → ZoneState × Answer → Type 0
Prepares (Same answer) zone after = after ≡ (zone, answer)
Prepares (Became next answer) zone after = after ≡ (next, answer)

-- the zone stays as it is
abbrev pub IsSame : Prepared → Type 0
IsSame (Same answer) = ⊤
IsSame (Became next answer) = ⊥
