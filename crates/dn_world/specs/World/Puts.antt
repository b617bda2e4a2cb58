-- What putting an event's result in place makes of the list of a world's zones.
use Rattle.std.specs.Prelude.{◌≡◌, ℕ, List, Some, slice_get, slice_set}
use Rattle.dn_zone.specs.declared.event.Answer.{Answer}
use Rattle.dn_zone.specs.declared.zone.Prepared.{Prepared}
use Rattle.dn_zone.specs.State.{ZoneState}
use Rattle.dn_zone.specs.Zone.Preparing.{Prepares}

-- Where an event makes this of the zone at a place, the new zones have at that place the zone behind it, and it is answered.
abbrev pub Puts : Prepared → List ZoneState → List ZoneState → ℕ → Answer → Type 0
Puts made before after place answer =
    (zone : ZoneState) (stepped : ZoneState × Answer) → slice_get before place ≡ Some zone → Prepares made zone stepped
    → (slice_set before place stepped.0 ≡ after) × (stepped.1 ≡ answer)
