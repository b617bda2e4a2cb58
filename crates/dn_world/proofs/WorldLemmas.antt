-- What an event at one zone makes of a world.
use Rattle.std.proofs.Common.{◌≡◌, ℕ, zero, suc, List, [], ◌∷◌, Some, refl, sym, ap, ◌∙◌}
use Rattle.std.specs.Prelude.{position, slice_get, slice_set}
use Rattle.dn_stamp.specs.declared.stamp.ReplicaId.{ReplicaId}
use Rattle.dn_link.specs.declared.packet.Changes.{Changes}
use Rattle.dn_zone.specs.declared.event.Answer.{Answer}
use Rattle.dn_zone.specs.declared.zone.Prepared.{Prepared}
use Rattle.dn_zone.specs.declared.zone.Prepared.TheVariants.{Same}
use Rattle.dn_zone.specs.State.{ZoneState}
use Rattle.dn_zone.specs.Zone.{merge_step, zstep}
use Rattle.dn_zone.specs.Zone.Preparing.{Prepares}
use Rattle.dn_world.specs.declared.event.WorldAnswer.TheVariants as answers
use Rattle.dn_world.specs.World.{is_zone}
use Rattle.dn_world.specs.World.Merges.{MergesAt}
use Rattle.dn_world.specs.World.Puts.{Puts}

set_same : (zones : List ZoneState) (at : ℕ) (zone : ZoneState) → slice_get zones at ≡ Some zone → slice_set zones at zone ≡ zones
set_same [] at zone is = refl
set_same (first ∷ rest) zero zone is = let e : first ≡ zone = cc in λ i. sym e i ∷ rest
set_same (first ∷ rest) (suc at) zone is = ap (λ (zones : List ZoneState). first ∷ zones) (set_same rest at zone is)

-- a zone that stays the same leaves the zones as they are
pub puts_same : (zones : List ZoneState) (place : ℕ) (answer : Answer) → Puts (Same answer) zones zones place answer
puts_same zones place answer zone stepped there is =
    (ap (λ (after : ZoneState × Answer). slice_set zones place after.0) is ∙ set_same zones place zone there, ap (λ (after : ZoneState × Answer). after.1) is)

-- changes that are merged into the zone of a replica
pub merge_puts : (id : ReplicaId) (changes : Changes) (place : ℕ) (zone : ZoneState) (made : Prepared) (before after : List ZoneState) (answer : Answer)
    → Some place ≡ position (is_zone id changes.zone) before → Some zone ≡ slice_get before place
    → Prepares made zone (merge_step zone changes) → Puts made before after place answer
    → MergesAt before after id changes (answers.Zone answer)
unfolding zstep
merge_puts id changes place zone made before after answer its_place its_zone prepared puts world is =
    let put = puts zone (merge_step zone changes) (sym its_zone) prepared in
    rw (← its_place, is, ← its_zone, put.0, put.1) refl
