-- What a new zone has and each of its events keeps, every zone of a world keeps through each event.
use Rattle.std.proofs.Common.{◌≡◌, ℕ, zero, suc, List, [], ◌∷◌, ◌<◌, Option, None, Some, sym, subst, arith}
use Rattle.std.specs.Prelude.{slice_index_or, length}
use Rattle.std.specs.List.{AllByRecursion}
use Rattle.dn_zone.specs.State.{ZoneState}
use Rattle.dn_zone.specs.Zone.{zstep}
use Rattle.dn_zone.proofs.CallerLemmas.{Keeping, SoundZone, sound_ages, zones_sound}
use Rattle.dn_world.specs.declared.event.WorldAnswer.{WorldAnswer}
use Rattle.dn_world.specs.declared.event.WorldAnswer.TheVariants.{Made}
use Rattle.dn_world.specs.declared.event.WorldEvent.{WorldEvent}
use Rattle.dn_world.specs.State.{WorldState}
use Rattle.dn_world.specs.Aging.{Arrival, arrival_of}
use Rattle.dn_world.specs.Laws.{AgesRightly}
use Rattle.dn_world.specs.Runs.{run_from, wrun}
use Rattle.dn_world.specs.World.{empty_world, wstep}
use Rattle.dn_world.proofs.SlotLemmas.{all_get, all_one_more, all_set}
use Rattle.dn_world.proofs.ZoneMoves.{Adds, Grows, IsCreated, IsJoined, IsNew, Moves, Stays, event_moves}

module _ (P : ZoneState → Type 0) (keeping : Keeping P) where
  abbrev pub All : WorldState → Type 0
  All world = AllByRecursion P world.zones

  pub new_holds : (zone : ZoneState) → IsNew zone → P zone
  new_holds zone (IsCreated id host apex mailbox ticks is) = subst P (sym is) (keeping.created id host apex mailbox ticks)
  new_holds zone (IsJoined id host apex is) = subst P (sym is) (keeping.joined id host apex)

  grown_all : (before after : List ZoneState) → Grows before after → AllByRecursion P before → AllByRecursion P after
  grown_all before after (Stays is) all = subst (AllByRecursion P) (sym is) all
  grown_all before after (Adds zone new is) all = subst (AllByRecursion P) (sym is) (all_one_more P before zone all (new_holds zone new))

  moved_all : (world : WorldState) (reached : Option Arrival) (after : WorldState × WorldAnswer) → Moves world reached after → All world → All after.0
  moved_all world None after moves all = grown_all world.zones after.0.zones moves all
  moved_all world (Some reached) after moves all =
      subst (AllByRecursion P) (sym moves.zones)
      (all_set P world.zones reached.place (zstep reached.zone reached.event).0 all
      (keeping.event reached.zone reached.event (all_get P world.zones reached.place reached.zone all moves.found)))

  pub event_all : (world : WorldState) (event : WorldEvent) → All world → All (wstep world event).0
  event_all world event all = moved_all world (arrival_of world event) (wstep world event) (event_moves world event) all

  -- ---- lists of events

  pub run_all : (now : WorldState × WorldAnswer) (list : List WorldEvent) → All now.0 → All (run_from now list).0
  run_all now [] all = all
  run_all now (event ∷ rest) all = run_all (wstep now.0 event) rest (event_all now.0 event all)

-- one of a list of which all hold
pub holds_among : (P : ZoneState → Type 0) (zones : List ZoneState) (zone : ZoneState) (at : ℕ) → AllByRecursion P zones → at < length zones → slice_index_or zones at zone ≡ zone → P zone
holds_among P [] zone at all within is = absurd (omega arith)
holds_among P (first ∷ rest) zone zero all within is = subst P is all.0
holds_among P (first ∷ rest) zone (suc at) all within is = holds_among P rest zone at all.1 (omega arith) is

-- in a world of sound zones each zone ages rightly, whatever events come
pub ages_rightly : (world : WorldState) → AllByRecursion SoundZone world.zones → AgesRightly world
ages_rightly world all zone there list =
    sound_ages zone list (holds_among SoundZone world.zones zone there.0 all there.1 there.2)

-- every list of events runs to a world of sound zones
pub run_sound : (list : List WorldEvent) → AllByRecursion SoundZone (wrun list).zones
unfolding wrun empty_world
run_sound list = run_all SoundZone zones_sound (empty_world, Made) list tt

pub runs_age : (list : List WorldEvent) → AgesRightly (wrun list)
runs_age list = ages_rightly (wrun list) (run_sound list)
