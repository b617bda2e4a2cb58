-- Each event of a run ages the zone that it reaches rightly, by what the zone's running pass gave before.
use Rattle.std.proofs.Common.{◌≡◌, ℕ, zero, suc, Bool, true, false, cond, List, [], ◌∷◌, ◌++◌, Option, None, Some, append-nil, nat_eq, refl, ap, sym, subst, ◌∙◌}
use Rattle.std.proofs.lemmas.Bool.{eqb-false, eqb-true}
use Rattle.std.specs.Prelude.{slice_get, slice_set}
use Rattle.dn_zone.specs.State.{ZoneState}
use Rattle.dn_zone.specs.Aging.{Given, given_behind, none_given}
use Rattle.dn_zone.specs.Zone.{zstep}
use Rattle.dn_zone.proofs.CallerLemmas.{BothZone, SoundZone, event_ages, event_both, none_sound, zones_sound}
use Rattle.dn_world.specs.declared.event.WorldAnswer.{WorldAnswer}
use Rattle.dn_world.specs.declared.event.WorldEvent.{WorldEvent}
use Rattle.dn_world.specs.State.{WorldState}
use Rattle.dn_world.specs.Aging.{Arrival, EntryAges, Givens, TraceAges, arrival_of, givens_behind, nothing_given}
use Rattle.dn_world.specs.Runs.{trace, trace_from}
use Rattle.dn_world.specs.World.{empty_world, wstep}
use Rattle.dn_world.proofs.EveryZone.{new_holds}
use Rattle.dn_world.proofs.SlotLemmas.{get_other, get_set}
use Rattle.dn_world.proofs.ZoneMoves.{Adds, Grows, IsNew, Moves, Stays, event_moves}

-- ---- what holds at each place: the zone there is sound by what was given, and where no zone is nothing was given

abbrev pub Held : Given → Option ZoneState → Type 0
Held given None = given ≡ none_given
Held given (Some zone) = BothZone given zone

abbrev pub AllHeld : Givens → List ZoneState → Type 0
AllHeld givens zones = (place : ℕ) → Held (givens place) (slice_get zones place)

new_held : (zone : ZoneState) (given : Given) → IsNew zone → given ≡ none_given → BothZone given zone
new_held zone given new is =
    subst (λ (one : Given). BothZone one zone) (sym is) (new_holds SoundZone zones_sound zone new, none_sound zone.table.0 zone.table.1 zone.pass)

held_more : (zones : List ZoneState) (zone : ZoneState) (givens : Givens) → IsNew zone → AllHeld givens zones → AllHeld givens (zones ++ zone ∷ [])
held_more [] zone givens new all zero = new_held zone (givens zero) new (all zero)
held_more [] zone givens new all (suc place) = all (suc place)
held_more (first ∷ rest) zone givens new all zero = all zero
held_more (first ∷ rest) zone givens new all (suc place) = held_more rest zone (λ at. givens (suc at)) new (λ at. all (suc at)) place

grown_held : (before after : List ZoneState) (givens : Givens) → Grows before after → AllHeld givens before → AllHeld givens after
grown_held before after givens (Stays is) all = subst (AllHeld givens) (sym is) all
grown_held before after givens (Adds zone new is) all = subst (AllHeld givens) (sym is) (held_more before zone givens new all)

-- the place of the zone that was reached, and each other
set_by : (here : Bool) (zones : List ZoneState) (reached : Arrival) (givens : Givens) (place : ℕ) → nat_eq place reached.place ≡ here
    → slice_get zones reached.place ≡ Some reached.zone → AllHeld givens zones
    → Held (cond here (given_behind (givens place) reached.zone reached.event) (givens place)) (slice_get (slice_set zones reached.place (zstep reached.zone reached.event).0) place)
set_by true zones reached givens place is found all =
    let same : place ≡ reached.place = eqb-true place reached.place is in
    let before : BothZone (givens place) reached.zone = subst (Held (givens place)) (ap (slice_get zones) same ∙ found) (all place) in
    subst (Held (given_behind (givens place) reached.zone reached.event))
    (sym (ap (slice_get (slice_set zones reached.place (zstep reached.zone reached.event).0)) same
    ∙ get_set zones reached.place reached.zone (zstep reached.zone reached.event).0 found))
    (event_both (givens place) reached.zone reached.event before)
set_by false zones reached givens place is found all =
    subst (Held (givens place)) (sym (get_other zones reached.place place (zstep reached.zone reached.event).0 (eqb-false place reached.place is))) (all place)

held_behind : (world : WorldState) (reached : Option Arrival) (after : WorldState × WorldAnswer) (givens : Givens) → Moves world reached after → AllHeld givens world.zones
    → AllHeld (givens_behind givens reached) after.0.zones
held_behind world None after givens moves all = grown_held world.zones after.0.zones givens moves all
held_behind world (Some reached) after givens moves all =
    subst (AllHeld (givens_behind givens (Some reached))) (sym moves.zones)
    (λ place. set_by (nat_eq place reached.place) world.zones reached givens place refl moves.found all)

-- ---- one entry, and every trace

grown_ages : (before after : List ZoneState) → Grows before after → (more : List ZoneState) × (after ≡ before ++ more)
grown_ages before after (Stays is) = ([], is ∙ sym (append-nil before))
grown_ages before after (Adds zone new is) = (zone ∷ [], is)

entry_ages : (world : WorldState) (event : WorldEvent) (reached : Option Arrival) (after : WorldState × WorldAnswer) (givens : Givens) → Moves world reached after → AllHeld givens world.zones
    → EntryAges givens (record { before = world; event = event; after = after.0; answer = after.1 }) reached
entry_ages world event None after givens moves all = grown_ages world.zones after.0.zones moves
entry_ages world event (Some reached) after givens moves all =
    record {
      zones = moves.zones;
      answer = moves.answer;
      ages = event_ages (givens reached.place) reached.zone reached.event (subst (Held (givens reached.place)) moves.found (all reached.place));
    }

trace_ages : (list : List WorldEvent) (world : WorldState) (givens : Givens) → AllHeld givens world.zones → TraceAges givens (trace_from world list)
trace_ages [] world givens all = tt
trace_ages (event ∷ rest) world givens all =
    let reached : Option Arrival = arrival_of world event in
    let moves : Moves world reached (wstep world event) = event_moves world event in (
      entry_ages world event reached (wstep world event) givens moves all,
      trace_ages rest (wstep world event).0 (givens_behind givens reached) (held_behind world reached (wstep world event) givens moves all),
    )

none_held : AllHeld nothing_given empty_world.zones
unfolding empty_world
none_held place = refl

pub runs_age_traces : (list : List WorldEvent) → TraceAges nothing_given (trace list)
runs_age_traces list = trace_ages list empty_world nothing_given none_held
