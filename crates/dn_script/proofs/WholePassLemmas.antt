-- A whole pass over a zone comes to its end: each of its steps that goes on leaves fewer units to look at.
use Rattle.std.proofs.Common.{◌≡◌, ◌↔◌, ℕ, zero, suc, ◌+◌, ◌≤◌, Bool, true, false, cond, List, [], ◌∷◌, length, nat_lt, refl, ap, ap₂, subst, sym, arith, ◌∙◌, Option, None, Some}
use Rattle.std.proofs.lemmas.Bool.{false≢true}
use Rattle.std.specs.List.{AllByRecursion, position_or_len}
use Rattle.std.specs.Prelude.{find, position, slice_get, slice_set}
use Rattle.dn_name.specs.Name.{Labels}
use Rattle.dn_stamp.specs.declared.stamp.ReplicaId.{ReplicaId}
use Rattle.dn_store.specs.declared.unit.Unit as units
use Rattle.dn_store.specs.Contents.{props_number}
use Rattle.dn_store.specs.Table.{KeysGrow, change_limit}
use Rattle.dn_store.proofs.CallerLemmas.{ahead}
use Rattle.dn_update.specs.declared.plan.Limit.TheVariants as limits
use Rattle.dn_pass.specs.declared.pass.Pass.{Pass}
use Rattle.dn_pass.specs.declared.pass.StepPlan.{StepPlan}
use Rattle.dn_pass.specs.declared.pass.StepPlan.TheVariants as plans
use Rattle.dn_pass.specs.Pass.{new_pass_if_due, pass_after, is_last_step, looked_at, plan_for, planned, step_plan, sweep}
use Rattle.dn_pass.proofs.CallerLemmas.{ahead_most, step_falls}
use Rattle.dn_zone.specs.declared.event.Answer.{Answer}
use Rattle.dn_zone.specs.declared.event.Answer.TheVariants as answers
use Rattle.dn_zone.specs.declared.event.Event.{Event}
use Rattle.dn_zone.specs.declared.event.Event.TheVariants as events
use Rattle.dn_zone.specs.State.{ZoneState}
use Rattle.dn_zone.specs.Aging.{rules_at}
use Rattle.dn_zone.specs.Outcome.{goes_on, outcome_of}
use Rattle.dn_zone.specs.Zone.{begin_at, begin_step, begin_unless, pass_step, step_by, step_of, zstep}
use Rattle.dn_zone.proofs.CallerLemmas.{SoundZone, zones_sound}
use Rattle.dn_world.specs.declared.event.WorldAnswer.{WorldAnswer}
use Rattle.dn_world.specs.declared.event.WorldAnswer.TheVariants.{Made}
use Rattle.dn_world.specs.declared.event.WorldEvent.{WorldEvent}
use Rattle.dn_world.specs.declared.event.WorldEvent.TheVariants as world_events
use Rattle.dn_world.specs.declared.world.Replica.{Replica}
use Rattle.dn_world.specs.State.{WorldState}
use Rattle.dn_world.specs.Runs.{Entry, run_from, trace_from, wrun}
use Rattle.dn_world.specs.World.{act_at, act_in, is_zone, wstep, wstep_act, zone_at, zone_of, zone_of_replica}
use Rattle.dn_world.proofs.CallerLemmas.{event_all, found_holds, place_found, run_sound, set_found}
use Rattle.dn_script.specs.Passes.{IsWholePass, OneOrOther, RunsUntilOver, begin_event, is_begun, is_moved, pass_events, step_at, step_event, step_events, step_units, steps_from, steps_to_end, units_in, whole_pass}
use Rattle.dn_script.proofs.PassRuns.{whole_pass_runs}

-- how many units a pass hasn't looked at
abbrev left_by : Option Pass → List units.Unit → ℕ
left_by None list = 0
left_by (Some pass) list = ahead pass.after list

left_most : (running : Option Pass) (list : List units.Unit) → left_by running list ≤ length list
left_most None list = omega arith
left_most (Some pass) list = ahead_most pass.after list

-- ---- a step of a zone

-- The zone is found as before, and where the pass goes on, it has fewer units before it.
record Falls (running : Option Pass) (zone : ZoneState) (after : ZoneState × Answer) : Type 0 where
  same : (id : ReplicaId) (apex : Labels) → is_zone id apex after.0 ≡ is_zone id apex zone
  falls : goes_on (outcome_of after.1) ≡ true → suc (left_by after.0.pass after.0.table.0) ≤ left_by running zone.table.0

full_falls : (full : Bool) (pass : Option Pass) (zone : ZoneState) (after : ZoneState × Answer) → Falls pass zone after → Falls pass zone (cond {A = ZoneState × Answer} full (zone, answers.Refused limits.Changes) after)
full_falls true pass zone after falls = record { same = λ id apex. refl; falls = λ moved. absurd (false≢true moved) }
full_falls false pass zone after falls = falls

planned_falls : (last : Bool) (zone : ZoneState) (pass : Pass) (most : ℕ) → is_last_step pass.after most zone.table.0 ≡ last → 1 ≤ most → KeysGrow zone.table.0
    → let rules = rules_at zone in let looked = looked_at pass.after most zone.table.0 in let writes = sweep rules pass.moment zone.id looked in
    Falls (Some pass) zone (step_by zone (plan_for last writes (pass_after pass rules zone.id looked)))
unfolding pass_after
planned_falls true zone pass most is some grow =
    let writes = sweep (rules_at zone) pass.moment zone.id (looked_at pass.after most zone.table.0) in
    full_falls (nat_lt change_limit (zone.table.1 + length writes)) (Some pass) zone _ (record { same = λ id apex. refl; falls = λ moved. absurd (false≢true moved) })
planned_falls false zone pass most is some grow =
    let writes = sweep (rules_at zone) pass.moment zone.id (looked_at pass.after most zone.table.0) in
    let fewer = step_falls (rules_at zone) pass.moment zone.id pass.after most zone.table.0 zone.table.1 grow is in
    full_falls (nat_lt change_limit (zone.table.1 + length writes)) (Some pass) zone _ (record { same = λ id apex. refl; falls = λ moved. omega (arith, fewer, some) })

void_falls : (void : Bool) (zone : ZoneState) (pass : Pass) (most : ℕ) → 1 ≤ most → KeysGrow zone.table.0
    → Falls (Some pass) zone (step_by zone (cond {A = StepPlan} void (plans.Void (props_number zone.table.0)) (planned zone.table.0 pass most zone.id (rules_at zone))))
void_falls true zone pass most some grow = record { same = λ id apex. refl; falls = λ moved. absurd (false≢true moved) }
void_falls false zone pass most some grow = planned_falls (is_last_step pass.after most zone.table.0) zone pass most refl some grow

step_falls_by : (running : Option Pass) (zone : ZoneState) (most : ℕ) → 1 ≤ most → KeysGrow zone.table.0 → Falls running zone (step_of running zone most)
unfolding step_plan
step_falls_by None zone most some grow = record { same = λ id apex. refl; falls = λ moved. absurd (false≢true moved) }
step_falls_by (Some pass) zone most some grow = void_falls (nat_lt pass.start (props_number zone.table.0)) zone pass most some grow

zone_falls : (zone : ZoneState) (most : ℕ) → 1 ≤ most → KeysGrow zone.table.0 → Falls zone.pass zone (zstep zone (events.Step most))
unfolding zstep pass_step
zone_falls zone most some grow = step_falls_by zone.pass zone most some grow

-- ---- a step of a world

abbrev AllSound : WorldState → Type 0
AllSound world = AllByRecursion SoundZone world.zones

abbrev zone_left : Option ZoneState → ℕ
zone_left None = 0
zone_left (Some zone) = left_by zone.pass zone.table.0

abbrev world_left : WorldState → Labels → Option Replica → ℕ
world_left world apex None = 0
world_left world apex (Some replica) = zone_left (zone_of world replica.id apex)

-- a step that goes on leaves fewer units before the pass
abbrev WorldFalls : WorldState → Labels → Option Replica → WorldState × WorldAnswer → Type 0
WorldFalls world apex replica after = is_moved after.1 ≡ true → suc (world_left after.0 apex replica) ≤ world_left world apex replica

acted_falls : (world : WorldState) (replica : Replica) (apex : Labels) (most : ℕ) (found : Option ZoneState) → 1 ≤ most → find (is_zone replica.id apex) world.zones ≡ found → AllSound world
    → WorldFalls world apex (Some replica) (act_in world (events.Step most) (position_or_len (is_zone replica.id apex) world.zones) found)
acted_falls world replica apex most None some is all moved = absurd (false≢true moved)
acted_falls world replica apex most (Some zone) some is all moved =
    let test : ZoneState → Bool = is_zone replica.id apex in
    let changed : ZoneState = (zstep zone (events.Step most)).0 in
    let holds : (test zone ≡ true) × SoundZone zone = found_holds SoundZone test world.zones zone all is in
    let stepped = zone_falls zone most some holds.1.units.ordered in
    let set : find test (slice_set world.zones (position_or_len test world.zones) changed) ≡ Some changed =
    set_found test world.zones zone changed (stepped.same replica.id apex ∙ holds.0) is in
    let now = ap zone_left set in
    let before = ap zone_left is in
    let fewer = stepped.falls moved in
    omega (arith, now, before, fewer)

placed_falls : (there : Bool) (world : WorldState) (replica : Replica) (apex : Labels) (most : ℕ) → 1 ≤ most → AllSound world
    → let place = position_or_len (is_zone replica.id apex) world.zones in
    WorldFalls world apex (Some replica) (act_at world (events.Step most) (cond there (Some place) None))
placed_falls true world replica apex most some all moved =
    acted_falls world replica apex most (slice_get world.zones (position_or_len (is_zone replica.id apex) world.zones)) some
    (sym (place_found (is_zone replica.id apex) world.zones)) all moved
placed_falls false world replica apex most some all moved = absurd (false≢true moved)

act_falls : (world : WorldState) (replica : Option Replica) (apex : Labels) (most : ℕ) → 1 ≤ most → AllSound world
    → WorldFalls world apex replica (wstep_act world replica apex (events.Step most))
unfolding wstep_act
act_falls world None apex most some all moved = absurd (false≢true moved)
act_falls world (Some replica) apex most some all moved =
    placed_falls (nat_lt (position_or_len (is_zone replica.id apex) world.zones) (length world.zones)) world replica apex most some all moved

-- ---- an event leaves the replicas of a world as they are

in_same : (world : WorldState) (event : Event) (at : ℕ) (found : Option ZoneState) → (act_in world event at found).0.replicas ≡ world.replicas
in_same world event at None = refl
in_same world event at (Some zone) = refl

at_same : (world : WorldState) (event : Event) (at : Option ℕ) → (act_at world event at).0.replicas ≡ world.replicas
at_same world event None = refl
at_same world event (Some at) = in_same world event at (slice_get world.zones at)

act_same : (world : WorldState) (replica : Option Replica) (apex : Labels) (event : Event) → (wstep_act world replica apex event).0.replicas ≡ world.replicas
unfolding wstep_act
act_same world None apex event = refl
act_same world (Some replica) apex event = at_same world event (position (is_zone replica.id apex) world.zones)

-- ---- steps of a world

abbrev left_at : WorldState → ℕ → Labels → ℕ
left_at world at apex = world_left world apex (slice_get world.replicas at)

step_at_falls : (world : WorldState) (at : ℕ) (apex : Labels) → AllSound world → is_moved (step_at world at apex).1 ≡ true → suc (left_at (step_at world at apex).0 at apex) ≤ left_at world at apex
unfolding step_at wstep
step_at_falls world at apex all moved =
    let replica : Option Replica = slice_get world.replicas at in
    let after : WorldState = (wstep_act world replica apex (events.Step step_units)).0 in
    let same : world_left after apex (slice_get after.replicas at) ≡ world_left after apex replica =
    ap (λ (replicas : List Replica). world_left after apex (slice_get replicas at)) (act_same world replica apex (events.Step step_units)) in
    let fewer : suc (world_left after apex replica) ≤ world_left world apex replica = act_falls world replica apex step_units (omega arith) all moved in
    omega arith

step_sound : (world : WorldState) (at : ℕ) (apex : Labels) → AllSound world → AllSound (step_at world at apex).0
unfolding step_at
step_sound world at apex all = event_all SoundZone zones_sound world (world_events.Act at apex (events.Step step_units)) all

-- the last answer of steps: one that doesn't go on, or that of the steps behind it
last_by : (moved : Bool) (after : WorldState × WorldAnswer) (go_on : WorldState → WorldState × WorldAnswer) → is_moved after.1 ≡ moved → (is_moved after.1 ≡ true → is_moved (go_on after.0).1 ≡ false)
    → is_moved (cond {A = WorldState × WorldAnswer} moved (go_on after.0) after).1 ≡ false
last_by true after go_on is later = later is
last_by false after go_on is later = is

none_left : (world : WorldState) (at : ℕ) (apex : Labels) (moved : Bool) → is_moved (step_at world at apex).1 ≡ moved → AllSound world → left_at world at apex ≤ 0 → moved ≡ false
none_left world at apex true is all le = let fewer = step_at_falls world at apex all is in absurd (omega (arith, fewer, le))
none_left world at apex false is all le = refl

steps_end : (left : ℕ) (world : WorldState) (at : ℕ) (apex : Labels) → AllSound world → left_at world at apex ≤ left → is_moved (steps_from left world at apex).1 ≡ false
unfolding steps_from
steps_end zero world at apex all le = none_left world at apex (is_moved (step_at world at apex).1) refl all le
steps_end (suc left) world at apex all le =
    last_by (is_moved (step_at world at apex).1) (step_at world at apex) (λ now. steps_from left now at apex) refl
    (λ moved.
    let fewer = step_at_falls world at apex all moved in
    steps_end left (step_at world at apex).0 at apex (step_sound world at apex all) (omega (arith, fewer, le)))

-- ---- a whole pass

zone_most : (zone : Option ZoneState) → zone_left zone ≤ units_in zone
zone_most None = omega arith
zone_most (Some zone) = left_most zone.pass zone.table.0

world_most : (world : WorldState) (apex : Labels) (replica : Option Replica) → world_left world apex replica ≤ units_in (zone_of_replica world apex replica)
world_most world apex None = omega arith
world_most world apex (Some replica) = zone_most (zone_of world replica.id apex)

to_end : (world : WorldState) (at : ℕ) (apex : Labels) → AllSound world → is_moved (steps_to_end world at apex).1 ≡ false
unfolding steps_to_end zone_at
to_end world at apex all =
    steps_end (units_in (zone_of_replica world apex (slice_get world.replicas at))) world at apex all (world_most world apex (slice_get world.replicas at))

-- a pass that begins doesn't go on yet
begin_by : (zone : ZoneState) (moment : ℕ) (found : Option Pass) → goes_on (outcome_of (begin_at zone moment found).1) ≡ false
begin_by zone moment None = refl
begin_by zone moment (Some pass) = refl

begin_unless_by : (running : Option Pass) (zone : ZoneState) (moment : ℕ) → goes_on (outcome_of (begin_unless running zone moment).1) ≡ false
begin_unless_by None zone moment = begin_by zone moment (new_pass_if_due zone.table moment)
begin_unless_by (Some pass) zone moment = refl

begin_in : (world : WorldState) (moment : ℕ) (at : ℕ) (found : Option ZoneState) → is_moved (act_in world (events.Begin moment) at found).1 ≡ false
unfolding zstep begin_step
begin_in world moment at None = refl
begin_in world moment at (Some zone) = begin_unless_by zone.pass zone moment

begin_at_place : (world : WorldState) (moment : ℕ) (at : Option ℕ) → is_moved (act_at world (events.Begin moment) at).1 ≡ false
begin_at_place world moment None = refl
begin_at_place world moment (Some at) = begin_in world moment at (slice_get world.zones at)

begin_of : (world : WorldState) (replica : Option Replica) (apex : Labels) (moment : ℕ) → is_moved (wstep_act world replica apex (events.Begin moment)).1 ≡ false
unfolding wstep_act
begin_of world None apex moment = refl
begin_of world (Some replica) apex moment = begin_at_place world moment (position (is_zone replica.id apex) world.zones)

began : (world : WorldState) (at : ℕ) (apex : Labels) (moment : ℕ) → is_moved (wstep world (world_events.Act at apex (events.Begin moment))).1 ≡ false
unfolding wstep
began world at apex moment = begin_of world (slice_get world.replicas at) apex moment

pass_by : (goes : Bool) (after : WorldState × WorldAnswer) (go_on : WorldState → WorldState × WorldAnswer) → is_moved after.1 ≡ false → is_moved (go_on after.0).1 ≡ false
    → is_moved (cond {A = WorldState × WorldAnswer} goes (go_on after.0) after).1 ≡ false
pass_by true after go_on first last = last
pass_by false after go_on first last = first

pass_ends : (world : WorldState) (at : ℕ) (apex : Labels) (moment : ℕ) → AllSound world → is_moved (whole_pass world at apex moment).1 ≡ false
unfolding whole_pass
pass_ends world at apex moment all =
    let begin : WorldEvent = world_events.Act at apex (events.Begin moment) in
    pass_by (is_begun (wstep world begin).1) (wstep world begin) (λ now. steps_to_end now at apex) (began world at apex moment)
    (to_end (wstep world begin).0 at apex (event_all SoundZone zones_sound world begin all))

pub whole_passes : (list : List WorldEvent) (at moment : ℕ) (apex : Labels) → is_moved (run_from (wrun list, Made) (pass_events (wrun list) at apex moment)).1 ≡ false
whole_passes list at moment apex =
    ap (λ (after : WorldState × WorldAnswer). is_moved after.1) (sym (whole_pass_runs (wrun list) at apex moment Made)) ∙ pass_ends (wrun list) at apex moment (run_sound list)

-- ---- the events of a whole pass are one

-- the others where an entry goes on, and else none
going : (goes : Bool) (Is : List Entry → Type 0) (now : WorldState) (others : List WorldEvent) → (goes ≡ true → Is (trace_from now others))
    → let events = cond {A = List WorldEvent} goes others [] in OneOrOther goes (Is (trace_from now events)) (trace_from now events ≡ [])
going true Is now others is = is refl
going false Is now others is = refl

ending : (goes : Bool) (Is : Type 0) → goes ≡ false → OneOrOther goes Is (◌≡◌ {A = List Entry} [] [])
ending true Is over = absurd (false≢true (sym over))
ending false Is over = refl

steps_over : (left : ℕ) (world : WorldState) (at : ℕ) (apex : Labels) → AllSound world → left_at world at apex ≤ left → RunsUntilOver at apex (trace_from world (step_events left world at apex))
unfolding step_events step_at
steps_over zero world at apex all le =
    let last : is_moved (step_at world at apex).1 ≡ false = none_left world at apex (is_moved (step_at world at apex).1) refl all le in
    (refl, ending (is_moved (step_at world at apex).1) (RunsUntilOver at apex []) last)
steps_over (suc left) world at apex all le = (
  refl,
  going (is_moved (step_at world at apex).1) (RunsUntilOver at apex) (step_at world at apex).0 (step_events left (step_at world at apex).0 at apex)
      (λ moved.
      let fewer = step_at_falls world at apex all moved in
      steps_over left (step_at world at apex).0 at apex (step_sound world at apex all) (omega (arith, fewer, le))),
)

pass_whole : (world : WorldState) (at moment : ℕ) (apex : Labels) → AllSound world → IsWholePass at apex moment (trace_from world (pass_events world at apex moment))
unfolding pass_events zone_at
pass_whole world at moment apex all =
    let begin : WorldEvent = begin_event at apex moment in
    let now : WorldState = (wstep world begin).0 in (
      refl,
      going (is_begun (wstep world begin).1) (RunsUntilOver at apex) now (step_events (units_in (zone_of_replica now apex (slice_get now.replicas at))) now at apex)
          (λ begun.
          steps_over (units_in (zone_of_replica now apex (slice_get now.replicas at))) now at apex (event_all SoundZone zones_sound world begin all)
          (world_most now apex (slice_get now.replicas at))),
    )

none_traced : (now : WorldState) (events : List WorldEvent) → trace_from now events ≡ [] → events ≡ []
none_traced now [] is = refl
none_traced now (event ∷ rest) is = absurd (cc)

-- what comes behind an event that two lists begin with
rest_once : (goes : Bool) (Is : List Entry → Type 0) (now : WorldState) (one other : List WorldEvent) → (Is (trace_from now one) → Is (trace_from now other) → one ≡ other)
    → OneOrOther goes (Is (trace_from now one)) (trace_from now one ≡ []) → OneOrOther goes (Is (trace_from now other)) (trace_from now other ≡ []) → one ≡ other
rest_once true Is now one other once first second = once first second
rest_once false Is now one other once first second = none_traced now one first ∙ sym (none_traced now other second)

abbrev Behind : (WorldAnswer → Bool) → (List Entry → Type 0) → WorldState → List WorldEvent → WorldEvent → Type 0
Behind goes Is world rest event = OneOrOther (goes (wstep world event).1) (Is (trace_from (wstep world event).0 rest)) (trace_from (wstep world event).0 rest ≡ [])

steps_once : (at : ℕ) (apex : Labels) (one other : List WorldEvent) (world : WorldState) → RunsUntilOver at apex (trace_from world one) → RunsUntilOver at apex (trace_from world other) → one ≡ other
steps_once at apex [] other world first second = absurd first
steps_once at apex (event ∷ rest) [] world first second = absurd second
steps_once at apex (event ∷ rest) (event_too ∷ others) world first second =
    let step : WorldEvent = step_event at apex in
    let now : WorldState = (wstep world step).0 in
    ap₂ ◌∷◌ (first.0 ∙ sym second.0)
    (rest_once (is_moved (wstep world step).1) (RunsUntilOver at apex) now rest others (λ left right. steps_once at apex rest others now left right)
    (subst (Behind is_moved (RunsUntilOver at apex) world rest) first.0 first.1) (subst (Behind is_moved (RunsUntilOver at apex) world others) second.0 second.1))

pass_once : (at moment : ℕ) (apex : Labels) (one other : List WorldEvent) (world : WorldState) → IsWholePass at apex moment (trace_from world one) → IsWholePass at apex moment (trace_from world other) → one ≡ other
pass_once at moment apex [] other world first second = absurd first
pass_once at moment apex (event ∷ rest) [] world first second = absurd second
pass_once at moment apex (event ∷ rest) (event_too ∷ others) world first second =
    let begin : WorldEvent = begin_event at apex moment in
    let now : WorldState = (wstep world begin).0 in
    ap₂ ◌∷◌ (first.0 ∙ sym second.0)
    (rest_once (is_begun (wstep world begin).1) (RunsUntilOver at apex) now rest others (λ left right. steps_once at apex rest others now left right)
    (subst (Behind is_begun (RunsUntilOver at apex) world rest) first.0 first.1) (subst (Behind is_begun (RunsUntilOver at apex) world others) second.0 second.1))

pub passes_whole : (list events : List WorldEvent) (at moment : ℕ) (apex : Labels)
    → IsWholePass at apex moment (trace_from (wrun list) events) ↔ (events ≡ pass_events (wrun list) at apex moment)
passes_whole list events at moment apex =
    let whole : IsWholePass at apex moment (trace_from (wrun list) (pass_events (wrun list) at apex moment)) = pass_whole (wrun list) at moment apex (run_sound list) in (
      λ is. pass_once at moment apex events (pass_events (wrun list) at apex moment) (wrun list) is whole,
      λ same. subst (λ (one : List WorldEvent). IsWholePass at apex moment (trace_from (wrun list) one)) (sym same) whole,
    )
