-- A whole pass is a run of its events.
use Rattle.std.proofs.Common.{◌≡◌, ℕ, zero, suc, Bool, true, false, cond, List, [], refl, arith}
use Rattle.dn_name.specs.Name.{IsName, Labels}
use Rattle.dn_zone.specs.declared.event.Event.TheVariants.{Begin}
use Rattle.dn_world.specs.declared.event.WorldAnswer.{WorldAnswer}
use Rattle.dn_world.specs.declared.event.WorldEvent.{WorldEvent}
use Rattle.dn_world.specs.declared.event.WorldEvent.TheVariants.{Act}
use Rattle.dn_world.specs.State.{WorldState}
use Rattle.dn_world.specs.Runs.{AreProper, run_from}
use Rattle.dn_world.specs.World.{wstep, zone_at}
use Rattle.dn_script.specs.Passes.{is_begun, is_moved, pass_events, step_at, step_events, steps_from, steps_to_end, units_in, whole_pass}

-- a run of one event, and where that goes on, of the others
going_on : (goes : Bool) (after : WorldState × WorldAnswer) (whole : WorldState → WorldState × WorldAnswer) (others : WorldState → List WorldEvent)
    → ((now : WorldState) (answer : WorldAnswer) → whole now ≡ run_from (now, answer) (others now))
    → cond {A = WorldState × WorldAnswer} goes (whole after.0) after ≡ run_from after (cond {A = List WorldEvent} goes (others after.0) [])
going_on true after whole others runs = runs after.0 after.1
going_on false after whole others runs = refl

steps_run : (left : ℕ) (world : WorldState) (at : ℕ) (apex : Labels) (answer : WorldAnswer) → steps_from left world at apex ≡ run_from (world, answer) (step_events left world at apex)
unfolding steps_from step_events step_at
steps_run zero world at apex answer = refl
steps_run (suc left) world at apex answer =
    going_on (is_moved (step_at world at apex).1) (step_at world at apex) (λ now. steps_from left now at apex) (λ now. step_events left now at apex)
    (λ now last. steps_run left now at apex last)

ended : (world : WorldState) (at : ℕ) (apex : Labels) (answer : WorldAnswer) → steps_to_end world at apex ≡ run_from (world, answer) (step_events (units_in (zone_at world at apex)) world at apex)
unfolding steps_to_end
ended world at apex answer = steps_run (units_in (zone_at world at apex)) world at apex answer

pub whole_pass_runs : (world : WorldState) (at : ℕ) (apex : Labels) (moment : ℕ) (answer : WorldAnswer) → whole_pass world at apex moment ≡ run_from (world, answer) (pass_events world at apex moment)
unfolding whole_pass pass_events
whole_pass_runs world at apex moment answer =
    let begin : WorldEvent = Act at apex (Begin moment) in
    going_on (is_begun (wstep world begin).1) (wstep world begin) (λ now. steps_to_end now at apex) (λ now. step_events (units_in (zone_at now at apex)) now at apex)
    (λ now last. ended now at apex last)

-- ---- and each of its events is proper

others_proper : (goes : Bool) (others : List WorldEvent) → AreProper others → AreProper (cond {A = List WorldEvent} goes others [])
others_proper true others proper = proper
others_proper false others proper = tt

steps_proper : (left : ℕ) (world : WorldState) (at : ℕ) (apex : Labels) → IsName apex → AreProper (step_events left world at apex)
unfolding step_events
steps_proper zero world at apex named = ((named, omega arith), tt)
steps_proper (suc left) world at apex named =
    ((named, omega arith), others_proper (is_moved (step_at world at apex).1) (step_events left (step_at world at apex).0 at apex) (steps_proper left (step_at world at apex).0 at apex named))

pub pass_proper : (world : WorldState) (at : ℕ) (apex : Labels) (moment : ℕ) → IsName apex → AreProper (pass_events world at apex moment)
unfolding pass_events
pass_proper world at apex moment named =
    let after : WorldState × WorldAnswer = wstep world (Act at apex (Begin moment)) in
    ((named, tt), others_proper (is_begun after.1) (step_events (units_in (zone_at after.0 at apex)) after.0 at apex) (steps_proper (units_in (zone_at after.0 at apex)) after.0 at apex named))
