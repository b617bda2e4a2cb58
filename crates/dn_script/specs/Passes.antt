-- A whole pass of the scavenger over a zone of a replica, as one line of a script runs it.
use Rattle.std.specs.Prelude.{◌≡◌, ℕ, zero, suc, Bool, true, false, if◌then◌else◌, List, [], ◌∷◌, length, Option, None, Some}
use Rattle.dn_name.specs.Name.{Labels}
use Rattle.dn_zone.specs.declared.event.Event.TheVariants.{Begin, Step}
use Rattle.dn_zone.specs.State.{ZoneState}
use Rattle.dn_zone.specs.Outcome.{StepOutcome, IsOther, goes_on, has_begun, outcome_of}
use Rattle.dn_world.specs.declared.event.WorldAnswer.{WorldAnswer}
use Rattle.dn_world.specs.declared.event.WorldAnswer.TheVariants as world
use Rattle.dn_world.specs.declared.event.WorldEvent.{WorldEvent}
use Rattle.dn_world.specs.declared.event.WorldEvent.TheVariants.{Act}
use Rattle.dn_world.specs.State.{WorldState}
use Rattle.dn_world.specs.Runs.{Entry}
use Rattle.dn_world.specs.World.{wstep, zone_at}

-- what the world's answer says of the pass of a zone
abbrev pub outcome : WorldAnswer → StepOutcome
outcome world.Made = IsOther
outcome (world.Zone answer) = outcome_of answer
outcome (world.Sent packet) = IsOther
outcome (world.No why) = IsOther

abbrev pub is_begun : WorldAnswer → Bool
is_begun answer = has_begun (outcome answer)

abbrev pub is_moved : WorldAnswer → Bool
is_moved answer = goes_on (outcome answer)

-- how many units a step of a whole pass looks at
abbrev pub step_units : ℕ
step_units = 64

unfoldable pub step_at : WorldState → ℕ → Labels → WorldState × WorldAnswer
step_at world at apex = wstep world (Act at apex (Step step_units))

abbrev pub while_moved : WorldState × WorldAnswer → (WorldState → WorldState × WorldAnswer) → WorldState × WorldAnswer
while_moved after go_on = if is_moved after.1 then go_on after.0 else after

-- a step, and others while the answer is `moved`, at most so many
unfoldable pub steps_from : ℕ → WorldState → ℕ → Labels → WorldState × WorldAnswer
steps_from zero world at apex = step_at world at apex
steps_from (suc left) world at apex = while_moved (step_at world at apex) (λ now. steps_from left now at apex)

abbrev pub units_in : Option ZoneState → ℕ
units_in None = 0
units_in (Some zone) = length zone.table.0

-- Steps until an answer isn't `moved`. Each that is goes past a unit of the zone, so as many as it has units are enough.
unfoldable pub steps_to_end : WorldState → ℕ → Labels → WorldState × WorldAnswer
steps_to_end world at apex = steps_from (units_in (zone_at world at apex)) world at apex

abbrev pub when_begun : WorldState × WorldAnswer → (WorldState → WorldState × WorldAnswer) → WorldState × WorldAnswer
when_begun after go_on = if is_begun after.1 then go_on after.0 else after

-- A pass at a moment: it begins, and where it does, it is run to its end. The last answer counts.
unfoldable pub whole_pass : WorldState → ℕ → Labels → ℕ → WorldState × WorldAnswer
whole_pass world at apex moment = when_begun (wstep world (Act at apex (Begin moment))) (λ now. steps_to_end now at apex)

-- ---- the same as a list of events, and as a part of a trace

abbrev pub begin_event : ℕ → Labels → ℕ → WorldEvent
begin_event at apex moment = Act at apex (Begin moment)

abbrev pub step_event : ℕ → Labels → WorldEvent
step_event at apex = Act at apex (Step step_units)

abbrev pub OneOrOther : Bool → Type 0 → Type 0 → Type 0
OneOrOther true One Other = One
OneOrOther false One Other = Other

-- Steps of a pass, each but the last answered `moved`, and the last not.
abbrev pub RunsUntilOver : ℕ → Labels → List Entry → Type 0
RunsUntilOver at apex [] = ⊥
RunsUntilOver at apex (entry ∷ rest) =
    (entry.event ≡ step_event at apex) × OneOrOther (is_moved entry.answer) (RunsUntilOver at apex rest) (rest ≡ [])

-- A whole pass: its begin and, where that is answered `begun`, steps until it is over; else nothing more.
abbrev pub IsWholePass : ℕ → Labels → ℕ → List Entry → Type 0
IsWholePass at apex moment [] = ⊥
IsWholePass at apex moment (entry ∷ rest) =
    (entry.event ≡ begin_event at apex moment) × OneOrOther (is_begun entry.answer) (RunsUntilOver at apex rest) (rest ≡ [])

abbrev pub others_while_moved : WorldState × WorldAnswer → (WorldState → List WorldEvent) → List WorldEvent
others_while_moved after go_on = if is_moved after.1 then go_on after.0 else []

-- a step, and others while the answer is `moved`, at most so many
unfoldable pub step_events : ℕ → WorldState → ℕ → Labels → List WorldEvent
step_events zero world at apex = step_event at apex ∷ []
step_events (suc left) world at apex =
    step_event at apex ∷ others_while_moved (step_at world at apex) (λ now. step_events left now at apex)

abbrev pub others_when_begun : WorldState × WorldAnswer → (WorldState → List WorldEvent) → List WorldEvent
others_when_begun after go_on = if is_begun after.1 then go_on after.0 else []

-- The events of a whole pass in a world. The number of the zone's units is the reason that they end, and cuts none off: they
-- are the one list whose trace is a whole pass.
unfoldable pub pass_events : WorldState → ℕ → Labels → ℕ → List WorldEvent
pass_events world at apex moment =
    let begin = begin_event at apex moment in
    begin ∷ others_when_begun (wstep world begin) (λ now. step_events (units_in (zone_at now at apex)) now at apex)
