-- What holds of the play of every script.
use Rattle.std.specs.Prelude.{◌≡◌, ◌↔◌, ℕ, List, ◌++◌}
use Rattle.dn_name.specs.Name.{Labels}
use Rattle.dn_world.specs.declared.event.WorldEvent.{WorldEvent}
use Rattle.dn_world.specs.Aging.{TraceAges, nothing_given}
use Rattle.dn_world.specs.Datagram.{IsReadRightly, reply_to}
use Rattle.dn_world.specs.Laws.{AnswersAlike}
use Rattle.dn_world.specs.State.{WorldState}
use Rattle.dn_world.specs.Runs.{AreProper, IsValidWorld, trace, trace_from, wrun}
use Rattle.dn_script.specs.Passes.{IsWholePass, pass_events}
use Rattle.dn_script.specs.Play.{Played}

-- A play is one run of proper events: each line was answered in the world of the events before it, and the last of these worlds
-- is valid; in it replicas with the same units answer alike, and what is replied to a datagram is read as what there is to say.
-- In its trace, and in that of whatever events come behind it, each event ages the zone that it reaches rightly, by what the
-- pass that runs there gave, be it in the play or behind it.
pub record IsOneRun (played : Played) : Type 0 where
  pub proper : AreProper played.events
  pub world : played.world ≡ wrun played.events
  pub valid : IsValidWorld played.world
  pub alike : AnswersAlike played.world
  pub aging : (more : List WorldEvent) → TraceAges nothing_given (trace (played.events ++ more))
  pub replies : (at : ℕ) (request : List ℕ) → IsReadRightly played.world at request (reply_to played.world at request)

-- In a world the events of a whole pass over a zone are the one list whose trace is a whole pass.
abbrev pub PassesAreWhole : WorldState → Type 0
PassesAreWhole world =
    (events : List WorldEvent) (at moment : ℕ) (apex : Labels)
    → IsWholePass at apex moment (trace_from world events) ↔ (events ≡ pass_events world at apex moment)
