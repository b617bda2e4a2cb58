-- What a script does: the events of its lines, what it prints, and how it ends.
pub mod Stepped
use Rattle.std.specs.Prelude.{◌≡◌, ℕ, ◌+◌, Bool, not, if◌then◌else◌, nat_eq, List, [], ◌∷◌, ◌++◌, position, slice_get, Option, None, Some}
use Rattle.std.specs.List.{list_any}
use Rattle.std.specs.Io.KnownBytes.{Appends}
use lib.Pointwise.{pointwise}
use Rattle.dn_io.specs.declared.status.Status.{Status}
use Rattle.dn_io.specs.declared.status.Status.TheVariants.{Done, BadLine, Usage, ReadFault, WriteFault, OutOfMemory, TooLong, LinkFault}
use Rattle.dn_io.specs.Lines.{RawLine, is_overlong, lines_of, size_of, text_of}
use Rattle.dn_io.specs.Moments.{first_moment}
use Rattle.dn_io.specs.Options.{◌>>=◌}
use Rattle.dn_io.specs.Outside.{AppendsFront}
use Rattle.dn_answer.specs.declared.reply.AnswerValue.{AnswerValue}
use Rattle.dn_answer.specs.Datagram.{wants_more}
use Rattle.dn_zone.specs.declared.event.Event.TheVariants.{Admin}
use Rattle.dn_world.specs.declared.event.WorldAnswer.{WorldAnswer}
use Rattle.dn_world.specs.declared.event.WorldAnswer.TheVariants as world
use Rattle.dn_world.specs.declared.event.WorldEvent.{WorldEvent}
use Rattle.dn_world.specs.declared.event.WorldEvent.TheVariants.{Act, Create, Deliver, Join, Pull, Replica}
use Rattle.dn_world.specs.State.{WorldState}
use Rattle.dn_world.specs.Ask.{world_reply}
use Rattle.dn_world.specs.Datagram.{received_at, reply_to}
use Rattle.dn_world.specs.Runs.{run_from}
use Rattle.dn_world.specs.World.{empty_world}
use Rattle.dn_word.specs.Print.{as_line}
use Rattle.dn_word.specs.Words.{words_of}
use Rattle.dn_admin.specs.Answers.{answer_text}
use Rattle.dn_lines.specs.Said.{Ending, AtEnd, Bad, Long}
use Rattle.dn_script.specs.declared.line.ScriptLine.{ScriptLine}
use Rattle.dn_script.specs.declared.line.ScriptLine.TheVariants as lines
use Rattle.dn_script.specs.declared.script.Script.{Script}
use Rattle.dn_script.specs.Line.{line_of}
use Rattle.dn_script.specs.Passes.{pass_events}
use Rattle.dn_script.specs.Print.{datagram_text, packet_text}
use Rattle.dn_script.specs.PrintReply.{reply_text}
use Rattle.dn_lines.specs.Words.{does_nothing}

-- the script before its first line: no replica, and hour 1
unfoldable pub opening : Script
opening = record { names = []; world = empty_world; moment = first_moment }

abbrev pub is_named : List ℕ → List ℕ → Bool
is_named name other = pointwise nat_eq name other

-- the number of the replica of a name
unfoldable pub replica_number : Script → List ℕ → Option ℕ
replica_number script name = position (is_named name) script.names

-- a line's output, where the line is valid, and the script behind it
abbrev pub Step : Type 0
Step = Option (Script × List ℕ)

-- the line of output of an answer; none where the event is refused
unfoldable pub output_of : WorldAnswer → Option (List ℕ)
output_of world.Made = Some []
output_of (world.Zone answer) = Some (as_line (answer_text answer))
output_of (world.Sent packet) = Some (as_line (packet_text packet))
output_of (world.No why) = None

-- a refused event makes its line invalid
abbrev pub after_event : Script → WorldState × WorldAnswer → Step
after_event script after = do
  output ← output_of after.1
  Some (record script { world = after.0 }, output)

-- events in turn: the world of the last entry of their trace, and the line of output of its answer
unfoldable pub run_events : Script → List WorldEvent → Step
run_events script events = after_event script (run_from (script.world, world.Made) events)

-- ---- a line in the script so far

abbrev pub is_new_name : Script → List ℕ → Bool
is_new_name script name = not (list_any (is_named name) script.names)

-- The events of a line; none at all where it names a replica that isn't there, or makes one of a name that is.
unfoldable pub events_of : Script → ScriptLine → Option (List WorldEvent)
events_of script (lines.Replica name id host) = if is_new_name script name then Some (Replica id host ∷ []) else None
events_of script (lines.Create replica apex mailbox) = do
  at ← replica_number script replica
  Some (Create at apex mailbox script.moment ∷ [])
events_of script (lines.Join replica apex) = do
  at ← replica_number script replica
  Some (Join at apex ∷ [])
events_of script (lines.Pull replica supplier apex) = do
  by ← replica_number script replica
  of ← replica_number script supplier
  Some (Pull by of apex ∷ [])
events_of script (lines.Pass replica apex) = do
  at ← replica_number script replica
  Some (pass_events script.world at apex script.moment)
events_of script (lines.Deliver packet) = Some (Deliver packet ∷ [])
events_of script (lines.At moment) = Some []
events_of script (lines.Admin replica apex cmd) = do
  at ← replica_number script replica
  Some (Act at apex (Admin cmd script.moment) ∷ [])
events_of script (lines.Ask replica name qtype) = Some []
events_of script (lines.Udp replica bytes) = Some []

abbrev pub with_name : List ℕ → Script × List ℕ → Script × List ℕ
with_name name (script, output) = (record script { names = script.names ++ name ∷ [] }, output)

abbrev pub at_moment : ℕ → Script × List ℕ → Script × List ℕ
at_moment moment (script, output) = (record script { moment = moment }, output)

abbrev pub replied : Script × List ℕ → AnswerValue → Script × List ℕ
replied (script, output) reply = (script, output ++ reply_text reply)

-- what came back to a datagram
abbrev pub sent_back : Script × List ℕ → List ℕ → Script × List ℕ
sent_back (script, output) reply = (script, output ++ as_line (datagram_text reply))

-- What a line does besides its events: a replica has its name, the moment is set, a question or a datagram is answered. A
-- datagram that replicas can't answer yet is no line.
unfoldable pub besides : ScriptLine → Script × List ℕ → Step
besides (lines.Replica name id host) after = Some (with_name name after)
besides (lines.Create replica apex mailbox) after = Some after
besides (lines.Join replica apex) after = Some after
besides (lines.Pull replica supplier apex) after = Some after
besides (lines.Pass replica apex) after = Some after
besides (lines.Deliver packet) after = Some after
besides (lines.At moment) after = Some (at_moment moment after)
besides (lines.Admin replica apex cmd) after = Some after
besides (lines.Ask replica name qtype) after = do
  at ← replica_number after.0 replica
  reply ← world_reply after.0.world at name qtype
  Some (replied after reply)
besides (lines.Udp replica bytes) after = do
  at ← replica_number after.0 replica
  there ← slice_get after.0.world.replicas at
  if wants_more (received_at after.0.world at bytes) then None else Some (sent_back after (reply_to after.0.world at bytes))

-- a line runs its events
unfoldable pub run_line : Script → ScriptLine → Step
run_line script line = do
  events ← events_of script line
  after ← run_events script events
  besides line after

-- The step of a script by the text of a line: none where the line isn't valid.
unfoldable pub step_text : Script → List ℕ → Step
step_text script text =
    if does_nothing text then Some (script, []) else line_of text (words_of text) >>= run_line script

abbrev pub events_or_none : Option (List WorldEvent) → List WorldEvent
events_or_none None = []
events_or_none (Some events) = events

abbrev pub line_events : Script → Option ScriptLine → List WorldEvent
line_events script None = []
line_events script (Some line) = events_or_none (events_of script line)

-- the events of a line by its text
unfoldable pub text_events : Script → List ℕ → List WorldEvent
text_events script text = if does_nothing text then [] else line_events script (line_of text (words_of text))

-- What a script does: the events of its valid lines, what it prints, the world behind them, and how it ends.
pub record Played : Type 0 where
  pub events : List WorldEvent
  pub text : List ℕ
  pub world : WorldState
  pub ending : Ending

abbrev pub ends : Script → Ending → Played
ends script ending = record { events = []; text = []; world = script.world; ending = ending }

abbrev pub printing : List WorldEvent → List ℕ → Played → Played
printing events output rest = record rest { events = events ++ rest.events; text = output ++ rest.text }

abbrev pub after_step : ℕ → Script → List WorldEvent → Step → (Script → Played) → Played
after_step number script events None go_on = ends script (Bad number)
after_step number script events (Some (now, output)) go_on = printing events output (go_on now)

-- The play of lines, of which the first has this number and so many bytes of the input before it.
unfoldable pub play_lines : ℕ → ℕ → List RawLine → Script → Played
play_lines number before [] script = ends script AtEnd
play_lines number before (line ∷ rest) script =
    if is_overlong before line then ends script Long
    else after_step number script (text_events script (text_of line)) (step_text script (text_of line)) (play_lines (number + 1) (before + size_of line) rest)

-- the play of a whole script
unfoldable pub play : List ℕ → Played
play bytes = play_lines 1 0 (lines_of bytes) opening

-- A run with this status wrote what the play says. Here `left` is what is left of the input, and `before` and `now` are
-- what was written, where the sink tells it.
abbrev pub Ended : Played → Status → List ℕ → Option (List ℕ) → Option (List ℕ) → Type 0
Ended played Done left before now = (played.ending ≡ AtEnd) × (left ≡ []) × Appends before now played.text
Ended played (BadLine number) left before now = (played.ending ≡ Bad number) × Appends before now played.text
Ended played TooLong left before now = (played.ending ≡ Long) × Appends before now played.text
Ended played ReadFault left before now = AppendsFront before now played.text
Ended played WriteFault left before now = AppendsFront before now played.text
Ended played OutOfMemory left before now = AppendsFront before now played.text
Ended played Usage left before now = ⊥
Ended played LinkFault left before now = ⊥
