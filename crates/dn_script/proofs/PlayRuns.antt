-- A play is one run of its events.
use Rattle.std.proofs.Common.{◌≡◌, ℕ, ◌+◌, Bool, true, false, cond, List, [], ◌∷◌, ◌++◌, Option, None, Some, Result, Ok, Err, refl, ap, sym, subst, ◌∙◌}
use Rattle.std.specs.Prelude.{OnOk, slice_get}
use Rattle.dn_io.specs.Lines.{RawLine, is_overlong, lines_of, size_of, text_of}
use Rattle.dn_io.specs.Options.{◌>>=◌}
use Rattle.dn_answer.specs.Datagram.{wants_more}
use Rattle.dn_word.specs.Words.{words_of}
use Rattle.dn_word.proofs.CallerLemmas.{bound, chosen, given_is}
use Rattle.dn_world.specs.declared.event.WorldAnswer.{WorldAnswer}
use Rattle.dn_world.specs.declared.event.WorldAnswer.TheVariants.{Made}
use Rattle.dn_world.specs.declared.event.WorldEvent.{WorldEvent}
use Rattle.dn_world.specs.State.{WorldState}
use Rattle.dn_world.specs.Ask.{world_reply}
use Rattle.dn_world.specs.Datagram.{received_at, reply_to}
use Rattle.dn_world.specs.Runs.{AreProper, IsValidWorld, run_from, wrun}
use Rattle.dn_world.proofs.CallerLemmas.{run_keeps, run_then, run_valid, run_world}
use Rattle.dn_lines.specs.declared.bad.Bad.{Bad}
use Rattle.dn_script.specs.declared.line.ScriptLine.{ScriptLine}
use Rattle.dn_script.specs.declared.line.ScriptLine.TheVariants as lines
use Rattle.dn_script.specs.declared.script.Script.{Script}
use Rattle.dn_script.specs.Line.{line_of}
use Rattle.dn_script.specs.Play.{Played, Step, after_event, after_step, at_moment, besides, events_of, events_or_none, line_events, opening, output_of, play, play_lines, replica_number, replied, run_events, run_line, sent_back, step_text, text_events, with_name}
use Rattle.dn_script.specs.Play.Stepped.{Steps}
use Rattle.dn_lines.specs.Words.{does_nothing}
use Rattle.dn_script.proofs.ProperLines.{text_proper}

-- ---- one line

-- the world of what is given is this one
abbrev pub InWorld : WorldState → Script × List ℕ → Type 0
InWorld world after = after.0.world ≡ world

besides_same : (line : ScriptLine) (now after : Script × List ℕ) → besides line now ≡ Some after → InWorld now.0.world after
unfolding besides
besides_same (lines.Replica name id host) now after is = given_is (InWorld now.0.world) (with_name name now) after refl is
besides_same (lines.Create replica apex mailbox) now after is = given_is (InWorld now.0.world) now after refl is
besides_same (lines.Join replica apex) now after is = given_is (InWorld now.0.world) now after refl is
besides_same (lines.Pull replica supplier apex) now after is = given_is (InWorld now.0.world) now after refl is
besides_same (lines.Pass replica apex) now after is = given_is (InWorld now.0.world) now after refl is
besides_same (lines.Deliver packet) now after is = given_is (InWorld now.0.world) now after refl is
besides_same (lines.At moment) now after is = given_is (InWorld now.0.world) (at_moment moment now) after refl is
besides_same (lines.Admin replica apex cmd) now after is = given_is (InWorld now.0.world) now after refl is
besides_same (lines.Ask replica name qtype) now after is =
    bound (InWorld now.0.world) (replica_number now.0 replica) _
    (λ at there. bound (InWorld now.0.world) (world_reply now.0.world at name qtype) _
    (λ reply known one replies. given_is (InWorld now.0.world) (replied now reply) one refl replies)) after is
besides_same (lines.Udp replica bytes) now after is =
    bound (InWorld now.0.world) (replica_number now.0 replica) _
    (λ at there. bound (InWorld now.0.world) (slice_get now.0.world.replicas at) _
    (λ found known. chosen (InWorld now.0.world) (wants_more (received_at now.0.world at bytes)) None _ (λ one none. absurd (cc))
    (λ one replies. given_is (InWorld now.0.world) (sent_back now (reply_to now.0.world at bytes)) one refl replies))) after is

ran_same : (script : Script) (line : ScriptLine) (list : List WorldEvent) (after : Script × List ℕ) → (run_events script list >>= besides line) ≡ Some after
    → InWorld (run_from (script.world, Made) list).0 after
unfolding run_events
ran_same script line list after is =
    let world : WorldState = (run_from (script.world, Made) list).0 in
    bound (InWorld world) (after_event script (run_from (script.world, Made) list)) (besides line)
    (λ now ran one given.
    besides_same line now one given
    ∙ bound (InWorld world) (output_of (run_from (script.world, Made) list).1) _
    (λ output told it same. given_is (InWorld world) (record script { world = world }, output) it refl same) now ran) after is

line_same : (script : Script) (line : ScriptLine) (found : Option (List WorldEvent)) (after : Script × List ℕ)
    → (found >>= λ list. run_events script list >>= besides line) ≡ Some after → InWorld (run_from (script.world, Made) (events_or_none found)).0 after
line_same script line None after is = absurd (cc)
line_same script line (Some list) after is = ran_same script line list after is

line_runs : (script : Script) (line : ScriptLine) (after : Script × List ℕ) → run_line script line ≡ Some after
    → InWorld (run_from (script.world, Made) (events_or_none (events_of script line))).0 after
unfolding run_line
line_runs script line after is = line_same script line (events_of script line) after is

read_runs : (script : Script) (found : Option ScriptLine) (after : Script × List ℕ) → (found >>= run_line script) ≡ Some after
    → InWorld (run_from (script.world, Made) (line_events script found)).0 after
read_runs script None after is = absurd (cc)
read_runs script (Some line) after is = line_runs script line after is

text_by : (nothing : Bool) (script : Script) (found : Option ScriptLine) (after : Script × List ℕ)
    → cond {A = Step} nothing (Some (script, [])) (found >>= run_line script) ≡ Some after
    → InWorld (run_from (script.world, Made) (cond {A = List WorldEvent} nothing [] (line_events script found))).0 after
text_by true script found after is = given_is (InWorld script.world) (script, []) after refl is
text_by false script found after is = read_runs script found after is

pub text_runs : (script : Script) (text : List ℕ) (after : Script × List ℕ) → step_text script text ≡ Some after
    → InWorld (run_from (script.world, Made) (text_events script text)).0 after
unfolding step_text text_events
text_runs script text after is = text_by (does_nothing text) script (line_of text (words_of text)) after is

-- the world before the first line is valid
pub opening_valid : IsValidWorld opening.world
unfolding opening wrun
opening_valid = run_valid [] tt

-- a line keeps the world valid
pub text_valid : (script : Script) (text : List ℕ) (after : Script × List ℕ) → IsValidWorld script.world → step_text script text ≡ Some after → IsValidWorld after.0.world
text_valid script text after valid is =
    subst IsValidWorld (sym (text_runs script text after is)) (run_keeps (script.world, Made) (text_events script text) valid (text_proper script text))

pub step_valid : (script after : Script) (text : List ℕ) (result : Result (List ℕ) Bad) → IsValidWorld script.world → Steps result after (step_text script text) → OnOk result (IsValidWorld after.world)
step_valid script after text (Ok output) valid is = text_valid script text (after, output) valid is
step_valid script after text (Err why) valid is = tt

-- ---- all lines

-- the events of a play run to its world
abbrev Runs : Script → Played → Type 0
Runs script played = played.world ≡ (run_from (script.world, Made) played.events).0

step_runs : (number : ℕ) (script : Script) (events : List WorldEvent) (step : Step) (go_on : Script → Played)
    → ((after : Script × List ℕ) → step ≡ Some after → InWorld (run_from (script.world, Made) events).0 after) → ((now : Script) → Runs now (go_on now))
    → Runs script (after_step number script events step go_on)
step_runs number script events None go_on runs rest = refl
step_runs number script events (Some (now, output)) go_on runs rest =
    let mid : WorldState × WorldAnswer = run_from (script.world, Made) events in
    let later : List WorldEvent = (go_on now).events in
    rest now
    ∙ ap (λ (world : WorldState). (run_from (world, Made) later).0) (runs (now, output) refl)
    ∙ run_world mid.0 Made mid.1 later
    ∙ sym (ap (λ (after : WorldState × WorldAnswer). after.0) (run_then (script.world, Made) events later))

long_runs : (long : Bool) (script : Script) (one other : Played) → Runs script one → Runs script other → Runs script (cond long one other)
long_runs true script one other first second = first
long_runs false script one other first second = second

lines_run : (number before : ℕ) (list : List RawLine) (script : Script) → Runs script (play_lines number before list script)
unfolding play_lines
lines_run number before [] script = refl
lines_run number before (line ∷ rest) script =
    long_runs (is_overlong before line) script _ _ refl
    (step_runs number script (text_events script (text_of line)) (step_text script (text_of line)) (play_lines (number + 1) (before + size_of line) rest)
    (text_runs script (text_of line)) (λ now. lines_run (number + 1) (before + size_of line) rest now))

pub play_runs : (bytes : List ℕ) → (play bytes).world ≡ wrun (play bytes).events
unfolding play opening wrun
play_runs bytes = lines_run 1 0 (lines_of bytes) opening

-- ---- each event is proper

all_behind : (list others : List WorldEvent) → AreProper list → AreProper others → AreProper (list ++ others)
all_behind [] others one all = all
all_behind (event ∷ list) others one all = (one.0, all_behind list others one.1 all)

step_proper : (number : ℕ) (script : Script) (events : List WorldEvent) (step : Step) (go_on : Script → Played) → AreProper events → ((now : Script) → AreProper (go_on now).events)
    → AreProper (after_step number script events step go_on).events
step_proper number script events None go_on proper rest = tt
step_proper number script events (Some (now, output)) go_on proper rest = all_behind events (go_on now).events proper (rest now)

long_proper : (long : Bool) (one other : Played) → AreProper one.events → AreProper other.events → AreProper (cond long one other).events
long_proper true one other first second = first
long_proper false one other first second = second

lines_proper : (number before : ℕ) (list : List RawLine) (script : Script) → AreProper (play_lines number before list script).events
unfolding play_lines
lines_proper number before [] script = tt
lines_proper number before (line ∷ rest) script =
    long_proper (is_overlong before line) _ _ tt
    (step_proper number script (text_events script (text_of line)) (step_text script (text_of line)) (play_lines (number + 1) (before + size_of line) rest)
    (text_proper script (text_of line)) (λ now. lines_proper (number + 1) (before + size_of line) rest now))

pub play_proper : (bytes : List ℕ) → AreProper (play bytes).events
unfolding play
play_proper bytes = lines_proper 1 0 (lines_of bytes) opening
