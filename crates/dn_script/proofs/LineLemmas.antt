-- What the bodies of single lines need of their definitions.
use Rattle.std.proofs.Common.{◌≡◌, ℕ, if◌then◌else◌, List, [], ◌∷◌, None, Some, Result, Ok, Err, refl, ap, sym, subst, ◌∙◌}
use Rattle.std.specs.Prelude.{slice_get}
use Rattle.dn_io.specs.Options.{◌>>=◌}
use Rattle.dn_name.specs.Name.{Labels}
use Rattle.dn_answer.specs.Datagram.{wants_more}
use Rattle.dn_word.specs.Print.{as_line}
use Rattle.dn_world.specs.declared.event.WorldAnswer.{WorldAnswer}
use Rattle.dn_world.specs.declared.event.WorldAnswer.TheVariants.{Made}
use Rattle.dn_world.specs.declared.event.WorldEvent.TheVariants.{Deliver}
use Rattle.dn_world.specs.State.{WorldState}
use Rattle.dn_world.specs.Ask.{world_reply}
use Rattle.dn_world.specs.Datagram.{received_at, reply_to}
use Rattle.dn_world.specs.Runs.{run_from}
use Rattle.dn_lines.specs.declared.bad.Bad.{Bad}
use Rattle.dn_lines.specs.declared.bad.Bad.TheVariants as bad
use Rattle.dn_script.specs.declared.line.ScriptLine.TheVariants as lines
use Rattle.dn_script.specs.declared.script.Script.{Script}
use Rattle.dn_script.specs.Passes.{pass_events, whole_pass}
use Rattle.dn_script.specs.Play.{Step, after_event, besides, events_of, output_of, replica_number, run_events, run_line}
use Rattle.dn_script.specs.Play.Stepped.{GivesOrLacks, Steps}
use Rattle.dn_script.specs.Print.{datagram_text}
use Rattle.dn_script.specs.PrintReply.{reply_text}
use Rattle.dn_script.proofs.PassRuns.{whole_pass_runs}

-- ---- passes

the_same : (step : Step) → (step >>= λ after. Some after) ≡ step
the_same None = refl
the_same (Some after) = refl

pass_line : (script : Script) (replica : List ℕ) (apex : Labels) (at : ℕ) → replica_number script replica ≡ Some at
    → run_line script (lines.Pass replica apex) ≡ after_event script (whole_pass script.world at apex script.moment)
unfolding run_line events_of run_events besides
pass_line script replica apex at is =
    rw is
    (the_same (after_event script (run_from (script.world, Made) (pass_events script.world at apex script.moment)))
    ∙ ap (after_event script) (sym (whole_pass_runs script.world at apex script.moment Made)))

told : (result : Result (List ℕ) Bad) (script : Script) (after : WorldState × WorldAnswer) → GivesOrLacks result (output_of after.1) → Steps result (record script { world = after.0 }) (after_event script after)
told (Ok output) script after gives = rw gives refl
told (Err bad.Line) script after gives = rw gives refl
told (Err bad.Memory) script after gives = tt

-- a pass that was run and whose answer was told
pub pass_steps : (script : Script) (replica : List ℕ) (apex : Labels) (at : ℕ) (after : WorldState × WorldAnswer) (result : Result (List ℕ) Bad) → replica_number script replica ≡ Some at
    → whole_pass script.world at apex script.moment ≡ after → GivesOrLacks result (output_of after.1)
    → Steps result (record script { world = after.0 }) (run_line script (lines.Pass replica apex))
pass_steps script replica apex at after result its_number ran gives =
    subst (Steps result (record script { world = after.0 })) (sym (pass_line script replica apex at its_number ∙ ap (after_event script) ran)) (told result script after gives)

-- ---- packets

-- a delivery has one event
pub deliver_line : (script : Script) (packet : ℕ) → run_line script (lines.Deliver packet) ≡ run_events script (Deliver packet ∷ [])
unfolding run_line events_of besides
deliver_line script packet = the_same (run_events script (Deliver packet ∷ []))

-- ---- moments

-- a moment has no events
pub at_line : (script : Script) (moment : ℕ) → run_line script (lines.At moment) ≡ Some (record script { moment = moment }, [])
unfolding run_line events_of run_events besides output_of
at_line script moment = refl

-- ---- questions

-- a question has no events
pub ask_line : (script : Script) (replica : List ℕ) (name : Labels) (qtype : ℕ)
    → run_line script (lines.Ask replica name qtype)
    ≡ (replica_number script replica >>= λ at. world_reply script.world at name qtype >>= λ reply. Some (script, reply_text reply))
unfolding run_line events_of run_events besides output_of
ask_line script replica name qtype = refl

-- ---- datagrams

-- a datagram has no events
pub udp_line : (script : Script) (replica bytes : List ℕ)
    → run_line script (lines.Udp replica bytes)
    ≡ (replica_number script replica >>= λ at. slice_get script.world.replicas at >>= λ there.
    if wants_more (received_at script.world at bytes) then None else Some (script, as_line (datagram_text (reply_to script.world at bytes))))
unfolding run_line events_of run_events besides output_of
udp_line script replica bytes = refl
