-- What lines with a question or a datagram give.
use Rattle.std.proofs.Common.{◌≡◌, ℕ, ◌<◌, ◌≤◌, true, false, List, length, None, Some, inl, inr, refl, sym, ap, ◌∙◌, arith}
use Rattle.std.proofs.lemmas.Option.{slice_get_cases, slice_get_past}
use Rattle.std.specs.Prelude.{slice_get}
use Rattle.dn_name.specs.Name.{Labels}
use Rattle.dn_message.specs.declared.kind.Kind.TheVariants as kinds
use Rattle.dn_message.specs.declared.reply.Reply.{Reply}
use Rattle.dn_message.specs.Kind.{kind_of}
use Rattle.dn_message.specs.Query.{IsQuery}
use Rattle.dn_message.specs.Reply.{IsReply}
use Rattle.dn_answer.specs.declared.reply.AnswerValue.{AnswerValue}
use Rattle.dn_answer.specs.Datagram.{reply_among, wants_more}
use Rattle.dn_answer.specs.Told.{value_of}
use Rattle.dn_answer.proofs.CallerLemmas.{Says, told_to}
use Rattle.dn_word.specs.Print.{as_line}
use Rattle.dn_world.specs.State.{WorldState}
use Rattle.dn_world.specs.Ask.{world_reply}
use Rattle.dn_world.specs.Datagram.{IsReadRightly, received_at, reply_to, zones_at}
use Rattle.dn_script.specs.declared.line.ScriptLine.TheVariants as lines
use Rattle.dn_script.specs.declared.script.Script.{Script}
use Rattle.dn_script.specs.Asking.{question_of}
use Rattle.dn_script.specs.Play.{Step, replica_number, run_line}
use Rattle.dn_script.specs.Print.{datagram_text}
use Rattle.dn_script.specs.PrintReply.{reply_text}
use Rattle.dn_script.proofs.LineLemmas.{ask_line, udp_line}

-- a place of a list has something
there_is : {X : Type 0} (list : List X) (at : ℕ) → at < length list → (one : X) × (slice_get list at ≡ Some one)
there_is list at within =
    elim (slice_get_cases list at).1 [
      | inl found ↦ (found.0, found.2)
      | inr past ↦ absurd (omega (arith, past.0))
    ]

-- ---- questions

-- a replica has a reply to each question
reply_there : (world : WorldState) (at : ℕ) (name : Labels) (qtype : ℕ) → at < length world.replicas → world_reply world at name qtype ≡ Some (reply_among (zones_at world at) name qtype)
unfolding world_reply zones_at
reply_there world at name qtype within = rw (there_is world.replicas at within).1 refl

module _ (world : WorldState) (at : ℕ) (within : at < length world.replicas) (name : Labels) (qtype : ℕ) (request reply : List ℕ) (kind : kind_of request ≡ kinds.Query)
    (is : IsQuery request (question_of name qtype)) (read : IsReadRightly world at request reply) where
  says : Says reply (reply_among (zones_at world at) name qtype)
  says = told_to (zones_at world at) request reply (question_of name qtype) kind is refl refl read

  -- the bytes are read as a reply that says something
  pub value_there : (reading : Reply) × (value : AnswerValue) × IsReply reply reading × (value_of reading ≡ Some value)
  value_there = (says.read, reply_among (zones_at world at) name qtype, says.is, says.value_is)

  -- and what they say is the replica's reply
  pub value_is : (value : AnswerValue) → ((reading : Reply) → IsReply reply reading → value_of reading ≡ Some value) → world_reply world at name qtype ≡ Some value
  value_is value gives = reply_there world at name qtype within ∙ sym says.value_is ∙ gives says.read says.is

module _ (script : Script) (replica : List ℕ) (at : ℕ) (number : replica_number script replica ≡ Some at) where
  -- the script behind a line that changes nothing in it
  same_script : (now : WorldState) → now ≡ script.world → (text told : List ℕ) → text ≡ told
      → ◌≡◌ {A = Step} (Some (script, told)) (Some (record { names = script.names; world = now; moment = script.moment }, text))
  same_script now stays text told is = λ i. Some (record { names = script.names; world = sym stays i; moment = script.moment }, sym is i)

  pub ask_missing : (name : Labels) (qtype : ℕ) → length script.world.replicas ≤ at → run_line script (lines.Ask replica name qtype) ≡ None
  unfolding world_reply
  ask_missing name qtype past = ask_line script replica name qtype ∙ rw (number, slice_get_past script.world.replicas at past) refl

  pub ask_done : (name : Labels) (qtype : ℕ) (value : AnswerValue) → world_reply script.world at name qtype ≡ Some value → (now : WorldState) → now ≡ script.world
      → (text : List ℕ) → text ≡ reply_text value
      → run_line script (lines.Ask replica name qtype) ≡ Some (record { names = script.names; world = now; moment = script.moment }, text)
  ask_done name qtype value replies now stays text is =
      ask_line script replica name qtype ∙ (rw (number, replies) refl) ∙ same_script now stays text (reply_text value) is

  -- ---- datagrams

  pub udp_missing : (bytes : List ℕ) → length script.world.replicas ≤ at → run_line script (lines.Udp replica bytes) ≡ None
  udp_missing bytes past = udp_line script replica bytes ∙ rw (number, slice_get_past script.world.replicas at past) refl

  pub udp_wanting : (bytes : List ℕ) → at < length script.world.replicas → wants_more (received_at script.world at bytes) ≡ true → run_line script (lines.Udp replica bytes) ≡ None
  udp_wanting bytes within wants = udp_line script replica bytes ∙ rw (number, (there_is script.world.replicas at within).1, wants) refl

  pub udp_done : (bytes : List ℕ) → at < length script.world.replicas → wants_more (received_at script.world at bytes) ≡ false → (now : WorldState) → now ≡ script.world
      → (reply text : List ℕ) → reply ≡ reply_to script.world at bytes → text ≡ as_line (datagram_text reply)
      → run_line script (lines.Udp replica bytes) ≡ Some (record { names = script.names; world = now; moment = script.moment }, text)
  udp_done bytes within done now stays reply text replies is =
      udp_line script replica bytes ∙ (rw (number, (there_is script.world.replicas at within).1, done) refl)
      ∙ same_script now stays text (as_line (datagram_text (reply_to script.world at bytes))) (is ∙ ap (λ bs. as_line (datagram_text bs)) replies)
