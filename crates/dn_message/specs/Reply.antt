-- The grammar of a reply (RFC 1035 4.1).
use Rattle.std.specs.Prelude.{◌≡◌, ℕ, ◌+◌, true, List, ◌++◌, length}
use Rattle.dn_name.specs.Spelled.{Spelled}
use Rattle.dn_rdata.specs.Laid.{Stands}
use Rattle.dn_message.specs.declared.reply.Question.{Question}
use Rattle.dn_message.specs.declared.reply.Reply.{Reply}
use Rattle.dn_message.specs.Fields.{two_bytes}
use Rattle.dn_message.specs.Header.{IsHeader, is_authoritative, is_recursion_available, is_recursion_desired, is_reply, is_truncated, opcode, rcode_in, zero_bits}
use Rattle.dn_message.specs.Record.{AreRrs, Follow, typed_data}

-- what the flags say, each bit by its place (RFC 1035 4.1.1)
pub record FlagsSay (flags : ℕ) (reply : Reply) : Type 0 where
  pub qr_is : is_reply flags ≡ true
  pub opcode_is : reply.opcode ≡ opcode flags
  pub aa_is : reply.aa ≡ is_authoritative flags
  pub tc_is : reply.tc ≡ is_truncated flags
  pub rd_is : reply.rd ≡ is_recursion_desired flags
  pub ra_is : reply.ra ≡ is_recursion_available flags
  pub z_is : reply.z ≡ zero_bits flags
  pub rcode_is : reply.rcode ≡ rcode_in flags

-- a question stands at a place of the message, and `next` is the place behind it (RFC 1035 4.1.2)
pub record IsQuestion (message : List ℕ) (at : ℕ) (question : Question) (next : ℕ) : Type 0 where
  pub behind : ℕ
  pub name_spelled : Spelled message at question.name behind
  pub type_and_class : Stands message behind (two_bytes question.qtype ++ two_bytes question.qclass) (behind + 4)
  pub next_is : next ≡ behind + 4

-- questions one behind the other, from a place up to another
abbrev pub AreQuestions : List ℕ → ℕ → List Question → ℕ → Type 0
AreQuestions message = Follow (IsQuestion message)

-- All bytes of the message are this reply: the header with the flags and the four counts, and then the four sections, behind
-- which nothing stands.
pub record IsReply (message : List ℕ) (reply : Reply) : Type 0 where
  pub flags : ℕ
  pub header : IsHeader message reply.id flags (length reply.questions) (length reply.answer) (length reply.authority) (length reply.additional)
  pub flags_say : FlagsSay flags reply
  pub answer_at : ℕ
  pub authority_at : ℕ
  pub additional_at : ℕ
  pub questions : AreQuestions message 12 reply.questions answer_at
  pub answer : AreRrs typed_data message answer_at reply.answer authority_at
  pub authority : AreRrs typed_data message authority_at reply.authority additional_at
  pub additional : AreRrs typed_data message additional_at reply.additional (length message)
