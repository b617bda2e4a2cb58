-- A reply as the pieces that it is written from: what it is before the first of them, what it is with one piece more, and
-- which bytes it has.
use Rattle.std.specs.Prelude.{ℕ, ◌+◌, ◌*◌, Bool, false, if◌then◌else◌, List, [], ◌∷◌, ◌++◌, length, flat_map}
use Rattle.dn_name.specs.Name.{wire_of}
use Rattle.dn_message.specs.declared.reply.Question.{Question}
use Rattle.dn_message.specs.declared.reply.Reply.{Reply}
use Rattle.dn_message.specs.declared.rr.Rr.{Rr}
use Rattle.dn_message.specs.declared.counts.Counts.{Counts}
use Rattle.dn_message.specs.declared.writer.ReplyHead.{ReplyHead}
use Rattle.dn_message.specs.declared.writer.Section.{Section}
use Rattle.dn_message.specs.declared.writer.Section.TheVariants.{Additional, Answer, Authority}
use Rattle.dn_message.specs.Fields.{two_bytes}
use Rattle.dn_message.specs.Header.{number_of_rcode}
use Rattle.dn_message.specs.Record.{fields}

-- ---- the pieces so far

-- a reply to a query, with nothing behind its header
abbrev pub begun : ReplyHead → Reply
begun head = record {
  id = head.id;
  opcode = 0;
  aa = head.aa;
  tc = head.tc;
  rd = head.rd;
  ra = false;
  z = 0;
  rcode = number_of_rcode head.rcode;
  questions = [];
  answer = [];
  authority = [];
  additional = [];
}

abbrev pub with_question : Reply → Question → Reply
with_question reply question = record reply { questions = reply.questions ++ question ∷ [] }

-- one row more, at the end of a section
abbrev pub with_row : Reply → Section → Rr → Reply
with_row reply Answer row = record reply { answer = reply.answer ++ row ∷ [] }
with_row reply Authority row = record reply { authority = reply.authority ++ row ∷ [] }
with_row reply Additional row = record reply { additional = reply.additional ++ row ∷ [] }

abbrev pub counts_of : Reply → Counts
counts_of reply = record {
  questions = length reply.questions;
  answer = length reply.answer;
  authority = length reply.authority;
  additional = length reply.additional;
}

-- ---- their bytes

unfoldable pub question_bytes : Question → List ℕ
question_bytes question = wire_of question.name ++ (two_bytes question.qtype ++ two_bytes question.qclass)

-- names without pointers
unfoldable pub row_bytes : Rr → List ℕ
row_bytes row = wire_of row.name ++ (fields row.rtype row.rclass row.ttl (length row.rdata) ++ row.rdata)

-- what stands behind the header
unfoldable pub body_of : Reply → List ℕ
body_of reply =
    flat_map question_bytes reply.questions ++ (flat_map row_bytes reply.answer ++ (flat_map row_bytes reply.authority ++ flat_map row_bytes reply.additional))

abbrev pub bit : Bool → ℕ
bit b = if b then 1 else 0

-- QR, and the rest as the reply says it (RFC 1035 4.1.1)
abbrev pub flags_of : Reply → ℕ
flags_of reply =
    32768 + 2048 * reply.opcode + 1024 * bit reply.aa + 512 * bit reply.tc + 256 * bit reply.rd + 128 * bit reply.ra + 16 * reply.z + reply.rcode

-- the number, the flags, and the four counts
abbrev pub header_with : ℕ → ℕ → Counts → List ℕ
header_with number flags counts =
    two_bytes number ++ (two_bytes flags ++ (two_bytes counts.questions ++ (two_bytes counts.answer ++ (two_bytes counts.authority ++ two_bytes counts.additional))))

abbrev pub header_of : Reply → List ℕ
header_of reply = header_with reply.id (flags_of reply) (counts_of reply)

unfoldable pub bytes_of : Reply → List ℕ
bytes_of reply = header_of reply ++ body_of reply
