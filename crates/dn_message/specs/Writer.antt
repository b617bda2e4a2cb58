-- What a writer of replies holds, and what it does with one piece more.
use Rattle.std.specs.Prelude.{◌≡◌, ℕ, ◌+◌, ◌<◌, ◌≤◌, ◌^◌, List, length, take, drop, Result, Ok, Err}
use Rattle.std.specs.List.{AllByRecursion}
use Rattle.dn_name.specs.Name.{IsName}
use Rattle.dn_name.specs.declared.error.NoRoom.{NoRoom}
use Rattle.dn_rdata.specs.Layout.{IsData}
use Rattle.dn_rdata.specs.Types.{IN}
use Rattle.dn_message.specs.declared.reply.Question.{Question}
use Rattle.dn_message.specs.declared.reply.Reply.{Reply}
use Rattle.dn_message.specs.declared.rr.Rr.{Rr}
use Rattle.dn_message.specs.declared.counts.Counts.{Counts}
use Rattle.dn_message.specs.declared.writer.ReplyWriter.{ReplyWriter}
use Rattle.dn_message.specs.declared.writer.Section.{Section}
use Rattle.dn_message.specs.declared.writer.Section.TheVariants.{Additional, Answer, Authority}
use Rattle.dn_message.specs.Header.{header_len}
use Rattle.dn_message.specs.Pieces.{begun, body_of, bytes_of, counts_of}

-- ---- when a piece may come

-- the question comes first
pub record MayAsk (counts : Counts) : Type 0 where
  pub questions : counts.questions ≡ 0
  pub answer : counts.answer ≡ 0
  pub authority : counts.authority ≡ 0
  pub additional : counts.additional ≡ 0

-- the later sections have no row yet, and the section's count fits sixteen bits with one more
abbrev pub MayGrow : Counts → Section → Type 0
MayGrow counts Answer = (counts.answer < 65535) × (counts.authority ≡ 0) × (counts.additional ≡ 0)
MayGrow counts Authority = (counts.authority < 65535) × (counts.additional ≡ 0)
MayGrow counts Additional = counts.additional < 65535

-- one row more
abbrev pub one_more : Counts → Section → Counts
one_more counts Answer = record counts { answer = counts.answer + 1 }
one_more counts Authority = record counts { authority = counts.authority + 1 }
one_more counts Additional = record counts { additional = counts.additional + 1 }

-- a piece more is counted where it was taken
abbrev pub Counted : Result (Unit {0}) NoRoom → Counts → Counts → Counts → Type 0
Counted (Ok done) old new after = new ≡ after
Counted (Err error) old new after = new ≡ old

-- ---- what a writer holds

-- the bytes of its buffer
abbrev pub buffer : ReplyWriter → List ℕ
buffer writer = writer.out.now

-- how many these are
abbrev pub size : ReplyWriter → ℕ
size writer = length (buffer writer)

abbrev pub IsAsked : Question → Type 0
IsAsked question = IsName question.name

-- data in the wire form of their type, whose length fits sixteen bits
pub record IsRow (row : Rr) : Type 0 where
  pub named : IsName row.name
  pub class_is : row.rclass ≡ IN
  pub data_is : IsData row.rtype row.rdata
  pub len : length row.rdata < 2 ^ 16

-- the pieces are such that the grammar reads them back
pub record AreValid (reply : Reply) : Type 0 where
  pub questions : AllByRecursion IsAsked reply.questions
  pub answer : AllByRecursion IsRow reply.answer
  pub authority : AllByRecursion IsRow reply.authority
  pub additional : AllByRecursion IsRow reply.additional

-- the writer has exactly these pieces
pub record Holds (writer : ReplyWriter) (reply : Reply) : Type 0 where
  pub head_is : reply ≡ record (begun writer.head) { questions = reply.questions; answer = reply.answer; authority = reply.authority; additional = reply.additional }
  pub counts_are : writer.counts ≡ counts_of reply
  pub place_is : writer.place ≡ length (bytes_of reply)
  pub within : writer.place ≤ size writer
  pub body_is : drop header_len (take writer.place (buffer writer)) ≡ body_of reply
  pub valid : AreValid reply

-- behind the header and the pieces the buffer has the bytes that it had before the first of them
pub record KeepsRest (before : List ℕ) (writer : ReplyWriter) : Type 0 where
  pub behind_header : header_len ≤ writer.place
  pub rest : drop writer.place (buffer writer) ≡ drop writer.place before

-- with one piece more, the writer has it and it fits, or the writer is as before and it doesn't fit
abbrev pub Accepts : ReplyWriter → Result (Unit {0}) NoRoom → Reply → Reply → Type 0
Accepts new (Ok done) before after = Holds new after × (length (bytes_of after) ≤ size new)
Accepts new (Err error) before after = Holds new before × (size new < length (bytes_of after))
