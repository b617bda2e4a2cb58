-- What a message spells it spells once, as its names are spelled once.
use Rattle.std.proofs.Common.{◌≡◌, ℕ, ◌+◌, List, [], ◌∷◌, length, drop, Option, None, Some, refl, sym, ap, ap₂, subst, ◌∙◌, arith}
use Rattle.std.specs.List.{filter, list_any}
use Rattle.dn_name.specs.Name.{Labels}
use Rattle.dn_name.specs.Spelled.{IsSpelledOnce, Spelled}
use Rattle.dn_rdata.specs.Laid.{Stands}
use Rattle.dn_rdata.proofs.CallerLemmas.{parts_once}
use Rattle.dn_message.specs.declared.additional.Seen.{Seen}
use Rattle.dn_message.specs.declared.counts.Counts.{Counts}
use Rattle.dn_message.specs.declared.header.QueryHeader.{QueryHeader}
use Rattle.dn_message.specs.declared.header.ReplyHeader.{ReplyHeader}
use Rattle.dn_message.specs.declared.query.Opt.{Opt}
use Rattle.dn_message.specs.declared.record.RecordHead.{RecordHead}
use Rattle.dn_message.specs.declared.reply.Question.{Question}
use Rattle.dn_message.specs.declared.rr.Rr.{Rr}
use Rattle.dn_message.specs.declared.sections.Sections.{Sections}
use Rattle.dn_message.specs.Fields.{two_bytes}
use Rattle.dn_message.specs.Laws.{IsQueryOnce, IsReplyOnce}
use Rattle.dn_message.specs.Query.{HasOpt, is_opt, is_signature, opt_of}
use Rattle.dn_message.specs.Reading.{Completes, IsHead, IsQueryHeader, IsTypeAndClass, head_of}
use Rattle.dn_message.specs.Record.{Follow, Form, IsRr, any_data, typed_data}
use Rattle.dn_message.specs.Reply.{IsQuestion}
use Rattle.dn_message.specs.ReplyReading.{AreEntries, AreSections, IsReplyHeader}
use Rattle.dn_message.proofs.FieldLemmas.{kind_found, number_found}
use Rattle.dn_message.proofs.QueryLemmas.{query_found, unseen}
use Rattle.dn_message.proofs.QuestionLemmas.{question_found}
use Rattle.dn_message.proofs.RecordLemmas.{head_found, head_in, row_found}
use Rattle.dn_message.proofs.ReplyLemmas.{header_in, header_of, reply_found, sections_in, sections_of}
use Rattle.dn_message.proofs.SectionLemmas.{sections_found}

-- ---- entries that stand once follow each other once

module _ {Entry : Type 0} (Is : ℕ → Entry → ℕ → Type 0)
    (only : (at : ℕ) (entry : Entry) (next : ℕ) → Is at entry next → (other : Entry × ℕ) → Is at other.0 other.1 → other ≡ (entry, next)) where
  follow_once : (at place next after : ℕ) (entries others : List Entry) → place ≡ at → length others ≡ length entries → Follow Is at entries next → Follow Is place others after
      → (others ≡ entries) × (after ≡ next)
  follow_once at place next after [] [] start count follow also = (refl, also ∙ start ∙ sym follow)
  follow_once at place next after [] (other ∷ others) start count follow also = absurd (omega (arith, count))
  follow_once at place next after (entry ∷ entries) [] start count follow also = absurd (omega (arith, count))
  follow_once at place next after (entry ∷ entries) (other ∷ others) start count follow also =
      let first = only at entry follow.0 follow.1 (other, also.0) (subst (λ k. Is k other also.0) start also.1) in
      let rest = follow_once follow.0 also.0 next after entries others (ap (λ (p : Entry × ℕ). p.1) first) (omega (arith, count)) follow.2 also.2 in
      (ap₂ (λ (x : Entry) (xs : List Entry). x ∷ xs) (ap (λ (p : Entry × ℕ). p.0) first) rest.0, rest.1)

  entries_once : (count at : ℕ) (entries : List Entry) (next : ℕ) → AreEntries Is count at entries next → (other : List Entry × ℕ) → AreEntries Is count at other.0 other.1
      → other ≡ (entries, next)
  entries_once count at entries next are other also =
      let same = follow_once at at next other.1 entries other.0 refl (also.0 ∙ sym are.0) are.1 also.1 in
      ap₂ (λ (xs : List Entry) (k : ℕ). (xs, k)) same.0 same.1

module _ (once : IsSpelledOnce) (message : List ℕ) where
  name_once : (at : ℕ) (name : Labels) (next : ℕ) → Spelled message at name next → (other : Labels × ℕ) → Spelled message at other.0 other.1 → other ≡ (name, next)
  name_once at name next is other also =
      let same = once message at other.1 next other.0 name also is in
      ap₂ (λ (xs : Labels) (k : ℕ). (xs, k)) same.0 same.1

  number_once : (at number : ℕ) → Stands message at (two_bytes number) (at + 2) → (other : ℕ) → Stands message at (two_bytes other) (at + 2) → other ≡ number
  number_once at number is = (number_found message at number (drop (at + 2) message) is.bytes).1

  kind_once : (at : ℕ) (kind : ℕ × ℕ) → IsTypeAndClass message at kind → (other : ℕ × ℕ) → IsTypeAndClass message at other → other ≡ kind
  kind_once at kind is = (kind_found message at kind (drop (at + 4) message) is.bytes).1

  -- ---- a question and a record

  question_once : (at : ℕ) (question : Question) (next : ℕ) → IsQuestion message at question next → (other : Question × ℕ) → IsQuestion message at other.0 other.1
      → other ≡ (question, next)
  question_once at question next is other also =
      let kind : ℕ × ℕ = (question.qtype, question.qclass) in
      let found = question_found message at question.name is.behind is.name_spelled (name_once at question.name is.behind is.name_spelled) kind is.type_and_class
      (kind_once is.behind kind is.type_and_class) in
      found.1 other also ∙ ap (λ (k : ℕ). (question, k)) (sym is.next_is)

  head_once : (at : ℕ) (head : RecordHead) (place : ℕ) → IsHead message at head place → (other : RecordHead × ℕ) → IsHead message at other.0 other.1 → other ≡ (head, place)
  head_once at head place is other also =
      let found = head_found message at is.behind head.name is.name_spelled (name_once at head.name is.behind is.name_spelled) head (drop (is.behind + 10) message) refl
      is.fields_stand.bytes in
      found.1 other also ∙ ap (λ (k : ℕ). (head, k)) (sym is.place_is)

  row_once : (form : Form) (at : ℕ) (row : Rr) (next : ℕ) → IsRr form message at row next → (other : Rr × ℕ) → IsRr form message at other.0 other.1 → other ≡ (row, next)
  row_once form at row next is =
      let parts = form row.rtype row.rclass in
      let place = is.behind + 10 in
      let is_head = head_in form message at row next is in
      let found = row_found form message at (head_of row is.len) place is_head (head_once at (head_of row is.len) place is_head) parts refl next is.next_is row.rdata is.data_laid
      (λ other laid. parts_once message once parts place place next other row.rdata refl laid is.data_laid) in
      found.1

  -- ---- a reply

  reply_header_once : (header : ReplyHeader) → IsReplyHeader message header → (other : ReplyHeader) → IsReplyHeader message other → other ≡ header
  reply_header_once header is other also =
      let counts = is.counts_stand in
      let i = number_once 0 header.id is.number_stands other.id also.number_stands in
      let f = number_once 2 header.flags is.flags_stand.0 other.flags also.flags_stand.0 in
      let q = number_once 4 header.counts.questions counts.questions_stand other.counts.questions also.counts_stand.questions_stand in
      let a = number_once 6 header.counts.answer counts.answer_stands other.counts.answer also.counts_stand.answer_stands in
      let u = number_once 8 header.counts.authority counts.authority_stands other.counts.authority also.counts_stand.authority_stands in
      let d = number_once 10 header.counts.additional counts.additional_stand other.counts.additional also.counts_stand.additional_stand in
      λ k. record { id = i k; flags = f k; counts = record { questions = q k; answer = a k; authority = u k; additional = d k } }

  sections_once : (counts : Counts) (sections : Sections) → AreSections message counts sections → (other : Sections) → AreSections message counts other → other ≡ sections
  sections_once counts sections is =
      let IsRow = IsRr typed_data message in
      let row_only = row_once typed_data in
      (sections_found message counts
      sections.questions is.answer_at is.questions (entries_once (IsQuestion message) question_once counts.questions 12 sections.questions is.answer_at is.questions)
      sections.answer is.authority_at is.answer (entries_once IsRow row_only counts.answer is.answer_at sections.answer is.authority_at is.answer)
      sections.authority is.additional_at is.authority (entries_once IsRow row_only counts.authority is.authority_at sections.authority is.additional_at is.authority)
      sections.additional (length message) is.additional (entries_once IsRow row_only counts.additional is.additional_at sections.additional (length message) is.additional)
      refl).1

  -- ---- a query

  query_header_once : (header : QueryHeader) → IsQueryHeader message header → (other : QueryHeader) → IsQueryHeader message other → other ≡ header
  query_header_once header is other also =
      let i = number_once 0 header.id is.number_stands other.id also.number_stands in
      let f = number_once 2 header.flags is.flags_stand other.flags also.flags_stand in
      let d = number_once 10 header.additional is.additional_stand other.additional also.additional_stand in
      λ k. record { id = i k; flags = f k; additional = d k }

  opt_once : (opts : List Rr) (opt other : Option Opt) → HasOpt opts opt → HasOpt opts other → other ≡ opt
  opt_once opts None None is also = refl
  opt_once opts None (Some other) is also = absurd (omega (arith, ap length is, ap length also.1))
  opt_once opts (Some opt) None is also = absurd (omega (arith, ap length is.1, ap length also))
  opt_once opts (Some opt) (Some other) is also =
      let both : also.0 ∷ [] ≡ is.0 ∷ [] = sym also.1 ∙ is.1 in
      let row : also.0 ≡ is.0 = cc in
      ap (λ (x : Opt). Some x) (also.2 ∙ ap opt_of row ∙ sym is.2)

  seen_once : (count at : ℕ) (seen : Seen) → Completes message count at unseen seen → (other : Seen) → Completes message count at unseen other → other ≡ seen
  seen_once count at seen is other also =
      let rows = (follow_once (IsRr any_data message) (row_once any_data) at at (length message) (length message) is.rows also.rows refl (also.count_is ∙ sym is.count_is) is.stand also.stand).0 in
      let opt = opt_once (filter is_opt is.rows) seen.opt other.opt is.opt_is (subst (λ rs. HasOpt (filter is_opt rs) other.opt) rows also.opt_is) in
      let signed = also.signed_is ∙ ap (list_any is_signature) rows ∙ sym is.signed_is in
      λ k. record { opt = opt k; signed = signed k }

pub reply_once : IsSpelledOnce → IsReplyOnce
reply_once once message reply other is also =
    let header = header_of message reply is in
    let is_header = header_in message reply is in
    let are_sections = sections_in message reply is in
    let found = reply_found message header is_header (reply_header_once once message header is_header) (sections_of reply) are_sections
    (sections_once once message header.counts (sections_of reply) are_sections) in
    found.1 reply is ∙ sym (found.1 other also)

pub query_once : IsSpelledOnce → IsQueryOnce
query_once once message query other is also =
    let header : QueryHeader = record { id = query.id; flags = is.flags; additional = length is.additional } in
    let kind : ℕ × ℕ = (query.qtype, query.qclass) in
    let seen : Seen = record { opt = query.opt; signed = query.signed } in
    let completes : Completes message header.additional (is.behind + 4) unseen seen =
    record { rows = is.additional; count_is = refl; stand = is.records; opt_is = is.opt_is; signed_is = is.signed_is } in
    let found = query_found message header is.header (query_header_once once message header is.header)
    query.name is.behind is.name_spelled (name_once once message 12 query.name is.behind is.name_spelled)
    query.rd is.rd_is kind is.type_and_class (kind_once once message is.behind kind is.type_and_class)
    seen completes (seen_once once message header.additional (is.behind + 4) seen completes) in
    found.1 query is ∙ sym (found.1 other also)
