-- A reply is its header and its sections.
use Rattle.std.proofs.Common.{◌≡◌, ℕ, List, length, refl, ap, subst, ◌∙◌}
use Rattle.dn_message.specs.declared.header.ReplyHeader.{ReplyHeader}
use Rattle.dn_message.specs.declared.reply.Reply.{Reply}
use Rattle.dn_message.specs.declared.sections.Sections.{Sections}
use Rattle.dn_message.specs.Header.{IsHeader, is_authoritative, is_recursion_available, is_recursion_desired, is_truncated, opcode, rcode_in, zero_bits}
use Rattle.dn_message.specs.Reply.{IsReply}
use Rattle.dn_message.specs.ReplyReading.{AreSections, IsReplyHeader}

-- ---- the header and the sections of a reply

abbrev pub header_of : (message : List ℕ) (reply : Reply) → IsReply message reply → ReplyHeader
header_of message reply is = record {
  id = reply.id;
  flags = is.flags;
  counts = record { questions = length reply.questions; answer = length reply.answer; authority = length reply.authority; additional = length reply.additional };
}

abbrev pub sections_of : Reply → Sections
sections_of reply = record { questions = reply.questions; answer = reply.answer; authority = reply.authority; additional = reply.additional }

pub header_in : (message : List ℕ) (reply : Reply) (is : IsReply message reply) → IsReplyHeader message (header_of message reply is)
header_in message reply is = record {
  number_stands = is.header.number_stands;
  flags_stand = (is.header.flags_stand, is.flags_say.qr_is);
  counts_stand = record {
    questions_stand = is.header.questions_stand;
    answer_stands = is.header.answers_stand;
    authority_stands = is.header.authorities_stand;
    additional_stand = is.header.additional_stand;
  };
}

pub sections_in : (message : List ℕ) (reply : Reply) (is : IsReply message reply) → AreSections message (header_of message reply is).counts (sections_of reply)
sections_in message reply is = record {
  answer_at = is.answer_at;
  authority_at = is.authority_at;
  additional_at = is.additional_at;
  questions = (refl, is.questions);
  answer = (refl, is.answer);
  authority = (refl, is.authority);
  additional = (refl, is.additional);
}

pub no_header : (message : List ℕ) → ((other : ReplyHeader) → IsReplyHeader message other → ⊥) → (reply : Reply) → IsReply message reply → ⊥
no_header message none reply is = none (header_of message reply is) (header_in message reply is)

module _ (message : List ℕ) (header : ReplyHeader) (is_header : IsReplyHeader message header)
    (only_header : (other : ReplyHeader) → IsReplyHeader message other → other ≡ header) where
  same_header : (reply : Reply) (is : IsReply message reply) → header_of message reply is ≡ header
  same_header reply is = only_header (header_of message reply is) (header_in message reply is)

  sections_behind : (reply : Reply) → IsReply message reply → AreSections message header.counts (sections_of reply)
  sections_behind reply is = subst (λ (h : ReplyHeader). AreSections message h.counts (sections_of reply)) (same_header reply is) (sections_in message reply is)

  pub no_sections : ((other : Sections) → AreSections message header.counts other → ⊥) → (reply : Reply) → IsReply message reply → ⊥
  no_sections none reply is = none (sections_of reply) (sections_behind reply is)

  module _ (sections : Sections) (are_sections : AreSections message header.counts sections)
      (only_sections : (other : Sections) → AreSections message header.counts other → other ≡ sections) where
    abbrev reply_with : Reply
    reply_with = record {
      id = header.id;
      opcode = opcode header.flags;
      aa = is_authoritative header.flags;
      tc = is_truncated header.flags;
      rd = is_recursion_desired header.flags;
      ra = is_recursion_available header.flags;
      z = zero_bits header.flags;
      rcode = rcode_in header.flags;
      questions = sections.questions;
      answer = sections.answer;
      authority = sections.authority;
      additional = sections.additional;
    }

    whole_header : IsHeader message header.id header.flags (length sections.questions) (length sections.answer) (length sections.authority) (length sections.additional)
    whole_header =
        let counts = is_header.counts_stand in
        let q = are_sections.questions.0 in
        let a = are_sections.answer.0 in
        let u = are_sections.authority.0 in
        let d = are_sections.additional.0 in
        rw (q, a, u, d) (record {
          number_stands = is_header.number_stands;
          flags_stand = is_header.flags_stand.0;
          questions_stand = counts.questions_stand;
          answers_stand = counts.answer_stands;
          authorities_stand = counts.authority_stands;
          additional_stand = counts.additional_stand;
        })

    pub reply_found : IsReply message reply_with × ((other : Reply) → IsReply message other → other ≡ reply_with)
    reply_found = (
      record {
        flags = header.flags;
        header = whole_header;
        flags_say = record { qr_is = is_header.flags_stand.1; opcode_is = refl; aa_is = refl; tc_is = refl; rd_is = refl; ra_is = refl; z_is = refl; rcode_is = refl };
        answer_at = are_sections.answer_at;
        authority_at = are_sections.authority_at;
        additional_at = are_sections.additional_at;
        questions = are_sections.questions.1;
        answer = are_sections.answer.1;
        authority = are_sections.authority.1;
        additional = are_sections.additional.1;
      },
      λ other is.
          let h = same_header other is in
          let s = only_sections (sections_of other) (sections_behind other is) in
          let say = is.flags_say in
          let f : is.flags ≡ header.flags = ap (λ (h : ReplyHeader). h.flags) h in
          let o = say.opcode_is ∙ ap opcode f in
          let aa = say.aa_is ∙ ap is_authoritative f in
          let tc = say.tc_is ∙ ap is_truncated f in
          let rd = say.rd_is ∙ ap is_recursion_desired f in
          let ra = say.ra_is ∙ ap is_recursion_available f in
          let z = say.z_is ∙ ap zero_bits f in
          let rcode = say.rcode_is ∙ ap rcode_in f in
          λ i. record {
            id = (h i).id;
            opcode = o i;
            aa = aa i;
            tc = tc i;
            rd = rd i;
            ra = ra i;
            z = z i;
            rcode = rcode i;
            questions = (s i).questions;
            answer = (s i).answer;
            authority = (s i).authority;
            additional = (s i).additional;
          },
    )
