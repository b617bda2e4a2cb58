-- What was written is read by the grammar as the pieces that it was written from.
use Rattle.std.proofs.Common.{◌≡◌, ℕ, ◌+◌, ◌/◌, ◌%◌, ◌<◌, Bool, true, false, not, nat_eq, if◌then◌else◌, List, [], ◌∷◌, ◌++◌, length, drop, flat_map, refl, sym, ap, subst, ◌∙◌, arith, drop_at, drop-drop, length-append, append_assoc}
use Rattle.std.proofs.lemmas.List.{append-nil}
use Rattle.std.specs.List.{AllByRecursion}
use Rattle.dn_name.specs.Name.{IsName, Labels, wire_len, wire_of}
use Rattle.dn_name.proofs.CallerLemmas.{plain_spelled}
use Rattle.dn_rdata.specs.Laid.{Laid}
use Rattle.dn_rdata.specs.Layout.{IsData, parts_of}
use Rattle.dn_rdata.specs.Types.{IN}
use Rattle.dn_rdata.specs.declared.parts.Part.TheVariants.{Rest}
use Rattle.dn_rdata.proofs.CallerLemmas.{parts_lie}
use Rattle.dn_message.specs.declared.rcode.Rcode.{Rcode}
use Rattle.dn_message.specs.declared.rcode.Rcode.TheVariants.{NoError, FormErr, ServFail, NxDomain, NotImp, Refused, YxDomain, YxRrset, NxRrset, NotAuth, NotZone}
use Rattle.dn_message.specs.declared.reply.Question.{Question}
use Rattle.dn_message.specs.declared.reply.Reply.{Reply}
use Rattle.dn_message.specs.declared.rr.Rr.{Rr}
use Rattle.dn_message.specs.declared.counts.Counts.{Counts}
use Rattle.dn_message.specs.Header.{IsHeader, number_of_rcode}
use Rattle.dn_message.specs.Pieces.{bit, body_of, bytes_of, counts_of, flags_of, header_of, header_with, question_bytes, row_bytes}
use Rattle.dn_message.specs.Record.{AreRrs, IsRr, fields, typed_data}
use Rattle.dn_message.specs.Reply.{AreQuestions, FlagsSay, IsQuestion, IsReply}
use Rattle.dn_message.specs.Short.{short_bytes, short_of}
use Rattle.dn_message.specs.Writer.{AreValid, IsAsked, IsRow}
use Rattle.dn_message.specs.Writing.{kind_bytes}
use Rattle.dn_message.proofs.FieldLemmas.{any_laid, six_stand, stands}
use Rattle.dn_message.proofs.PieceLemmas.{bytes_size, question_size, row_size}
use Rattle.dn_message.proofs.WritingLemmas.{wire_size}

-- ---- the flags

-- opcode, code and the three bits behind RA are within theirs
pub record FlagsFit (reply : Reply) : Type 0 where
  pub opcode_fits : reply.opcode < 16
  pub zero_fits : reply.z < 8
  pub rcode_fits : reply.rcode < 16

-- a code has four bits
pub code_fits : (rcode : Rcode) → number_of_rcode rcode < 16
code_fits NoError = omega arith
code_fits FormErr = omega arith
code_fits ServFail = omega arith
code_fits NxDomain = omega arith
code_fits NotImp = omega arith
code_fits Refused = omega arith
code_fits YxDomain = omega arith
code_fits YxRrset = omega arith
code_fits NxRrset = omega arith
code_fits NotAuth = omega arith
code_fits NotZone = omega arith

bit_is : (b : Bool) (n : ℕ) → n ≡ bit b → b ≡ nat_eq n 1
bit_is true n e = ap (λ k. nat_eq k 1) (sym e)
bit_is false n e = ap (λ k. nat_eq k 1) (sym e)

bit_fits : (b : Bool) → bit b < 2
bit_fits true = omega arith
bit_fits false = omega arith

pub flags_say : (reply : Reply) → FlagsFit reply → FlagsSay (flags_of reply) reply
flags_say reply fit =
    let a = bit_fits reply.aa in
    let t = bit_fits reply.tc in
    let d = bit_fits reply.rd in
    let v = bit_fits reply.ra in
    let o = fit.opcode_fits in
    let z = fit.zero_fits in
    let r = fit.rcode_fits in
    let qr : flags_of reply / 32768 % 2 ≡ 1 = omega (arith, a, t, d, v, o, z, r) in
    record {
      qr_is = ap (λ k. nat_eq k 1) qr;
      opcode_is = omega (arith, a, t, d, v, o, z, r);
      aa_is = bit_is reply.aa (flags_of reply / 1024 % 2) (omega (arith, a, t, d, v, o, z, r));
      tc_is = bit_is reply.tc (flags_of reply / 512 % 2) (omega (arith, a, t, d, v, o, z, r));
      rd_is = bit_is reply.rd (flags_of reply / 256 % 2) (omega (arith, a, t, d, v, o, z, r));
      ra_is = bit_is reply.ra (flags_of reply / 128 % 2) (omega (arith, a, t, d, v, o, z, r));
      z_is = omega (arith, a, t, d, v, o, z, r);
      rcode_is = omega (arith, a, t, d, v, o, z, r);
    }

-- ---- the header

pub header_stands : (message : List ℕ) (number flags : ℕ) (counts : Counts) (back : List ℕ) → message ≡ header_with number flags counts ++ back
    → IsHeader message number flags counts.questions counts.answer counts.authority counts.additional
header_stands message number flags counts back e =
    subst (λ xs. IsHeader xs number flags counts.questions counts.answer counts.authority counts.additional) (sym e)
    (six_stand number flags counts.questions counts.answer counts.authority counts.additional back)

-- ---- the sections

module _ (message : List ℕ) where
  -- what stands behind a piece
  behind : (at : ℕ) (piece back : List ℕ) → drop at message ≡ piece ++ back → drop (at + length piece) message ≡ back
  behind at piece back e = sym (drop-drop (length piece) at message) ∙ ap (drop (length piece)) e ∙ drop_at piece back (length piece) refl

  -- the same behind a name
  behind_name : (at : ℕ) (name : Labels) (back : List ℕ) → drop at message ≡ wire_of name ++ back → drop (at + wire_len name) message ≡ back
  behind_name at name back e = subst (λ k. drop (at + k) message ≡ back) (wire_size name) (behind at (wire_of name) back e)

  question_stands : (at : ℕ) (question : Question) (back : List ℕ) → IsName question.name → drop at message ≡ question_bytes question ++ back
      → IsQuestion message at question (at + length (question_bytes question))
  unfolding question_bytes
  question_stands at question back is e =
      let kind = kind_bytes question.qtype question.qclass in
      let here : drop at message ≡ wire_of question.name ++ (kind ++ back) = e ∙ append_assoc (wire_of question.name) kind back in
      record {
        behind = at + wire_len question.name;
        name_spelled = plain_spelled message at question.name (kind ++ back) is here;
        type_and_class = stands message (at + wire_len question.name) (at + wire_len question.name + 4) kind back (behind_name at question.name (kind ++ back) here) refl;
        next_is = omega (arith, question_size question);
      }

  questions_stand : (at : ℕ) (questions : List Question) (back : List ℕ) → AllByRecursion IsAsked questions → drop at message ≡ flat_map question_bytes questions ++ back
      → AreQuestions message at questions (at + length (flat_map question_bytes questions))
  questions_stand at [] back all e = omega arith
  questions_stand at (question ∷ questions) back all e =
      let piece = question_bytes question in
      let more = flat_map question_bytes questions in
      let first : drop at message ≡ piece ++ (more ++ back) = e ∙ append_assoc piece more back in (
        at + length piece,
        question_stands at question (more ++ back) all.0 first,
        subst (AreQuestions message (at + length piece) questions) (omega (arith, length-append piece more)) (questions_stand (at + length piece) questions back all.1 (behind at piece (more ++ back) first)),
      )

  data_stand : (at next rtype rclass : ℕ) (rdata back : List ℕ) → rclass ≡ IN → IsData rtype rdata → drop at message ≡ rdata ++ back → next ≡ at + length rdata
      → Laid message at next (typed_data rtype rclass) rdata
  data_stand at next rtype rclass rdata back class_is is e reach = subst (λ k. Laid message at next (typed_data rtype k) rdata) (sym class_is) (by_type (not (nat_eq rtype 0)))
    where
      by_type : (b : Bool) → Laid message at next (if b then parts_of rtype else Rest ∷ []) rdata
      by_type true = parts_lie message (parts_of rtype) at next rdata back is e reach
      by_type false = any_laid message at next rdata (stands message at next rdata back e reach)

  row_stands : (at : ℕ) (row : Rr) (back : List ℕ) → IsRow row → drop at message ≡ row_bytes row ++ back → IsRr typed_data message at row (at + length (row_bytes row))
  unfolding row_bytes
  row_stands at row back is e =
      let front = fields row.rtype row.rclass row.ttl (length row.rdata) in
      let start = at + wire_len row.name in
      let here : drop at message ≡ wire_of row.name ++ (front ++ (row.rdata ++ back)) =
      e ∙ append_assoc (wire_of row.name) (front ++ row.rdata) back ∙ ap (λ xs. wire_of row.name ++ xs) (append_assoc front row.rdata back) in
      let fields_here : drop start message ≡ front ++ (row.rdata ++ back) = behind_name at row.name (front ++ (row.rdata ++ back)) here in
      let end : at + length (row_bytes row) ≡ start + 10 + length row.rdata = omega (arith, row_size row) in
      record {
        behind = start;
        len = length row.rdata;
        name_spelled = plain_spelled message at row.name (front ++ (row.rdata ++ back)) is.named here;
        fields_stand = stands message start (start + 10) front (row.rdata ++ back) fields_here refl;
        data_laid = data_stand (start + 10) (at + length (row_bytes row)) row.rtype row.rclass row.rdata back is.class_is is.data_is (behind start front (row.rdata ++ back) fields_here) end;
        next_is = end;
      }

  rows_stand : (at : ℕ) (rows : List Rr) (back : List ℕ) → AllByRecursion IsRow rows → drop at message ≡ flat_map row_bytes rows ++ back
      → AreRrs typed_data message at rows (at + length (flat_map row_bytes rows))
  rows_stand at [] back all e = omega arith
  rows_stand at (row ∷ rows) back all e =
      let piece = row_bytes row in
      let more = flat_map row_bytes rows in
      let first : drop at message ≡ piece ++ (more ++ back) = e ∙ append_assoc piece more back in (
        at + length piece,
        row_stands at row (more ++ back) all.0 first,
        subst (AreRrs typed_data message (at + length piece) rows) (omega (arith, length-append piece more)) (rows_stand (at + length piece) rows back all.1 (behind at piece (more ++ back) first)),
      )

-- ---- the reply

pub read_back : (message : List ℕ) (reply : Reply) → message ≡ bytes_of reply → AreValid reply → FlagsFit reply → IsReply message reply
unfolding bytes_of body_of
read_back message reply e valid fit =
    let head = header_of reply in
    let a = flat_map question_bytes reply.questions in
    let b = flat_map row_bytes reply.answer in
    let c = flat_map row_bytes reply.authority in
    let d = flat_map row_bytes reply.additional in
    let at_a : drop 12 message ≡ a ++ (b ++ (c ++ d)) = ap (drop 12) e in
    let at_b : drop (12 + length a) message ≡ b ++ (c ++ d) = behind message 12 a (b ++ (c ++ d)) at_a in
    let at_c : drop (12 + length a + length b) message ≡ c ++ d = behind message (12 + length a) b (c ++ d) at_b in
    let at_d : drop (12 + length a + length b + length c) message ≡ d ++ [] = behind message (12 + length a + length b) c d at_c ∙ sym (append-nil d) in
    let total : length message ≡ 12 + length a + length b + length c + length d =
    omega (arith, ap length e, bytes_size reply, length-append a (b ++ (c ++ d)), length-append b (c ++ d), length-append c d) in
    record {
      flags = flags_of reply;
      header = header_stands message reply.id (flags_of reply) (counts_of reply) (body_of reply) e;
      flags_say = flags_say reply fit;
      answer_at = 12 + length a;
      authority_at = 12 + length a + length b;
      additional_at = 12 + length a + length b + length c;
      questions = questions_stand message 12 reply.questions (b ++ (c ++ d)) valid.questions at_a;
      answer = rows_stand message (12 + length a) reply.answer (c ++ d) valid.answer at_b;
      authority = rows_stand message (12 + length a + length b) reply.authority d valid.authority at_c;
      additional = subst (AreRrs typed_data message (12 + length a + length b + length c) reply.additional) (sym total)
          (rows_stand message (12 + length a + length b + length c) reply.additional [] valid.additional at_d);
    }

-- a reply of a header alone
pub short_read : (message request : List ℕ) (rcode : Rcode) → message ≡ short_bytes request rcode → IsReply message (short_of request rcode)
unfolding bytes_of body_of
short_read message request rcode e =
    read_back message (short_of request rcode) e (record { questions = tt; answer = tt; authority = tt; additional = tt })
    (record { opcode_fits = omega arith; zero_fits = omega arith; rcode_fits = code_fits rcode })
