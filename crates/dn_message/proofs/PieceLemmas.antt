-- The bytes of a reply's pieces: how many they are, and that they were written.
use Rattle.std.proofs.Common.{◌≡◌, ℕ, ◌+◌, List, [], ◌∷◌, ◌++◌, length, flat_map, refl, sym, ap, subst, ◌∙◌, arith, append_assoc, length-append}
use Rattle.std.proofs.lemmas.Grind.{flat_map-append}
use Rattle.std.proofs.lemmas.List.{append-nil, nil_from_length}
use Rattle.dn_name.specs.Name.{wire_len, wire_of}
use Rattle.dn_message.specs.declared.reply.Question.{Question}
use Rattle.dn_message.specs.declared.reply.Reply.{Reply}
use Rattle.dn_message.specs.declared.rr.Rr.{Rr}
use Rattle.dn_message.specs.declared.writer.Section.{Section}
use Rattle.dn_message.specs.declared.writer.Section.TheVariants.{Additional, Answer, Authority}
use Rattle.dn_message.specs.Pieces.{body_of, bytes_of, counts_of, header_of, question_bytes, row_bytes, with_question, with_row}
use Rattle.dn_message.specs.Record.{fields}
use Rattle.dn_message.specs.Writer.{MayAsk, MayGrow}
use Rattle.dn_message.specs.Writing.{Appends, kind_bytes}
use Rattle.dn_message.proofs.WritingLemmas.{appends_then, wire_size}

-- ---- how many

pub question_size : (question : Question) → length (question_bytes question) ≡ wire_len question.name + 4
unfolding question_bytes
question_size question =
    let kind = kind_bytes question.qtype question.qclass in
    let kind_size : length kind ≡ 4 = refl in
    omega (arith, kind_size, length-append (wire_of question.name) kind, wire_size question.name)

pub row_size : (row : Rr) → length (row_bytes row) ≡ wire_len row.name + 10 + length row.rdata
unfolding row_bytes
row_size row =
    let front = fields row.rtype row.rclass row.ttl (length row.rdata) in
    let front_size : length front ≡ 10 = refl in
    omega (arith, front_size, length-append (wire_of row.name) (front ++ row.rdata), length-append front row.rdata, wire_size row.name)

pub bytes_size : (reply : Reply) → length (bytes_of reply) ≡ 12 + length (body_of reply)
unfolding bytes_of
bytes_size reply =
    let header_size : length (header_of reply) ≡ 12 = refl in
    omega (arith, header_size, length-append (header_of reply) (body_of reply))

-- ---- what was written

pub question_written : (question : Question) (at mid next : ℕ) (old between new kind : List ℕ) → kind ≡ kind_bytes question.qtype question.qclass
    → Appends at old (wire_of question.name) mid between → Appends mid between kind next new → Appends at old (question_bytes question) next new
unfolding question_bytes
question_written question at mid next old between new kind same one two =
    subst (λ xs. Appends at old (wire_of question.name ++ xs) next new) same (appends_then at mid next old between new (wire_of question.name) kind one two)

pub row_written : (row : Rr) (at mid place next : ℕ) (old first second new front : List ℕ) → front ≡ fields row.rtype row.rclass row.ttl (length row.rdata)
    → Appends at old (wire_of row.name) mid first → Appends mid first front place second → Appends place second row.rdata next new → Appends at old (row_bytes row) next new
unfolding row_bytes
row_written row at mid place next old first second new front same one two three =
    subst (λ xs. Appends at old (wire_of row.name ++ (xs ++ row.rdata)) next new) same
    (appends_then at mid next old first new (wire_of row.name) (front ++ row.rdata) one (appends_then mid place next first second new front row.rdata two three))

-- ---- the body with one piece more

-- one row more
rows_on : (rows : List Rr) (row : Rr) → flat_map row_bytes (rows ++ row ∷ []) ≡ flat_map row_bytes rows ++ row_bytes row
rows_on rows row = flat_map-append row_bytes rows (row ∷ []) ∙ ap (λ xs. flat_map row_bytes rows ++ xs) (append-nil (row_bytes row))

pub question_on : (reply : Reply) (question : Question) → MayAsk (counts_of reply) → body_of (with_question reply question) ≡ body_of reply ++ question_bytes question
unfolding body_of
question_on reply question may =
    rw (nil_from_length reply.questions may.questions, nil_from_length reply.answer may.answer, nil_from_length reply.authority may.authority, nil_from_length reply.additional may.additional)
    (append-nil (question_bytes question ++ []) ∙ append-nil (question_bytes question))

pub row_on : (reply : Reply) (section : Section) (row : Rr) → MayGrow (counts_of reply) section → body_of (with_row reply section row) ≡ body_of reply ++ row_bytes row
unfolding body_of
row_on reply Answer row may =
    let asked = flat_map question_bytes reply.questions in
    let answered = flat_map row_bytes reply.answer in
    rw (nil_from_length reply.authority may.1, nil_from_length reply.additional may.2, rows_on reply.answer row)
    (ap (λ xs. asked ++ xs) (append-nil (answered ++ row_bytes row)) ∙ sym (append_assoc asked answered (row_bytes row)) ∙ ap (λ xs. (asked ++ xs) ++ row_bytes row) (sym (append-nil answered)))
row_on reply Authority row may =
    let asked = flat_map question_bytes reply.questions in
    let answered = flat_map row_bytes reply.answer in
    let named = flat_map row_bytes reply.authority in
    rw (nil_from_length reply.additional may.1, rows_on reply.authority row)
    (ap (λ xs. asked ++ (answered ++ xs)) (append-nil (named ++ row_bytes row) ∙ ap (λ xs. xs ++ row_bytes row) (sym (append-nil named)))
    ∙ ap (λ xs. asked ++ xs) (sym (append_assoc answered (named ++ []) (row_bytes row))) ∙ sym (append_assoc asked (answered ++ (named ++ [])) (row_bytes row)))
row_on reply Additional row may =
    let asked = flat_map question_bytes reply.questions in
    let answered = flat_map row_bytes reply.answer in
    let named = flat_map row_bytes reply.authority in
    let added = flat_map row_bytes reply.additional in
    rw (rows_on reply.additional row)
    (ap (λ xs. asked ++ (answered ++ xs)) (sym (append_assoc named added (row_bytes row)))
    ∙ ap (λ xs. asked ++ xs) (sym (append_assoc answered (named ++ added) (row_bytes row))) ∙ sym (append_assoc asked (answered ++ (named ++ added)) (row_bytes row)))
