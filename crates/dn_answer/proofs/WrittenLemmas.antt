-- How long a reply is, what a writer holds with one row more, and that what can be sent fits.
use Rattle.std.proofs.Common.{◌≡◌, ℕ, ◌+◌, ◌<◌, ◌≤◌, List, [], ◌∷◌, ◌++◌, length, Ok, Err, refl, sym, ap, ap₂, subst, ◌∙◌, arith, append_assoc, append-nil, drop, drop-cons, get_or, length-append, suc, take, take_all}
use Rattle.std.proofs.lemmas.List.{take_more}
use Rattle.std.proofs.lemmas.List.Sums.{sum_by-append, sum_by-cons}
use Rattle.std.specs.Prelude.{flat_map, sum_by}
use Rattle.dn_name.specs.Name.{wire_len, wire_of}
use Rattle.dn_name.specs.declared.error.NoRoom.{NoRoom}
use Rattle.dn_rdata.specs.Layout.{IsData}
use Rattle.dn_message.specs.declared.query.Query.{Query}
use Rattle.dn_message.specs.declared.reply.Question.{Question}
use Rattle.dn_message.specs.declared.reply.Reply.{Reply}
use Rattle.dn_message.specs.declared.rr.Rr.{Rr}
use Rattle.dn_message.specs.declared.writer.ReplyWriter.{ReplyWriter}
use Rattle.dn_message.specs.declared.writer.Section.{Section}
use Rattle.dn_message.specs.declared.writer.Section.TheVariants.{Additional, Answer, Authority}
use Rattle.dn_message.specs.Fields.{two_bytes}
use Rattle.dn_message.specs.Pieces.{body_of, bytes_of, counts_of, header_of, question_bytes, row_bytes, with_row}
use Rattle.dn_message.specs.Record.{fields}
use Rattle.dn_message.specs.Writer.{Accepts, Holds, KeepsRest, MayGrow, size}
use Rattle.dn_answer.specs.declared.reply.AnswerValue.{AnswerValue}
use Rattle.dn_answer.specs.Sendable.{IsSendable, reply_len, rr_len, sent}
use Rattle.dn_answer.specs.Written.{EndsIn, Fits, Writes, sent_with, with_rows}
use Rattle.dn_answer.proofs.ValidSoaLemmas.{wire_size}

-- ---- how many bytes

row_size : (row : Rr) → length (row_bytes row) ≡ rr_len row
unfolding row_bytes
row_size row =
    let head : List ℕ = fields row.rtype row.rclass row.ttl (length row.rdata) in
    let ten : length head ≡ 10 = refl in
    omega (arith, length-append (wire_of row.name) (head ++ row.rdata), length-append head row.rdata, wire_size row.name, ten)

rows_size : (rows : List Rr) → length (flat_map row_bytes rows) ≡ sum_by rr_len rows
rows_size [] = refl
rows_size (row ∷ rows) =
    omega (arith, length-append (row_bytes row) (flat_map row_bytes rows), row_size row, rows_size rows, sum_by-cons rr_len row rows)

reply_size : (reply : Reply)
    → length (bytes_of reply) ≡ 12 + length (flat_map question_bytes reply.questions) + sum_by rr_len reply.answer + sum_by rr_len reply.authority + sum_by rr_len reply.additional
unfolding bytes_of body_of
reply_size reply =
    let asked : List ℕ = flat_map question_bytes reply.questions in
    let answer : List ℕ = flat_map row_bytes reply.answer in
    let authority : List ℕ = flat_map row_bytes reply.authority in
    let additional : List ℕ = flat_map row_bytes reply.additional in
    let twelve : length (header_of reply) ≡ 12 = refl in
    omega (
      arith,
      twelve,
      length-append (header_of reply) (asked ++ (answer ++ (authority ++ additional))),
      length-append asked (answer ++ (authority ++ additional)),
      length-append answer (authority ++ additional),
      length-append authority additional,
      rows_size reply.answer,
      rows_size reply.authority,
      rows_size reply.additional,
    )

question_size : (question : Question) → length (flat_map question_bytes (question ∷ [])) ≡ wire_len question.name + 4
unfolding question_bytes
question_size question =
    let kind : List ℕ = two_bytes question.qtype ++ two_bytes question.qclass in
    let four : length kind ≡ 4 = refl in
    omega (arith, length-append (wire_of question.name ++ kind) [], length-append (wire_of question.name) kind, wire_size question.name, four)

-- ---- more rows

-- rows make a reply no shorter
grows : (reply : Reply) (section : Section) (rows : List Rr) → length (bytes_of reply) ≤ length (bytes_of (with_rows reply section rows))
grows reply Answer rows = omega (arith, reply_size reply, reply_size (with_rows reply Answer rows), sum_by-append rr_len reply.answer rows)
grows reply Authority rows = omega (arith, reply_size reply, reply_size (with_rows reply Authority rows), sum_by-append rr_len reply.authority rows)
grows reply Additional rows = omega (arith, reply_size reply, reply_size (with_rows reply Additional rows), sum_by-append rr_len reply.additional rows)

-- and each is within it
row_within : (reply : Reply) (section : Section) (row : Rr) (rest : List Rr) → length row.rdata ≤ length (bytes_of (with_rows reply section (row ∷ rest)))
row_within reply Answer row rest =
    omega (arith, reply_size (with_rows reply Answer (row ∷ rest)), sum_by-append rr_len reply.answer (row ∷ rest), sum_by-cons rr_len row rest)
row_within reply Authority row rest =
    omega (arith, reply_size (with_rows reply Authority (row ∷ rest)), sum_by-append rr_len reply.authority (row ∷ rest), sum_by-cons rr_len row rest)
row_within reply Additional row rest =
    omega (arith, reply_size (with_rows reply Additional (row ∷ rest)), sum_by-append rr_len reply.additional (row ∷ rest), sum_by-cons rr_len row rest)

with_none : (reply : Reply) (section : Section) → reply ≡ with_rows reply section []
with_none reply Answer = ap (λ rows. record reply { answer = rows }) (sym (append-nil reply.answer))
with_none reply Authority = ap (λ rows. record reply { authority = rows }) (sym (append-nil reply.authority))
with_none reply Additional = ap (λ rows. record reply { additional = rows }) (sym (append-nil reply.additional))

with_next : (reply : Reply) (section : Section) (row : Rr) (rest : List Rr) → with_rows (with_row reply section row) section rest ≡ with_rows reply section (row ∷ rest)
with_next reply Answer row rest = ap (λ rows. record reply { answer = rows }) (append_assoc reply.answer (row ∷ []) rest)
with_next reply Authority row rest = ap (λ rows. record reply { authority = rows }) (append_assoc reply.authority (row ∷ []) rest)
with_next reply Additional row rest = ap (λ rows. record reply { additional = rows }) (append_assoc reply.additional (row ∷ []) rest)

with_last : (reply : Reply) (section : Section) (rows : List Rr) (row : Rr) → with_row (with_rows reply section rows) section row ≡ with_rows reply section (rows ++ row ∷ [])
with_last reply Answer rows row = ap (λ more. record reply { answer = more }) (append_assoc reply.answer rows (row ∷ []))
with_last reply Authority rows row = ap (λ more. record reply { authority = more }) (append_assoc reply.authority rows (row ∷ []))
with_last reply Additional rows row = ap (λ more. record reply { additional = more }) (append_assoc reply.additional rows (row ∷ []))

still_ends : (reply : Reply) (section : Section) (row : Rr) → EndsIn reply section → EndsIn (with_row reply section row) section
still_ends reply Answer row ends = ends
still_ends reply Authority row ends = ends
still_ends reply Additional row ends = tt

-- each row has ten bytes at least
rows_count : (rows : List Rr) → length rows ≤ sum_by rr_len rows
rows_count [] = omega arith
rows_count (row ∷ rows) = omega (arith, sum_by-cons rr_len row rows, rows_count rows)

may_grow : (reply : Reply) (section : Section) → EndsIn reply section → length (bytes_of reply) ≤ 512 → MayGrow (counts_of reply) section
may_grow reply Answer ends small = (omega (arith, small, reply_size reply, rows_count reply.answer), ap length ends.0, ap length ends.1)
may_grow reply Authority ends small = (omega (arith, small, reply_size reply, rows_count reply.authority), ap length ends)
may_grow reply Additional ends small = omega (arith, small, reply_size reply, rows_count reply.additional)

-- ---- what a writer does with a row

-- the row of class IN that a writer is given, by its data in a slice
abbrev given : Rr → List ℕ → Rr
given row bytes = record { name = row.name; rtype = row.rtype; rclass = 1; ttl = row.ttl; rdata = bytes }

given_is : (row : Rr) (bytes : List ℕ) → row.rclass ≡ 1 → bytes ≡ row.rdata → given row bytes ≡ row
given_is row bytes is same = ap₂ (λ class rdata. record row { rclass = class; rdata = rdata }) (sym is) same

module _ (old : ReplyWriter) (section : Section) (row : Rr) (rest : List Rr) (fits : Fits old section (row ∷ rest)) (bytes : List ℕ) (same : bytes ≡ row.rdata) where
  same_row : given row bytes ≡ row
  same_row = given_is row bytes fits.sendable.0.0 same

  order_is : MayGrow old.counts section
  order_is =
      subst (λ counts. MayGrow counts section) (sym fits.holds.counts_are)
      (may_grow fits.reply section fits.ends (omega (arith, fits.small, grows fits.reply section (row ∷ rest))))

  data_len : length bytes < 65536
  data_len = omega (arith, ap length same, fits.small, row_within fits.reply section row rest)

  small_next : length (bytes_of (with_rows (with_row fits.reply section (given row bytes)) section rest)) ≤ 512
  small_next =
      subst (λ reply. length (bytes_of reply) ≤ 512)
      (sym (with_next fits.reply section row rest) ∙ ap (λ one. with_rows (with_row fits.reply section one) section rest) (sym same_row)) fits.small

  module _ (new : ReplyWriter) (same_size : size new ≡ size old) where
    no_room_never : (error : NoRoom) → Accepts new (Err error) fits.reply (with_row fits.reply section (given row bytes)) → ⊥
    no_room_never error refuses =
        omega (arith, refuses.1, small_next, grows (with_row fits.reply section (given row bytes)) section rest, fits.room, same_size)

    fits_next : (done : Unit {0}) → Accepts new (Ok done) fits.reply (with_row fits.reply section (given row bytes)) → Fits new section rest
    fits_next done accepts =
        record {
          reply = with_row fits.reply section (given row bytes);
          holds = accepts.0;
          ends = still_ends fits.reply section (given row bytes) fits.ends;
          sendable = fits.sendable.1;
          small = small_next;
          room = omega (arith, fits.room, same_size);
        }

-- ---- the rows of a section, one after another

at_place : (rows : List Rr) (at : ℕ) (row : Rr) → row ≡ get_or rows at row → at < length rows → drop at rows ≡ row ∷ drop (at + 1) rows
at_place rows at row is within =
    let next : suc at ≡ at + 1 = omega arith in
    drop-cons rows at row within ∙ ap (λ here. here ∷ drop (suc at) rows) (sym is) ∙ ap (λ from. row ∷ drop from rows) next

take_next : (rows : List Rr) (at : ℕ) (row : Rr) → row ≡ get_or rows at row → at < length rows → take (at + 1) rows ≡ take at rows ++ row ∷ []
take_next rows at row is within = take_more rows at row within ∙ ap (λ here. take at rows ++ here ∷ []) (sym is)

-- those before the place were written, and those from it on fit
pub record Goes (first : ReplyWriter) (section : Section) (rows : List Rr) (at : ℕ) (now : ReplyWriter) : Type 0 where
  pub same_reference : now.out.ghost_name ≡ first.out.ghost_name
  pub same_size : size now ≡ size first
  pub keeps : (before : List ℕ) → KeepsRest before first → KeepsRest before now
  pub writes : Writes first section (take at rows) now
  pub fits : Fits now section (drop at rows)

module _ (first : ReplyWriter) (section : Section) (rows : List Rr) where
  pub goes_first : Fits first section rows → Goes first section rows 0 first
  goes_first fits =
      record { same_reference = refl; same_size = refl; keeps = λ before kept. kept; writes = λ reply holds. subst (Holds first) (with_none reply section) holds; fits = fits }

  pub goes_last : (at : ℕ) (now : ReplyWriter) → length rows ≤ at → Goes first section rows at now → Writes first section rows now
  goes_last at now over goes = subst (λ done. Writes first section done now) (take_all at rows over) goes.writes

  module _ (at : ℕ) (old : ReplyWriter) (goes : Goes first section rows at old) (row : Rr) (is : row ≡ get_or rows at row) (within : at < length rows) where
    fits_here : Fits old section (row ∷ drop (at + 1) rows)
    fits_here = subst (Fits old section) (at_place rows at row is within) goes.fits

    module _ (bytes : List ℕ) (same : bytes ≡ row.rdata) where
      pub order_here : MayGrow old.counts section
      order_here = order_is old section row (drop (at + 1) rows) fits_here bytes same

      pub data_here : IsData row.rtype bytes
      data_here = subst (IsData row.rtype) (sym same) fits_here.sendable.0.1

      pub len_here : length bytes < 65536
      len_here = data_len old section row (drop (at + 1) rows) fits_here bytes same

      module _ (new : ReplyWriter) (same_size : size new ≡ size old) where
        pub room_here : (error : NoRoom) → ((reply : Reply) → Holds old reply → Accepts new (Err error) reply (with_row reply section (given row bytes))) → ⊥
        room_here error refuses =
            no_room_never old section row (drop (at + 1) rows) fits_here bytes same new same_size error (refuses fits_here.reply fits_here.holds)

        pub goes_next : (done : Unit {0}) → new.out.ghost_name ≡ old.out.ghost_name
            → ((before : List ℕ) → KeepsRest before old → KeepsRest before new)
            → ((reply : Reply) → Holds old reply → Accepts new (Ok done) reply (with_row reply section (given row bytes)))
            → Goes first section rows (at + 1) new
        goes_next done reference keeps accepts =
            record {
              same_reference = reference ∙ goes.same_reference;
              same_size = same_size ∙ goes.same_size;
              keeps = λ before kept. keeps before (goes.keeps before kept);
              writes = λ reply holds. subst (Holds new)
                  (ap (with_row (with_rows reply section (take at rows)) section) (same_row old section row (drop (at + 1) rows) fits_here bytes same)
                  ∙ with_last reply section (take at rows) row ∙ ap (with_rows reply section) (sym (take_next rows at row is within)))
                  (accepts (with_rows reply section (take at rows)) (goes.writes reply holds)).0;
              fits = fits_next old section row (drop (at + 1) rows) fits_here bytes same new same_size done (accepts fits_here.reply fits_here.holds);
            }

-- ---- a whole reply

-- with the question in a class
abbrev asked : Reply → Query → ℕ → Reply
asked reply query class = record reply { questions = record { name = query.name; qtype = query.qtype; qclass = class } ∷ [] }

module _ (query : Query) (reply : AnswerValue) where
  sent_size : length (bytes_of (sent query reply)) ≡ reply_len query.name reply
  sent_size =
      omega (arith, reply_size (sent query reply), question_size (record { name = query.name; qtype = query.qtype; qclass = query.qclass }))

  module _ (sendable : IsSendable query.name reply) where
    -- the last piece is written within the limit, and so are those before it
    small_additional : length (bytes_of (sent query reply)) ≤ 512
    small_additional = omega (arith, sent_size, sendable.len)

    small_authority : length (bytes_of (sent_with query reply reply.answer reply.authority [])) ≤ 512
    small_authority = omega (arith, grows (sent_with query reply reply.answer reply.authority []) Additional reply.additional, small_additional)

    small_answer : length (bytes_of (sent_with query reply reply.answer [] [])) ≤ 512
    small_answer = omega (arith, grows (sent_with query reply reply.answer [] []) Authority reply.authority, small_authority)

    small_question : length (bytes_of (sent_with query reply [] [] [])) ≤ 512
    small_question = omega (arith, grows (sent_with query reply [] [] []) Answer reply.answer, small_answer)

    -- what is sent has at least a header
    pub sent_len : (len : ℕ) → len ≡ length (bytes_of (sent query reply)) → (12 ≤ len) × (len ≤ 512)
    sent_len len is = (omega (arith, is, reply_size (sent query reply)), omega (arith, is, small_additional))

    pub question_fits : (new : ReplyWriter) → 512 ≤ size new → query.qclass ≡ 1 → size new < length (bytes_of (asked (sent_with query reply [] [] []) query 1)) → ⊥
    question_fits new room is refuses =
        omega (arith, refuses, room, small_question, ap (λ class. length (bytes_of (asked (sent_with query reply [] [] []) query class))) is)

    module _ (old : ReplyWriter) (room : 512 ≤ size old) (rows : List Rr) where
      pub answer_fits : rows ≡ reply.answer → Holds old (sent_with query reply [] [] []) → Fits old Answer rows
      answer_fits same holds =
          subst (Fits old Answer) (sym same)
          (record { reply = sent_with query reply [] [] []; holds = holds; ends = (refl, refl); sendable = sendable.answer; small = small_answer; room = room })

      pub authority_fits : rows ≡ reply.authority → Holds old (sent_with query reply reply.answer [] []) → Fits old Authority rows
      authority_fits same holds =
          subst (Fits old Authority) (sym same)
          (record { reply = sent_with query reply reply.answer [] []; holds = holds; ends = refl; sendable = sendable.authority; small = small_authority; room = room })

      pub additional_fits : rows ≡ reply.additional → Holds old (sent_with query reply reply.answer reply.authority []) → Fits old Additional rows
      additional_fits same holds =
          subst (Fits old Additional) (sym same)
          (record { reply = sent_with query reply reply.answer reply.authority []; holds = holds; ends = tt; sendable = sendable.additional; small = small_additional; room = room })

  -- what the writers have behind each section
  module _ (first second : ReplyWriter) (answer : List Rr) (answer_is : answer ≡ reply.answer) (begins : Holds first (sent_with query reply [] [] []))
      (answers : Writes first Answer answer second) where
    pub answer_held : Holds second (sent_with query reply reply.answer [] [])
    answer_held = subst (λ rows. Holds second (sent_with query reply rows [] [])) answer_is (answers (sent_with query reply [] [] []) begins)

    module _ (third : ReplyWriter) (authority : List Rr) (authority_is : authority ≡ reply.authority) (goes_on : Writes second Authority authority third) where
      pub authority_held : Holds third (sent_with query reply reply.answer reply.authority [])
      authority_held =
          subst (λ rows. Holds third (sent_with query reply reply.answer rows [])) authority_is (goes_on (sent_with query reply reply.answer [] []) answer_held)

      pub all_held : (fourth : ReplyWriter) (additional : List Rr) → additional ≡ reply.additional → Writes third Additional additional fourth
          → Holds fourth (sent query reply)
      all_held fourth additional additional_is ends =
          subst (λ rows. Holds fourth (sent_with query reply reply.answer reply.authority rows)) additional_is
          (ends (sent_with query reply reply.answer reply.authority []) authority_held)
