-- What a writer of replies holds: with one piece more, without room for it, and at the end.
use Rattle.std.proofs.Common.{◌≡◌, ℕ, ◌+◌, ◌-◌, ◌<◌, ◌≤◌, List, [], ◌∷◌, ◌++◌, length, take, drop, sym, ap, subst, ◌∙◌, arith, drop-drop, length-append, length-take-le, take-append-drop}
use Rattle.std.proofs.lemmas.List.{drop-append-le, drop-take}
use Rattle.std.proofs.Math.Seq.{take-append-add}
use Rattle.std.specs.List.{AllByRecursion}
use Rattle.dn_name.specs.Name.{IsName}
use Rattle.dn_message.specs.declared.reply.Question.{Question}
use Rattle.dn_message.specs.declared.reply.Reply.{Reply}
use Rattle.dn_message.specs.declared.rr.Rr.{Rr}
use Rattle.dn_message.specs.declared.counts.Counts.{Counts}
use Rattle.dn_message.specs.declared.writer.ReplyHead.{ReplyHead}
use Rattle.dn_message.specs.declared.writer.ReplyWriter.{ReplyWriter}
use Rattle.dn_message.specs.declared.writer.Section.{Section}
use Rattle.dn_message.specs.declared.writer.Section.TheVariants.{Additional, Answer, Authority}
use Rattle.dn_message.specs.Header.{header_len}
use Rattle.dn_message.specs.Pieces.{begun, body_of, bytes_of, counts_of, flags_of, header_of, header_with, question_bytes, row_bytes, with_question, with_row}
use Rattle.dn_message.specs.Reply.{IsReply}
use Rattle.dn_message.specs.Writer.{AreValid, Holds, IsAsked, IsRow, KeepsRest, MayAsk, MayGrow, buffer, one_more, size}
use Rattle.dn_message.specs.Writing.{Appends}
use Rattle.dn_message.proofs.PieceLemmas.{bytes_size, question_on, row_on}
use Rattle.dn_message.proofs.ReadBackLemmas.{FlagsFit, code_fits, read_back}

-- ---- one piece more

-- the reply has this head
abbrev HasHead : ReplyHead → Reply → Type 0
HasHead head reply = reply ≡ record (begun head) { questions = reply.questions; answer = reply.answer; authority = reply.authority; additional = reply.additional }

pub begins : (writer : ReplyWriter) (head : ReplyHead) → writer.head ≡ head → writer.counts ≡ counts_of (begun head) → writer.place ≡ 12 → 12 ≤ size writer → Holds writer (begun head)
unfolding bytes_of body_of
begins writer head head_is counts place room = record {
  head_is = ap begun (sym head_is);
  counts_are = counts;
  place_is = place;
  within = omega (arith, place, room);
  body_is = ap (λ k. drop 12 (take k writer.out.now)) place ∙ drop-take 12 0 writer.out.now;
  valid = record { questions = tt; answer = tt; authority = tt; additional = tt };
}

all_on : {A : Type 0} (P : A → Type 0) (xs : List A) (x : A) → AllByRecursion P xs → P x → AllByRecursion P (xs ++ x ∷ [])
all_on P [] x all is = (is, tt)
all_on P (y ∷ xs) x all is = (all.0, all_on P xs x all.1 is)

one_on : {A : Type 0} (xs : List A) (x : A) → length xs + 1 ≡ length (xs ++ x ∷ [])
one_on xs x = sym (length-append xs (x ∷ []))

module _ (old : ReplyWriter) (before : Reply) (holds : Holds old before) (after : Reply) (piece : List ℕ) (body_is : body_of after ≡ body_of before ++ piece) where
  size_is : length (bytes_of after) ≡ old.place + length piece
  size_is = omega (arith, holds.place_is, bytes_size before, bytes_size after, ap length body_is, length-append (body_of before) piece)

  accepted : (new : ReplyWriter) → HasHead new.head after → new.counts ≡ counts_of after → AreValid after → Appends old.place old.out.now piece new.place new.out.now
      → Holds new after × (length (bytes_of after) ≤ size new)
  accepted new head counts valid appends =
      let front : length (take old.place old.out.now) ≡ old.place = length-take-le old.place old.out.now holds.within in (
        record {
          head_is = head;
          counts_are = counts;
          place_is = appends.next_is ∙ sym size_is;
          within = appends.within;
          body_is = ap (drop 12) appends.front ∙ drop-append-le 12 (take old.place old.out.now) piece (omega (arith, front, holds.place_is, bytes_size before))
              ∙ ap (λ xs. xs ++ piece) holds.body_is ∙ sym body_is;
          valid = valid;
        },
        omega (arith, size_is, appends.next_is, appends.within),
      )

  refused : size old - old.place < length piece → Holds old before × (size old < length (bytes_of after))
  refused short = (holds, omega (arith, size_is, short, holds.within))

-- ---- what stands behind the pieces

further : (place more next : ℕ) (xs ys : List ℕ) → next ≡ place + more → drop place xs ≡ drop place ys → drop next xs ≡ drop next ys
further place more next xs ys is same =
    ap (λ k. drop k xs) is ∙ sym (drop-drop more place xs) ∙ ap (drop more) same ∙ drop-drop more place ys ∙ sym (ap (λ k. drop k ys) is)

pub keeps_on : (old : ReplyWriter) (piece : List ℕ) (new : ReplyWriter) → Appends old.place (buffer old) piece new.place (buffer new)
    → (before : List ℕ) → KeepsRest before old → KeepsRest before new
keeps_on old piece new appends before keeps = record {
  behind_header = omega (arith, keeps.behind_header, appends.next_is);
  rest = appends.rest ∙ further old.place (length piece) new.place (buffer old) before appends.next_is keeps.rest;
}

-- ---- a question

module _ (old : ReplyWriter) (before : Reply) (holds : Holds old before) (question : Question) (may : MayAsk old.counts) where
  question_body : body_of (with_question before question) ≡ body_of before ++ question_bytes question
  question_body = question_on before question (subst MayAsk holds.counts_are may)

  pub question_accepted : (new : ReplyWriter) → IsName question.name → new.head ≡ old.head → new.counts ≡ record old.counts { questions = old.counts.questions + 1 }
      → Appends old.place old.out.now (question_bytes question) new.place new.out.now
      → Holds new (with_question before question) × (length (bytes_of (with_question before question)) ≤ size new)
  question_accepted new named head counts appends =
      accepted old before holds (with_question before question) (question_bytes question) question_body new
      (subst (λ h. HasHead h (with_question before question)) (sym head) (ap (λ (r : Reply). with_question r question) holds.head_is))
      (counts ∙ ap (λ (c : Counts). record c { questions = c.questions + 1 }) holds.counts_are ∙ ap (λ k. record (counts_of before) { questions = k }) (one_on before.questions question))
      (record { questions = all_on IsAsked before.questions question holds.valid.questions named; answer = holds.valid.answer; authority = holds.valid.authority; additional = holds.valid.additional }) appends

  pub question_refused : size old - old.place < length (question_bytes question) → Holds old before × (size old < length (bytes_of (with_question before question)))
  question_refused = refused old before holds (with_question before question) (question_bytes question) question_body

-- ---- a row

row_head : (head : ReplyHead) (reply : Reply) (section : Section) (row : Rr) → HasHead head reply → HasHead head (with_row reply section row)
row_head head reply Answer row is = ap (λ (r : Reply). with_row r Answer row) is
row_head head reply Authority row is = ap (λ (r : Reply). with_row r Authority row) is
row_head head reply Additional row is = ap (λ (r : Reply). with_row r Additional row) is

row_counts : (reply : Reply) (section : Section) (row : Rr) → one_more (counts_of reply) section ≡ counts_of (with_row reply section row)
row_counts reply Answer row = ap (λ k. record (counts_of reply) { answer = k }) (one_on reply.answer row)
row_counts reply Authority row = ap (λ k. record (counts_of reply) { authority = k }) (one_on reply.authority row)
row_counts reply Additional row = ap (λ k. record (counts_of reply) { additional = k }) (one_on reply.additional row)

row_valid : (reply : Reply) (section : Section) (row : Rr) → AreValid reply → IsRow row → AreValid (with_row reply section row)
row_valid reply Answer row valid is = record { questions = valid.questions; answer = all_on IsRow reply.answer row valid.answer is; authority = valid.authority; additional = valid.additional }
row_valid reply Authority row valid is = record { questions = valid.questions; answer = valid.answer; authority = all_on IsRow reply.authority row valid.authority is; additional = valid.additional }
row_valid reply Additional row valid is = record { questions = valid.questions; answer = valid.answer; authority = valid.authority; additional = all_on IsRow reply.additional row valid.additional is }

module _ (old : ReplyWriter) (before : Reply) (holds : Holds old before) (section : Section) (row : Rr) (may : MayGrow old.counts section) where
  row_body : body_of (with_row before section row) ≡ body_of before ++ row_bytes row
  row_body = row_on before section row (subst (λ c. MayGrow c section) holds.counts_are may)

  pub row_accepted : (new : ReplyWriter) → IsRow row → new.head ≡ old.head → new.counts ≡ one_more old.counts section
      → Appends old.place old.out.now (row_bytes row) new.place new.out.now
      → Holds new (with_row before section row) × (length (bytes_of (with_row before section row)) ≤ size new)
  row_accepted new is head counts appends =
      accepted old before holds (with_row before section row) (row_bytes row) row_body new
      (subst (λ h. HasHead h (with_row before section row)) (sym head) (row_head old.head before section row holds.head_is))
      (counts ∙ ap (λ c. one_more c section) holds.counts_are ∙ row_counts before section row)
      (row_valid before section row holds.valid is) appends

  pub row_refused : size old - old.place < length (row_bytes row) → Holds old before × (size old < length (bytes_of (with_row before section row)))
  row_refused = refused old before holds (with_row before section row) (row_bytes row) row_body

-- ---- the end

flags_fit : (head : ReplyHead) (reply : Reply) → HasHead head reply → FlagsFit reply
flags_fit head reply is = record {
  opcode_fits = omega (arith, ap (λ (r : Reply). r.opcode) is);
  zero_fits = omega (arith, ap (λ (r : Reply). r.z) is);
  rcode_fits = omega (arith, ap (λ (r : Reply). r.rcode) is, code_fits head.rcode);
}

module _ (writer : ReplyWriter) (reply : Reply) (holds : Holds writer reply) (header new : List ℕ) (next : ℕ)
    (header_is : header ≡ header_with writer.head.id (flags_of (begun writer.head)) writer.counts) (appends : Appends 0 writer.out.now header next new) where
  twelve : next ≡ 12
  twelve = omega (arith, appends.next_is, ap length header_is)

  -- the header, and behind it what stood there
  now_is : new ≡ header ++ drop 12 writer.out.now
  now_is = sym (take-append-drop next new) ∙ ap (λ xs. xs ++ drop next new) appends.front ∙ ap (λ xs. header ++ xs) (appends.rest ∙ ap (λ k. drop k writer.out.now) twelve)

  header_on : header ≡ header_of reply
  header_on =
      let id : writer.head.id ≡ reply.id = sym (ap (λ (r : Reply). r.id) holds.head_is) in
      let flags : flags_of (begun writer.head) ≡ flags_of reply = sym (ap flags_of holds.head_is) in
      header_is ∙ λ i. header_with (id i) (flags i) (holds.counts_are i)

  -- the bytes are those of the pieces
  pub finished_bytes : take writer.place new ≡ bytes_of reply
  unfolding bytes_of
  finished_bytes =
      let rest = writer.place - 12 in
      let place : writer.place ≡ length header + rest = omega (arith, holds.place_is, bytes_size reply, ap length header_is) in
      let place_is : writer.place ≡ 12 + rest = omega (arith, place, ap length header_is) in
      let front : take writer.place new ≡ header ++ take rest (drop 12 writer.out.now) =
      ap (take writer.place) now_is ∙ ap (λ k. take k (header ++ drop 12 writer.out.now)) place ∙ take-append-add header (drop 12 writer.out.now) rest in
      let body : take rest (drop 12 writer.out.now) ≡ body_of reply = sym (drop-take 12 rest writer.out.now) ∙ ap (λ k. drop 12 (take k writer.out.now)) (sym place_is) ∙ holds.body_is in
      front ∙ λ i. header_on i ++ body i

  -- and they are read as these
  pub finished : IsReply (take writer.place new) reply × (writer.place ≡ length (bytes_of reply))
  finished = (read_back (take writer.place new) reply finished_bytes holds.valid (flags_fit writer.head reply holds.head_is), holds.place_is)

-- the header is before the place, and what stands behind it stays
pub rest_kept : (writer : ReplyWriter) (before header new : List ℕ) (next : ℕ) → length header ≡ header_len → Appends 0 (buffer writer) header next new
    → KeepsRest before writer → drop writer.place new ≡ drop writer.place before
rest_kept writer before header new next len appends keeps =
    further next (writer.place - next) writer.place new (buffer writer) (omega (arith, appends.next_is, len, keeps.behind_header)) appends.rest ∙ keeps.rest
