-- Replicas with the same units of a zone answer alike: only an SOA's primary server and serial are the replica's own.
use Rattle.std.proofs.Common.{◌≡◌, ℕ, ◌+◌, ◌-◌, ◌≤◌, ◌&&◌, Bool, true, false, nat_le, nat_lt, nat_eq, cond, List, [], ◌∷◌, ◌++◌, length, map, take, drop, Option, None, Some, refl, sym, ap, ap₂, ◌∙◌, arith, append_assoc, length-append, length-drop, length-take-le, take_at, drop_at}
use Rattle.std.specs.Prelude.{flat_map, not, sum_by}
use Rattle.std.specs.Int.{w32, to_be_bytes}
use Rattle.std.proofs.lemmas.Bool.{ltb-false}
use Rattle.std.proofs.lemmas.List.Sums.{sum_by-cons}
use Rattle.dn_name.specs.Name.{Labels, is_same, wire_of, wire_len, IsName}
use Rattle.dn_name.specs.Wire.{plain_name}
use Rattle.dn_name.proofs.CallerLemmas.{plain_again}
use Rattle.dn_message.specs.declared.rr.Rr.{Rr}
use Rattle.dn_store.specs.declared.unit.Unit as units
use Rattle.dn_store.specs.declared.unit.Write.{Write}
use Rattle.dn_store.specs.Contents.{rows_in}
use Rattle.dn_store.specs.Table.{TableState, write_of}
use Rattle.dn_answer.specs.declared.reply.AnswerValue.{AnswerValue}
use Rattle.dn_store.specs.declared.owned.Owned.{Owned}
use Rattle.dn_answer.specs.declared.walk.Walk.{Walk}
use Rattle.dn_answer.specs.Alike.{EqualAnswerAlike, blank, blank_row, blanked, contents}
use Rattle.dn_answer.specs.Answer.{answer_of, reply_of_rows, owner_of, refused, reply_of_walk, rr_of, soa_data, with_primary, serial_of}
use Rattle.dn_answer.specs.Glue.{glue}
use Rattle.dn_store.specs.Rows.{has_some, of_name, of_type, rows_of, rows_of_key}
use Rattle.dn_answer.specs.Size.{behind_primary, fitted, reply_size, rr_size, truncated, without_additional}
use Rattle.dn_answer.specs.Walk.{walk}

-- ---- an SOA's data with another primary server and serial

-- what stands around four bytes
around : (front mid tail : List ℕ) → length mid ≡ 4 → length tail ≡ 16
    → take (length (front ++ (mid ++ tail)) - 20) (front ++ (mid ++ tail)) ++ drop (length (front ++ (mid ++ tail)) - 16) (front ++ (mid ++ tail)) ≡ front ++ tail
around front mid tail four sixteen =
    ap₂ (λ (x y : List ℕ). x ++ y)
    (take_at front (mid ++ tail) (length (front ++ (mid ++ tail)) - 20) (omega (arith, length-append front (mid ++ tail), length-append mid tail, four, sixteen)))
    (ap (drop (length (front ++ (mid ++ tail)) - 16)) (sym (append_assoc front mid tail))
    ∙ drop_at (front ++ mid) tail (length (front ++ (mid ++ tail)) - 16)
    (omega (arith, length-append front (mid ++ tail), length-append mid tail, length-append front mid, four, sixteen)))

tail_is : (bytes : List ℕ) → 20 ≤ length bytes → length (drop (length bytes - 16) bytes) ≡ 16
tail_is bytes long = omega (arith, length-drop (length bytes - 16) bytes, long)

as_long : (bytes mid : List ℕ) → length mid ≡ 4 → 20 ≤ length bytes
    → length (take (length bytes - 20) bytes ++ (mid ++ drop (length bytes - 16) bytes)) ≡ length bytes
as_long bytes mid four long =
    let short : length bytes - 20 ≤ length bytes = omega arith in
    omega (
      arith,
      length-append (take (length bytes - 20) bytes) (mid ++ drop (length bytes - 16) bytes),
      length-append mid (drop (length bytes - 16) bytes),
      length-take-le (length bytes - 20) bytes short,
      tail_is bytes long,
      four,
      long,
    )

by_length : (A : Type 0) (of : List ℕ → Option (Labels × List ℕ) → A) (b : Bool) (rdata new : List ℕ) (found again : Labels × List ℕ)
    → nat_lt (length found.1) 20 ≡ b → plain_name rdata ≡ Some found → plain_name new ≡ Some again
    → (20 ≤ length found.1 → of new (Some again) ≡ of rdata (Some found))
    → of (cond b rdata new) (plain_name (cond b rdata new)) ≡ of rdata (Some found)
by_length A of true rdata new found again is at there same = ap (of rdata) at
by_length A of false rdata new found again is at there same = ap (of new) there ∙ same (ltb-false (length found.1) 20 is)

abbrev replaced : ℕ → List ℕ → List ℕ
replaced serial bytes = take (length bytes - 20) bytes ++ (to_be_bytes w32 serial ++ drop (length bytes - 16) bytes)

regrouped : (a b c d : List ℕ) → a ++ b ++ c ++ d ≡ a ++ (b ++ (c ++ d))
regrouped a b c d = append_assoc (a ++ b) c d ∙ append_assoc a b (c ++ d)

four_bytes : (serial : ℕ) → length (to_be_bytes w32 serial) ≡ 4
four_bytes serial = refl

module _ (host : Labels) (serial : ℕ) (is : IsName host) where
  by_primary : (A : Type 0) (of : List ℕ → Option (Labels × List ℕ) → A) (rdata : List ℕ) (there : Option (Labels × List ℕ))
      → plain_name rdata ≡ there
      → ((found : Labels × List ℕ) → 20 ≤ length found.1
      → of (wire_of host ++ take (length found.1 - 20) found.1 ++ to_be_bytes w32 serial ++ drop (length found.1 - 16) found.1)
      (Some (host, replaced serial found.1)) ≡ of rdata (Some found))
      → of (with_primary host serial rdata there) (plain_name (with_primary host serial rdata there)) ≡ of rdata there
  by_primary A of rdata None at same = ap (of rdata) at
  by_primary A of rdata (Some found) at same =
      by_length A of (nat_lt (length found.1) 20) rdata
      (wire_of host ++ take (length found.1 - 20) found.1 ++ to_be_bytes w32 serial ++ drop (length found.1 - 16) found.1)
      found (host, replaced serial found.1) refl at
      (ap plain_name (regrouped (wire_of host) (take (length found.1 - 20) found.1) (to_be_bytes w32 serial) (drop (length found.1 - 16) found.1))
      ∙ plain_again host (replaced serial found.1) is)
      (same found)

  soa_blanked : (rdata : List ℕ) → blanked (soa_data host serial rdata) (plain_name (soa_data host serial rdata)) ≡ blanked rdata (plain_name rdata)
  unfolding soa_data
  soa_blanked rdata =
      by_primary (List ℕ) blanked rdata (plain_name rdata) refl
      (λ found long. around (take (length found.1 - 20) found.1) (to_be_bytes w32 serial) (drop (length found.1 - 16) found.1) (four_bytes serial) (tail_is found.1 long))

  soa_size : (rdata : List ℕ) → behind_primary (soa_data host serial rdata) (plain_name (soa_data host serial rdata)) ≡ behind_primary rdata (plain_name rdata)
  unfolding soa_data
  soa_size rdata =
      by_primary ℕ behind_primary rdata (plain_name rdata) refl
      (λ found long. ap (λ n. 255 + n) (as_long found.1 (to_be_bytes w32 serial) (four_bytes serial) long))

-- ---- a row, whoever answers

plain_rr : List Labels → Owned → Rr
plain_rr spelled one = record { name = owner_of spelled one.name; rtype = one.row.rtype; rclass = 1; ttl = one.row.ttl; rdata = one.row.rdata }

by_tests : (b c : Bool) (row : Rr) (rdata soa : List ℕ) → blanked soa (plain_name soa) ≡ blanked rdata (plain_name rdata)
    → cond b (record row { rdata = blanked (cond (b && c) soa rdata) (plain_name (cond (b && c) soa rdata)) }) (record row { rdata = cond (b && c) soa rdata })
    ≡ cond b (record row { rdata = blanked rdata (plain_name rdata) }) (record row { rdata = rdata })
by_tests true true row rdata soa same = ap (λ (data_of : List ℕ). record row { rdata = data_of }) same
by_tests true false row rdata soa same = refl
by_tests false c row rdata soa same = refl

size_by_tests : (b c : Bool) (rdata soa : List ℕ) → behind_primary soa (plain_name soa) ≡ behind_primary rdata (plain_name rdata)
    → cond b (behind_primary (cond (b && c) soa rdata) (plain_name (cond (b && c) soa rdata))) (length (cond (b && c) soa rdata))
    ≡ cond b (behind_primary rdata (plain_name rdata)) (length rdata)
size_by_tests true true rdata soa same = same
size_by_tests true false rdata soa same = refl
size_by_tests false c rdata soa same = refl

module _ (spelled : List Labels) (apex host : Labels) (serial : ℕ) (is : IsName host) where
  rr_blank : (one : Owned) → blank_row (rr_of spelled apex host serial one) ≡ blank_row (plain_rr spelled one)
  unfolding rr_of plain_rr
  rr_blank one =
      by_tests (nat_eq one.row.rtype 6) (is_same one.name apex) (plain_rr spelled one) one.row.rdata (soa_data host serial one.row.rdata)
      (soa_blanked host serial is one.row.rdata)

  rr_sized : (one : Owned) → rr_size (rr_of spelled apex host serial one) ≡ rr_size (plain_rr spelled one)
  unfolding rr_of plain_rr rr_size
  rr_sized one =
      ap (λ n. wire_len (owner_of spelled one.name) + 10 + n)
      (size_by_tests (nat_eq one.row.rtype 6) (is_same one.name apex) one.row.rdata (soa_data host serial one.row.rdata) (soa_size host serial is one.row.rdata))

-- ---- a section

blank_rows : (f g : Owned → Rr) → ((one : Owned) → blank_row (f one) ≡ blank_row (g one)) → (rows : List Owned) → map blank_row (map f rows) ≡ map blank_row (map g rows)
blank_rows f g same [] = refl
blank_rows f g same (one ∷ rows) = ap₂ (λ (x : Rr) (xs : List Rr). x ∷ xs) (same one) (blank_rows f g same rows)

size_rows : (f g : Owned → Rr) → ((one : Owned) → rr_size (f one) ≡ rr_size (g one)) → (rows : List Owned) → sum_by rr_size (map f rows) ≡ sum_by rr_size (map g rows)
size_rows f g same [] = refl
size_rows f g same (one ∷ rows) =
    sum_by-cons rr_size (f one) (map f rows)
    ∙ ap₂ (λ (x y : ℕ). x + y) (same one) (size_rows f g same rows)
    ∙ sym (sum_by-cons rr_size (g one) (map g rows))

-- ---- a reply

by_fits : (b c : Bool) (left right : AnswerValue) → blank left ≡ blank right
    → blank (cond b left (cond c (without_additional left) (truncated left))) ≡ blank (cond b right (cond c (without_additional right) (truncated right)))
by_fits true c left right same = same
by_fits false true left right same = ap without_additional same
by_fits false false left right same = ap truncated same

fitted_alike : (question : Labels) (left right : AnswerValue) → reply_size question left ≡ reply_size question right
    → reply_size question (without_additional left) ≡ reply_size question (without_additional right)
    → blank left ≡ blank right → blank (fitted question left) ≡ blank (fitted question right)
unfolding fitted
fitted_alike question left right size less same =
    ap₂ (λ (n m : ℕ). blank (cond (nat_le n 512) left (cond (nat_le m 512) (without_additional left) (truncated left)))) size less
    ∙ by_fits (nat_le (reply_size question right) 512) (nat_le (reply_size question (without_additional right)) 512) left right same

by_refused : (b : Bool) (left right : AnswerValue) → blank left ≡ blank right → blank (cond b left refused) ≡ blank (cond b right refused)
by_refused true left right same = same
by_refused false left right same = refl

module _ (rows : List Owned) (apex host other : Labels) (serial later : ℕ) (is : IsName host) (is_other : IsName other) where
  alike_row : (spelled : List Labels) (one : Owned) → blank_row (rr_of spelled apex host serial one) ≡ blank_row (rr_of spelled apex other later one)
  alike_row spelled one = rr_blank spelled apex host serial is one ∙ sym (rr_blank spelled apex other later is_other one)

  alike_size : (spelled : List Labels) (one : Owned) → rr_size (rr_of spelled apex host serial one) ≡ rr_size (rr_of spelled apex other later one)
  alike_size spelled one = rr_sized spelled apex host serial is one ∙ sym (rr_sized spelled apex other later is_other one)

  same_rows : (spelled : List Labels) (put : List Owned)
      → map blank_row (map (rr_of spelled apex host serial) put) ≡ map blank_row (map (rr_of spelled apex other later) put)
  same_rows spelled put = blank_rows (rr_of spelled apex host serial) (rr_of spelled apex other later) (alike_row spelled) put

  same_sum : (spelled : List Labels) (put : List Owned)
      → sum_by rr_size (map (rr_of spelled apex host serial) put) ≡ sum_by rr_size (map (rr_of spelled apex other later) put)
  same_sum spelled put = size_rows (rr_of spelled apex host serial) (rr_of spelled apex other later) (alike_size spelled) put

  walk_alike : (walked : Walk) → blank (reply_of_walk rows apex host serial walked) ≡ blank (reply_of_walk rows apex other later walked)
  unfolding reply_of_walk
  walk_alike walked =
      ap₂ (λ (answer authority : List Rr). record (blank (reply_of_walk rows apex host serial walked)) { answer = answer; authority = authority })
      (same_rows walked.spelled walked.answer) (same_rows walked.spelled walked.authority)

  walk_size : (question : Labels) (walked : Walk)
      → reply_size question (reply_of_walk rows apex host serial walked) ≡ reply_size question (reply_of_walk rows apex other later walked)
  unfolding reply_of_walk reply_size
  walk_size question walked =
      ap₂ (λ (x y : ℕ). 12 + wire_len question + 4 + x + y
      + sum_by rr_size (glue walked.spelled rows apex (walked.answer ++ walked.authority) (walked.answer ++ walked.authority)))
      (same_sum walked.spelled walked.answer) (same_sum walked.spelled walked.authority)

  walk_size_without : (question : Labels) (walked : Walk)
      → reply_size question (without_additional (reply_of_walk rows apex host serial walked))
      ≡ reply_size question (without_additional (reply_of_walk rows apex other later walked))
  unfolding reply_of_walk reply_size
  walk_size_without question walked =
      ap₂ (λ (x y : ℕ). 12 + wire_len question + 4 + x + y + 0) (same_sum walked.spelled walked.answer) (same_sum walked.spelled walked.authority)

  fitted_walks : (question : Labels) (walked : Walk)
      → blank (fitted question (reply_of_walk rows apex host serial walked)) ≡ blank (fitted question (reply_of_walk rows apex other later walked))
  fitted_walks question walked =
      fitted_alike question (reply_of_walk rows apex host serial walked) (reply_of_walk rows apex other later walked)
      (walk_size question walked) (walk_size_without question walked) (walk_alike walked)

  answers_alike : (name : Labels) (qtype : ℕ) → blank (reply_of_rows rows apex serial host name qtype) ≡ blank (reply_of_rows rows apex later other name qtype)
  unfolding reply_of_rows
  answers_alike name qtype =
      by_refused (has_some (of_type 6 (of_name apex rows)) && not (nat_eq qtype 252))
      (fitted name (reply_of_walk rows apex host serial (walk 16 rows apex qtype (name ∷ []) name)))
      (fitted name (reply_of_walk rows apex other later (walk 16 rows apex qtype (name ∷ []) name)))
      (fitted_walks name (walk 16 rows apex qtype (name ∷ []) name))

-- ---- a zone

rows_of_content : Write → List Owned
rows_of_content one = rows_of_key one.key (rows_in one.value)

by_content : (list : List units.Unit) → rows_of list ≡ flat_map rows_of_content (map write_of list)
unfolding rows_of rows_of_content
by_content [] = refl
by_content (unit ∷ list) = ap (λ (later : List Owned). rows_of_key unit.key (rows_in unit.value) ++ later) (by_content list)

equal_rows : (left right : TableState) → contents left ≡ contents right → rows_of left.0 ≡ rows_of right.0
equal_rows left right same = by_content left.0 ∙ ap (flat_map rows_of_content) same ∙ sym (by_content right.0)

pub equal_alike : EqualAnswerAlike
unfolding answer_of
equal_alike left right apex host other is is_other same name qtype =
    ap (λ (rows : List Owned). blank (reply_of_rows rows apex (serial_of left.1) host name qtype)) (equal_rows left right same)
    ∙ answers_alike (rows_of right.0) apex host other (serial_of left.1) (serial_of right.1) is is_other name qtype
