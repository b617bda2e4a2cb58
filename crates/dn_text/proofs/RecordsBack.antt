-- Reading the line of a stored record gives the record.
use Rattle.std.proofs.Common.{◌≡◌, ℕ, ◌-◌, ◌^◌, ◌<◌, false, nat_eq, List, ◌∷◌, ◌++◌, codes, Some, inl, inr, refl, ap, subst, ◌∙◌, arith, append_assoc}
use Rattle.std.specs.Fmt.{decimal}
use Rattle.std.proofs.lemmas.Bool.{cases_Bool}
use Rattle.std.proofs.lemmas.Bool.Decides.{nat_tests}
use Rattle.dn_rdata.specs.declared.record.Record.{Record}
use Rattle.dn_word.specs.Print.{count_text}
use Rattle.dn_word.proofs.CallerLemmas.{Lacks, decimal_lacks, lacks_both, number_read_back}
use Rattle.dn_rdata.specs.Ranges.{IsInRange}
use Rattle.dn_text.specs.RecordLines.{RecordsAreReadBack, head_of, marks_of, numbers_text, record_of_text, record_text, stored_type_of, stored_type_text, times_of, typed_of}
use Rattle.dn_text.specs.Rows.{data_text}
use Rattle.dn_text.specs.Table.{type_named, type_text}
use Rattle.dn_text.specs.Types.{question_type, type_numbered, type_of}
use Rattle.dn_text.proofs.DataBack.{data_read_back}
use Rattle.dn_text.proofs.LabelledBack.{handed_on, lacks_by, number_back, word_back}

-- ---- the type

-- a type is read back from its word, which has no space
abbrev IsBack : ℕ → Type 0
IsBack rtype = rtype < 2 ^ 16 → (stored_type_of (stored_type_text rtype) ≡ Some rtype) × Lacks 32 (stored_type_text rtype)

-- what holds of one number, and of all that are another, holds of each
by_type : (rtype number : ℕ) → IsBack number → (nat_eq rtype number ≡ false → IsBack rtype) → IsBack rtype
by_type rtype number back others =
    elim (cases_Bool (nat_eq rtype number)) [
      | inl same ↦ (let number_is : number ≡ rtype = grind (arith, nat_tests) in subst IsBack number_is back)
      | inr other ↦ others other
    ]

-- a type without a name
numbered : (rtype : ℕ) → rtype < 2 ^ 16 → stored_type_of (codes "TYPE" ++ decimal rtype) ≡ Some rtype
unfolding stored_type_of type_of type_named question_type type_numbered
numbered rtype fits = number_read_back (2 ^ 16 - 1) rtype (omega (arith, fits)) (omega (arith, fits))

numbered_lacks : (rtype : ℕ) → rtype < 2 ^ 16 → Lacks 32 (codes "TYPE" ++ decimal rtype)
numbered_lacks rtype fits = lacks_both 32 (codes "TYPE") (decimal rtype) (lacks_by (codes "TYPE") refl) (decimal_lacks 32 rtype (omega arith) (omega (arith, fits)))

type_back : (rtype : ℕ) → IsBack rtype
unfolding stored_type_of stored_type_text type_of type_text type_named
type_back rtype =
    by_type rtype 0 (λ fits. (refl, lacks_by (codes "TOMBSTONE") refl)) (λ not0.
    by_type rtype 1 (λ fits. (refl, lacks_by (codes "A") refl)) (λ not1.
    by_type rtype 2 (λ fits. (refl, lacks_by (codes "NS") refl)) (λ not2.
    by_type rtype 5 (λ fits. (refl, lacks_by (codes "CNAME") refl)) (λ not5.
    by_type rtype 6 (λ fits. (refl, lacks_by (codes "SOA") refl)) (λ not6.
    by_type rtype 12 (λ fits. (refl, lacks_by (codes "PTR") refl)) (λ not12.
    by_type rtype 13 (λ fits. (refl, lacks_by (codes "HINFO") refl)) (λ not13.
    by_type rtype 15 (λ fits. (refl, lacks_by (codes "MX") refl)) (λ not15.
    by_type rtype 16 (λ fits. (refl, lacks_by (codes "TXT") refl)) (λ not16.
    by_type rtype 28 (λ fits. (refl, lacks_by (codes "AAAA") refl)) (λ not28.
    by_type rtype 33 (λ fits. (refl, lacks_by (codes "SRV") refl)) (λ not33.
    by_type rtype 49 (λ fits. (refl, lacks_by (codes "DHCID") refl)) (λ not49.
    rw (not0, not1, not2, not5, not6, not12, not13, not15, not16, not28, not33, not49) (λ fits. (numbered rtype fits, numbered_lacks rtype fits))))))))))))))

-- ---- the line

typed_back : (rtype : ℕ) (rest : List ℕ) → rtype < 2 ^ 16 → typed_of (codes "record " ++ (stored_type_text rtype ++ (32 ∷ rest))) ≡ Some (rtype, rest)
unfolding typed_of
typed_back rtype rest fits =
    let back = type_back rtype fits in
    handed_on _ (stored_type_text rtype, rest) _ (word_back (codes "record ") (stored_type_text rtype) rest back.1) ∙ handed_on _ rtype _ back.0

times_back : (ttl hour rank : ℕ) (rest : List ℕ) → ttl < 2 ^ 32 → hour < 2 ^ 32 → rank < 2 ^ 8
    → times_of (codes "ttl=" ++ (decimal ttl ++ (32 ∷ (codes "hour=" ++ (decimal hour ++ (32 ∷ (codes "rank=" ++ (decimal rank ++ (32 ∷ rest)))))))))
    ≡ Some (record { ttl = ttl; hour = hour; rank = rank }, rest)
unfolding times_of
times_back ttl hour rank rest ttl_fits hour_fits rank_fits =
    handed_on _ (ttl, _) _ (number_back (codes "ttl=") (2 ^ 32 - 1) ttl _ (omega (arith, ttl_fits)) (omega (arith, ttl_fits)))
    ∙ handed_on _ (hour, _) _ (number_back (codes "hour=") (2 ^ 32 - 1) hour _ (omega (arith, hour_fits)) (omega (arith, hour_fits)))
    ∙ handed_on _ (rank, rest) _ (number_back (codes "rank=") (2 ^ 8 - 1) rank rest (omega (arith, rank_fits)) (omega (arith, rank_fits)))

marks_back : (flags serial reserved : ℕ) (rest : List ℕ) → flags < 2 ^ 16 → serial < 2 ^ 32 → reserved < 2 ^ 32
    → marks_of (codes "flags=" ++ (decimal flags ++ (32 ∷ (codes "serial=" ++ (decimal serial ++ (32 ∷ (codes "reserved=" ++ (decimal reserved ++ (32 ∷ rest)))))))))
    ≡ Some (record { flags = flags; serial = serial; reserved = reserved }, rest)
unfolding marks_of
marks_back flags serial reserved rest flags_fit serial_fits reserved_fits =
    handed_on _ (flags, _) _ (number_back (codes "flags=") (2 ^ 16 - 1) flags _ (omega (arith, flags_fit)) (omega (arith, flags_fit)))
    ∙ handed_on _ (serial, _) _ (number_back (codes "serial=") (2 ^ 32 - 1) serial _ (omega (arith, serial_fits)) (omega (arith, serial_fits)))
    ∙ handed_on _ (reserved, rest) _ (number_back (codes "reserved=") (2 ^ 32 - 1) reserved rest (omega (arith, reserved_fits)) (omega (arith, reserved_fits)))

-- a line's pieces, grouped to the right
regrouped : (word rtype a ttl b hour c rank d flags e serial f reserved space rest : List ℕ)
    → word ++ rtype ++ (a ++ ttl ++ (b ++ hour) ++ (c ++ rank) ++ (d ++ flags) ++ (e ++ serial) ++ (f ++ reserved)) ++ space ++ rest
    ≡ word ++ (rtype ++ (a ++ (ttl ++ (b ++ (hour ++ (c ++ (rank ++ (d ++ (flags ++ (e ++ (serial ++ (f ++ (reserved ++ (space ++ rest))))))))))))))
regrouped word rtype a ttl b hour c rank d flags e serial f reserved space rest = simp append_assoc

line_is : (item : Record) → record_text item
    ≡ codes "record " ++ (stored_type_text item.rtype ++ (codes " ttl=" ++ (decimal item.ttl ++ (codes " hour=" ++ (decimal item.hour ++ (codes " rank=" ++ (decimal item.rank
    ++ (codes " flags=" ++ (decimal item.flags ++ (codes " serial=" ++ (decimal item.serial ++ (codes " reserved=" ++ (decimal item.reserved ++ (codes " " ++ data_text item.rtype item.rdata))))))))))))))
unfolding record_text numbers_text count_text
line_is item =
    regrouped (codes "record ") (stored_type_text item.rtype) (codes " ttl=") (decimal item.ttl) (codes " hour=") (decimal item.hour) (codes " rank=") (decimal item.rank)
    (codes " flags=") (decimal item.flags) (codes " serial=") (decimal item.serial) (codes " reserved=") (decimal item.reserved) (codes " ") (data_text item.rtype item.rdata)

head_back : (item : Record) → IsInRange item
    → head_of (record_text item)
    ≡ Some (record { rtype = item.rtype; times = record { ttl = item.ttl; hour = item.hour; rank = item.rank }; marks = record { flags = item.flags; serial = item.serial; reserved = item.reserved } }, data_text item.rtype item.rdata)
unfolding head_of
head_back item are =
    ap head_of (line_is item)
    ∙ handed_on _ (item.rtype, _) _ (typed_back item.rtype _ are.rtype_fits)
    ∙ handed_on _ (record { ttl = item.ttl; hour = item.hour; rank = item.rank }, _) _ (times_back item.ttl item.hour item.rank _ are.ttl_fits are.hour_fits are.rank_fits)
    ∙ handed_on _ (record { flags = item.flags; serial = item.serial; reserved = item.reserved }, data_text item.rtype item.rdata) _
    (marks_back item.flags item.serial item.reserved (data_text item.rtype item.rdata) are.flags_fit are.serial_fits are.reserved_fits)

pub records_back : RecordsAreReadBack
unfolding record_of_text
records_back item are valid = handed_on _ _ _ (head_back item are) ∙ handed_on _ item.rdata _ (data_read_back item.rtype item.rdata are.rdata_are_bytes valid)
