-- At each place of a message stands one record of any data, or none; and so do records up to the message's end.
use Rattle.std.proofs.Common.{◌≡◌, ℕ, zero, suc, ◌+◌, ◌≤◌, List, [], ◌∷◌, length, take, drop, refl, sym, ap, ap₂, subst, ◌∙◌, arith, drop-drop, length-append, length-take-le, take-append-drop, take_at}
use Rattle.std.proofs.Math.Decide.{dec_le, ℕ_discrete}
use Rattle.std.proofs.lemmas.List.{nil_from_length}
use Rattle.dn_name.specs.Exact.{Decided}
use Rattle.dn_name.specs.Name.{Labels}
use Rattle.dn_name.specs.Spelled.{Spelled}
use Rattle.dn_name.proofs.CallerLemmas.{by_part, no_value, one_value, spelled_or_not}
use Rattle.dn_message.specs.declared.rr.Rr.{Rr}
use Rattle.dn_message.specs.Decisions.Fronts.{Fronts, IsFront, both, both_bytes, four, two}
use Rattle.dn_message.specs.Decisions.Standing.{any_laid, any_stands, stands}
use Rattle.dn_message.specs.Fields.{four_bytes, two_bytes}
use Rattle.dn_message.specs.Record.{AreRrs, IsRr, any_data, fields}

-- type, class, time to live, and how many bytes the data have
abbrev Numbers : Type 0
Numbers = ℕ × (ℕ × (ℕ × ℕ))

abbrev bytes_of : Numbers → List ℕ
bytes_of numbers = fields numbers.0 numbers.1.0 numbers.1.1.0 numbers.1.1.1

abbrev len_of : Numbers × List ℕ → ℕ
len_of front = front.0.1.1.1

fields_or_not : Fronts bytes_of
fields_or_not =
    both two_bytes (both_bytes two_bytes (both_bytes four_bytes two_bytes)) two
    (both two_bytes (both_bytes four_bytes two_bytes) two (both four_bytes two_bytes four two))

module _ (message : List ℕ) where
  -- ---- one record

  -- the record of a name and of what stands behind the name, and the place behind the record
  abbrev row_of : Labels × ℕ → Numbers × List ℕ → Rr × ℕ
  row_of name front = (
    record { name = name.0; rtype = front.0.0; rclass = front.0.1.0; ttl = front.0.1.1.0; rdata = take (len_of front) front.1 },
    name.1 + 10 + len_of front,
  )

  -- what stands behind the name of a record
  abbrev front_of : (row : Rr) (behind len : ℕ) → Numbers × List ℕ
  front_of row behind len = ((row.rtype, (row.rclass, (row.ttl, len))), drop (behind + 10) message)

  module _ (at : ℕ) (found : Rr × ℕ) (is : IsRr any_data message at found.0 found.1) where
    front_stands : (name : Labels × ℕ) → (found.0.name, is.behind) ≡ name → IsFront bytes_of (drop name.1 message) (front_of found.0 is.behind is.len)
    front_stands name e = ap (λ (p : Labels × ℕ). drop p.1 message) (sym e) ∙ is.fields_stand.bytes

    data_are : (found.0.rdata ≡ take is.len (drop (is.behind + 10) message)) × (is.len ≤ length (drop (is.behind + 10) message))
    data_are =
        let lying = any_stands message (is.behind + 10) found.1 found.0.rdata is.data_laid in
        let size : length found.0.rdata ≡ is.len = omega (arith, lying.next_is, is.next_is) in (
          sym (ap (take is.len) lying.bytes ∙ take_at found.0.rdata (drop found.1 message) is.len size),
          omega (arith, size, ap length lying.bytes, length-append found.0.rdata (drop found.1 message)),
        )

    is_row_of : found ≡ row_of (found.0.name, is.behind) (front_of found.0 is.behind is.len)
    is_row_of =
        ap₂ (λ (bytes : List ℕ) (next : ℕ). (record { name = found.0.name; rtype = found.0.rtype; rclass = found.0.rclass; ttl = found.0.ttl; rdata = bytes }, next))
        data_are.0 is.next_is

  row_stands : (at : ℕ) (name : Labels × ℕ) (front : Numbers × List ℕ) → Spelled message at name.0 name.1 → IsFront bytes_of (drop name.1 message) front
      → len_of front ≤ length front.1 → IsRr any_data message at (row_of name front).0 (row_of name front).1
  row_stands at name front spelled e room =
      let place : ℕ = name.1 + 10 in
      let rest : drop place message ≡ front.1 = sym (drop-drop 10 name.1 message) ∙ ap (drop 10) e in
      let size : length (take (len_of front) front.1) ≡ len_of front = length-take-le (len_of front) front.1 room in
      record {
        behind = name.1;
        len = len_of front;
        name_spelled = spelled;
        fields_stand = stands message name.1 place (bytes_of front.0) front.1 e refl;
        data_laid = any_laid message place (place + len_of front) (take (len_of front) front.1)
            (stands message place (place + len_of front) (take (len_of front) front.1) (drop (len_of front) front.1) (rest ∙ sym (take-append-drop (len_of front) front.1)) (omega (arith, size)));
        next_is = refl;
      }

  row_or_not : (at : ℕ) → Decided (λ (found : Rr × ℕ). IsRr any_data message at found.0 found.1)
  row_or_not at =
      by_part (spelled_or_not message at) (λ found is. ((found.0.name, is.behind), is.name_spelled))
      (λ name spelled only_name.
      by_part (fields_or_not (drop name.1 message))
      (λ found is. (front_of found.0 is.behind is.len, front_stands at found is name (only_name (found.0.name, is.behind) is.name_spelled)))
      (λ front e only_front.
      elim (dec_le (len_of front) (length front.1)) [
        | yes room ↦
            one_value (row_of name front) (row_stands at name front spelled e room)
            (λ found is.
            let same_name = only_name (found.0.name, is.behind) is.name_spelled in
            let same_front = only_front (front_of found.0 is.behind is.len) (front_stands at found is name same_name) in
            is_row_of at found is ∙ ap₂ row_of same_name same_front)
        | no cut ↦
            no_value (λ found is.
            let same_name = only_name (found.0.name, is.behind) is.name_spelled in
            let same_front = only_front (front_of found.0 is.behind is.len) (front_stands at found is name same_name) in
            cut (subst (λ (f : Numbers × List ℕ). len_of f ≤ length f.1) same_front (data_are at found is).1))
      ]))

  -- ---- records up to the message's end

  abbrev pub AreRows : ℕ → ℕ → List Rr → Type 0
  AreRows count at rows = (length rows ≡ count) × AreRrs any_data message at rows (length message)

  record Begin (count at : ℕ) (rows : List Rr) : Type 0 where
    pub row : Rr × ℕ
    pub rest : List Rr
    pub rows_is : rows ≡ row.0 ∷ rest
    pub is : IsRr any_data message at row.0 row.1
    pub are : AreRows count row.1 rest

  begin : (count at : ℕ) (rows : List Rr) → AreRows (suc count) at rows → Begin count at rows
  begin count at [] are = absurd (omega (arith, are.0))
  begin count at (row ∷ rows) are = record { row = (row, are.1.0); rest = rows; rows_is = refl; is = are.1.1; are = (omega (arith, are.0), are.1.2) }

  no_rows : (at : ℕ) (rows : List Rr) → AreRows 0 at rows → length message ≡ at
  no_rows at [] are = are.1
  no_rows at (row ∷ rows) are = absurd (omega (arith, are.0))

  pub rows_or_not : (count at : ℕ) → Decided (AreRows count at)
  rows_or_not zero at =
      elim (ℕ_discrete (length message) at) [
        | yes end ↦ one_value [] (refl, end) (λ rows are. nil_from_length rows are.0)
        | no short ↦ no_value (λ rows are. short (no_rows at rows are))
      ]
  rows_or_not (suc count) at =
      by_part (row_or_not at) (λ rows are. let b = begin count at rows are in (b.row, b.is))
      (λ row is only_row.
      by_part (rows_or_not count row.1)
      (λ rows are. let b = begin count at rows are in (b.rest, subst (λ (r : Rr × ℕ). AreRows count r.1 b.rest) (only_row b.row b.is) b.are))
      (λ rest are only_rest.
      one_value (row.0 ∷ rest) (omega (arith, are.0), (row.1, is, are.1))
      (λ rows also.
      let b = begin count at rows also in
      let same_row = only_row b.row b.is in
      let same_rest = only_rest b.rest (subst (λ (r : Rr × ℕ). AreRows count r.1 b.rest) same_row b.are) in
      b.rows_is ∙ ap₂ (λ (r : Rr × ℕ) (rs : List Rr). r.0 ∷ rs) same_row same_rest)))
