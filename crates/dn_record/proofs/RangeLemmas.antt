-- The record that bytes are is within the widths of its fields.
use Rattle.std.proofs.Common.{◌≡◌, ℕ, ◌+◌, ◌*◌, ◌^◌, ◌<◌, inl, inr, List, [], ◌∷◌, ◌++◌, length, sym, subst, arith}
use Rattle.dn_name.specs.Name.{Labels, wire_of}
use Rattle.dn_rdata.specs.Ranges.{AreBytes, IsInRange}
use Rattle.dn_rdata.specs.Record.{names_in, stored_size}
use Rattle.dn_rdata.specs.Stored.{IsStored, counteds_of, wires_of}
use Rattle.dn_rdata.specs.declared.record.Record.{Record}
use Rattle.dn_rdata.proofs.CallerLemmas.{stored_sized}
use Rattle.dn_record.specs.Fields.{four_big, four_little, two_little}
use Rattle.dn_record.specs.Layout.{header_of}
use Rattle.dn_record.specs.Ranges.{RecordsAreInRange}

-- ---- lists of bytes

front_bytes : (front back : List ℕ) → AreBytes (front ++ back) → AreBytes front
front_bytes [] back are = tt
front_bytes (byte ∷ front) back are = (are.0, front_bytes front back are.1)

back_bytes : (front back : List ℕ) → AreBytes (front ++ back) → AreBytes back
back_bytes [] back are = are
back_bytes (byte ∷ front) back are = back_bytes front back are.1

both_bytes : (front back : List ℕ) → AreBytes front → AreBytes back → AreBytes (front ++ back)
both_bytes [] back one other = other
both_bytes (byte ∷ front) back one other = (one.0, both_bytes front back one.1 other)

-- ---- data

-- a counted name's bytes hold those of the name on the wire
wires_bytes : (names : List Labels) → AreBytes (counteds_of names) → AreBytes (wires_of names)
wires_bytes [] are = tt
wires_bytes (name ∷ names) are =
    both_bytes (wire_of name) (wires_of names) (front_bytes (wire_of name) (counteds_of names) are.1.1)
    (wires_bytes names (back_bytes (wire_of name) (counteds_of names) are.1.1))

wire_bytes : (before behind : List ℕ) (names : List Labels) → AreBytes (before ++ (behind ++ counteds_of names)) → AreBytes (before ++ (wires_of names ++ behind))
wire_bytes before behind names are =
    let rest = back_bytes before (behind ++ counteds_of names) are in
    both_bytes before (wires_of names ++ behind) (front_bytes before (behind ++ counteds_of names) are)
    (both_bytes (wires_of names) behind (wires_bytes names (back_bytes behind (counteds_of names) rest)) (front_bytes behind (counteds_of names) rest))

data_bytes : (rtype : ℕ) (stored rdata : List ℕ) → AreBytes stored → IsStored rtype stored rdata → AreBytes rdata
data_bytes rtype stored rdata are (inl (none, same, is)) = subst AreBytes same are
data_bytes rtype stored rdata are (inr (some, named)) =
    subst AreBytes (sym named.wire_is) (wire_bytes named.before named.behind named.names (subst AreBytes named.stored_is are))

-- ---- numbers

two_fits : (number : ℕ) (rest : List ℕ) → AreBytes (two_little number ++ rest) → (number < 2 ^ 16) × AreBytes rest
two_fits number rest (low, (high, more)) = (omega (arith, high), more)

four_fits : (number : ℕ) (rest : List ℕ) → AreBytes (four_little number ++ rest) → (number < 2 ^ 32) × AreBytes rest
four_fits number rest (a, (b, (c, (d, more)))) = (omega (arith, d), more)

big_fits : (number : ℕ) (rest : List ℕ) → AreBytes (four_big number ++ rest) → (number < 2 ^ 32) × AreBytes rest
big_fits number rest (a, (b, (c, (d, more)))) = (omega (arith, a), more)

-- ---- records

size_fits : (stored rdata names limit : ℕ) → stored < limit → stored ≡ rdata + 2 * names → 24 + rdata + 2 * names < 24 + limit
size_fits stored rdata names limit fits sized = omega (arith, fits, sized)

framed : (item : Record) (stored : List ℕ) → AreBytes (header_of item (length stored) ++ stored) → IsStored item.rtype stored item.rdata
    → IsInRange item × (stored_size item < 24 + 2 ^ 16)
framed item stored are is =
    let behind_reserved : List ℕ = four_little item.hour ++ stored in
    let behind_ttl : List ℕ = four_little item.reserved ++ behind_reserved in
    let behind_serial : List ℕ = four_big item.ttl ++ behind_ttl in
    let behind_flags : List ℕ = four_little item.serial ++ behind_serial in
    let behind_rank : List ℕ = two_little item.flags ++ behind_flags in
    let behind_type : List ℕ = 5 ∷ (item.rank ∷ behind_rank) in
    let len = two_fits (length stored) (two_little item.rtype ++ behind_type) are in
    let rtype = two_fits item.rtype behind_type len.1 in
    let rank = rtype.1.1 in
    let flags = two_fits item.flags behind_flags rank.1 in
    let serial = four_fits item.serial behind_serial flags.1 in
    let ttl = big_fits item.ttl behind_ttl serial.1 in
    let reserved = four_fits item.reserved behind_reserved ttl.1 in
    let hour = four_fits item.hour stored reserved.1 in (
      record {
        rtype_fits = rtype.0;
        rank_fits = rank.0;
        flags_fit = flags.0;
        serial_fits = serial.0;
        ttl_fits = ttl.0;
        reserved_fits = reserved.0;
        hour_fits = hour.0;
        rdata_are_bytes = data_bytes item.rtype stored item.rdata hour.1 is;
      },
      size_fits (length stored) (length item.rdata) (names_in item.rtype) (2 ^ 16) len.0 (stored_sized item.rtype stored item.rdata is),
    )

pub in_range : RecordsAreInRange
in_range bytes item are is = framed item is.stored (subst AreBytes is.bytes_are are) is.data_is
