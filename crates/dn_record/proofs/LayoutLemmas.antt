-- Bytes are one record at most, and a record has one spelling.
use Rattle.std.proofs.Common.{◌≡◌, ℕ, ◌/◌, ◌%◌, List, ◌∷◌, ◌++◌, length, drop, sym, ap, subst, ◌∙◌, arith}
use Rattle.dn_rdata.specs.Stored.{IsStored}
use Rattle.dn_rdata.specs.declared.record.Record.{Record}
use Rattle.dn_rdata.proofs.CallerLemmas.{stored_read, stored_written}
use Rattle.dn_record.specs.Fields.{four_big, four_little, two_little}
use Rattle.dn_record.specs.Layout.{IsRecord, header_of}

-- two numbers with equal bytes are equal
pub two_once : (left right : ℕ) → left % 256 ≡ right % 256 → left / 256 ≡ right / 256 → left ≡ right
two_once left right low high = omega arith

pub four_once : (left right : ℕ) → left % 65536 % 256 ≡ right % 65536 % 256 → left % 65536 / 256 ≡ right % 65536 / 256
    → left / 65536 % 256 ≡ right / 65536 % 256 → left / 65536 / 256 ≡ right / 65536 / 256 → left ≡ right
four_once left right a b c d = omega arith

-- what two headers say where they stand at the front of one list
pub record SameFields (left right : Record) (len other : ℕ) (x y : List ℕ) : Type 0 where
  pub len_same : len ≡ other
  pub rtype : left.rtype ≡ right.rtype
  pub rank : left.rank ≡ right.rank
  pub flags : left.flags ≡ right.flags
  pub serial : left.serial ≡ right.serial
  pub ttl : left.ttl ≡ right.ttl
  pub reserved : left.reserved ≡ right.reserved
  pub hour : left.hour ≡ right.hour
  pub behind : x ≡ y

-- one field at the front of both, and what is behind it
pub one_field : (left right : ℕ) (x y : List ℕ) → left ∷ x ≡ right ∷ y → (left ≡ right) × (x ≡ y)
one_field left right x y e = (cc, cc)

pub two_field : (left right : ℕ) (x y : List ℕ) → two_little left ++ x ≡ two_little right ++ y → (left ≡ right) × (x ≡ y)
two_field left right x y e = (two_once left right (cc) (cc), ap (drop 2) e)

four_field : (left right : ℕ) (x y : List ℕ) → four_little left ++ x ≡ four_little right ++ y → (left ≡ right) × (x ≡ y)
four_field left right x y e = (four_once left right (cc) (cc) (cc) (cc), ap (drop 4) e)

big_field : (left right : ℕ) (x y : List ℕ) → four_big left ++ x ≡ four_big right ++ y → (left ≡ right) × (x ≡ y)
big_field left right x y e = (four_once left right (cc) (cc) (cc) (cc), ap (drop 4) e)

pub header_once : (left right : Record) (len other : ℕ) (x y : List ℕ) → header_of left len ++ x ≡ header_of right other ++ y → SameFields left right len other x y
header_once left right len other x y e =
    let a = two_field len other _ _ e in
    let b = two_field left.rtype right.rtype _ _ a.1 in
    let c = one_field left.rank right.rank _ _ (ap (drop 1) b.1) in
    let d = two_field left.flags right.flags _ _ c.1 in
    let f = four_field left.serial right.serial _ _ d.1 in
    let g = big_field left.ttl right.ttl _ _ f.1 in
    let h = four_field left.reserved right.reserved _ _ g.1 in
    let k = four_field left.hour right.hour x y h.1 in
    record {
      len_same = a.0;
      rtype = b.0;
      rank = c.0;
      flags = d.0;
      serial = f.0;
      ttl = g.0;
      reserved = h.0;
      hour = k.0;
      behind = k.1;
    }

pub record_once : (bytes : List ℕ) (item other : Record) → IsRecord bytes item → IsRecord bytes other → item ≡ other
record_once bytes item other is also =
    let same = header_once item other (length is.stored) (length also.stored) is.stored also.stored (sym is.bytes_are ∙ also.bytes_are) in
    let data_same : IsStored item.rtype is.stored other.rdata =
    subst (λ n. IsStored n is.stored other.rdata) (sym same.rtype) (subst (λ xs. IsStored other.rtype xs other.rdata) (sym same.behind) also.data_is) in
    let rdata = stored_read item.rtype is.stored item.rdata other.rdata is.data_is data_same in
    λ i. record {
      rtype = same.rtype i;
      rank = same.rank i;
      flags = same.flags i;
      serial = same.serial i;
      ttl = same.ttl i;
      reserved = same.reserved i;
      hour = same.hour i;
      rdata = rdata i;
    }

pub spelled_once : (bytes other : List ℕ) (item : Record) → IsRecord bytes item → IsRecord other item → bytes ≡ other
spelled_once bytes other item is also =
    is.bytes_are
    ∙ ap (λ xs. header_of item (length xs) ++ xs) (stored_written item.rtype is.stored also.stored item.rdata is.data_is also.data_is)
    ∙ sym also.bytes_are
