-- What is wrong first is one, and bytes with which something is wrong are no stored record.
use Rattle.std.proofs.Common.{◌≡◌, ℕ, ◌+◌, List, ◌++◌, length, drop, refl, sym, ap, ap₂, subst, ◌∙◌, arith}
use Rattle.dn_rdata.specs.Stored.{IsStored}
use Rattle.dn_rdata.specs.declared.record.Record.{Record}
use Rattle.dn_record.specs.declared.error.RecordError.{RecordError}
use Rattle.dn_record.specs.declared.error.RecordFault.{RecordFault}
use Rattle.dn_record.specs.declared.error.RecordFault.TheVariants.{BadData, BadVersion, LengthDiffers}
use Rattle.dn_record.specs.declared.header.Kind.{Kind}
use Rattle.dn_record.specs.declared.header.Numbers.{Numbers}
use Rattle.dn_record.specs.declared.view.RecordView.{RecordView}
use Rattle.dn_record.specs.FirstFault.{FirstFault, FirstFaultIsOne}
use Rattle.dn_record.specs.FirstFault.FirstFault.{CutHeader, OtherLength, OtherVersion, BadForm}
use Rattle.dn_record.specs.Header.{kind_bytes, numbers_bytes}
use Rattle.dn_record.specs.Layout.{IsRecord}
use Rattle.dn_record.specs.Reads.{IsFaulty, IsFramed, IsWrongFirst}
use Rattle.dn_record.proofs.LayoutLemmas.{one_field, two_field}

-- bytes that begin with a header, with this behind it
abbrev Begins : List ℕ → Kind → Numbers → List ℕ → Type 0
Begins bytes kind numbers stored = bytes ≡ kind_bytes kind ++ (numbers_bytes numbers ++ stored)

-- bytes with a header at their front are 24 at least
whole : (bytes : List ℕ) (kind : Kind) (numbers : Numbers) (stored : List ℕ) → Begins bytes kind numbers stored → length bytes ≡ 24 + length stored
whole bytes kind numbers stored is = omega (arith, ap length is)

-- the header of a record
abbrev kind_in : Record → ℕ → Kind
kind_in item len = record { len = len; rtype = item.rtype; version = 5; rank = item.rank; flags = item.flags }

abbrev numbers_in : Record → Numbers
numbers_in item = record { serial = item.serial; ttl = item.ttl; reserved = item.reserved; hour = item.hour }

begins : (bytes : List ℕ) (item : Record) (is : IsRecord bytes item) → Begins bytes (kind_in item (length is.stored)) (numbers_in item) is.stored
begins bytes item is = is.bytes_are

-- what two headers at the front of the same bytes say of the data, and the data
record SameKind (left right : Kind) (x y : List ℕ) : Type 0 where
  len : left.len ≡ right.len
  rtype : left.rtype ≡ right.rtype
  version : left.version ≡ right.version
  behind : x ≡ y

module _ (bytes : List ℕ) (left right : Kind) (more rest : Numbers) (x y : List ℕ) (is : Begins bytes left more x) (also : Begins bytes right rest y) where
  same : SameKind left right x y
  same =
      let a = two_field left.len right.len _ _ (sym is ∙ also) in
      let b = two_field left.rtype right.rtype _ _ a.1 in
      let c = one_field left.version right.version _ _ b.1 in
      record { len = a.0; rtype = b.0; version = c.0; behind = ap (drop 24) (sym is ∙ also) }

  same_len : left.len ≡ right.len
  same_len = same.len

  same_rtype : left.rtype ≡ right.rtype
  same_rtype = same.rtype

  same_version : left.version ≡ right.version
  same_version = same.version

  same_behind : x ≡ y
  same_behind = same.behind

  same_count : length x ≡ length y
  same_count = ap length same.behind

  same_form : (rdata : List ℕ) → IsStored left.rtype x rdata → IsStored right.rtype y rdata
  same_form rdata form = subst (λ xs. IsStored right.rtype xs rdata) same.behind (subst (λ n. IsStored n x rdata) same.rtype form)

one : (bytes : List ℕ) (kind another : RecordFault) (place other : ℕ) → FirstFault bytes kind place → FirstFault bytes another other
    → (kind ≡ another) × (place ≡ other)
one bytes _ _ _ _ (CutHeader _) (CutHeader _) = (refl, refl)
one bytes _ _ _ _ (CutHeader short) (OtherLength head numbers stored is _) = absurd (omega (arith, short, whole bytes head numbers stored is))
one bytes _ _ _ _ (CutHeader short) (OtherVersion head numbers stored is _ _) = absurd (omega (arith, short, whole bytes head numbers stored is))
one bytes _ _ _ _ (CutHeader short) (BadForm head numbers stored is _ _ _) = absurd (omega (arith, short, whole bytes head numbers stored is))
one bytes _ _ _ _ (OtherLength head numbers stored is _) (CutHeader short) = absurd (omega (arith, short, whole bytes head numbers stored is))
one bytes _ _ _ _ (OtherLength left more x is _) (OtherLength right rest y also _) =
    (ap₂ (λ (said found : ℕ). LengthDiffers said found) (same_len bytes left right more rest x y is also) (same_count bytes left right more rest x y is also), refl)
one bytes _ _ _ _ (OtherLength left more x is differs) (OtherVersion right rest y also len _) =
    absurd (differs (same_len bytes left right more rest x y is also ∙ len ∙ sym (same_count bytes left right more rest x y is also)))
one bytes _ _ _ _ (OtherLength left more x is differs) (BadForm right rest y also len _ _) =
    absurd (differs (same_len bytes left right more rest x y is also ∙ len ∙ sym (same_count bytes left right more rest x y is also)))
one bytes _ _ _ _ (OtherVersion head numbers stored is _ _) (CutHeader short) = absurd (omega (arith, short, whole bytes head numbers stored is))
one bytes _ _ _ _ (OtherVersion right rest y also len _) (OtherLength left more x is differs) =
    absurd (differs (same_len bytes left right more rest x y is also ∙ len ∙ sym (same_count bytes left right more rest x y is also)))
one bytes _ _ _ _ (OtherVersion _ _ _ _ _ _) (OtherVersion _ _ _ _ _ _) = (refl, refl)
one bytes _ _ _ _ (OtherVersion left more x is _ other) (BadForm right rest y also _ version _) =
    absurd (other (same_version bytes left right more rest x y is also ∙ version))
one bytes _ _ _ _ (BadForm head numbers stored is _ _ _) (CutHeader short) = absurd (omega (arith, short, whole bytes head numbers stored is))
one bytes _ _ _ _ (BadForm right rest y also len _ _) (OtherLength left more x is differs) =
    absurd (differs (same_len bytes left right more rest x y is also ∙ len ∙ sym (same_count bytes left right more rest x y is also)))
one bytes _ _ _ _ (BadForm right rest y also _ version _) (OtherVersion left more x is _ other) =
    absurd (other (same_version bytes left right more rest x y is also ∙ version))
one bytes _ _ _ _ (BadForm _ _ _ _ _ _ _) (BadForm _ _ _ _ _ _ _) = (refl, refl)

none : (bytes : List ℕ) (kind : RecordFault) (place : ℕ) (item : Record) → FirstFault bytes kind place → IsRecord bytes item → ⊥
none bytes _ _ item (CutHeader short) is = omega (arith, short, whole bytes (kind_in item (length is.stored)) (numbers_in item) is.stored (begins bytes item is))
none bytes _ _ item (OtherLength head numbers stored at differs) is =
    differs (same_len bytes head (kind_in item (length is.stored)) numbers (numbers_in item) stored is.stored at (begins bytes item is)
    ∙ sym (same_count bytes head (kind_in item (length is.stored)) numbers (numbers_in item) stored is.stored at (begins bytes item is)))
none bytes _ _ item (OtherVersion head numbers stored at _ other) is =
    other (same_version bytes head (kind_in item (length is.stored)) numbers (numbers_in item) stored is.stored at (begins bytes item is))
none bytes _ _ item (BadForm head numbers stored at _ _ no_form) is =
    no_form item.rdata (same_form bytes (kind_in item (length is.stored)) head (numbers_in item) numbers is.stored stored (begins bytes item is) at item.rdata is.data_is)

pub fault_is_one : FirstFaultIsOne
fault_is_one = record { one = one; none = none }

-- bytes with a first fault are refused for it
pub faulty : (bytes : List ℕ) (error : RecordError) → FirstFault bytes error.kind error.place → IsFaulty bytes error
faulty bytes error fault = (λ item is. none bytes error.kind error.place item fault is, fault)

-- data behind a header that aren't of their type's stored form
pub bad_form : (bytes : List ℕ) (view : RecordView) → IsFramed bytes view → ((rdata : List ℕ) → IsStored view.rtype view.stored.now rdata → ⊥)
    → FirstFault bytes BadData 24
bad_form bytes view framed no_form =
    BadForm
    (record { len = length view.stored.now; rtype = view.rtype; version = 5; rank = view.rank; flags = view.flags })
    (record { serial = view.serial; ttl = view.ttl; reserved = view.reserved; hour = view.hour })
    view.stored.now framed refl refl no_form

-- what is wrong first with bytes that begin with a header of this kind and have so many bytes behind it
module _ (kind : Kind) (said found : ℕ) (said_is : said ≡ kind.len) where
  pub other_length : (said ≡ found → ⊥) → IsWrongFirst kind found (record { place = 0; kind = LengthDiffers said found })
  other_length other bytes stored numbers is found_is =
      subst (λ n. FirstFault bytes (LengthDiffers n found) 0) (sym said_is)
      (subst (λ n. FirstFault bytes (LengthDiffers kind.len n) 0) (sym found_is)
      (OtherLength kind numbers stored is (λ same. other (said_is ∙ same ∙ sym found_is))))

  pub other_version : said ≡ found → (kind.version ≡ 5 → ⊥) → IsWrongFirst kind found (record { place = 4; kind = BadVersion })
  other_version same other bytes stored numbers is found_is = OtherVersion kind numbers stored is (sym said_is ∙ same ∙ found_is) other
