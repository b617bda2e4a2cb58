-- What is wrong first is one, and bytes with which something is wrong are no property.
use Rattle.std.proofs.Common.{◌≡◌, ℕ, ◌+◌, List, ◌++◌, length, refl, sym, ap, subst, ◌∙◌, arith, length-append}
use Rattle.dn_property.specs.declared.error.PropertyError.{PropertyError}
use Rattle.dn_property.specs.declared.error.PropertyFault.{PropertyFault}
use Rattle.dn_property.specs.declared.property.Property.{Property}
use Rattle.dn_property.specs.declared.stored.Head.{Head}
use Rattle.dn_property.specs.FirstFault.{FirstFault, FirstFaultIsOne}
use Rattle.dn_property.specs.FirstFault.FirstFault.{CutHead, OtherVersion, CutContent, BehindTail}
use Rattle.dn_property.specs.Stored.{IsProperty, head_bytes, head_of}
use Rattle.dn_property.proofs.OnceLemmas.{head_once}

-- a list with a head at its front has 20 bytes at least
whole : (bytes : List ℕ) (head : Head) (rest : List ℕ) → bytes ≡ head_bytes head ++ rest → length bytes ≡ 20 + length rest
whole bytes head rest is = omega (arith, ap length is)

-- heads at the front of one list have one version, one length of data, and so many bytes behind them
module _ (bytes : List ℕ) (left right : Head) (more rest : List ℕ) (is : bytes ≡ head_bytes left ++ more) (also : bytes ≡ head_bytes right ++ rest) where
  same_version : left.version ≡ right.version
  same_version = ap (λ (head : Head). head.version) (head_once left right more rest (sym is ∙ also)).0

  same_length : left.data_length ≡ right.data_length
  same_length = ap (λ (head : Head). head.data_length) (head_once left right more rest (sym is ∙ also)).0

  same_rest : length more ≡ length rest
  same_rest = ap length (head_once left right more rest (sym is ∙ also)).1

one : (bytes : List ℕ) (kind another : PropertyFault) (place other : ℕ) → FirstFault bytes kind place → FirstFault bytes another other
    → (kind ≡ another) × (place ≡ other)
one bytes _ _ _ _ (CutHead short) (CutHead _) = (refl, refl)
one bytes _ _ _ _ (CutHead short) (OtherVersion head rest is _) = absurd (omega (arith, short, whole bytes head rest is))
one bytes _ _ _ _ (CutHead short) (CutContent head rest is _ _) = (refl, refl)
one bytes _ _ _ _ (CutHead short) (BehindTail head rest is _ _) = absurd (omega (arith, short, whole bytes head rest is))
one bytes _ _ _ _ (OtherVersion head rest is _) (CutHead short) = absurd (omega (arith, short, whole bytes head rest is))
one bytes _ _ _ _ (OtherVersion _ _ _ _) (OtherVersion _ _ _ _) = (refl, refl)
one bytes _ _ _ _ (OtherVersion head rest is other) (CutContent right more also version _) =
    absurd (other (same_version bytes head right rest more is also ∙ version))
one bytes _ _ _ _ (OtherVersion head rest is other) (BehindTail right more also version _) =
    absurd (other (same_version bytes head right rest more is also ∙ version))
one bytes _ _ _ _ (CutContent _ _ _ _ _) (CutHead _) = (refl, refl)
one bytes _ _ _ _ (CutContent right more also version _) (OtherVersion head rest is other) =
    absurd (other (same_version bytes head right rest more is also ∙ version))
one bytes _ _ _ _ (CutContent _ _ _ _ _) (CutContent _ _ _ _ _) = (refl, refl)
one bytes _ _ _ _ (CutContent head rest is _ cut) (BehindTail right more also _ long) =
    absurd (omega (arith, cut, long, same_length bytes head right rest more is also, same_rest bytes head right rest more is also))
one bytes _ _ _ _ (BehindTail head rest is _ _) (CutHead short) = absurd (omega (arith, short, whole bytes head rest is))
one bytes _ _ _ _ (BehindTail right more also version _) (OtherVersion head rest is other) =
    absurd (other (same_version bytes head right rest more is also ∙ version))
one bytes _ _ _ _ (BehindTail head rest is _ long) (CutContent right more also _ cut) =
    absurd (omega (arith, cut, long, same_length bytes head right rest more is also, same_rest bytes head right rest more is also))
one bytes _ _ _ _ (BehindTail head rest is _ _) (BehindTail right more also _ _) =
    (refl, ap (λ n. 20 + n + 4) (same_length bytes head right rest more is also))

pub none : (bytes : List ℕ) (kind : PropertyFault) (place : ℕ) (property : Property) → FirstFault bytes kind place → IsProperty bytes property → ⊥
none bytes _ _ property (CutHead short) is = omega (arith, short, whole bytes (head_of property) (property.content ++ property.tail) is.layout)
none bytes _ _ property (OtherVersion head rest at other) is =
    other (same_version bytes head (head_of property) rest (property.content ++ property.tail) at is.layout)
none bytes _ _ property (CutContent head rest at _ cut) is =
    omega (
      arith,
      cut,
      is.tail_least,
      length-append property.content property.tail,
      same_length bytes head (head_of property) rest (property.content ++ property.tail) at is.layout,
      same_rest bytes head (head_of property) rest (property.content ++ property.tail) at is.layout,
    )
none bytes _ _ property (BehindTail head rest at _ long) is =
    omega (
      arith,
      long,
      is.tail_most,
      length-append property.content property.tail,
      same_length bytes head (head_of property) rest (property.content ++ property.tail) at is.layout,
      same_rest bytes head (head_of property) rest (property.content ++ property.tail) at is.layout,
    )

pub fault_is_one : FirstFaultIsOne
fault_is_one = record { one = one; none = none }

-- the fault that an error of this value names
pub faulty : (bytes : List ℕ) (error : PropertyError) (kind : PropertyFault) (place : ℕ) → error ≡ record { place = place; kind = kind }
    → FirstFault bytes kind place → FirstFault bytes error.kind error.place
faulty bytes error kind place is fault = subst (λ (e : PropertyError). FirstFault bytes e.kind e.place) (sym is) fault
