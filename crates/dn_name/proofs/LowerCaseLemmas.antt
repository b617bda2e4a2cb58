-- Names in lower case, on the wire.
use Rattle.std.proofs.Common.{◌≡◌, ℕ, zero, suc, ◌-◌, ◌≤◌, List, [], ◌∷◌, ◌++◌, length, map, replicate, refl, sym, ap, ap₂, ◌∙◌, arith}
use Rattle.std.specs.List.{AllByRecursion}
use Rattle.std.specs.Char.{to_ascii_lowercase}
use Rattle.std.proofs.lemmas.Bool.Decides.{nat_tests}
use Rattle.std.proofs.lemmas.List.{length-map, map-append}
use Rattle.dn_name.specs.Name.{Labels, wire_of, wire_len, lower_byte, lower_label, lowered, IsLabel, IsName}
use Rattle.dn_name.specs.Wire.{padded}

same_lower : (byte : ℕ) → to_ascii_lowercase byte ≡ lower_byte byte
same_lower byte = grind (arith, nat_tests)

lower-small : (k : ℕ) → k ≤ 63 → lower_byte k ≡ k
lower-small k h = grind (arith, nat_tests)

lower-zeros : (n : ℕ) → map lower_byte (replicate n 0) ≡ replicate n 0
lower-zeros zero = refl
lower-zeros (suc n) = ap (λ (xs : List ℕ). 0 ∷ xs) (lower-zeros n)

-- the bytes of a name with letters in lower case
pub lower-wire : (name : Labels) → AllByRecursion IsLabel name → map lower_byte (wire_of name) ≡ wire_of (lowered name)
lower-wire [] h = refl
lower-wire (label ∷ name) h =
    ap₂ ◌∷◌
    (lower-small (length label) h.0.1 ∙ sym (length-map label lower_byte))
    (map-append lower_byte label (wire_of name) ∙ ap (λ (xs : List ℕ). lower_label label ++ xs) (lower-wire name h.1))

-- std's word for lower case and ours give the same bytes
pub folded-label : (label : List ℕ) → map to_ascii_lowercase label ≡ lower_label label
folded-label label = ap (λ (f : ℕ → ℕ). map f label) (λ i byte. same_lower byte i)

-- the bytes of a name, each in lower case by std's word
pub folded-wire : (name : Labels) → AllByRecursion IsLabel name → (wire : List ℕ) → wire ≡ wire_of name → map to_ascii_lowercase wire ≡ wire_of (lowered name)
folded-wire name h wire e = ap (map to_ascii_lowercase) e ∙ folded-label (wire_of name) ∙ lower-wire name h

pub wire_len-lowered : (name : Labels) → wire_len (lowered name) ≡ wire_len name
wire_len-lowered [] = refl
wire_len-lowered (label ∷ name) = omega (arith, length-map label lower_byte, wire_len-lowered name)

pub all-lowered : (name : Labels) → AllByRecursion IsLabel name → AllByRecursion IsLabel (lowered name)
all-lowered [] h = tt
all-lowered (label ∷ name) h = ((omega (arith, length-map label lower_byte, h.0), omega (arith, length-map label lower_byte, h.0)), all-lowered name h.1)

pub name-lowered : (name : Labels) → IsName name → IsName (lowered name)
name-lowered name is = (all-lowered name is.0, omega (arith, wire_len-lowered name, is.1))

pub padded-lowered : (name : Labels) → IsName name → (bytes after : List ℕ) → bytes ≡ padded name → after ≡ map to_ascii_lowercase bytes → after ≡ padded (lowered name)
padded-lowered name is bytes after e lower =
    lower
    ∙ ap (map to_ascii_lowercase) e
    ∙ folded-label (padded name)
    ∙ map-append lower_byte (wire_of name) (replicate (255 - wire_len name) 0)
    ∙ ap₂ ◌++◌ (lower-wire name is.0) (lower-zeros (255 - wire_len name) ∙ ap (λ (k : ℕ). replicate {A = ℕ} (255 - k) 0) (sym (wire_len-lowered name)))
