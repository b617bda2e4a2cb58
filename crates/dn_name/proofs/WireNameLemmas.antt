-- Names and their bytes on the wire.
use Rattle.std.proofs.Common.{◌≡◌, ℕ, zero, suc, ◌+◌, ◌-◌, ◌<◌, ◌≤◌, List, [], ◌∷◌, ◌++◌, length, take, drop, replicate, refl, sym, ap, ap₂, ◌∙◌, subst, arith, append_assoc, length-append, take_at, drop_at}
use Rattle.std.specs.List.{AllByRecursion}
use Rattle.dn_name.specs.declared.name.Name.TheInside.{Inside}
use Rattle.dn_name.specs.Name.{Labels, wire_of, wire_len, IsLabel, IsName}
use Rattle.dn_name.specs.Wire.{IsWire, labels_in, padded}

pub length-wire_of : (name : Labels) → length (wire_of name) ≡ wire_len name
length-wire_of [] = refl
length-wire_of (label ∷ name) = omega (arith, length-append label (wire_of name), length-wire_of name)

-- a label takes two bytes at least
pub two_a_label : (name : Labels) → AllByRecursion IsLabel name → length name + length name + 1 ≤ wire_len name
two_a_label [] h = omega arith
two_a_label (label ∷ name) h = omega (arith, two_a_label name h.1, h.0)

-- the labels are found again, whatever stands behind the zero byte
pub labels_in-wire : (most : ℕ) (name : Labels) (rest : List ℕ) → AllByRecursion IsLabel name → length name < most → labels_in most (wire_of name ++ rest) ≡ name
labels_in-wire zero name rest h below = absurd (omega arith)
labels_in-wire (suc most) [] rest h below = refl
labels_in-wire (suc most) ([] ∷ name) rest h below = absurd (omega (arith, h.0))
labels_in-wire (suc most) ((byte ∷ bytes) ∷ name) rest h below =
    let joined : (bytes ++ wire_of name) ++ rest ≡ bytes ++ (wire_of name ++ rest) = append_assoc bytes (wire_of name) rest in
    ap₂ ◌∷◌
    (ap (λ (xs : List ℕ). byte ∷ xs) (ap (take (length bytes)) joined ∙ take_at bytes (wire_of name ++ rest) (length bytes) refl))
    (ap (labels_in most) (ap (drop (length bytes)) joined ∙ drop_at bytes (wire_of name ++ rest) (length bytes) refl)
    ∙ labels_in-wire most name rest h.1 (omega arith))

pub named : (name : Labels) → IsName name → (bytes : List ℕ) → bytes ≡ padded name → labels_in 128 bytes ≡ name
named name is bytes e = ap (labels_in 128) e ∙ labels_in-wire 128 name (replicate (255 - wire_len name) 0) is.0 (omega (arith, two_a_label name is.0, is.1))

-- fields that spell a name are that name
pub made : (n : Inside) (name : Labels) → IsName name → n.wire ≡ padded name → n.len ≡ wire_len name → IsWire n
made n name is e l =
    let again = sym (named name is n.wire e) in
    record {
      wire = e ∙ ap padded again;
      len = l ∙ ap wire_len again;
      name = subst IsName again is;
    }

-- what the fields of a name say
pub record Spells (n : Inside) (name : Labels) : Type 0 where
  pub wire : n.wire ≡ padded name
  pub len : n.len ≡ wire_len name
  pub is : IsName name

pub opened : (n : Inside) (name : Labels) → IsWire n → labels_in 128 n.wire ≡ name → Spells n name
opened n name is e = record {
  wire = is.wire ∙ ap padded e;
  len = is.len ∙ ap wire_len e;
  is = subst IsName e is.name;
}
