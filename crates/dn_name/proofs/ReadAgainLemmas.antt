-- What stands on the wire is read again.
use Rattle.std.proofs.Common.{◌≡◌, ℕ, zero, suc, ◌<◌, ◌≤◌, ◌&&◌, nat_le, if◌then◌else◌, List, [], ◌∷◌, ◌++◌, length, take, drop, Option, None, Some, option_map, refl, sym, ap, ap₂, ◌∙◌, arith, append_assoc, length-append, take_at, drop_at, take-append-drop}
use Rattle.std.specs.List.{AllByRecursion}
use Rattle.std.specs.Prelude.{option_and_then}
use Rattle.std.proofs.lemmas.Bool.{cond-true, le-leb}
use Rattle.std.proofs.lemmas.Bool.Decides.{nat_tests}
use Rattle.dn_name.specs.Name.{Labels, wire_of, wire_len, IsLabel, IsName}
use Rattle.dn_name.specs.Walk.{IsWhole}
use Rattle.dn_name.specs.Wire.{labels_in, labels_at, plain_name, then_label}
use Rattle.dn_name.proofs.LabelWalkLemmas.{read_again}
use Rattle.dn_name.proofs.WireNameLemmas.{length-wire_of, two_a_label}

taken : (k n : ℕ) (o : Option (Labels × List ℕ)) → k ≤ 63 → k ≤ n → (if nat_le k 63 && nat_le k n then o else None) ≡ o
taken k n o short within = grind (arith, nat_tests)

labels_at-wire : (most : ℕ) (name : Labels) (rest : List ℕ) → AllByRecursion IsLabel name → length name < most → labels_at most (wire_of name ++ rest) ≡ Some (name, rest)
labels_at-wire zero name rest h below = absurd (omega arith)
labels_at-wire (suc most) [] rest h below = refl
labels_at-wire (suc most) ([] ∷ name) rest h below = absurd (omega (arith, h.0))
labels_at-wire (suc most) ((byte ∷ bytes) ∷ name) rest h below =
    let joined : (bytes ++ wire_of name) ++ rest ≡ bytes ++ (wire_of name ++ rest) = append_assoc bytes (wire_of name) rest in
    taken (suc (length bytes)) (length (byte ∷ ((bytes ++ wire_of name) ++ rest))) _ h.0.1
    (omega (arith, length-append bytes (wire_of name), length-append (bytes ++ wire_of name) rest))
    ∙ ap₂ then_label
    (ap (λ (xs : List ℕ). byte ∷ xs) (ap (take (length bytes)) joined ∙ take_at bytes (wire_of name ++ rest) (length bytes) refl))
    (ap (labels_at most) (ap (drop (length bytes)) joined ∙ drop_at bytes (wire_of name ++ rest) (length bytes) refl)
    ∙ labels_at-wire most name rest h.1 (omega arith))

labels_again : (name : Labels) (rest : List ℕ) → IsName name → labels_at 128 (wire_of name ++ rest) ≡ Some (name, rest)
labels_again name rest is = labels_at-wire 128 name rest is.0 (omega (arith, two_a_label name is.0, is.1))

pub plain_again : (name : Labels) (rest : List ℕ) → IsName name → plain_name (wire_of name ++ rest) ≡ Some (name, rest)
plain_again name rest is =
    ap (option_and_then (λ found. if nat_le (wire_len found.0) 255 then Some found else None)) (labels_again name rest is)
    ∙ cond-true (nat_le (wire_len name) 255) (Some (name, rest)) None (le-leb (wire_len name) 255 is.1)

module _ (name : Labels) (rest bytes : List ℕ) (is : IsName name) (e : bytes ≡ wire_of name ++ rest) where
  pub len_again : option_map (λ found. wire_len found.0) (labels_at 128 bytes) ≡ Some (wire_len name)
  len_again =
      ap (λ (xs : List ℕ). option_map (λ found. wire_len found.0) (labels_at 128 xs)) e
      ∙ ap (option_map (λ found. wire_len found.0)) (labels_again name rest is)

  pub name_again : (len : ℕ) → len ≡ wire_len name → labels_in 128 (take len bytes) ≡ name
  name_again len same = read_again name is (take len bytes) (ap (take len) e ∙ take_at (wire_of name) rest len (length-wire_of name ∙ sym same))

pub spelled_by : (len : ℕ) (bytes : List ℕ) → IsWhole (take len bytes) → bytes ≡ wire_of (labels_in 128 (take len bytes)) ++ drop len bytes
spelled_by len bytes is = sym (take-append-drop len bytes) ∙ ap (λ (xs : List ℕ). xs ++ drop len bytes) is.0
