-- Names that are in lower case: two that are the same name are spelled alike, and a lowered name is one.
use Rattle.std.proofs.Common.{◌≡◌, ℕ, true, List, [], ◌∷◌, refl, sym, ap₂, ◌∙◌, arith, nat_eq}
use Rattle.std.proofs.lemmas.Bool.Decides.{nat_tests}
use lib.Pointwise.{pointwise, pointwise_decides, bytes_decides}
use Rattle.dn_name.specs.Name.{Labels, is_same, lower_byte, lower_label, lowered}
use Rattle.dn_store.specs.Value.{is_lower}

-- the test of labels says whether they are the same
labels_decide : (left right : Labels) → (pointwise (pointwise nat_eq) left right ≡ true → left ≡ right) × (left ≡ right → pointwise (pointwise nat_eq) left right ≡ true)
labels_decide = pointwise_decides bytes_decides

pub same_lower : (left right : Labels) → is_same left right ≡ true → is_lower left ≡ true → is_lower right ≡ true → left ≡ right
same_lower left right same first second =
    (labels_decide left (lowered left)).0 first ∙ (labels_decide (lowered left) (lowered right)).0 same ∙ sym ((labels_decide right (lowered right)).0 second)

byte_again : (byte : ℕ) → lower_byte byte ≡ lower_byte (lower_byte byte)
byte_again byte = grind (arith, nat_tests)

label_again : (label : List ℕ) → lower_label label ≡ lower_label (lower_label label)
label_again [] = refl
label_again (byte ∷ label) = ap₂ ◌∷◌ (byte_again byte) (label_again label)

lowered_again : (name : Labels) → lowered name ≡ lowered (lowered name)
lowered_again [] = refl
lowered_again (label ∷ name) = ap₂ ◌∷◌ (label_again label) (lowered_again name)

pub lower_lowered : (name : Labels) → is_lower (lowered name) ≡ true
lower_lowered name = (labels_decide (lowered name) (lowered (lowered name))).1 (lowered_again name)
