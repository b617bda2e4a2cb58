-- A name is in lower case where no byte of it on the wire is a capital letter.
use Rattle.std.proofs.Common.{◌≡◌, ℕ, ◌≤◌, Bool, true, List, [], ◌∷◌, ◌++◌, length, length-append, take, drop, refl, ap, sym, ◌∙◌, arith, nat_eq}
use Rattle.std.proofs.lemmas.Bool.Decides.{nat_tests}
use Rattle.std.proofs.lemmas.List.Folds.{list_all-append}
use Rattle.std.proofs.Math.Seq.{take-append_seam}
use Rattle.std.specs.Prelude.{not}
use Rattle.std.specs.List.{AllByRecursion, list_all}
use lib.Pointwise.{pointwise}
use Rattle.dn_name.specs.Name.{Labels, IsLabel, lower_byte, lower_label, wire_len, wire_of}
use Rattle.dn_store.specs.Capitals.{is_capital}
use Rattle.dn_store.specs.Value.{is_lower}

abbrev is_small : ℕ → Bool
is_small byte = not (is_capital byte)

byte_lower : (byte : ℕ) → nat_eq byte (lower_byte byte) ≡ is_small byte
byte_lower byte = grind (arith, nat_tests)

label_lower : (label : List ℕ) → pointwise nat_eq label (lower_label label) ≡ list_all is_small label
label_lower [] = refl
label_lower (byte ∷ label) = rw (byte_lower byte, label_lower label) refl

length_small : (label : List ℕ) → length label ≤ 63 → is_small (length label) ≡ true
length_small label le = grind (arith, nat_tests)

pub wire_lower : (name : Labels) → AllByRecursion IsLabel name → is_lower name ≡ list_all is_small (wire_of name)
wire_lower [] all = refl
wire_lower (label ∷ name) all =
    let here = label_lower label in
    let later = wire_lower name all.1 in
    let small = length_small label all.0.1 in
    rw (small, list_all-append is_small label (wire_of name), here, later) refl

pub wire_length : (name : Labels) → length (wire_of name) ≡ wire_len name
wire_length [] = refl
wire_length (label ∷ name) = grind (arith, length-append label (wire_of name), wire_length name)

-- what the test of a written name says
pub lower_of : (name : Labels) (old out : List ℕ) (len after count : ℕ) → AllByRecursion IsLabel name → len ≡ wire_len name → out ≡ take 0 old ++ wire_of name ++ drop after old → count ≡ len
    → list_all is_small (take count out) ≡ is_lower name
lower_of name old out len after count all is wrote same =
    let n : count ≡ length (wire_of name) = same ∙ is ∙ sym (wire_length name) in
    let front : take count out ≡ wire_of name =
    ap (take count) wrote ∙ ap (λ (k : ℕ). take k (wire_of name ++ drop after old)) n ∙ take-append_seam (wire_of name) (drop after old) in
    ap (list_all is_small) front ∙ sym (wire_lower name all)
