-- Reading the text of a name gives the name.
use Rattle.std.proofs.Common.{◌≡◌, ℕ, ◌+◌, ◌-◌, ◌*◌, ◌/◌, ◌%◌, ◌≤◌, ◌<◌, ◌&&◌, Bool, true, false, nat_eq, nat_le, cond, List, [], ◌∷◌, ◌++◌, length, Some, refl, sym, ◌∙◌, ap, arith, append_assoc, append-nil}
use Rattle.std.specs.List.{AllByRecursion}
use Rattle.std.proofs.lemmas.Bool.Decides.{nat_tests}
use lib.Pointwise.{pointwise}
use Rattle.dn_name.specs.Name.{Labels, IsLabel}
use Rattle.dn_name.specs.Reading.{byte_in, completed}
use Rattle.dn_name.specs.Text.{Outside, Begun, is_digit, is_plain, three_digits, byte_text, label_text, dotted, AllBytes, IsReadBack}
use Rattle.dn_name.proofs.TextReadingLemmas.{reads_byte, reads_dot, reads_end, reads_all, begins, wire_len_least}

digit : (d : ℕ) → d ≤ 9 → is_digit (48 + d) ≡ true
digit d small =
    let low : nat_le 48 (48 + d) ≡ true = grind arith in
    let high : nat_le (48 + d) 57 ≡ true = grind arith in rw (low, high) refl

digits : (x y z n : ℕ) (rest : List ℕ) → x ≤ 9 → y ≤ 9 → z ≤ 9 → 100 * x + 10 * y + z ≡ n → n < 256
    → byte_in Begun ((48 + x) ∷ ((48 + y) ∷ ((48 + z) ∷ rest))) ≡ Some (n, rest)
digits x y z n rest small_x small_y small_z sum small =
    let e : 10 * (10 * (48 + x - 48) + (48 + y - 48)) + (48 + z - 48) ≡ n = omega arith in
    let fits : nat_le n 255 ≡ true = grind arith in
    rw (digit x small_x, digit y small_y, digit z small_z, e, fits) refl

tens : (b : ℕ) → 100 * (b / 100) + 10 * (b / 10 % 10) + b % 10 ≡ b
tens b = omega arith

plain_is : (b : ℕ) → is_plain b ≡ true → (nat_eq b 46 ≡ false) × (nat_eq b 92 ≡ false) × ((nat_le 33 b && nat_le b 126) ≡ true)
plain_is b plain = (grind (arith, nat_tests), grind (arith, nat_tests), grind (arith, nat_tests))

plain_in : (b : ℕ) (rest : List ℕ) → is_plain b ≡ true → byte_in Outside (b ∷ rest) ≡ Some (b, rest)
plain_in b rest plain = let h = plain_is b plain in rw (h.0, h.1, h.2) refl

escaped_in : (b : ℕ) (rest : List ℕ) → b < 256 → byte_in Outside (92 ∷ (three_digits b ++ rest)) ≡ Some (b, rest)
escaped_in b rest small = digits (b / 100) (b / 10 % 10) (b % 10) b rest (omega arith) (omega arith) (omega arith) (tens b) small

text_in : (b : ℕ) (rest : List ℕ) → b < 256 → Some (b, rest) ≡ byte_in Outside (byte_text b ++ rest)
text_in b rest small =
    let P : Bool → Type 0 = λ v. is_plain b ≡ v → Some (b, rest) ≡ byte_in Outside (cond v (b ∷ []) (92 ∷ three_digits b) ++ rest) in
    elim (is_plain b) as P [ true ↦ λ plain. sym (plain_in b rest plain) | false ↦ λ escaped. sym (escaped_in b rest small) ] refl

by_label : (done : Labels) (front label rest : List ℕ) → AllByRecursion (λ byte. byte < 256) label
    → completed done front (label_text label ++ rest) ≡ completed done (front ++ label) rest
by_label done front [] rest all = ap (λ x. completed done x rest) (sym (append-nil front))
by_label done front (b ∷ label) rest all =
    ap (completed done front) (append_assoc (byte_text b) (label_text label) rest)
    ∙ reads_byte done front (byte_text b ++ (label_text label ++ rest)) b (label_text label ++ rest) (text_in b (label_text label ++ rest) all.0)
    ∙ by_label done (front ++ (b ∷ [])) label rest all.1
    ∙ ap (λ x. completed done x rest) (append_assoc front (b ∷ []) label)

by_name : (done : Labels) (label : List ℕ) (name : Labels) → AllByRecursion IsLabel (label ∷ name) → AllBytes (label ∷ name)
    → completed done [] (label_text label ++ dotted name) ≡ completed (done ++ (label ∷ name)) [] []
by_name done label [] labels all = by_label done [] label [] all.0 ∙ reads_end done label labels.0.0
by_name done label (next ∷ name) labels all =
    by_label done [] label (46 ∷ (label_text next ++ dotted name)) all.0
    ∙ reads_dot done label (label_text next ++ dotted name)
    ∙ by_name (done ++ (label ∷ [])) next name labels.1 all.1
    ∙ ap (λ x. completed x [] []) (append_assoc done (label ∷ []) (next ∷ name))

first_byte : (b : ℕ) (rest : List ℕ) → pointwise nat_eq (byte_text b ++ rest) (46 ∷ []) ≡ false
first_byte b rest =
    let P : Bool → Type 0 = λ v. is_plain b ≡ v → pointwise nat_eq (cond v (b ∷ []) (92 ∷ three_digits b) ++ rest) (46 ∷ []) ≡ false in
    elim (is_plain b) as P [ true ↦ λ plain. rw (plain_is b plain).0 refl | false ↦ λ escaped. refl ] refl

other : (label : List ℕ) (rest : List ℕ) → 1 ≤ length label → pointwise nat_eq (label_text label ++ rest) (46 ∷ []) ≡ false
other [] rest some = absurd (omega arith)
other (b ∷ label) rest some = rw (append_assoc (byte_text b) (label_text label) rest) (first_byte b (label_text label ++ rest))

pub read_back : IsReadBack
read_back [] named all = refl
read_back (label ∷ name) named all =
    begins (label_text label ++ dotted name) (other label (dotted name) named.0.0.0)
    ∙ by_name [] label name named.0 all
    ∙ reads_all (label ∷ name) named (omega (arith, wire_len_least name, named.0.0.0))
