-- What writing one byte, one label or a dot does to a buffer.
use Rattle.std.proofs.Common.{◌≡◌, ℕ, ◌+◌, ◌*◌, ◌≤◌, ◌<◌, true, false, cond, List, [], ◌∷◌, ◌++◌, length, take, drop, get_or, Some, sym, ◌∙◌, ap, arith, append_assoc, append-nil, length-append}
use Rattle.std.specs.List.{AllByRecursion}
use Rattle.std.proofs.Math.ListN.{set}
use Rattle.std.proofs.lemmas.List.{take_more, take_more_set, drop-set-lt, drop-drop}
use Rattle.std.proofs.lemmas.Grind.{flat_map-append}
use Rattle.dn_name.specs.Name.{Labels, IsLabel, IsName, wire_len, wire_of}
use Rattle.dn_name.specs.Text.{is_plain, three_digits, byte_text, label_text, dotted, text_of}
use Rattle.dn_name.specs.Walk.{first_of}
use Rattle.dn_name.specs.Writing.{Prints, IsWritten}

pub prints_one : (at : ℕ) (old : List ℕ) (byte : ℕ) → at < length old → Prints at old (byte ∷ []) (at + 1) (set old at byte)
prints_one at old byte within =
    record {
      place = omega arith;
      front = take_more_set old at byte within;
      back = let less : at < at + 1 = omega arith in drop-set-lt (at + 1) old at byte less;
    }

pub prints_more : (at : ℕ) (old xs : List ℕ) (between : ℕ) (mid ys : List ℕ) (after : ℕ) (new : List ℕ)
    → Prints at old xs between mid → Prints between mid ys after new → Prints at old (xs ++ ys) after new
prints_more at old xs between mid ys after new first second =
    let back : drop after mid ≡ drop after old =
    rw second.place (sym (drop-drop (length ys) between mid) ∙ ap (λ rest. drop (length ys) rest) first.back ∙ drop-drop (length ys) between old) in
    record {
      place = omega (arith, first.place, second.place, length-append xs ys);
      front = second.front ∙ ap (λ front. front ++ ys) first.front ∙ append_assoc (take at old) xs ys;
      back = second.back ∙ back;
    }

pub byte_text_most : (byte : ℕ) → length (byte_text byte) ≤ 4
byte_text_most byte = elim (is_plain byte) as (λ v. length (cond v (byte ∷ []) (92 ∷ three_digits byte)) ≤ 4) [ true ↦ omega arith | false ↦ omega arith ]

pub label_text_most : (label : List ℕ) → length (label_text label) ≤ 4 * length label
label_text_most [] = omega arith
label_text_most (byte ∷ label) = omega (arith, length-append (byte_text byte) (label_text label), byte_text_most byte, label_text_most label)

pub label_text_more : (label : List ℕ) (i d : ℕ) → i < length label → label_text (take (i + 1) label) ≡ label_text (take i label) ++ byte_text (get_or label i d)
label_text_more label i d within =
    ap label_text (take_more label i d within) ∙ flat_map-append byte_text (take i label) (get_or label i d ∷ [])
    ∙ ap (λ x. label_text (take i label) ++ x) (append-nil (byte_text (get_or label i d)))

pub label_more : (start : ℕ) (old label : List ℕ) (i at : ℕ) (mid : List ℕ) (after : ℕ) (new : List ℕ) → i < length label
    → Prints start old (label_text (take i label)) at mid → Prints at mid (byte_text (get_or label i 0)) after new
    → Prints start old (label_text (take (i + 1) label)) after new
label_more start old label i at mid after new within first second =
    rw (label_text_more label i 0 within) (prints_more start old (label_text (take i label)) at mid (byte_text (get_or label i 0)) after new first second)

same_parts : (p q : List ℕ × List ℕ) → Some p ≡ Some q → (p.0 ≡ q.0) × (p.1 ≡ q.1)
same_parts p q is = let both : p ≡ q = cc in (ap (λ parts. parts.0) both, ap (λ parts. parts.1) both)

length-wire_of : (name : Labels) → length (wire_of name) ≡ wire_len name
length-wire_of [] = omega arith
length-wire_of (label ∷ name) = omega (arith, length-append label (wire_of name), length-wire_of name)

pub wire_less : (left : Labels) (wire label behind : List ℕ) → wire ≡ wire_of left → Some (label, behind) ≡ first_of left
    → length wire ≡ length label + 1 + length behind
wire_less [] wire label behind spelled is = cc
wire_less (first ∷ left) wire label behind spelled is =
    let both = same_parts (label, behind) (first, wire_of left) is in
    let same_label : label ≡ first = both.0 in
    let same_behind : behind ≡ wire_of left = both.1 in
    rw (spelled, same_label, same_behind) (omega (arith, length-append first (wire_of left)))

pub first_written : (name : Labels) (label behind : List ℕ) (at : ℕ) (old new : List ℕ) → IsName name → Some (label, behind) ≡ first_of name
    → Prints 0 old (label_text label) at new → IsWritten name behind at old new
first_written [] label behind at old new named is prints = cc
first_written (first ∷ left) label behind at old new named is prints =
    let both = same_parts (label, behind) (first, wire_of left) is in
    let same_label : label ≡ first = both.0 in
    let same_behind : behind ≡ wire_of left = both.1 in
    record {
      left = left;
      labels = named.0.1;
      spelled = same_behind;
      done = label_text label;
      text = ap (λ x. label_text x ++ dotted left) (sym same_label);
      prints = prints;
      room = rw same_behind (omega (arith, length-wire_of left, prints.place, label_text_most label, ap length same_label, named.1));
    }

next_written : (name left : Labels) (done wire label behind : List ℕ) (at : ℕ) (old mid : List ℕ) (after : ℕ) (new : List ℕ)
    → AllByRecursion IsLabel left → wire ≡ wire_of left → text_of name ≡ done ++ dotted left → Prints 0 old done at mid → at + 4 * length wire ≤ 1020
    → Some (label, behind) ≡ first_of left → at < length mid → Prints (at + 1) (set mid at 46) (label_text label) after new → IsWritten name behind after old new
next_written name [] done wire label behind at old mid after new labels spelled text prints room is within more = cc
next_written name (first ∷ left) done wire label behind at old mid after new labels spelled text prints room is within more =
    let both = same_parts (label, behind) (first, wire_of left) is in
    let same_label : label ≡ first = both.0 in
    let same_behind : behind ≡ wire_of left = both.1 in
    let less = wire_less (first ∷ left) wire label behind spelled is in
    record {
      left = left;
      labels = labels.1;
      spelled = same_behind;
      done = done ++ (46 ∷ label_text label);
      text = text ∙ ap (λ x. done ++ (46 ∷ (label_text x ++ dotted left))) (sym same_label) ∙ sym (append_assoc done (46 ∷ label_text label) (dotted left));
      prints =
          prints_more 0 old done at mid (46 ∷ label_text label) after new prints
          (prints_more at mid (46 ∷ []) (at + 1) (set mid at 46) (label_text label) after new (prints_one at mid 46 within) more);
      room = omega (arith, less, more.place, label_text_most label);
    }

pub turn_written : (name : Labels) (wire label behind : List ℕ) (at : ℕ) (old mid : List ℕ) (after : ℕ) (new : List ℕ)
    → (w : IsWritten name wire at old mid) → Some (label, behind) ≡ first_of w.left → at < length mid
    → Prints (at + 1) (set mid at 46) (label_text label) after new → IsWritten name behind after old new
turn_written name wire label behind at old mid after new w =
    next_written name w.left w.done wire label behind at old mid after new w.labels w.spelled w.text w.prints w.room
