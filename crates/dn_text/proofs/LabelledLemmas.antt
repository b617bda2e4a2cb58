-- A text is cut at the place of its first space, and one without a space isn't.
use Rattle.std.proofs.Common.{◌≡◌, ℕ, ◌+◌, zero, suc, ◌<◌, ◌≤◌, Bool, true, false, nat_eq, List, [], ◌∷◌, length, get_or, take, drop, position, None, Some, refl, ap, ◌∙◌, arith}
use Rattle.std.specs.List.{position_or_len}
use Rattle.std.proofs.lemmas.List.{drop_more}
use Rattle.std.proofs.lemmas.List.Quantifiers.{position-Some}
use Rattle.std.proofs.lemmas.List.Sums.{fails_before_first}
use Rattle.dn_text.specs.Labelled.{cut_at_space}

none_stands : (text : List ℕ) → ((k : ℕ) → k < length text → nat_eq (get_or text k 0) 32 ≡ false) → cut_at_space text ≡ None
unfolding cut_at_space
none_stands [] none = refl
none_stands (byte ∷ text) none =
    let here : nat_eq byte 32 ≡ false = none 0 (omega arith) in
    let rest = none_stands text (λ k within. none (suc k) (omega (arith, within))) in rw (here, rest) refl

first_stands : (text : List ℕ) (place : ℕ) → place < length text → nat_eq (get_or text place 0) 32 ≡ true → ((k : ℕ) → k < place → nat_eq (get_or text k 0) 32 ≡ false)
    → cut_at_space text ≡ Some (take place text, drop (place + 1) text)
unfolding cut_at_space
first_stands [] place within at before = absurd (omega arith)
first_stands (byte ∷ text) zero within at before = let here : nat_eq byte 32 ≡ true = at in rw here refl
first_stands (byte ∷ text) (suc place) within at before =
    let here : nat_eq byte 32 ≡ false = before 0 (omega arith) in
    let rest = first_stands text place (omega (arith, within)) at (λ k less. before (suc k) (omega (arith, less))) in
    let next : suc place + 1 ≡ suc (place + 1) = omega arith in
    rw (here, rest, next) refl

past_the_last : (p : ℕ → Bool) (text : List ℕ) → position p text ≡ None → length text ≤ position_or_len p text
past_the_last p text none = grind arith

pub no_space : (text : List ℕ) → position (λ byte. nat_eq byte 32) text ≡ None → cut_at_space text ≡ None
no_space text none =
    let past = past_the_last (λ byte. nat_eq byte 32) text none in
    none_stands text (λ k within. fails_before_first (λ byte. nat_eq byte 32) text k 0 (omega (arith, past, within)))

pub a_space : (text behind : List ℕ) (place byte : ℕ) → position (λ byte. nat_eq byte 32) text ≡ Some place → drop place text ≡ byte ∷ behind → cut_at_space text ≡ Some (take place text, behind)
a_space text behind place byte at back =
    let first = position-Some (λ byte. nat_eq byte 32) text place 0 at in
    let tail : drop (place + 1) text ≡ behind = let more = drop_more text place 0 first.0 in cc in
    first_stands text place first.0 first.1 first.2 ∙ ap (λ rest. Some (take place text, rest)) tail
