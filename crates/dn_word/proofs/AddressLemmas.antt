-- Where a word is cut at its separators, its parts are those of the split; four numbers of which the last is missing.
use Rattle.std.proofs.Common.{◌≡◌, ℕ, ◌+◌, ◌<◌, ◌≤◌, Bool, false, List, [], ◌∷◌, length, take, drop, position, None, Some, refl, ap, subst, ◌∙◌, arith}
use Rattle.std.specs.List.{slice_split, position_or_len}
use Rattle.std.proofs.lemmas.List.{drop_more}
use Rattle.std.proofs.lemmas.List.Elements.{All-from_get_or}
use Rattle.std.proofs.lemmas.List.Quantifiers.{position-Some}
use Rattle.std.proofs.lemmas.List.Splits.{length-slice_split, slice_split_first, slice_split_none}
use Rattle.std.proofs.lemmas.List.Sums.{fails_before_first, position_or_len_is}
use Rattle.dn_word.specs.Addresses.{all_within}
use Rattle.dn_word.specs.Numbers.{number_within}

-- a split has a part
pub has_parts : (p : ℕ → Bool) (word : List ℕ) → 0 < length (slice_split p word)
has_parts p word = omega (arith, length-slice_split p word)

past_the_last : (p : ℕ → Bool) (word : List ℕ) → position p word ≡ None → length word ≤ position_or_len p word
past_the_last p word none = grind arith

-- without a separator the word is the one part
pub cut_none : (p : ℕ → Bool) (word : List ℕ) → position p word ≡ None → slice_split p word ≡ word ∷ []
cut_none p word none =
    let past = past_the_last p word none in
    slice_split_none p word (All-from_get_or (λ byte. p byte ≡ false) word 0 (λ i within. fails_before_first p word i 0 (omega (arith, past, within))))

-- the first part stands before the first separator, the others are the parts of what stands behind it
pub cut_some : (p : ℕ → Bool) (word behind : List ℕ) (place byte : ℕ) → position p word ≡ Some place → drop place word ≡ byte ∷ behind → slice_split p word ≡ take place word ∷ slice_split p behind
cut_some p word behind place byte at back =
    let first = position-Some p word place 0 at in
    let is : position_or_len p word ≡ place = position_or_len_is p word place 0 (omega (arith, first.0)) first.2 (λ within. first.1) in
    let split = slice_split_first p word 0 (omega (arith, is, first.0)) in
    let tail : drop (place + 1) word ≡ behind = let more = drop_more word place 0 first.0 in cc in
    subst (λ n. slice_split p word ≡ take n word ∷ slice_split p (drop (n + 1) word)) is split
    ∙ ap (λ rest. take place word ∷ slice_split p rest) tail

-- without its fourth number there is no address
pub fourth_missing : (first second third fourth : List ℕ) (x y z : ℕ) → number_within 255 first ≡ Some x → number_within 255 second ≡ Some y → number_within 255 third ≡ Some z → number_within 255 fourth ≡ None → all_within 255 (first ∷ second ∷ third ∷ fourth ∷ []) ≡ None
unfolding all_within
fourth_missing first second third fourth x y z is_x is_y is_z missing = rw (is_x, is_y, is_z, missing) refl
