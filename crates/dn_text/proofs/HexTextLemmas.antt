-- The text of bytes in hex digits has neither blanks nor colons.
use Rattle.std.proofs.Common.{◌≡◌, ℕ, suc, ◌/◌, ◌%◌, ◌<◌, true, false, nat_eq, nat_lt, List, [], ◌∷◌, length, slice_index, refl, arith}
use Rattle.std.specs.List.{AllByRecursion}
use Rattle.std.proofs.lemmas.List.Elements.{All-from_recursion}
use Rattle.std.proofs.lemmas.Bool.Decides.{nat_tests}
use Rattle.hex.specs.Hex.{encode_with, lower_digits}
use Rattle.dn_word.specs.Hex.{hex_text}
use Rattle.dn_word.proofs.CallerLemmas.{Lacks}

abbrev pub AreBytes : List ℕ → Type 0
AreBytes bytes = AllByRecursion (λ byte. byte < 256) bytes

-- neither a space nor a colon nor a tab
abbrev IsOther : ℕ → Type 0
IsOther digit = (nat_eq digit 32 ≡ false) × (nat_eq digit 58 ≡ false) × (nat_eq digit 9 ≡ false)

digits_other : AllByRecursion IsOther lower_digits
digits_other = ((refl, refl, refl), ((refl, refl, refl), ((refl, refl, refl), ((refl, refl, refl), ((refl, refl, refl), ((refl, refl, refl), ((refl, refl, refl), ((refl, refl, refl), ((refl, refl, refl), ((refl, refl, refl), ((refl, refl, refl), ((refl, refl, refl), ((refl, refl, refl), ((refl, refl, refl), ((refl, refl, refl), ((refl, refl, refl), tt))))))))))))))))

digit_other : (n : ℕ) → n < 16 → IsOther (slice_index lower_digits n)
digit_other n below = All-from_recursion IsOther lower_digits digits_other n 0 below

all_other : (bytes : List ℕ) → AreBytes bytes → AllByRecursion IsOther (hex_text bytes)
unfolding hex_text encode_with
all_other [] small = tt
all_other (byte ∷ bytes) small =
    (digit_other (byte / 16) (omega (arith, small.0)), (digit_other (byte % 16) (omega (arith, small.0)), all_other bytes small.1))

no_space : (word : List ℕ) → AllByRecursion IsOther word → Lacks 32 word
no_space [] other = tt
no_space (digit ∷ word) other = (other.0.0, no_space word other.1)

no_colon : (word : List ℕ) → AllByRecursion IsOther word → Lacks 58 word
no_colon [] other = tt
no_colon (digit ∷ word) other = (other.0.1, no_colon word other.1)

pub hex_lacks_space : (bytes : List ℕ) → AreBytes bytes → Lacks 32 (hex_text bytes)
hex_lacks_space bytes small = no_space (hex_text bytes) (all_other bytes small)

pub hex_lacks_colon : (bytes : List ℕ) → AreBytes bytes → Lacks 58 (hex_text bytes)
hex_lacks_colon bytes small = no_colon (hex_text bytes) (all_other bytes small)

no_tab : (word : List ℕ) → AllByRecursion IsOther word → Lacks 9 word
no_tab [] other = tt
no_tab (digit ∷ word) other = (other.0.2, no_tab word other.1)

pub hex_lacks_tab : (bytes : List ℕ) → AreBytes bytes → Lacks 9 (hex_text bytes)
hex_lacks_tab bytes small = no_tab (hex_text bytes) (all_other bytes small)

two_or_more : (n : ℕ) → nat_lt 0 (suc (suc n)) ≡ true
two_or_more n = grind (arith, nat_tests)

-- the digits of one byte or more are a word
pub hex_some : (byte : ℕ) (bytes : List ℕ) → nat_lt 0 (length (hex_text (byte ∷ bytes))) ≡ true
unfolding hex_text encode_with
hex_some byte bytes = two_or_more (length (encode_with lower_digits bytes))
