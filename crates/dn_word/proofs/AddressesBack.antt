-- Reading the text of an address of IPv4 gives the address.
use Rattle.std.proofs.Common.{◌≡◌, ℕ, ◌^◌, ◌<◌, true, nat_eq, List, [], ◌∷◌, ◌++◌, length, map, Some, refl, ap, ◌∙◌, arith}
use Rattle.std.specs.Fmt.{decimal}
use Rattle.std.specs.List.{AllByRecursion, slice_split}
use Rattle.dn_word.specs.Addresses.{address_of, all_within, decimals_behind, dotted_decimals}
use Rattle.dn_word.specs.Laws.{AddressesAreReadBack}
use Rattle.dn_word.proofs.JoinedLemmas.{Lacks, digits_lack, lacks_both, lacks_words, split_joined, words_behind}
use Rattle.dn_word.proofs.NumbersBack.{decimal_digits, number_read_back}

abbrev AreBytes : List ℕ → Type 0
AreBytes bytes = AllByRecursion (λ byte. byte < 256) bytes

-- the decimals behind dots are words behind dots
behind_are : (bytes : List ℕ) → decimals_behind (46 ∷ []) bytes ≡ words_behind 46 (map decimal bytes)
behind_are [] = refl
behind_are (byte ∷ bytes) = ap (λ rest. 46 ∷ (decimal byte ++ rest)) (behind_are bytes)

-- a decimal lacks each byte before the digits
pub decimal_lacks : (byte n : ℕ) → byte < 48 → n < 2 ^ 64 → Lacks byte (decimal n)
decimal_lacks byte n below fits = digits_lack byte (decimal n) below (decimal_digits n fits)

all_lack : (byte : ℕ) (bytes : List ℕ) → byte < 48 → AreBytes bytes → AllByRecursion (Lacks byte) (map decimal bytes)
all_lack byte [] below small = tt
all_lack byte (number ∷ bytes) below small = (decimal_lacks byte number below (omega (arith, small.0)), all_lack byte bytes below small.1)

all_back : (bytes : List ℕ) → AreBytes bytes → all_within 255 (map decimal bytes) ≡ Some bytes
unfolding all_within
all_back [] small = refl
all_back (byte ∷ bytes) small = rw (number_read_back 255 byte (omega (arith, small.0)) (omega (arith, small.0)), all_back bytes small.1) refl

parts_back : (word bytes : List ℕ) → slice_split (λ byte. nat_eq byte 46) word ≡ map decimal bytes → nat_eq (length (map decimal bytes)) 4 ≡ true → AreBytes bytes
    → address_of word ≡ Some bytes
unfolding address_of
parts_back word bytes parts four small = rw (parts, four) (all_back bytes small)

four_words : (a b c d : ℕ) → nat_eq (length (map decimal (a ∷ b ∷ c ∷ d ∷ []))) 4 ≡ true
four_words a b c d = refl

pub address_read_back : AddressesAreReadBack
address_read_back (a ∷ b ∷ c ∷ d ∷ []) four small =
    parts_back (dotted_decimals (a ∷ b ∷ c ∷ d ∷ [])) (a ∷ b ∷ c ∷ d ∷ [])
    (ap (λ rest. slice_split (λ byte. nat_eq byte 46) (decimal a ++ rest)) (behind_are (b ∷ c ∷ d ∷ []))
    ∙ split_joined 46 (decimal a) (map decimal (b ∷ c ∷ d ∷ [])) (all_lack 46 (a ∷ b ∷ c ∷ d ∷ []) (omega arith) small))
    (four_words a b c d) small
address_read_back [] four small = absurd (omega arith)
address_read_back (a ∷ []) four small = absurd (omega arith)
address_read_back (a ∷ b ∷ []) four small = absurd (omega arith)
address_read_back (a ∷ b ∷ c ∷ []) four small = absurd (omega arith)
address_read_back (a ∷ b ∷ c ∷ d ∷ e ∷ bytes) four small = absurd (omega arith)

-- the text of an address has no space
pub address_lacks_space : (bytes : List ℕ) → AreBytes bytes → Lacks 32 (dotted_decimals bytes)
address_lacks_space [] small = tt
address_lacks_space (byte ∷ bytes) small =
    lacks_both 32 (decimal byte) (decimals_behind (46 ∷ []) bytes) (decimal_lacks 32 byte (omega arith) (omega (arith, small.0)))
    (rw (behind_are bytes) (lacks_words 32 46 (map decimal bytes) refl (all_lack 32 bytes (omega arith) small.1)))
