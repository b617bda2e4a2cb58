-- Reading the hex digits of bytes gives the bytes.
use Rattle.std.proofs.Common.{◌≡◌, ℕ, zero, suc, ◌<◌, Bool, true, false, ◌&&◌, nat_eq, List, [], ◌∷◌, length, Some, refl, ap, ◌∙◌, arith}
use Rattle.std.specs.List.{AllByRecursion}
use Rattle.std.specs.Result.{result_ok}
use Rattle.std.proofs.lemmas.Bool.Decides.{nat_tests}
use lib.Pointwise.{pointwise}
use Rattle.hex.specs.Hex.{encode_with, IsBytes}
use Rattle.hex.proofs.HexLemmas.{decode_of-encode_lower}
use Rattle.dn_text.specs.Fields.{digits_of, digits_text}
use Rattle.dn_word.specs.Hex.{bytes_of_hex, hex_text}
use Rattle.dn_text.specs.Laws.{DigitsAreReadBack}

pub index_small : (bytes : List ℕ) → AllByRecursion (λ byte. byte < 256) bytes → IsBytes bytes
index_small [] small i = omega arith
index_small (byte ∷ bytes) small zero = small.0
index_small (byte ∷ bytes) small (suc i) = index_small bytes small.1 i

and_false : (v : Bool) → (v && false) ≡ false
and_false true = refl
and_false false = refl

not_empty : (byte : ℕ) (bytes : List ℕ) → nat_eq (length (byte ∷ bytes)) 0 ≡ false
not_empty byte bytes = grind (arith, nat_tests)

-- bytes as digits alone
pub hex_back : (bytes : List ℕ) → AllByRecursion (λ byte. byte < 256) bytes → bytes_of_hex (hex_text bytes) ≡ Some bytes
unfolding bytes_of_hex hex_text
hex_back bytes small = ap result_ok (decode_of-encode_lower bytes (index_small bytes small))

-- digits are two or more, and no `-`
no_dash : (first second : ℕ) (rest : List ℕ) → pointwise nat_eq (first ∷ (second ∷ rest)) (45 ∷ []) ≡ false
no_dash first second rest = and_false (nat_eq first 45)

is_hex : (first second : ℕ) (rest word : List ℕ) → word ≡ first ∷ (second ∷ rest) → digits_of word ≡ bytes_of_hex word
unfolding digits_of
is_hex first second rest word e = rw (e, no_dash first second rest, not_empty first (second ∷ rest)) refl

pub text_is_hex : (byte : ℕ) (bytes : List ℕ) → digits_text (byte ∷ bytes) ≡ hex_text (byte ∷ bytes)
unfolding digits_text
text_is_hex byte bytes = rw (not_empty byte bytes) refl

reads_hex : (byte : ℕ) (bytes : List ℕ) → digits_of (hex_text (byte ∷ bytes)) ≡ bytes_of_hex (hex_text (byte ∷ bytes))
unfolding hex_text encode_with
reads_hex byte bytes = is_hex _ _ _ (hex_text (byte ∷ bytes)) refl

pub digits_back : DigitsAreReadBack
unfolding digits_of digits_text
digits_back [] small = refl
digits_back (byte ∷ bytes) small = ap digits_of (text_is_hex byte bytes) ∙ reads_hex byte bytes ∙ hex_back (byte ∷ bytes) small
