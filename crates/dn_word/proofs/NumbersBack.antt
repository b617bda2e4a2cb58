-- Reading the decimal digits of a number gives the number.
use Rattle.std.proofs.Common.{◌≡◌, ℕ, zero, suc, ◌^◌, ◌<◌, ◌≤◌, Bool, true, ◌&&◌, nat_le, if◌then◌else◌, List, [], ◌∷◌, length, get_or, None, Some, refl, ap, arith}
use Rattle.std.specs.Fmt.{decimal}
use Rattle.std.specs.Int.{IsInRange}
use Rattle.std.specs.List.{AllByRecursion, list_all}
use Rattle.std.proofs.lemmas.Bool.{and_parts, le-leb, leb-true}
use Rattle.std.proofs.lemmas.Bool.Decides.{nat_tests}
use Rattle.std.proofs.lemmas.Fmt.{decimal_digit, decimal_nonempty, digits_decimal, digits_value-decimal, first_decimal}
use Rattle.std.proofs.lemmas.Str.Parse.{FoldsDigits, IsDigitsTest, IsNumeralModel, numerals_by_fold}
use Rattle.dn_word.specs.Laws.{NumbersAreReadBack}
use Rattle.dn_word.specs.Numbers.{is_digit, no_leading_zero, number_within, value_behind}

abbrev AreDigits : List ℕ → Type 0
AreDigits word = list_all is_digit word ≡ true

digit_range : (byte : ℕ) → is_digit byte ≡ true → (48 ≤ byte) × (byte ≤ 57)
digit_range byte is = let parts = and_parts (nat_le 48 byte) (nat_le byte 57) is in (leb-true 48 byte parts.0, leb-true byte 57 parts.1)

range_digit : (byte : ℕ) → 48 ≤ byte → byte ≤ 57 → is_digit byte ≡ true
range_digit byte low high = rw (le-leb 48 byte low, le-leb byte 57 high) refl

first_and_rest : (byte : ℕ) (word : List ℕ) → is_digit byte ≡ true → AreDigits word → AreDigits (byte ∷ word)
first_and_rest byte word first rest = rw (first, rest) refl

digits_test : IsDigitsTest AreDigits
digits_test = record {
  empty = refl;
  parts = λ byte word are. let parts = and_parts (is_digit byte) (list_all is_digit word) are in (digit_range byte parts.0, parts.1);
  more = λ byte word is are. first_and_rest byte word (range_digit byte is.0 is.1) are;
}

folds : FoldsDigits value_behind
folds = record {
  empty = λ value. refl;
  more = λ value byte word is. ap (λ n. value_behind n word) (omega arith);
}

numerals : IsNumeralModel AreDigits (value_behind 0)
numerals = numerals_by_fold AreDigits digits_test value_behind folds

-- digits of which the first isn't zero
first_some : (word : List ℕ) → 0 < length word → 48 < get_or word 0 0 → no_leading_zero word ≡ true
first_some [] some above = absurd (omega arith)
first_some (digit ∷ []) some above = refl
first_some (digit ∷ next ∷ digits) some above = grind (arith, nat_tests)

no_zero : (n : ℕ) → n < 2 ^ 64 → no_leading_zero (decimal n) ≡ true
no_zero zero fits = ap no_leading_zero (decimal_digit 0 (omega arith))
no_zero (suc n) fits = first_some (decimal (suc n)) (decimal_nonempty (suc n) fits) (first_decimal (suc n) (omega arith) fits)

within : (most n value : ℕ) (digits leading : Bool) → digits ≡ true → leading ≡ true → value ≡ n → n ≤ most
    → (if digits && leading && nat_le value most then Some value else None) ≡ Some n
within most n value digits leading are is e fits = rw (are, is, e, le-leb n most fits) refl

pub number_read_back : NumbersAreReadBack
unfolding number_within
number_read_back most n below fits =
    within most n (value_behind 0 (decimal n)) (list_all is_digit (decimal n)) (no_leading_zero (decimal n))
    (digits_decimal numerals n fits) (no_zero n fits) (digits_value-decimal numerals n fits) below

-- ---- what callers need of digits

are_in_range : (word : List ℕ) → AreDigits word → AllByRecursion (IsInRange 48 57) word
are_in_range [] are = tt
are_in_range (byte ∷ word) are = let parts = digits_test.parts byte word are in (parts.0, are_in_range word parts.1)

-- each byte of a number's text is a digit
pub decimal_digits : (n : ℕ) → n < 2 ^ 64 → AllByRecursion (IsInRange 48 57) (decimal n)
decimal_digits n fits = are_in_range (decimal n) (digits_decimal numerals n fits)

-- a number's text has a byte
pub decimal_some : (n : ℕ) → n < 2 ^ 64 → 0 < length (decimal n)
decimal_some n fits = decimal_nonempty n fits
