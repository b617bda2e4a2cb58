-- A number only grows with the digits behind it, so one that doesn't fit is past each bound that does.
use Rattle.std.proofs.Common.{◌≡◌, ℕ, ◌+◌, ◌-◌, ◌*◌, ◌^◌, ◌<◌, ◌≤◌, Bool, ◌&&◌, nat_le, if◌then◌else◌, List, [], ◌∷◌, length, get_or, drop, None, Some, IfSome, arith}
use Rattle.std.proofs.lemmas.List.{at_drop_more}
use Rattle.std.proofs.lemmas.Bool.Decides.{nat_tests}
use Rattle.std.specs.List.{list_all}
use Rattle.dn_word.specs.Numbers.{is_digit, no_leading_zero, number_within, value_behind}
use Rattle.dn_word.specs.Numbers.Bounded.{value_within}

pub value_grows : (value : ℕ) (digits : List ℕ) → value ≤ value_behind value digits
value_grows value [] = omega arith
value_grows value (digit ∷ digits) = omega (arith, value_grows (10 * value + (digit - 48)) digits)

is_past : (most : ℕ) (digits : List ℕ) → most < value_behind 0 digits → None ≡ value_within most digits
is_past most digits h = grind (arith, nat_tests)

pub passes : (most value i : ℕ) (digits : List ℕ) → most < 2 ^ 64 → i < length digits → 2 ^ 64 ≤ 10 * value + (get_or digits i 0 - 48) → value_behind value (drop i digits) ≡ value_behind 0 digits → None ≡ value_within most digits
passes most value i digits fits within above same =
    let step = at_drop_more (value_behind value) digits i 0 within in
    let grown = value_grows (10 * value + (get_or digits i 0 - 48)) (drop (i + 1) digits) in
    is_past most digits (omega arith)

kept : (b : Bool) (n most : ℕ) → IfSome (if b && nat_le n most then Some n else None) (λ value. value ≤ most)
kept b n most = grind (arith, nat_tests)

-- a number is at most its bound
pub number_kept : (most : ℕ) (word : List ℕ) → IfSome (number_within most word) (λ value. value ≤ most)
unfolding number_within
number_kept most word = kept (list_all is_digit word && no_leading_zero word) (value_behind 0 word) most
