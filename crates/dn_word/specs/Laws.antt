-- What was printed is read back.
use Rattle.std.specs.Prelude.{◌≡◌, ℕ, ◌^◌, ◌<◌, ◌≤◌, List, decimal, length, Some}
use Rattle.std.specs.List.{AllByRecursion}
use Rattle.dn_word.specs.Addresses.{address_of, dotted_decimals}
use Rattle.dn_word.specs.Numbers.{number_within}

-- a number of at most 64 bits, at each bound that it fits
abbrev pub NumbersAreReadBack : Type 0
NumbersAreReadBack = (most n : ℕ) → n ≤ most → n < 2 ^ 64 → number_within most (decimal n) ≡ Some n

-- an address of IPv4: four bytes
abbrev pub AddressesAreReadBack : Type 0
AddressesAreReadBack = (bytes : List ℕ) → length bytes ≡ 4 → AllByRecursion (λ byte. byte < 256) bytes → address_of (dotted_decimals bytes) ≡ Some bytes
