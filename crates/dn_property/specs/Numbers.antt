-- Numbers of four bytes, the low byte first (MS-DNSP 2.3.2.1).
use Rattle.std.specs.Prelude.{ℕ, ◌/◌, ◌%◌, ◌==◌, if◌then◌else◌, List, [], ◌∷◌, length, Option, None, Some}
use Rattle.std.specs.Int.{w32, from_le_bytes}

-- a number below 2^32
abbrev pub four_little : ℕ → List ℕ
four_little number = (number % 256) ∷ ((number / 256 % 256) ∷ ((number / 65536 % 256) ∷ ((number / 16777216) ∷ [])))

-- the number in a property's data; data of another length counts as absent
abbrev pub number_in : List ℕ → Option ℕ
number_in content = if length content == 4 then Some (from_le_bytes w32 content) else None
