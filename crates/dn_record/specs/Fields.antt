-- The numbers in the header of a stored record (MS-DNSP 2.3.2.2).
use Rattle.std.specs.Prelude.{ℕ, ◌/◌, ◌%◌, List, [], ◌∷◌, ◌++◌}

-- a number below 2^16, the low byte first
abbrev pub two_little : ℕ → List ℕ
two_little number = (number % 256) ∷ ((number / 256) ∷ [])

-- a number below 2^32, the low byte first
abbrev pub four_little : ℕ → List ℕ
four_little number = two_little (number % 65536) ++ two_little (number / 65536)

-- a number below 2^16, the high byte first
abbrev pub two_big : ℕ → List ℕ
two_big number = (number / 256) ∷ ((number % 256) ∷ [])

-- a number below 2^32, the high byte first
abbrev pub four_big : ℕ → List ℕ
four_big number = two_big (number / 65536) ++ two_big (number % 65536)
