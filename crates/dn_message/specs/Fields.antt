-- The numbers in fields of a message (RFC 1035 2.3.2).
use Rattle.std.specs.Prelude.{ℕ, ◌/◌, ◌%◌, List, [], ◌∷◌, ◌++◌}

-- a number below 2^16, the high byte first
abbrev pub two_bytes : ℕ → List ℕ
two_bytes number = (number / 256) ∷ ((number % 256) ∷ [])

-- a number below 2^32, the high byte first
abbrev pub four_bytes : ℕ → List ℕ
four_bytes number = two_bytes (number / 65536) ++ two_bytes (number % 65536)
