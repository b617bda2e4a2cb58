-- Addresses of IPv4 as text.
use Rattle.std.specs.Prelude.{ℕ, nat_eq, if◌then◌else◌, List, [], ◌∷◌, ◌++◌, codes, decimal, length, Option, None, Some}
use Rattle.std.specs.List.{slice_split}
use Rattle.dn_io.specs.Options.{◌>>=◌}
use Rattle.dn_word.specs.Numbers.{number_within}

-- all of the numbers, where each word is one
unfoldable pub all_within : ℕ → List (List ℕ) → Option (List ℕ)
all_within most [] = Some []
all_within most (word ∷ words) = do
  first ← number_within most word
  rest ← all_within most words
  Some (first ∷ rest)

-- an address of IPv4: four numbers up to 255, joined by dots
unfoldable pub address_of : List ℕ → Option (List ℕ)
address_of word =
    let parts = slice_split (λ byte. nat_eq byte 46) word in
    if nat_eq (length parts) 4 then all_within 255 parts else None

-- ---- printing

-- the bytes as decimals, each behind a separator
abbrev pub decimals_behind : List ℕ → List ℕ → List ℕ
decimals_behind separator [] = []
decimals_behind separator (byte ∷ bytes) = separator ++ decimal byte ++ decimals_behind separator bytes

abbrev pub dotted_decimals : List ℕ → List ℕ
dotted_decimals [] = []
dotted_decimals (byte ∷ bytes) = decimal byte ++ decimals_behind (codes ".") bytes
