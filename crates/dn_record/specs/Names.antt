-- One name or two at the front of data.
use Rattle.std.specs.Prelude.{◌≡◌, ℕ, List, [], ◌∷◌, ◌++◌, length, Option, None, Some}
use Rattle.std.specs.List.{AllByRecursion}
use Rattle.dn_name.specs.Name.{IsName, Labels}

abbrev pub name_or_none : Option Labels → List Labels
name_or_none None = []
name_or_none (Some name) = name ∷ []

-- so many names
abbrev pub AreNames : ℕ → List Labels → Type 0
AreNames count names = (length names ≡ count) × AllByRecursion IsName names

-- so many names, whose bytes `bytes_of` gives, stand at the front of the bytes, with these behind them
abbrev pub Begin : (List Labels → List ℕ) → ℕ → List ℕ → List Labels → List ℕ → Type 0
Begin bytes_of count bytes names back = AreNames count names × (bytes ≡ bytes_of names ++ back)
