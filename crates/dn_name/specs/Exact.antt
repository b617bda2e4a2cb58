-- A reader that is exact: it gives a value where the bytes spell it, and no other; it refuses exactly where they spell none.
use Rattle.std.specs.Prelude.{◌≡◌, Option, None, Some, Result, Ok, Err}

abbrev pub Exact : {Value Error : Type 0} → (Value → Type 0) → Result Value Error → Type 0
Exact IsSpelled (Ok value) = IsSpelled value × ((other : _) → IsSpelled other → other ≡ value)
Exact IsSpelled (Err error) = (other : _) → IsSpelled other → ⊥

-- the one value that the relation has, or none where it has none
abbrev pub IsOnly : {Value : Type 0} → (Value → Type 0) → Option Value → Type 0
IsOnly IsValue (Some value) = IsValue value × ((other : _) → IsValue other → other ≡ value)
IsOnly IsValue None = (other : _) → IsValue other → ⊥

-- the relation has one value or none, and this is it
abbrev pub Decided : {Value : Type 0} → (Value → Type 0) → Type 0
Decided {Value} IsValue = (found : Option Value) × IsOnly IsValue found
