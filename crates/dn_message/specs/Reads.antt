-- A reader into memory that is exact: it gives a value where the bytes spell it, and no other; it refuses their form only where
-- they spell none. Want of memory says nothing of them.
use Rattle.std.specs.Prelude.{◌≡◌, Result, Ok, Err}
use Rattle.dn_message.specs.declared.error.ReadError.{ReadError}
use Rattle.dn_message.specs.declared.error.ReadError.TheVariants.{Form, OutOfMemory}

abbrev pub Reads : {Value : Type 0} → (Value → Type 0) → Result Value ReadError → Type 0
Reads IsSpelled (Ok value) = IsSpelled value × ((other : _) → IsSpelled other → other ≡ value)
Reads IsSpelled (Err (Form fault)) = (other : _) → IsSpelled other → ⊥
Reads IsSpelled (Err OutOfMemory) = Unit {0}
