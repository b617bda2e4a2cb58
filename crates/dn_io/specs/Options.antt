-- Values that may be missing, read one after another.
use Rattle.std.specs.Prelude.{Option, None, Some}

-- the value where there is one, handed on
infixl 10 ◌>>=◌
abbrev pub ◌>>=◌ : {A B : Type 0} → Option A → (A → Option B) → Option B
None >>= next = None
(Some value) >>= next = next value
