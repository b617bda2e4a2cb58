-- What a body tells of a line of `show` or `pack`: its output, or that it isn't valid.
use Rattle.std.specs.Prelude.{◌≡◌, ℕ, ◌+◌, ◌^◌, ◌<◌, ◌≤◌, ⊤, List, length, Option, None, Some, Result, Ok, Err}
use Rattle.dn_rdata.specs.Layout.{IsData}
use Rattle.dn_rdata.specs.Record.{stored_size}
use Rattle.dn_word.specs.Print.{as_line}
use Rattle.dn_lines.specs.declared.bad.Bad.{Bad}
use Rattle.dn_lines.specs.declared.bad.Bad.TheVariants as bad
use Rattle.dn_lines.specs.declared.value.Stored.{Stored}
use Rattle.dn_lines.specs.declared.value.Value.{Value}
use Rattle.dn_lines.specs.declared.value.Value.TheVariants as values
use Rattle.dn_lines.specs.Values.{IsShownAs, IsValue, stored_of, stored_text, value_of}

-- what was given is what there is to give, unless memory ran out
abbrev pub Outputs : (Option (List ℕ) → Type 0) → Result (List ℕ) Bad → Type 0
Outputs There (Ok output) = There (Some output)
Outputs There (Err bad.Line) = There None
Outputs There (Err bad.Memory) = ⊤

-- what `show` gives for the words of a line that does something
abbrev pub ShowsWords : List (List ℕ) → Option (List ℕ) → Type 0
ShowsWords words None = stored_of words ≡ None
ShowsWords words (Some output) = (bytes : Stored) × (text : List ℕ) × (stored_of words ≡ Some bytes) × IsShownAs bytes text × (output ≡ as_line text)

-- what `pack` gives for a line that does something
abbrev pub PacksLine : List ℕ → Option (List ℕ) → Type 0
PacksLine line None = value_of line ≡ None
PacksLine line (Some output) =
    (value : Value) × (bytes : Stored) × (value_of line ≡ Some value) × IsValue bytes value × (output ≡ as_line (stored_text bytes))

-- a value that was read from a line can be written: a record's data are valid and fit, a property's content fits,
-- and its tail has 1 to 4 bytes
abbrev pub CanBeWritten : Value → Type 0
CanBeWritten (values.Record item) = IsData item.rtype item.rdata × (stored_size item < 24 + 2 ^ 16)
CanBeWritten (values.Property item) = (length item.content < 2 ^ 32) × (1 ≤ length item.tail) × (length item.tail ≤ 4)
