-- Names as text (RFC 1035 5.1): labels joined by dots, and `\DDD` or `\` before a byte that would be read otherwise.
use Rattle.std.specs.Prelude.{◌≡◌, ℕ, ◌+◌, ◌-◌, ◌*◌, ◌/◌, ◌%◌, ◌<◌, Bool, ◌&&◌, ◌||◌, nat_eq, nat_le, if◌then◌else◌, List, [], ◌∷◌, ◌++◌, flat_map, Option, None, Some, option_map, option_and_then}
use Rattle.std.specs.List.{AllByRecursion}
use lib.Pointwise.{pointwise}
use Rattle.dn_name.specs.Name.{Labels, IsName, is_name}

abbrev pub is_digit : ℕ → Bool
is_digit byte = nat_le 48 byte && nat_le byte 57

-- a byte that is printed as it is: a letter, a digit, `-`, `_` or `*`
abbrev pub is_plain : ℕ → Bool
is_plain byte = is_digit byte || (nat_le 65 byte && nat_le byte 90) || (nat_le 97 byte && nat_le byte 122) || nat_eq byte 45 || nat_eq byte 95 || nat_eq byte 42

-- ---- printing

-- the number in three decimal digits
abbrev pub three_digits : ℕ → List ℕ
three_digits n = (48 + n / 100) ∷ (48 + n / 10 % 10) ∷ (48 + n % 10) ∷ []

abbrev pub byte_text : ℕ → List ℕ
byte_text byte = if is_plain byte then byte ∷ [] else 92 ∷ three_digits byte

abbrev pub label_text : List ℕ → List ℕ
label_text label = flat_map byte_text label

-- each label after a dot
abbrev pub dotted : Labels → List ℕ
dotted [] = []
dotted (label ∷ name) = 46 ∷ label_text label ++ dotted name

-- the labels with a dot between each two; the root is one dot
abbrev pub text_of : Labels → List ℕ
text_of [] = 46 ∷ []
text_of (label ∷ name) = label_text label ++ dotted name

-- ---- reading

-- what a text spells, byte by byte: a dot between labels, or a byte of a label
pub data Symbol : Type 0 where
  Dot : Symbol
  Byte : ℕ → Symbol

-- where a text stands: outside an escape, behind its backslash, or behind one or two of its digits, with their value
pub data Escape : Type 0 where
  Outside : Escape
  Begun : Escape
  OneDigit : ℕ → Escape
  TwoDigits : ℕ → Escape

abbrev pub then_symbol : Symbol → Option (List Symbol) → Option (List Symbol)
then_symbol symbol rest = option_map (λ symbols. symbol ∷ symbols) rest

-- The symbols that a text spells from a place on, if it spells any: `\DDD` is the byte of that number up to 255, `\`
-- before another byte from 0x20 to 0x7E is that byte, and each byte from 0x21 to 0x7E but `.` and `\` is itself.
abbrev pub symbols_from : Escape → List ℕ → Option (List Symbol)
symbols_from Outside [] = Some []
symbols_from Begun [] = None
symbols_from (OneDigit n) [] = None
symbols_from (TwoDigits n) [] = None
symbols_from Outside (b ∷ text) =
    if nat_eq b 46 then then_symbol Dot (symbols_from Outside text)
    else (if nat_eq b 92 then symbols_from Begun text
    else (if nat_le 33 b && nat_le b 126 then then_symbol (Byte b) (symbols_from Outside text) else None))
symbols_from Begun (b ∷ text) =
    if is_digit b then symbols_from (OneDigit (b - 48)) text
    else (if nat_le 32 b && nat_le b 126 then then_symbol (Byte b) (symbols_from Outside text) else None)
symbols_from (OneDigit n) (b ∷ text) =
    if is_digit b then symbols_from (TwoDigits (10 * n + (b - 48))) text else None
symbols_from (TwoDigits n) (b ∷ text) =
    if is_digit b && nat_le (10 * n + (b - 48)) 255 then then_symbol (Byte (10 * n + (b - 48))) (symbols_from Outside text) else None

abbrev pub on_first : ℕ → Labels → Labels
on_first byte [] = (byte ∷ []) ∷ []
on_first byte (label ∷ labels) = (byte ∷ label) ∷ labels

-- the labels between the dots, empty ones too
abbrev pub labels_between : List Symbol → Labels
labels_between [] = [] ∷ []
labels_between (Dot ∷ symbols) = [] ∷ labels_between symbols
labels_between (Byte byte ∷ symbols) = on_first byte (labels_between symbols)

-- without the empty label behind a final dot
abbrev pub without_last_empty : Labels → Labels
without_last_empty [] = []
without_last_empty ([] ∷ []) = []
without_last_empty ((byte ∷ bytes) ∷ []) = (byte ∷ bytes) ∷ []
without_last_empty (label ∷ next ∷ labels) = label ∷ without_last_empty (next ∷ labels)

-- labels that make a name other than the root
abbrev pub name_if : Labels → Option Labels
name_if [] = None
name_if (label ∷ labels) = if is_name (label ∷ labels) then Some (label ∷ labels) else None

-- The name that a text spells, if it spells one. All names are absolute, and one final dot may be written; a dot alone
-- is the root.
abbrev pub name_of_text : List ℕ → Option Labels
name_of_text text =
    if pointwise nat_eq text (46 ∷ []) then Some []
    else option_and_then (λ symbols. name_if (without_last_empty (labels_between symbols))) (symbols_from Outside text)

-- ---- reading what was printed

-- each byte of the name is below 256
abbrev pub AllBytes : Labels → Type 0
AllBytes name = AllByRecursion (λ label. AllByRecursion (λ byte. byte < 256) label) name

-- the text of each name spells that name
abbrev pub IsReadBack : Type 0
IsReadBack = (name : Labels) → IsName name → AllBytes name → name_of_text (text_of name) ≡ Some name
