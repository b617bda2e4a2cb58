-- The text of strings: each in double quotes, with a space between each two (RFC 1035 5.1).
use Rattle.std.specs.Prelude.{ℕ, ◌+◌, ◌-◌, ◌*◌, ◌||◌, ◌&&◌, nat_eq, nat_le, if◌then◌else◌, List, [], ◌∷◌, ◌++◌, codes, length, Option, None, Some, option_map}
use Rattle.dn_name.specs.Text.{three_digits}
use Rattle.dn_rdata.specs.Layout.{text_bytes}
use Rattle.dn_word.specs.Numbers.{is_digit}
use Rattle.dn_word.specs.Words.{is_blank}
use Rattle.dn_text.specs.declared.quoted.Place.{Place}
use Rattle.dn_text.specs.declared.quoted.Place.TheVariants.{Start, Inside, Escaped, OneDigit, TwoDigits, Behind}
use Rattle.dn_text.specs.declared.quoted.Turn.{Turn}
use Rattle.dn_text.specs.declared.quoted.Turn.TheVariants.{Goes, Spells, Ends}

-- ---- printing

-- a byte of a string: `"` and `\` behind a `\`, each other byte from 0x20 to 0x7E as it is, the rest as `\DDD`
abbrev pub string_byte : ℕ → List ℕ
string_byte byte =
    if nat_eq byte 34 || nat_eq byte 92 then 92 ∷ byte ∷ []
    else (if nat_le 32 byte && nat_le byte 126 then byte ∷ [] else 92 ∷ three_digits byte)

-- What is printed of data inside a string of which so many bytes are left: these bytes and the closing quote, and then,
-- behind its length byte, each further string behind a space. Data that end inside a string close it.
unfoldable pub open_text : ℕ → List ℕ → List ℕ
open_text left [] = codes "\""
open_text left (byte ∷ bytes) =
    if nat_eq left 0 then codes "\" \"" ++ open_text byte bytes else string_byte byte ++ open_text (left - 1) bytes

-- strings, each behind its length byte
unfoldable pub strings_text : List ℕ → List ℕ
strings_text [] = []
strings_text (len ∷ bytes) = codes "\"" ++ open_text len bytes

-- ---- reading

-- the number with one more digit behind it, where it is a byte
abbrev pub with_digit : ℕ → ℕ → Option ℕ
with_digit number byte = if is_digit byte && nat_le (10 * number + (byte - 48)) 255 then Some (10 * number + (byte - 48)) else None

-- What a byte of the text does, by the place where it stands. In a string `\DDD` is the byte of that number up to 255, `\`
-- before another byte from 0x20 to 0x7E is that byte, and each space or tab and each byte from 0x21 to 0x7E but `"` and `\`
-- is itself. Outside there is one space between two strings, and nothing else.
unfoldable pub turn_at : Place → ℕ → Option Turn
turn_at Start byte = if nat_eq byte 34 then Some (Goes Inside) else None
turn_at Inside byte =
    if nat_eq byte 34 then Some Ends
    else (if nat_eq byte 92 then Some (Goes Escaped)
    else (if is_blank byte || (nat_le 33 byte && nat_le byte 126) then Some (Spells byte) else None))
turn_at Escaped byte =
    if is_digit byte then Some (Goes (OneDigit (byte - 48)))
    else (if nat_le 32 byte && nat_le byte 126 then Some (Spells byte) else None)
turn_at (OneDigit number) byte = option_map (λ both. Goes (TwoDigits both)) (with_digit number byte)
turn_at (TwoDigits number) byte = option_map Spells (with_digit number byte)
turn_at Behind byte = if nat_eq byte 32 then Some (Goes Start) else None

-- What follows a turn, behind strings with these bytes and in a string with these: a string of more than 255 bytes has no
-- length byte.
abbrev pub turned : Option Turn → List ℕ → List ℕ → (Place → List ℕ → List ℕ → Option (List ℕ)) → Option (List ℕ)
turned None done begun go_on = None
turned (Some (Goes place)) done begun go_on = go_on place done begun
turned (Some (Spells byte)) done begun go_on = go_on Inside done (begun ++ byte ∷ [])
turned (Some Ends) done begun go_on = if nat_le (length begun) 255 then go_on Behind (done ++ text_bytes begun) [] else None

-- a text of strings ends behind one
abbrev pub at_end : Place → List ℕ → Option (List ℕ)
at_end Behind done = Some done
at_end other done = None

-- the strings that a text completes from a place on
unfoldable pub strings_from : Place → List ℕ → List ℕ → List ℕ → Option (List ℕ)
strings_from place done begun [] = at_end place done
strings_from place done begun (byte ∷ text) = turned (turn_at place byte) done begun (λ next closed string. strings_from next closed string text)

-- the strings that a text spells, one or more, each behind its length byte
unfoldable pub strings_of : List ℕ → Option (List ℕ)
strings_of text = strings_from Start [] [] text
