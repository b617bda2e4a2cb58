-- What was printed is read back.
use Rattle.std.specs.Prelude.{◌≡◌, ℕ, ◌≤◌, ◌<◌, List, ◌∷◌, length, Some}
use Rattle.std.specs.List.{AllByRecursion}
use Rattle.dn_rdata.specs.Layout.{IsData, texts_bytes}
use Rattle.dn_text.specs.Fields.{digits_of, digits_text}
use Rattle.dn_text.specs.LongAddresses.{groups_text, long_address_of}
use Rattle.dn_text.specs.ReadData.{rdata_of_text}
use Rattle.dn_text.specs.Rows.{data_text}
use Rattle.dn_text.specs.Strings.{strings_of, strings_text}

abbrev pub IsString : List ℕ → Type 0
IsString text = (length text ≤ 255) × AllByRecursion (λ byte. byte < 256) text

-- one or more strings of at most 255 bytes
abbrev pub StringsAreReadBack : Type 0
StringsAreReadBack = (text : List ℕ) (texts : List (List ℕ)) → AllByRecursion IsString (text ∷ texts)
    → strings_of (strings_text (texts_bytes (text ∷ texts))) ≡ Some (texts_bytes (text ∷ texts))

-- any bytes, as hex digits or `-`
abbrev pub DigitsAreReadBack : Type 0
DigitsAreReadBack = (bytes : List ℕ) → AllByRecursion (λ byte. byte < 256) bytes → digits_of (digits_text bytes) ≡ Some bytes

-- an address of IPv6: sixteen bytes, as eight groups
abbrev pub LongAddressesAreReadBack : Type 0
LongAddressesAreReadBack = (bytes : List ℕ) → length bytes ≡ 16 → AllByRecursion (λ byte. byte < 256) bytes → long_address_of (groups_text bytes) ≡ Some bytes

-- valid data of any type are read back from their text
abbrev pub DataAreReadBack : Type 0
DataAreReadBack = (rtype : ℕ) (rdata : List ℕ) → AllByRecursion (λ byte. byte < 256) rdata → IsData rtype rdata → rdata_of_text rtype (data_text rtype rdata) ≡ Some rdata
