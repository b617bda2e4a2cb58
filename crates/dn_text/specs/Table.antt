-- The types of records that have names, and of which words the text of their data consists (RFC 1035 3.2.2, 3.3 and 3.4.1,
-- RFC 2782, RFC 3596 2.2, RFC 3597 5, RFC 4701).
use Rattle.std.specs.Prelude.{ℕ, nat_eq, if◌then◌else◌, List, [], ◌∷◌, ◌++◌, codes, decimal, Option, None, Some}
use Rattle.dn_rdata.specs.Types.{A, AAAA, CNAME, MX, NS, PTR, SOA, SRV}
use Rattle.dn_word.specs.Words.{is_word}
use Rattle.dn_text.specs.declared.table.Field.{Field}
use Rattle.dn_text.specs.declared.table.Field.TheVariants.{Digits, FourBytes, Groups, OneName, Short, Long, Ticks}

-- what a computer and its system are (RFC 1035 3.3.2)
abbrev pub HINFO : ℕ
HINFO = 13

-- any strings (RFC 1035 3.3.14)
abbrev pub TXT : ℕ
TXT = 16

-- who registered an address (RFC 4701)
abbrev pub DHCID : ℕ
DHCID = 49

-- The text of data: words, or strings in double quotes, one or more of them or two.
pub data Form : Type 0 where
  Words : List Field → Form
  Texts : Form
  TwoTexts : Form

pub record Known : Type 0 where
  pub number : ℕ
  pub name : List ℕ
  pub form : Form

abbrev known : ℕ → List ℕ → Form → Known
known number name form = record { number = number; name = name; form = form }

-- the types that have names
abbrev pub types : List Known
types =
    known A (codes "A") (Words (FourBytes ∷ []))
    ∷ known NS (codes "NS") (Words (OneName ∷ []))
    ∷ known CNAME (codes "CNAME") (Words (OneName ∷ []))
    ∷ known SOA (codes "SOA") (Words (OneName ∷ OneName ∷ Long ∷ Long ∷ Long ∷ Long ∷ Long ∷ []))
    ∷ known PTR (codes "PTR") (Words (OneName ∷ []))
    ∷ known HINFO (codes "HINFO") TwoTexts
    ∷ known MX (codes "MX") (Words (Short ∷ OneName ∷ []))
    ∷ known TXT (codes "TXT") Texts
    ∷ known AAAA (codes "AAAA") (Words (Groups ∷ []))
    ∷ known SRV (codes "SRV") (Words (Short ∷ Short ∷ Short ∷ OneName ∷ []))
    ∷ known DHCID (codes "DHCID") (Words (Digits ∷ []))
    ∷ []

abbrev pub name_in : List Known → ℕ → List ℕ
name_in [] rtype = codes "TYPE" ++ decimal rtype
name_in (entry ∷ entries) rtype = if nat_eq rtype entry.number then entry.name else name_in entries rtype

-- the name of a type, and `TYPE` and the number of one that has none
unfoldable pub type_text : ℕ → List ℕ
type_text rtype = name_in types rtype

-- a tombstone's data are a time, and data of other types without a name are any bytes
abbrev pub form_in : List Known → ℕ → Form
form_in [] rtype = if nat_eq rtype 0 then Words (Ticks ∷ []) else Words (Digits ∷ [])
form_in (entry ∷ entries) rtype = if nat_eq rtype entry.number then entry.form else form_in entries rtype

-- the form of the text of a type's data
unfoldable pub form_of : ℕ → Form
form_of rtype = form_in types rtype

abbrev pub number_in : List Known → List ℕ → Option ℕ
number_in [] word = None
number_in (entry ∷ entries) word = if is_word word entry.name then Some entry.number else number_in entries word

-- the type of this name
unfoldable pub type_named : List ℕ → Option ℕ
type_named word = number_in types word
