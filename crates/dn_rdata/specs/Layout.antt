-- Which parts the data of a type have, and what bytes they are (RFC 1035 3.3 and 3.4.1, RFC 3596 2.2, RFC 2782).
use Rattle.std.specs.Prelude.{◌≡◌, ℕ, ◌≤◌, ◌<◌, Bool, true, false, ◌||◌, nat_eq, if◌then◌else◌, ◌+◌, ◌-◌, List, [], ◌∷◌, ◌++◌, drop, length, replicate, ◌⊎◌}
use Rattle.dn_name.specs.Name.{Labels, IsName, wire_of}
use Rattle.dn_name.specs.PlainFault.{IsPlainFault}
use Rattle.dn_name.specs.declared.error.NameFault.{NameFault}
use Rattle.dn_rdata.specs.Record.{bytes_before_names, bytes_behind_names, names_in}
use Rattle.dn_rdata.specs.Types.{A, NS, CNAME, SOA, PTR, HINFO, MX, TXT, AAAA, SRV}
use Rattle.dn_rdata.specs.declared.parts.Part.{Part}
use Rattle.dn_rdata.specs.declared.parts.Part.TheVariants.{Bytes, OneName, OneText, Texts, Rest}

-- The parts of a type's data, in their order on the wire. A tombstone's are the 8 bytes of its time, an SOA's five numbers
-- are one part, and so are the three of an SRV.
abbrev pub parts_of : ℕ → List Part
parts_of rtype =
    if nat_eq rtype 0 then Bytes 8 ∷ []
    else (if nat_eq rtype A then Bytes 4 ∷ []
    else (if nat_eq rtype NS || nat_eq rtype CNAME || nat_eq rtype PTR then OneName ∷ []
    else (if nat_eq rtype SOA then OneName ∷ (OneName ∷ (Bytes 20 ∷ []))
    else (if nat_eq rtype HINFO then OneText ∷ (OneText ∷ [])
    else (if nat_eq rtype MX then Bytes 2 ∷ (OneName ∷ [])
    else (if nat_eq rtype TXT then Texts ∷ []
    else (if nat_eq rtype AAAA then Bytes 16 ∷ []
    else (if nat_eq rtype SRV then Bytes 6 ∷ (OneName ∷ [])
    else Rest ∷ []))))))))

-- a string is its length byte and its bytes
abbrev pub text_bytes : List ℕ → List ℕ
text_bytes text = length text ∷ text

-- strings one behind another
abbrev pub texts_bytes : List (List ℕ) → List ℕ
texts_bytes [] = []
texts_bytes (text ∷ texts) = text_bytes text ++ texts_bytes texts

-- no string or more
abbrev pub AreTexts : List ℕ → Type 0
AreTexts bytes = (texts : List (List ℕ)) × (bytes ≡ texts_bytes texts)

-- A piece of the data is this part, where these bytes are behind it. A part that goes up to the end has none behind it.
abbrev pub IsPart : Part → List ℕ → List ℕ → Type 0
IsPart (Bytes count) piece back = length piece ≡ count
IsPart OneName piece back = (name : Labels) × IsName name × (piece ≡ wire_of name)
IsPart OneText piece back = (text : List ℕ) × (piece ≡ text_bytes text)
IsPart Texts piece back = (text : List ℕ) × (texts : List (List ℕ)) × (piece ≡ texts_bytes (text ∷ texts)) × (back ≡ [])
IsPart Rest piece back = back ≡ []

-- the part stands at the front of the bytes, and behind it stands the rest
abbrev pub Begins : Part → List ℕ → List ℕ → Type 0
Begins part bytes back = (piece : List ℕ) × (bytes ≡ piece ++ back) × IsPart part piece back

-- the bytes are these parts, one behind another
abbrev pub AreParts : List Part → List ℕ → Type 0
AreParts [] bytes = bytes ≡ []
AreParts (part ∷ parts) bytes = (back : List ℕ) × Begins part bytes back × AreParts parts back

-- the bytes are data of the type: its parts without pointers, and nothing behind them
abbrev pub IsData : ℕ → List ℕ → Type 0
IsData rtype bytes = AreParts (parts_of rtype) bytes

-- the part doesn't stand at the front of the bytes
abbrev pub IsMissing : Part → List ℕ → Type 0
IsMissing part bytes = (back : List ℕ) → Begins part bytes back → ⊥

-- Where a part that is missing at a place goes wrong: a name where the name itself goes wrong, any other part at the end,
-- which cuts it.
abbrev pub PartFails : List ℕ → ℕ → Part → ℕ → Type 0
PartFails bytes at OneName place = (kind : NameFault) × IsPlainFault bytes at kind place
PartFails bytes at (Bytes count) place = IsMissing (Bytes count) (drop at bytes) × (place ≡ length bytes)
PartFails bytes at OneText place = IsMissing OneText (drop at bytes) × (place ≡ length bytes)
PartFails bytes at Texts place = IsMissing Texts (drop at bytes) × (place ≡ length bytes)
PartFails bytes at Rest place = IsMissing Rest (drop at bytes) × (place ≡ length bytes)

-- Where bytes go wrong that should be these parts from a place on: where the first of them goes wrong that is missing. Behind
-- the last part nothing stands, and a byte there goes wrong itself.
abbrev pub FailsAt : List ℕ → ℕ → List Part → ℕ → Type 0
FailsAt bytes at [] place = (at < length bytes) × (place ≡ at)
FailsAt bytes at (part ∷ parts) place =
    PartFails bytes at part place ⊎ ((back : List ℕ) × Begins part (drop at bytes) back × FailsAt bytes (length bytes - length back) parts place)

-- whether the parts are so many bytes and nothing else, so that the data have one length
abbrev pub are_fixed : List Part → Bool
are_fixed [] = true
are_fixed (Bytes count ∷ parts) = are_fixed parts
are_fixed (OneName ∷ parts) = false
are_fixed (OneText ∷ parts) = false
are_fixed (Texts ∷ parts) = false
are_fixed (Rest ∷ parts) = false

-- where bytes that aren't data of the type go wrong: those of a type whose data have one length at their first byte
abbrev pub DataFailsAt : ℕ → List ℕ → ℕ → Type 0
DataFailsAt rtype bytes place =
    ((are_fixed (parts_of rtype) ≡ true) × (place ≡ 0)) ⊎ ((are_fixed (parts_of rtype) ≡ false) × FailsAt bytes 0 (parts_of rtype) place)

-- bytes go wrong at one place
abbrev pub DataFailsOnce : Type 0
DataFailsOnce = (rtype : ℕ) (bytes : List ℕ) (place other : ℕ) → DataFailsAt rtype bytes place → DataFailsAt rtype bytes other → place ≡ other

-- how many of the parts are names
abbrev pub names_among : List Part → ℕ
names_among [] = 0
names_among (Bytes count ∷ parts) = names_among parts
names_among (OneName ∷ parts) = 1 + names_among parts
names_among (OneText ∷ parts) = names_among parts
names_among (Texts ∷ parts) = names_among parts
names_among (Rest ∷ parts) = names_among parts

-- a part of so many bytes; none of no bytes
abbrev pub some_bytes : ℕ → List Part
some_bytes count = if nat_eq count 0 then [] else Bytes count ∷ []

-- What is said of a type's names agrees with its parts: how many there are, and that they stand one behind another between
-- so many bytes before them and so many behind.
abbrev pub NamesAgree : ℕ → Type 0
NamesAgree rtype = (names_in rtype ≡ names_among (parts_of rtype))
    × (1 ≤ names_in rtype → parts_of rtype ≡ some_bytes (bytes_before_names rtype) ++ (replicate (names_in rtype) OneName ++ some_bytes (bytes_behind_names rtype)))
