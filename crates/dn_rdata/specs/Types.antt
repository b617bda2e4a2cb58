-- The types of records and their class, and the types that are ever answered (RFC 1035 3.2.2 and 3.2.3, RFC 3596 2.1, RFC 2782,
-- RFC 4701, RFC 5936 2).
use Rattle.std.specs.Prelude.{ℕ, Bool, nat_eq, List, [], ◌∷◌}
use Rattle.std.specs.List.{list_any}

-- an address of IPv4
abbrev pub A : ℕ
A = 1

-- a name server
abbrev pub NS : ℕ
NS = 2

-- an alias
abbrev pub CNAME : ℕ
CNAME = 5

-- the start of a zone
abbrev pub SOA : ℕ
SOA = 6

-- a pointer to a name
abbrev pub PTR : ℕ
PTR = 12

-- what a computer and its system are
abbrev pub HINFO : ℕ
HINFO = 13

-- a server that takes mail
abbrev pub MX : ℕ
MX = 15

-- any strings
abbrev pub TXT : ℕ
TXT = 16

-- an address of IPv6
abbrev pub AAAA : ℕ
AAAA = 28

-- a server of a service
abbrev pub SRV : ℕ
SRV = 33

-- who registered an address
abbrev pub DHCID : ℕ
DHCID = 49

-- in a question: a transfer of the zone
abbrev pub AXFR : ℕ
AXFR = 252

-- in a question: all types
abbrev pub ANY : ℕ
ANY = 255

-- the class of the internet (RFC 1035 3.2.4)
abbrev pub IN : ℕ
IN = 1

-- the types that are ever put into a reply
abbrev pub answerable_types : List ℕ
answerable_types = A ∷ NS ∷ CNAME ∷ SOA ∷ PTR ∷ HINFO ∷ MX ∷ TXT ∷ AAAA ∷ SRV ∷ DHCID ∷ []

unfoldable pub answerable : ℕ → Bool
answerable rtype = list_any (nat_eq rtype) answerable_types
