-- The parts of a record's data, by its type (RFC 1035 3.3, RFC 3596 2.2, RFC 2782).
use Rattle.std.specs.Prelude.{◌≡◌, ℕ, ◌<◌, ◌^◌, Bool, true, false, ◌||◌, nat_eq, if◌then◌else◌, List, [], ◌∷◌, ◌++◌, length}
use Rattle.std.specs.Int.{w16, to_be_bytes}
use Rattle.dn_name.specs.Name.{Labels, IsName, wire_of}
use Rattle.dn_rdata.specs.Layout.{AreTexts}
use Rattle.dn_rdata.specs.Types.{A, NS, CNAME, SOA, PTR, HINFO, MX, TXT, AAAA, SRV}
use Rattle.dn_rdata.specs.declared.record.Record.{Record}
use Rattle.dn_rdata.specs.declared.views.DataView.{DataView}
use Rattle.dn_rdata.specs.declared.views.DataView.TheVariants.{Address, OneName, Soa, Mx, Srv, Strings, Other}

-- data that are an address: of IPv4 or IPv6
abbrev pub is_address : ℕ → Bool
is_address rtype = nat_eq rtype A || nat_eq rtype AAAA

-- how many bytes an address of the type has
abbrev pub address_len : ℕ → ℕ
address_len rtype = if nat_eq rtype A then 4 else 16

-- data that are one name and nothing else
abbrev pub is_one_name : ℕ → Bool
is_one_name rtype = nat_eq rtype NS || nat_eq rtype CNAME || nat_eq rtype PTR

-- data that are strings
abbrev pub is_strings : ℕ → Bool
is_strings rtype = nat_eq rtype HINFO || nat_eq rtype TXT

-- data that are more than one part of different kinds
abbrev pub is_parted : ℕ → Bool
is_parted rtype = nat_eq rtype SOA || nat_eq rtype MX || nat_eq rtype SRV

-- the bytes of a name on the wire
abbrev pub IsWireName : List ℕ → Type 0
IsWireName bytes = (name : Labels) × IsName name × (bytes ≡ wire_of name)

-- a number of two bytes
abbrev pub IsShort : ℕ → Type 0
IsShort number = number < 2 ^ 16

-- Data of a type are seen as these parts. The type decides the kind; the parts, one behind another, are all bytes of the data,
-- and their numbers have the high byte first.
abbrev pub IsView : ℕ → List ℕ → DataView → Type 0
IsView rtype rdata (Address bytes) = (is_address rtype ≡ true) × (rdata ≡ bytes.now) × (length bytes.now ≡ address_len rtype)
IsView rtype rdata (OneName bytes) = (is_one_name rtype ≡ true) × (rdata ≡ bytes.now) × IsWireName bytes.now
IsView rtype rdata (Soa primary mailbox numbers) =
    (rtype ≡ SOA)
    × (rdata ≡ primary.now ++ (mailbox.now ++ numbers.now))
    × IsWireName primary.now × IsWireName mailbox.now × (length numbers.now ≡ 20)
IsView rtype rdata (Mx preference exchange) =
    (rtype ≡ MX)
    × (rdata ≡ to_be_bytes w16 preference ++ exchange.now)
    × IsShort preference × IsWireName exchange.now
IsView rtype rdata (Srv priority weight port target) =
    (rtype ≡ SRV)
    × (rdata ≡ to_be_bytes w16 priority ++ (to_be_bytes w16 weight ++ (to_be_bytes w16 port ++ target.now)))
    × IsShort priority × IsShort weight × IsShort port × IsWireName target.now
IsView rtype rdata (Strings bytes) = (is_strings rtype ≡ true) × (rdata ≡ bytes.now) × AreTexts bytes.now
IsView rtype rdata (Other bytes) = ((is_address rtype || is_one_name rtype || is_strings rtype || is_parted rtype) ≡ false) × (rdata ≡ bytes.now)

-- the data of a record are seen as these parts
abbrev pub Views : Record → DataView → Type 0
Views row view = IsView row.rtype row.rdata view

-- what a view shows: its kind, its numbers, and the bytes that it lends
pub record Shown : Type 0 where
  pub kind : ℕ
  pub numbers : List ℕ
  pub lent : List (List ℕ)

-- what a view shows of the data, wherever in memory they are
abbrev pub shown : DataView → Shown
shown (Address bytes) = record { kind = 0; numbers = []; lent = bytes.now ∷ [] }
shown (OneName bytes) = record { kind = 1; numbers = []; lent = bytes.now ∷ [] }
shown (Soa primary mailbox numbers) = record { kind = 2; numbers = []; lent = primary.now ∷ (mailbox.now ∷ (numbers.now ∷ [])) }
shown (Mx preference exchange) = record { kind = 3; numbers = preference ∷ []; lent = exchange.now ∷ [] }
shown (Srv priority weight port target) = record { kind = 4; numbers = priority ∷ (weight ∷ (port ∷ [])); lent = target.now ∷ [] }
shown (Strings bytes) = record { kind = 5; numbers = []; lent = bytes.now ∷ [] }
shown (Other bytes) = record { kind = 6; numbers = []; lent = bytes.now ∷ [] }

-- all views of a record show the same
abbrev pub ViewsAreOne : Type 0
ViewsAreOne = (row : Record) (left right : DataView) → Views row left → Views row right → shown left ≡ shown right
