-- Records of a node, and where their data holds names (RFC 1035 3.3; MS-DNSP 2.3.2.2).
use Rattle.std.specs.Prelude.{ℕ, ◌+◌, ◌-◌, ◌*◌, ◌||◌, nat_eq, if◌then◌else◌, List, ◌++◌, length, map, take, drop}
use Rattle.std.specs.Ordering.{nat_cmp, ordering_then}
use Rattle.std.specs.declared.cmp.Ordering.{Ordering}
use Rattle.std.specs.Cmp.Lexicographic.{slice_cmp}
use Rattle.dn_name.specs.Name.{lower_byte}
use Rattle.dn_rdata.specs.declared.record.Record.{Record}
use Rattle.dn_rdata.specs.Types.{NS, CNAME, SOA, PTR, MX, SRV}

-- how many names the data of a type holds: an SOA's primary server and mailbox, one name of NS, CNAME, PTR, MX and SRV
abbrev pub names_in : ℕ → ℕ
names_in rtype =
    if nat_eq rtype SOA then 2
    else (if nat_eq rtype NS || nat_eq rtype CNAME || nat_eq rtype PTR || nat_eq rtype MX || nat_eq rtype SRV then 1 else 0)

-- how many bytes stand before the names: an MX's preference, an SRV's priority, weight and port
abbrev pub bytes_before_names : ℕ → ℕ
bytes_before_names rtype = if nat_eq rtype MX then 2 else (if nat_eq rtype SRV then 6 else 0)

-- how many bytes stand behind them: an SOA's five numbers
abbrev pub bytes_behind_names : ℕ → ℕ
bytes_behind_names rtype = if nat_eq rtype SOA then 20 else 0

-- The data with its names in lower case. The length bytes of labels are at most 63, so none of them is a letter.
abbrev pub folded : ℕ → List ℕ → List ℕ
folded rtype rdata =
    if nat_eq (names_in rtype) 0 then rdata
    else take (bytes_before_names rtype) rdata
    ++ map lower_byte (drop (bytes_before_names rtype) (take (length rdata - bytes_behind_names rtype) rdata))
    ++ drop (length rdata - bytes_behind_names rtype) rdata

-- how many bytes the record takes in a stored value: a header of 24, and the data with each name as a counted name,
-- which has two bytes before the name's bytes on the wire
abbrev pub stored_size : Record → ℕ
stored_size item = 24 + length item.rdata + 2 * names_in item.rtype

abbrev pub bytes_cmp : List ℕ → List ℕ → Ordering
bytes_cmp left right = slice_cmp nat_cmp left right

-- by type, and then by folded data
abbrev pub data_order : Record → Record → Ordering
data_order left right =
    ordering_then (nat_cmp left.rtype right.rtype) (bytes_cmp (folded left.rtype left.rdata) (folded right.rtype right.rdata))

-- a record as a server makes it; rank 240 and serial 1 are this project's profile
abbrev pub made : ℕ → ℕ → ℕ → List ℕ → Record
made rtype ttl hour rdata =
    record { rtype = rtype; rank = 240; flags = 0; serial = 1; ttl = ttl; reserved = 0; hour = hour; rdata = rdata }
