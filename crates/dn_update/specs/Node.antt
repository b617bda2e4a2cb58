-- The records of a node, and what adding one makes of them (RFC 2136 3.4.2.2, with the hour that is given).
pub mod Added
pub mod Places
use Rattle.std.specs.Prelude.{Bool, not, ◌&&◌, nat_eq, if◌then◌else◌, List, [], ◌∷◌, filter}
use Rattle.std.specs.List.{list_all, list_any}
use Rattle.std.specs.Ordering.{is_eq, match_ordering}
use lib.Pointwise.{pointwise}
use Rattle.dn_rdata.specs.declared.record.Record.{Record}
use Rattle.dn_rdata.specs.Record.{data_order}
use Rattle.dn_rdata.specs.Types.{CNAME}

-- the same type and the same data, names in it folded
abbrev pub has_data_of : Record → Record → Bool
has_data_of row other = is_eq (data_order other row)

-- the same data, with this time to live and this hour
abbrev pub is_there_as : Record → Record → Bool
is_there_as row other = has_data_of row other && nat_eq other.ttl row.ttl && nat_eq other.hour row.hour

abbrev pub is_alias : Record → Bool
is_alias row = nat_eq row.rtype CNAME

-- an alias stands alone at its name
abbrev pub bars : Record → Record → Bool
bars row other = if is_alias row then not (is_alias other) else is_alias other

-- the record in its place in the order of type and folded data; it replaces the one of its data
unfoldable pub placed_row : Record → List Record → List Record
placed_row row [] = row ∷ []
placed_row row (next ∷ rows) = match_ordering (data_order row next) (row ∷ next ∷ rows) (row ∷ rows) (next ∷ placed_row row rows)

abbrev pub without_aliases : List Record → List Record
without_aliases rows = filter (λ row. not (is_alias row)) rows

-- The records of a node after one is added. A record that an alias bars, or an alias that a record bars, changes
-- nothing. An alias replaces one of other data. A record that is there with its time to live and its hour changes
-- nothing; with another of these it is replaced; and else it is new.
unfoldable pub with_added : Record → List Record → List Record
with_added row rows =
    if list_any (bars row) rows then rows
    else (if is_alias row && list_any (λ other. not (has_data_of row other)) rows then placed_row row (without_aliases rows)
    else (if list_any (is_there_as row) rows then rows else placed_row row rows))

-- ---- equal as sets

-- each field of the two is equal
abbrev pub is_record : Record → Record → Bool
is_record left right =
    nat_eq left.rtype right.rtype && nat_eq left.rank right.rank && nat_eq left.flags right.flags && nat_eq left.serial right.serial
    && nat_eq left.ttl right.ttl && nat_eq left.reserved right.reserved && nat_eq left.hour right.hour
    && pointwise nat_eq left.rdata right.rdata

abbrev pub are_among : List Record → List Record → Bool
are_among some rows = list_all (λ row. list_any (is_record row) rows) some

-- the two lists have the same whole records
unfoldable pub is_same_set : List Record → List Record → Bool
is_same_set left right = are_among left right && are_among right left
