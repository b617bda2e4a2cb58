-- What the folded form of data is, in terms of the names in them (RFC 1035 3.3, RFC 4343).
use Rattle.std.specs.Prelude.{◌≡◌, ℕ, List, ◌++◌, length, map}
use Rattle.std.specs.List.{AllByRecursion}
use Rattle.dn_name.specs.Name.{Labels, IsName, lowered}
use Rattle.dn_rdata.specs.Record.{bytes_before_names, bytes_behind_names, folded, names_in}
use Rattle.dn_rdata.specs.Stored.{wires_of}

-- data that are bytes, as many names as the type has, and bytes have as their folded form the same with each name in lower case
abbrev pub NamesAreFolded : Type 0
NamesAreFolded = (rtype : ℕ) (before behind : List ℕ) (names : List Labels)
    → length before ≡ bytes_before_names rtype → length behind ≡ bytes_behind_names rtype → length names ≡ names_in rtype → AllByRecursion IsName names
    → folded rtype (before ++ (wires_of names ++ behind)) ≡ before ++ (wires_of (map lowered names) ++ behind)

-- data of a type without names are their own folded form
abbrev pub OthersAreFolded : Type 0
OthersAreFolded = (rtype : ℕ) (rdata : List ℕ) → names_in rtype ≡ 0 → folded rtype rdata ≡ rdata
