-- What a record's data says: the name that it leads to, the last number of an SOA (RFC 1035 3.3).
use Rattle.std.specs.Prelude.{ℕ, ◌-◌, List, length, drop, Option, Some}
use Rattle.std.specs.Int.{w32, from_be_bytes}
use Rattle.dn_io.specs.Options.{◌>>=◌}
use Rattle.dn_name.specs.Name.{Labels}
use Rattle.dn_name.specs.Wire.{plain_name}
use Rattle.dn_rdata.specs.declared.record.Record.{Record}
use Rattle.dn_rdata.specs.Record.{bytes_before_names}

-- the last of an SOA's five numbers: how long a missing name or type may be remembered
abbrev pub minimum_of : List ℕ → ℕ
minimum_of rdata = from_be_bytes w32 (drop (length rdata - 4) rdata)

-- the name that the data of a record leads to: its only name, or the first of an SOA
unfoldable pub target_of : Record → Option Labels
target_of row = do
  found ← plain_name (drop (bytes_before_names row.rtype) row.rdata)
  Some found.0
