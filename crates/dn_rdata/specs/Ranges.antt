-- What a record always is in code, and a definition has to be told: its numbers are within their widths, and its data are bytes.
use Rattle.std.specs.Prelude.{ℕ, ◌^◌, ◌<◌, List}
use Rattle.std.specs.List.{AllByRecursion}
use Rattle.dn_rdata.specs.declared.record.Record.{Record}

abbrev pub AreBytes : List ℕ → Type 0
AreBytes bytes = AllByRecursion (λ byte. byte < 256) bytes

pub record IsInRange (item : Record) : Type 0 where
  pub rtype_fits : item.rtype < 2 ^ 16
  pub rank_fits : item.rank < 2 ^ 8
  pub flags_fit : item.flags < 2 ^ 16
  pub serial_fits : item.serial < 2 ^ 32
  pub ttl_fits : item.ttl < 2 ^ 32
  pub reserved_fits : item.reserved < 2 ^ 32
  pub hour_fits : item.hour < 2 ^ 32
  pub rdata_are_bytes : AreBytes item.rdata
