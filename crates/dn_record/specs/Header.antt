-- The header of a stored record as it is read, before it is judged.
use Rattle.std.specs.Prelude.{ℕ, List, ◌∷◌, ◌++◌}
use Rattle.dn_record.specs.Fields.{four_big, four_little, two_little}
use Rattle.dn_record.specs.declared.header.Kind.{Kind}
use Rattle.dn_record.specs.declared.header.Numbers.{Numbers}

abbrev pub kind_bytes : Kind → List ℕ
kind_bytes kind = two_little kind.len ++ (two_little kind.rtype ++ (kind.version ∷ (kind.rank ∷ two_little kind.flags)))

abbrev pub numbers_bytes : Numbers → List ℕ
numbers_bytes numbers = four_little numbers.serial ++ (four_big numbers.ttl ++ (four_little numbers.reserved ++ four_little numbers.hour))
