-- The parts that data have in both their forms, and the two forms that they give.
use Rattle.std.specs.Prelude.{ℕ, List, ◌++◌}
use Rattle.dn_name.specs.Name.{Labels}
use Rattle.dn_rdata.specs.Stored.{counteds_of, wires_of}
use Rattle.dn_record.specs.declared.parts.DataParts.{DataParts}
use Rattle.dn_record.specs.Names.{name_or_none}

abbrev pub names_of : DataParts → List Labels
names_of parts = name_or_none parts.first ++ name_or_none parts.second

-- on the wire the names stand between the others
abbrev pub wire_of_parts : DataParts → List ℕ
wire_of_parts parts = parts.before.now ++ (wires_of (names_of parts) ++ parts.behind.now)

-- as stored they stand last
abbrev pub stored_of_parts : DataParts → List ℕ
stored_of_parts parts = parts.before.now ++ (parts.behind.now ++ counteds_of (names_of parts))
