-- The changes of a zone that one replica sends another.
use Rattle.std.specs.Prelude.{◌≡◌, ℕ, ◌≤◌, true, List, length, IsTrue}
use Rattle.std.specs.List.{AllByRecursion}
use Rattle.dn_name.specs.Name.{Labels, IsName}
use Rattle.dn_stamp.specs.declared.stamp.ReplicaId.{ReplicaId}
use Rattle.dn_store.specs.declared.unit.Write.{Write}
use Rattle.dn_store.specs.Table.{KeysDiffer, change_limit}
use Rattle.dn_store.specs.Valid.{IsValidWrite}
use Rattle.dn_store.specs.Value.{fits, is_lower}

-- how many bytes of units a packet of changes has at most
abbrev pub changes_room : ℕ
changes_room = 64000

-- the changes above one number and up to another, as they are on their supplier
pub record Run : Type 0 where
  pub zone : Labels
  pub supplier : ReplicaId
  pub from : ℕ
  pub to : ℕ
  pub units : List Write

-- the most units of a packet of changes
abbrev pub units_limit : ℕ
units_limit = 65535

-- what can be taken: different keys, values that fit, and no more units than the count of a packet can say
pub record CanBeTaken (writes : List Write) : Type 0 where
  pub keys : KeysDiffer writes
  pub values : AllByRecursion (λ write. IsTrue (fits write.value)) writes
  pub count : length writes ≤ units_limit

-- Valid changes: the zone is a name in lower case, each unit is valid for it, their keys differ, there are at most 65,535 of
-- them, and the numbers are in order, up to 2^63.
pub record IsValidRun (run : Run) : Type 0 where
  pub name : IsName run.zone
  pub lower : is_lower run.zone ≡ true
  pub units : AllByRecursion (IsValidWrite run.zone) run.units
  pub keys : KeysDiffer run.units
  pub count : length run.units ≤ units_limit
  pub order : run.from ≤ run.to
  pub most : run.to ≤ change_limit

-- a valid question for the changes of a zone: its name is in lower case, and the number is one of a change
pub record IsValidPull (zone : Labels) (after : ℕ) : Type 0 where
  pub name : IsName zone
  pub lower : is_lower zone ≡ true
  pub most : after ≤ change_limit
