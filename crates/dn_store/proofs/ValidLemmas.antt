-- Valid writes make valid units, the units of a table are sent as valid writes, and the keys of valid units are names.
use Rattle.std.proofs.Common.{◌≡◌, ℕ, ◌<◌, List, map, Some}
use Rattle.std.specs.List.{AllByRecursion}
use Rattle.dn_name.specs.Name.{Labels}
use Rattle.dn_store.specs.declared.unit.Unit as units
use Rattle.dn_store.specs.declared.unit.UnitKey.{UnitKey}
use Rattle.dn_store.specs.declared.unit.Write.{Write}
use Rattle.dn_store.specs.Table.{has_key, numbered, run_after, units_after, unit_at, write_of}
use Rattle.dn_store.specs.Valid.{IsNamedKey, IsValidUnit, IsValidWrite}
use Rattle.dn_store.proofs.ListLemmas.{all_found, all_map, all_then}
use Rattle.dn_store.proofs.RunLemmas.{run_all}
use Rattle.dn_store.proofs.TakenLemmas.{all_brought}

pub valid_taken : (apex : Labels) (list : List units.Unit) (top : ℕ) (writes : List Write) → AllByRecursion (IsValidUnit apex) list → AllByRecursion (IsValidWrite apex) writes
    → AllByRecursion (IsValidUnit apex) (units_after list top writes)
valid_taken apex list top writes old new =
    let brings = all_then (IsValidWrite apex) (λ write. (number : ℕ) → top < number → IsValidUnit apex (numbered number write)) writes (λ write valid number above. valid) new in
    all_brought (IsValidUnit apex) list top writes brings old

pub run_valid : (apex : Labels) (usn room top : ℕ) (list : List units.Unit) → AllByRecursion (IsValidUnit apex) list → AllByRecursion (IsValidWrite apex) (map write_of (run_after usn room top list).units)
run_valid apex usn room top list valid = all_map (IsValidWrite apex) write_of (run_after usn room top list).units (run_all (IsValidUnit apex) usn room top list valid)

pub valid_at : (apex : Labels) (key : UnitKey) (list : List units.Unit) (unit : units.Unit) → AllByRecursion (IsValidUnit apex) list → unit_at key list ≡ Some unit → IsValidUnit apex unit
valid_at apex key list unit valid is = all_found (IsValidUnit apex) (has_key key) list unit valid is

-- the key of each unit
pub units_named : (apex : Labels) (list : List units.Unit) → AllByRecursion (IsValidUnit apex) list → AllByRecursion (λ unit. IsNamedKey unit.key) list
units_named apex list valid = all_then (IsValidUnit apex) (λ unit. IsNamedKey unit.key) list (λ unit is. is.named) valid
