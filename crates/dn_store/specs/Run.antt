-- What a run of changes is, beside the units of its table.
use Rattle.std.specs.Prelude.{◌≡◌, ℕ, ◌+◌, ◌<◌, ◌≤◌, nat_lt, List, [], ◌∷◌, ◌++◌, filter, sum_by}
use Rattle.std.specs.List.Sorted.{IsPermutation, IsStrictlySortedBy}
use Rattle.std.specs.Ordering.{nat_cmp}
use Rattle.std.specs.declared.cmp.Ordering.{Ordering}
use Rattle.dn_store.specs.declared.table.ChangeRun.{ChangeRun}
use Rattle.dn_store.specs.declared.unit.Unit as units
use Rattle.dn_store.specs.Table.{form_size, last_number}

-- units by their numbers
abbrev pub usn_order : units.Unit → units.Unit → Ordering
usn_order unit other = nat_cmp unit.usn other.usn

-- there is no room for the first of the units behind so many bytes
abbrev pub FirstIsOver : ℕ → ℕ → List units.Unit → Type 0
FirstIsOver room used [] = Unit {0}
FirstIsOver room used (unit ∷ rest) = room < used + form_size unit

-- the change count where nothing is left over, and else the last number
abbrev pub reached : ℕ → ℕ → List units.Unit → ℕ
reached top last [] = top
reached top last (unit ∷ rest) = last

-- The run of changes above a number, and the rest for which it has no room. Together they are the units above the number,
-- each once, by growing numbers. The run's units take at most the room, and the first of the rest wouldn't fit behind them.
-- The run goes up to the change count where nothing is left over, and else up to its last number, or the number given where
-- it is empty.
pub record IsRun (usn room top : ℕ) (list : List units.Unit) (run : ChangeRun) : Type 0 where
  pub rest : List units.Unit
  pub whole : IsPermutation (filter (λ unit. nat_lt usn unit.usn) list) (run.units ++ rest)
  pub ordered : IsStrictlySortedBy usn_order (run.units ++ rest)
  pub within : sum_by form_size run.units ≤ room
  pub full : FirstIsOver room (sum_by form_size run.units) rest
  pub end : run.to ≡ reached top (last_number usn run.units) rest
