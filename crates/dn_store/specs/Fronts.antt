-- The front of the units above a number that there is room for, as it grows.
use Rattle.std.specs.Prelude.{◌≡◌, ℕ, ◌-◌, Bool, ◌==◌, nat_le, nat_lt, if◌then◌else◌, List, [], ◌∷◌, ◌++◌, filter, length, Option, Some, None}
use Rattle.dn_store.specs.declared.table.ChangeRun.{ChangeRun}
use Rattle.dn_store.specs.declared.unit.Unit as units
use Rattle.dn_store.specs.Table.{form_size, front_within, run_among}

-- the units above a number
abbrev pub above : ℕ → List units.Unit → List units.Unit
above usn list = filter (λ unit. nat_lt usn unit.usn) list

-- the run of changes above a number, of units that are in the order of their numbers
abbrev pub run_above : ℕ → ℕ → ℕ → List units.Unit → ChangeRun
run_above usn room top list = run_among usn room top (above usn list)

-- a front with one unit more, where there is room for it, and the room that is left then; none where there is too little
abbrev pub added : units.Unit → ℕ → List units.Unit → List units.Unit × Option ℕ
added unit room front = if nat_le (form_size unit) room then (front ++ unit ∷ [], Some (room - form_size unit)) else (front, None)

-- the front is the longest that there is room for, and it is known whether it is all
pub record IsFront (room : ℕ) (all front : List units.Unit) (whole : Bool) : Type 0 where
  pub front_is : front ≡ front_within room all
  pub whole_is : whole ≡ (length front == length all)
