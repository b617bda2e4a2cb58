-- The units of a table in the order of their numbers, beside the same units in the order of their keys.
use Rattle.std.specs.Prelude.{◌≡◌, ℕ, Bool, false, ◌==◌, not, List, filter, map, Option, Some, None}
use Rattle.std.specs.List.{AllByRecursion}
use Rattle.std.specs.List.Sorted.{IsStrictlySortedBy}
use Rattle.dn_pages.specs.Pages.{items}
use Rattle.dn_store.specs.declared.unit.Unit as units
use Rattle.dn_store.specs.Run.{usn_order}
use Rattle.dn_store.specs.Table.{Differ, IsNumber, IsTable, KeysGrow, by_number}

-- each number is below those behind it
abbrev pub Rising : List units.Unit → Type 0
Rising list = IsStrictlySortedBy usn_order list

-- all units but that of a number
abbrev pub without : ℕ → List units.Unit → List units.Unit
without usn list = filter (λ unit. not (unit.usn == usn)) list

abbrev pub without_at : Option ℕ → List units.Unit → List units.Unit
without_at None list = list
without_at (Some usn) list = without usn list

-- there is a unit, and it has the number
abbrev pub has_number : ℕ → Option units.Unit → Bool
has_number usn None = false
has_number usn (Some unit) = unit.usn == usn

-- Units in the order of their keys, under different numbers from 1 to the change count, and beside them the same units in the
-- order of their numbers.
pub record IsKept (list changes : List units.Unit) (top : ℕ) : Type 0 where
  pub ordered : KeysGrow list
  pub numbers : AllByRecursion (λ unit. IsNumber top unit.usn) list
  pub differ : Differ (map (λ unit. unit.usn) list)
  pub indexed : changes ≡ by_number list

-- a table in pages: its units, and beside them the same units in the order of their numbers
pub record IsPaged (pages changes : List (List (List units.Unit))) (top : ℕ) : Type 0 where
  pub table : IsTable (items pages) top
  pub indexed : items changes ≡ by_number (items pages)
