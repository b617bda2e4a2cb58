-- What a pass may do to the records of a zone.
use Rattle.std.specs.Prelude.{◌≡◌, ℕ, Bool, if◌then◌else◌, List}
use Rattle.std.specs.List.{list_any}
use Rattle.dn_io.specs.Moments.{hour_of}
use Rattle.dn_property.specs.declared.rules.ZoneRules.{ZoneRules}
use Rattle.dn_store.specs.declared.unit.Unit as units
use Rattle.dn_store.specs.declared.unit.UnitKey.{UnitKey}
use Rattle.dn_store.specs.Contents.{rows_at, rows_in}
use Rattle.dn_pass.specs.Pass.{fresh_rows, is_stale_row}

-- a node has a record that is stale at the hour of a moment
unfoldable pub has_stale : ZoneRules → ℕ → units.Unit → Bool
has_stale rules ticks unit = list_any (is_stale_row rules (hour_of ticks)) (rows_in unit.value)

-- The records at a key are as before, or without those that were stale.
abbrev pub TakesStaleAlone : ZoneRules → ℕ → List units.Unit → List units.Unit → Type 0
TakesStaleAlone rules ticks before after =
    (key : UnitKey) → (taken : Bool) × (rows_at key after ≡ (if taken then fresh_rows rules (hour_of ticks) (rows_at key before) else rows_at key before))
