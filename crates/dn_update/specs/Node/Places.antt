-- Where a record stands among records in the order of their data.
use Rattle.std.specs.Prelude.{ℕ, Bool, not, if◌then◌else◌, List, [], ◌∷◌}
use Rattle.std.specs.List.{position_or_len}
use Rattle.std.specs.Ordering.{is_eq, is_gt}
use Rattle.dn_rdata.specs.declared.record.Record.{Record}
use Rattle.dn_rdata.specs.Record.{data_order}

abbrev pub comes_behind : Record → Record → Bool
comes_behind row next = is_gt (data_order row next)

-- how many rows stand before its place
abbrev pub place_of : Record → List Record → ℕ
place_of row rows = position_or_len (λ next. not (comes_behind row next)) rows

-- what of the rows from its place on stands behind it: the one of its data is replaced
abbrev pub behind_place : Record → List Record → List Record
behind_place row [] = []
behind_place row (next ∷ rows) = if is_eq (data_order row next) then rows else next ∷ rows
