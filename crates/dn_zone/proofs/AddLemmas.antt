-- What adding a record makes of a zone.
use Rattle.std.proofs.Common.{◌≡◌, ℕ, Bool, true, false, true≢false, cond, List, [], ◌∷◌, Some, None, refl, sym, ◌∙◌, subst}
use Rattle.std.specs.Ordering.{match_ordering}
use Rattle.std.specs.declared.cmp.Ordering.{Ordering}
use Rattle.std.specs.declared.cmp.Ordering.TheVariants.{Less, Equal, Greater}
use Rattle.std.specs.List.{list_any}
use Rattle.dn_name.specs.Name.{Labels, lowered}
use Rattle.dn_rdata.specs.declared.record.Record.{Record}
use Rattle.dn_rdata.specs.Record.{data_order}
use Rattle.dn_store.specs.declared.unit.UnitKey.TheVariants.{Node}
use Rattle.dn_store.specs.declared.unit.UnitValue.TheVariants.{Live}
use Rattle.dn_store.specs.Contents.{node_value, rows_at}
use Rattle.dn_update.specs.Node.{bars, is_same_set, is_there_as, placed_row, with_added, without_aliases}
use Rattle.dn_update.specs.Node.Added.{AddsRow}
use Rattle.dn_update.specs.Writes.{node_change, stamped, written}
use Rattle.dn_update.proofs.CallerLemmas.{same_set_self}
use Rattle.dn_zone.specs.declared.event.AdminDone.TheVariants.{Unchanged}
use Rattle.dn_zone.specs.declared.event.Answer.TheVariants.{Admin}
use Rattle.dn_zone.specs.State.{ZoneState}
use Rattle.dn_zone.specs.Zone.{add_wanted, with_table}

-- a list that has a first record
pub record HasFirst (rows : List Record) : Type 0 where
  pub first : Record
  pub rest : List Record
  pub is : rows ≡ first ∷ rest

by_order : (order : Ordering) (a b c : Record) (xs ys zs : List Record) → HasFirst (match_ordering order (a ∷ xs) (b ∷ ys) (c ∷ zs))
by_order Less a b c xs ys zs = record { first = a; rest = xs; is = refl }
by_order Equal a b c xs ys zs = record { first = b; rest = ys; is = refl }
by_order Greater a b c xs ys zs = record { first = c; rest = zs; is = refl }

placed_first : (row : Record) (rows : List Record) → HasFirst (placed_row row rows)
unfolding placed_row
placed_first row [] = record { first = row; rest = []; is = refl }
placed_first row (next ∷ rows) = by_order (data_order row next) row row next (next ∷ rows) rows (placed_row row rows)

-- a node whose set of records differs behind an added one has one
abbrev FirstWhere : List Record → List Record → Type 0
FirstWhere rows after = is_same_set rows after ≡ false → HasFirst after

same_never : (rows : List Record) → FirstWhere rows rows
same_never rows differs = absurd (true≢false (sym (same_set_self rows) ∙ differs))

by_tests : (a b c : Bool) (rows x y : List Record) → FirstWhere rows x → FirstWhere rows y → FirstWhere rows (cond a rows (cond b x (cond c rows y)))
by_tests true b c rows x y at_x at_y = same_never rows
by_tests false true c rows x y at_x at_y = at_x
by_tests false false true rows x y at_x at_y = same_never rows
by_tests false false false rows x y at_x at_y = at_y

added_first : (row : Record) (rows : List Record) → FirstWhere rows (with_added row rows)
unfolding with_added
added_first row rows =
    by_tests (list_any (bars row) rows) _ (list_any (is_there_as row) rows) rows (placed_row row (without_aliases rows)) (placed_row row rows)
    (λ differs. placed_first row (without_aliases rows)) (λ differs. placed_first row rows)

-- nothing is wanted where the set stays the same
pub add_same : (zone : ZoneState) (name : Labels) (row : Record) (ticks : ℕ) (before : List Record) → before ≡ rows_at (Node (lowered name)) zone.table.0
    → AddsRow None row before → with_table zone (written (add_wanted zone name row ticks) zone.id ticks zone.table) ≡ (zone, Admin Unchanged)
unfolding add_wanted node_change written stamped
add_same zone name row ticks before is same = rw (← is, same) refl

value_of : (rows : List Record) (ticks : ℕ) → HasFirst rows → node_value rows ticks ≡ Live rows
value_of rows ticks has = rw has.is refl

-- and else the node with the records behind it
pub add_changed : (zone : ZoneState) (name : Labels) (row : Record) (ticks : ℕ) (before after : List Record) → before ≡ rows_at (Node (lowered name)) zone.table.0
    → AddsRow (Some after) row before → add_wanted zone name row ticks ≡ record { key = Node (lowered name); value = Live after } ∷ []
unfolding add_wanted node_change
add_changed zone name row ticks before after is (added, differs) =
    rw (← is, ← added, differs, value_of after ticks (subst (FirstWhere before) (sym added) (added_first row before) differs)) refl
