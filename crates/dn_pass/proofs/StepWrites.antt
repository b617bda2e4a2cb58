-- The writes of a step: their keys differ and their values fit.
use Rattle.std.proofs.Common.{◌≡◌, ℕ, ◌+◌, ◌≤◌, Bool, true, not, List, [], ◌∷◌, Option, filter, take, nat_le, refl, ap, arith, sym, subst, ◌∙◌}
use Rattle.std.proofs.lemmas.Bool.{leb-true, le-leb}
use Rattle.std.proofs.lemmas.List.Filters.{sum_by-filter_both}
use Rattle.std.proofs.lemmas.List.Kept.{IsStrictlySortedBy-filter}
use Rattle.std.proofs.lemmas.Map.Keys.{IsDistinct-from_sorted}
use Rattle.std.specs.List.{AllByRecursion}
use Rattle.std.specs.Prelude.{IsTrue, sum_by}
use Rattle.dn_io.specs.Moments.{hour_of}
use Rattle.dn_property.specs.declared.rules.ZoneRules.{ZoneRules}
use Rattle.dn_stamp.specs.declared.stamp.ReplicaId.{ReplicaId}
use Rattle.dn_rdata.specs.declared.record.Record.{Record}
use Rattle.dn_store.specs.declared.unit.Unit as units
use Rattle.dn_store.specs.declared.unit.UnitKey.{UnitKey}
use Rattle.dn_store.specs.declared.unit.UnitValue.{UnitValue}
use Rattle.dn_store.specs.declared.unit.UnitValue.TheVariants.{Props, Live, Tombstone, Gone}
use Rattle.dn_store.specs.declared.unit.Write.{Write}
use Rattle.dn_store.specs.Contents.{node_value}
use Rattle.dn_store.specs.Table.{KeysDiffer, KeysGrow, is_above}
use Rattle.dn_store.specs.Value.{fits, row_size, value_limit}
use Rattle.dn_store.proofs.CallerLemmas.{all_filter, all_map, all_take, all_then, differ_map, sorted_take, unit_order}
use Rattle.dn_pass.specs.Pass.{becomes, fresh_rows, is_stale_row, is_swept, looked_at, sweep, swept}

-- the keys of a step's writes differ
pub keys_differ : (rules : ZoneRules) (ticks : ℕ) (id : ReplicaId) (after : Option UnitKey) (most : ℕ) (list looked : List units.Unit) (writes : List Write) → KeysGrow list
    → looked ≡ looked_at after most list → writes ≡ sweep rules ticks id looked → KeysDiffer writes
unfolding sweep looked_at swept
keys_differ rules ticks id after most list looked writes grow looks wrote =
    let above : List units.Unit = filter (is_above after) list in
    let some : List units.Unit = filter (is_swept rules ticks) (take most above) in
    let sorted : KeysGrow some =
    IsStrictlySortedBy-filter unit_order (is_swept rules ticks) (take most above) (sorted_take unit_order most above (IsStrictlySortedBy-filter unit_order (is_above after) list grow)) in
    subst KeysDiffer (sym (wrote ∙ ap (sweep rules ticks id) looks)) (differ_map (swept rules ticks id) (λ unit. refl) some (IsDistinct-from_sorted unit_order some sorted))

-- a value that is not longer than one that fits, fits
shorter : (small large limit : ℕ) → small ≤ large → nat_le large limit ≡ true → nat_le small limit ≡ true
shorter small large limit le fit = let within : large ≤ limit = leb-true large limit fit in le-leb small limit (omega arith)

fits_node : (rows fresh : List Record) (ticks : ℕ) → sum_by row_size fresh ≤ sum_by row_size rows → IsTrue (fits (Live rows)) → IsTrue (fits (node_value fresh ticks))
fits_node rows [] ticks le fit = refl
fits_node rows (row ∷ rest) ticks le fit = shorter (3 + sum_by row_size (row ∷ rest)) (3 + sum_by row_size rows) value_limit (omega arith) fit

fits_becomes : (rules : ZoneRules) (ticks : ℕ) (value : UnitValue) → IsTrue (fits value) → IsTrue (fits (becomes rules ticks value))
unfolding fresh_rows
fits_becomes rules ticks (Props list) fit = fit
fits_becomes rules ticks (Live rows) fit =
    let stale : Record → Bool = is_stale_row rules (hour_of ticks) in
    let both : sum_by row_size (filter stale rows) + sum_by row_size (filter (λ row. not (stale row)) rows) ≡ sum_by row_size rows =
    sum_by-filter_both stale (λ row. not (stale row)) (λ row. refl) row_size rows in
    fits_node rows (fresh_rows rules (hour_of ticks) rows) ticks (omega arith) fit
fits_becomes rules ticks (Tombstone since) fit = refl
fits_becomes rules ticks Gone fit = refl

pub fits_swept : (rules : ZoneRules) (ticks : ℕ) (id : ReplicaId) (unit : units.Unit) → IsTrue (fits unit.value) → IsTrue (fits (swept rules ticks id unit).value)
unfolding swept
fits_swept rules ticks id unit fit = fits_becomes rules ticks unit.value fit

-- the values of a step's writes fit
pub values_fit : (rules : ZoneRules) (ticks : ℕ) (id : ReplicaId) (after : Option UnitKey) (most : ℕ) (list looked : List units.Unit) (writes : List Write)
    → AllByRecursion (λ unit. IsTrue (fits unit.value)) list → looked ≡ looked_at after most list → writes ≡ sweep rules ticks id looked → AllByRecursion (λ write. IsTrue (fits write.value)) writes
unfolding sweep looked_at
values_fit rules ticks id after most list looked writes fit looks wrote =
    let Fits : units.Unit → Type 0 = λ unit. IsTrue (fits unit.value) in
    let Brings : Write → Type 0 = λ write. IsTrue (fits write.value) in
    let above : List units.Unit = filter (is_above after) list in
    let all : AllByRecursion Fits (filter (is_swept rules ticks) (take most above)) =
    all_filter Fits (is_swept rules ticks) (take most above) (all_take Fits most above (all_filter Fits (is_above after) list fit)) in
    subst (AllByRecursion Brings) (sym (wrote ∙ ap (sweep rules ticks id) looks))
    (all_map Brings (swept rules ticks id) (filter (is_swept rules ticks) (take most above))
    (all_then Fits (λ unit. Brings (swept rules ticks id unit)) (filter (is_swept rules ticks) (take most above)) (fits_swept rules ticks id) all))
