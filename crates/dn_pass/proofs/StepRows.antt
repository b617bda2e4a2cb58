-- What a step of a pass does to the records of a zone: it takes stale ones alone, and leaves none where it writes.
use Rattle.std.proofs.Common.{◌≡◌, ℕ, Bool, true, false, not, ◌&&◌, List, [], ◌∷◌, map, filter, take, refl, ap, sym, ◌∙◌, Option, ⊎_elim}
use Rattle.std.proofs.lemmas.Bool.{and_cases, and_from, cond_both, false≢true, not-false, not-true, or_parts}
use Rattle.std.proofs.lemmas.Cmp.{tied_itself}
use Rattle.std.proofs.lemmas.List.Elements.{All-weaker, filter_passes}
use Rattle.std.proofs.lemmas.List.Folds.{list_any_none}
use Rattle.std.specs.List.{AllByRecursion, list_any}
use Rattle.std.specs.Ordering.{is_eq}
use Rattle.dn_io.specs.Moments.{hour_of}
use Rattle.dn_property.specs.declared.rules.ZoneRules.{ZoneRules}
use Rattle.dn_stamp.specs.declared.stamp.ReplicaId.{ReplicaId}
use Rattle.dn_rdata.specs.declared.record.Record.{Record}
use Rattle.dn_store.specs.declared.unit.Unit as units
use Rattle.dn_store.specs.declared.unit.UnitKey.{UnitKey}
use Rattle.dn_store.specs.declared.unit.UnitValue.{UnitValue}
use Rattle.dn_store.specs.declared.unit.UnitValue.TheVariants.{Props, Live, Tombstone, Gone}
use Rattle.dn_store.specs.declared.unit.Write.{Write}
use Rattle.dn_store.specs.Contents.{node_value, rows_at, rows_in, rows_of_unit}
use Rattle.dn_store.specs.Table.{KeysGrow, is_above, units_after}
use Rattle.dn_store.specs.Value.{key_order}
use Rattle.dn_store.proofs.CallerLemmas.{Brings, IsFoundBy, all_filter, all_map, all_of, all_take, all_then, found_all, is_written, key_total, rows_taken}
use Rattle.dn_pass.specs.Aging.{TakesStaleAlone, has_stale}
use Rattle.dn_pass.specs.Pass.{becomes, fresh_rows, is_at_last, is_skipped, is_stale_row, is_swept, is_wanted, looked_at, sweep, swept}

-- ---- no stale record is left in what a sweep writes

node_rows : (rows : List Record) (ticks : ℕ) → rows_in (node_value rows ticks) ≡ rows
node_rows [] ticks = refl
node_rows (row ∷ rows) ticks = refl

-- what a unit becomes has the fresh ones of its records
becomes_fresh : (rules : ZoneRules) (ticks : ℕ) (value : UnitValue) → rows_in (becomes rules ticks value) ≡ fresh_rows rules (hour_of ticks) (rows_in value)
unfolding fresh_rows
becomes_fresh rules ticks (Props list) = refl
becomes_fresh rules ticks (Live rows) = node_rows (fresh_rows rules (hour_of ticks) rows) ticks
becomes_fresh rules ticks (Tombstone since) = refl
becomes_fresh rules ticks Gone = refl

none_fresh : (rules : ZoneRules) (hour : ℕ) (rows : List Record) → list_any (is_stale_row rules hour) (fresh_rows rules hour rows) ≡ false
unfolding fresh_rows
none_fresh rules hour rows =
    let stale : Record → Bool = is_stale_row rules hour in
    let fresh : List Record = filter (λ row. not (stale row)) rows in
    list_any_none stale fresh (All-weaker (λ row. not (stale row) ≡ true) (λ row. stale row ≡ false) (λ row. not-true (stale row)) fresh (filter_passes (λ row. not (stale row)) rows))

swept_none : (rules : ZoneRules) (ticks : ℕ) (id : ReplicaId) (unit : units.Unit) → list_any (is_stale_row rules (hour_of ticks)) (rows_in (swept rules ticks id unit).value) ≡ false
unfolding swept
swept_none rules ticks id unit =
    ap (list_any (is_stale_row rules (hour_of ticks))) (becomes_fresh rules ticks unit.value) ∙ none_fresh rules (hour_of ticks) (rows_in unit.value)

pub swept_fresh : (rules : ZoneRules) (ticks : ℕ) (id : ReplicaId) (looked : List units.Unit)
    → AllByRecursion (λ write. list_any (is_stale_row rules (hour_of ticks)) (rows_in write.value) ≡ false) (sweep rules ticks id looked)
unfolding sweep
swept_fresh rules ticks id looked =
    let IsFresh : Write → Type 0 = λ write. list_any (is_stale_row rules (hour_of ticks)) (rows_in write.value) ≡ false in
    all_map IsFresh (swept rules ticks id) (filter (is_swept rules ticks) looked)
    (all_of (λ unit. IsFresh (swept rules ticks id unit)) (filter (is_swept rules ticks) looked) (swept_none rules ticks id))

-- ---- a unit with stale records that isn't swept is skipped

stale_wanted : (rules : ZoneRules) (ticks : ℕ) (value : UnitValue) → list_any (is_stale_row rules (hour_of ticks)) (rows_in value) ≡ true → is_wanted rules ticks value ≡ true
stale_wanted rules ticks (Props list) is = absurd (false≢true is)
stale_wanted rules ticks (Live rows) is = is
stale_wanted rules ticks (Tombstone since) is = absurd (false≢true is)
stale_wanted rules ticks Gone is = absurd (false≢true is)

pub stale_is_wanted : (rules : ZoneRules) (ticks : ℕ) (unit : units.Unit) → has_stale rules ticks unit ≡ true
    → (is_swept rules ticks unit ≡ false → is_skipped rules ticks unit ≡ true) × (is_swept rules ticks unit ≡ false → is_at_last unit ≡ true)
unfolding has_stale is_swept is_skipped
stale_is_wanted rules ticks unit stale =
    let wanted : is_wanted rules ticks unit.value ≡ true = stale_wanted rules ticks unit.value stale in
    let last : is_wanted rules ticks unit.value && not (is_at_last unit) ≡ false → is_at_last unit ≡ true = λ none.
    ⊎_elim (λ (out : is_wanted rules ticks unit.value ≡ false). absurd (false≢true (sym out ∙ wanted))) (not-false (is_at_last unit)) (and_cases (is_wanted rules ticks unit.value) (not (is_at_last unit)) none) in
    ((λ none. and_from (is_wanted rules ticks unit.value) (is_at_last unit) wanted (last none)), last)

-- ---- a unit that was looked at and whose key no write has isn't swept

pub swept_is_written : (rules : ZoneRules) (ticks : ℕ) (id : ReplicaId) (looked : List units.Unit)
    → AllByRecursion (λ unit. list_any (λ write. is_eq (key_order unit.key write.key)) (sweep rules ticks id looked) ≡ false → is_swept rules ticks unit ≡ false) looked
unfolding sweep swept
swept_is_written rules ticks id [] = tt
swept_is_written rules ticks id (unit ∷ looked) =
    let some : List units.Unit = filter (is_swept rules ticks) looked in
    let Stays : List units.Unit → units.Unit → Type 0 = λ list one. is_written (map (swept rules ticks id) list) one.key ≡ false → is_swept rules ticks one ≡ false in
    let parts = λ (one : units.Unit). or_parts (is_eq (key_order one.key unit.key)) (is_written (map (swept rules ticks id) some) one.key) in
    let later : AllByRecursion (Stays some) looked = swept_is_written rules ticks id looked in
    cond_both (is_swept rules ticks unit) (unit ∷ some) some (λ list. AllByRecursion (Stays list) (unit ∷ looked))
    (λ is. (
      (λ none. absurd (false≢true (sym (parts unit none).0 ∙ ap is_eq (tied_itself key_total unit.key)))),
      all_then (Stays some) (Stays (unit ∷ some)) looked (λ one stays none. stays (parts one none).1) later,
    )) (λ is. ((λ none. is), later))

-- ---- a step takes stale records alone

brings_fresh : (rules : ZoneRules) (ticks : ℕ) (id : ReplicaId) (key : UnitKey) (list : List units.Unit) (unit : units.Unit) → IsFoundBy key list unit
    → Brings key (fresh_rows rules (hour_of ticks) (rows_at key list)) (swept rules ticks id unit)
unfolding swept rows_at
brings_fresh rules ticks id key list unit found same =
    becomes_fresh rules ticks unit.value ∙ sym (ap (λ one. fresh_rows rules (hour_of ticks) (rows_of_unit one)) (found same))

sweep_brings : (rules : ZoneRules) (ticks : ℕ) (id : ReplicaId) (key : UnitKey) (list looked : List units.Unit) → AllByRecursion (IsFoundBy key list) looked
    → AllByRecursion (Brings key (fresh_rows rules (hour_of ticks) (rows_at key list))) (sweep rules ticks id looked)
unfolding sweep
sweep_brings rules ticks id key list looked all =
    let BringsFresh : Write → Type 0 = Brings key (fresh_rows rules (hour_of ticks) (rows_at key list)) in
    let some : List units.Unit = filter (is_swept rules ticks) looked in
    all_map BringsFresh (swept rules ticks id) some
    (all_then (IsFoundBy key list) (λ unit. BringsFresh (swept rules ticks id unit)) some (brings_fresh rules ticks id key list) (all_filter (IsFoundBy key list) (is_swept rules ticks) looked all))

pub rows_swept : (rules : ZoneRules) (ticks : ℕ) (id : ReplicaId) (after : Option UnitKey) (most top : ℕ) (list : List units.Unit) → KeysGrow list
    → TakesStaleAlone rules ticks list (units_after list top (sweep rules ticks id (looked_at after most list)))
unfolding looked_at
rows_swept rules ticks id after most top list grow key =
    let above : List units.Unit = filter (is_above after) list in
    let found : AllByRecursion (IsFoundBy key list) (take most above) = all_take (IsFoundBy key list) most above (all_filter (IsFoundBy key list) (is_above after) list (found_all key list grow)) in
    rows_taken key (fresh_rows rules (hour_of ticks) (rows_at key list)) list top (sweep rules ticks id (take most above)) (sweep_brings rules ticks id key list (take most above) found)
