-- The units above a key, of units in order: the next above one of them is the one behind it.
use Rattle.std.proofs.Common.{◌≡◌, ℕ, zero, suc, ◌+◌, true, false, List, [], ◌∷◌, ◌++◌, Option, None, Some, Bor, map, filter, take, refl, ap, arith, sym, subst, ◌∙◌}
use Rattle.std.proofs.lemmas.Cmp.{tied_itself}
use Rattle.std.proofs.lemmas.List.{map_push}
use Rattle.std.proofs.lemmas.List.Kept.{IsStrictlySortedBy-filter}
use Rattle.std.specs.List.{AllByRecursion}
use Rattle.std.specs.List.Sorted.{IsStrictlySortedBy}
use Rattle.std.specs.Prelude.{slice_get}
use Rattle.std.specs.Ordering.{is_lt, ordering_reverse}
use Rattle.dn_store.specs.declared.unit.Unit as units
use Rattle.dn_store.specs.declared.unit.UnitKey.{UnitKey}
use Rattle.dn_store.specs.Table.{KeysGrow, is_above, unit_above}
use Rattle.dn_store.specs.Value.{key_order}
use Rattle.dn_store.proofs.ListLemmas.{all_at, all_passes, all_then, filter_all, filter_within, find_first, take_next}
use Rattle.dn_store.proofs.OrderLemmas.{IsAfter, key_total, less_from, unit_order}

-- ---- above a key

abbrev pub AllAbove : Option UnitKey → List units.Unit → Type 0
AllAbove after list = AllByRecursion (λ unit. is_above after unit ≡ true) list

-- a unit behind one that is above a key is above it too
pub above_next : (after : Option UnitKey) (unit later : units.Unit) → is_above after unit ≡ true → IsAfter unit.key later → is_above after later ≡ true
above_next None unit later above less = refl
above_next (Some key) unit later above less = ap is_lt (key_total.trans key unit.key later.key (less_from (key_order key unit.key) above) less)

-- the units behind the first are above its key
pub above_own : (unit : units.Unit) (rest : List units.Unit) → KeysGrow (unit ∷ rest) → AllAbove (Some unit.key) rest
unfolding IsStrictlySortedBy
above_own unit rest grow = all_then (IsAfter unit.key) (λ later. is_above (Some unit.key) later ≡ true) rest (λ later less. ap is_lt less) grow.0

-- and the first isn't above theirs
pub not_above : (first unit : units.Unit) → IsAfter first.key unit → is_above (Some unit.key) first ≡ false
not_above first unit less = ap is_lt (key_total.antisymm unit.key first.key ∙ ap ordering_reverse less)

-- ---- the next unit above

pub above_none : (list : List units.Unit) → unit_above None list ≡ slice_get list 0
above_none [] = refl
above_none (first ∷ rest) = refl

pub above_first : (after : Option UnitKey) (list : List units.Unit) → unit_above after list ≡ slice_get (filter (is_above after) list) 0
above_first after list = find_first (is_above after) list

above_here : (list : List units.Unit) (at : ℕ) (unit : units.Unit) → KeysGrow list → slice_get list at ≡ Some unit → unit_above (Some unit.key) list ≡ slice_get list (suc at)
unfolding IsStrictlySortedBy
above_here [] at unit grow is = absurd (cc)
above_here (first ∷ rest) zero unit grow is =
    let e : first ≡ unit = cc in
    let next : unit_above (Some first.key) rest ≡ slice_get rest 0 =
    above_first (Some first.key) rest ∙ ap (λ list. slice_get list 0) (filter_all (is_above (Some first.key)) rest (above_own first rest grow)) in
    subst (λ (one : units.Unit). unit_above (Some one.key) (first ∷ rest) ≡ slice_get rest 0) e (rw (tied_itself key_total first.key) next)
above_here (first ∷ rest) (suc at) unit grow is = rw (not_above first unit (all_at (IsAfter first.key) rest at unit grow.0 is)) (above_here rest at unit grow.1 is)

-- the unit behind the one at a place
pub above_at : (list : List units.Unit) (at : ℕ) (unit : units.Unit) → KeysGrow list → slice_get list at ≡ Some unit → unit_above (Some unit.key) list ≡ slice_get list (at + 1)
above_at list at unit grow is = let e : at + 1 ≡ suc at = omega arith in rw e (above_here list at unit grow is)

-- the same among those above a key
pub above_behind : (after : Option UnitKey) (list : List units.Unit) (at : ℕ) (unit : units.Unit) → KeysGrow list → slice_get (filter (is_above after) list) at ≡ Some unit
    → unit_above (Some unit.key) list ≡ slice_get (filter (is_above after) list) (at + 1)
above_behind after list at unit grow is =
    let kept : List units.Unit = filter (is_above after) list in
    let above : is_above after unit ≡ true = all_at (λ one. is_above after one ≡ true) kept at unit (all_passes (is_above after) list) is in
    let same : filter (is_above (Some unit.key)) kept ≡ filter (is_above (Some unit.key)) list =
    filter_within (is_above (Some unit.key)) (is_above after) list (λ later more. above_next after unit later above (less_from (key_order unit.key later.key) more)) in
    above_first (Some unit.key) list
    ∙ ap (λ some. slice_get some 0) (sym same)
    ∙ sym (above_first (Some unit.key) kept)
    ∙ above_at kept at unit (IsStrictlySortedBy-filter unit_order (is_above after) list grow) is

-- ---- what a loop looked at, after one more

abbrev pub behind : Bor units.Unit → units.Unit
behind unit = unit.now

pub looked_more : (after : Option UnitKey) (list : List units.Unit) (at : ℕ) (unit : Bor units.Unit) (looked more : List (Bor units.Unit))
    → slice_get (filter (is_above after) list) at ≡ Some unit.now → map behind looked ≡ take at (filter (is_above after) list) → more ≡ looked ++ unit ∷ []
    → map behind more ≡ take (at + 1) (filter (is_above after) list)
looked_more after list at unit looked more is so put =
    ap (map behind) put ∙ map_push behind looked unit ∙ ap (λ front. front ++ unit.now ∷ []) so ∙ sym (take_next (filter (is_above after) list) at unit.now is)
