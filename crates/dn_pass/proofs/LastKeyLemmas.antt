-- The last key of units: read at the end of a list, and the units above it and above those that a step looked at.
use Rattle.std.proofs.Common.{◌≡◌, ℕ, zero, suc, ◌+◌, ◌-◌, not, List, [], ◌∷◌, ◌++◌, Option, Some, Bor, length, map, filter, take, take_all, drop, nat_le, refl, ap, arith, tests, rules, sym, ◌∙◌}
use Rattle.std.proofs.lemmas.Cmp.{tied_itself}
use Rattle.std.proofs.lemmas.List.{map_push}
use Rattle.std.proofs.lemmas.List.Kept.{IsStrictlySortedBy-filter}
use Rattle.std.specs.List.{AllByRecursion}
use Rattle.std.specs.List.Sorted.{IsStrictlySortedBy}
use Rattle.std.specs.Option.{is_some}
use Rattle.std.specs.Ordering.{is_lt}
use Rattle.std.specs.Prelude.{slice_get, true, false}
use Rattle.dn_store.specs.declared.unit.Unit as units
use Rattle.dn_store.specs.declared.unit.UnitKey.{UnitKey}
use Rattle.dn_store.specs.Table.{KeysGrow, is_above, unit_above}
use Rattle.dn_store.specs.Value.{key_order}
use Rattle.dn_store.proofs.CallerLemmas.{AllAbove, IsAfter, above_first, above_next, above_own, all_passes, all_take, behind, filter_all, filter_within, key_total, less_from, not_above, sorted_take, take_next, unit_order}
use Rattle.dn_pass.specs.Pass.{is_last_step, last_key, looked_at}

-- ---- the last of a list has the last key

last_pushed : (before : Option UnitKey) (list : List units.Unit) (unit : units.Unit) → last_key before (list ++ unit ∷ []) ≡ Some unit.key
last_pushed before [] unit = refl
last_pushed before (first ∷ rest) unit = last_pushed (Some first.key) rest unit

pub last_key_of : (before : Option UnitKey) (looked : List (Bor units.Unit)) (last : Bor units.Unit) → slice_get looked (length looked - 1) ≡ Some last
    → Some last.now.key ≡ last_key before (map behind looked)
last_key_of before looked last is =
    let front : List (Bor units.Unit) = take (length looked - 1) looked in
    let whole : front ++ last ∷ [] ≡ looked = sym (take_next looked (length looked - 1) last is) ∙ take_all (length looked - 1 + 1) looked (omega arith) in
    sym (last_pushed before (map behind front) last.now) ∙ ap (last_key before) (sym (map_push behind front last)) ∙ ap (λ list. last_key before (map behind list)) whole

-- ---- above the last key of a front are the units behind the front

-- what is above the last key is above the key from before
wider : (after : Option UnitKey) (front : List units.Unit) (unit : units.Unit) → KeysGrow front → AllAbove after front → is_above (last_key after front) unit ≡ true → is_above after unit ≡ true
unfolding IsStrictlySortedBy
wider after [] unit grow above is = is
wider after (first ∷ front) unit grow above is =
    above_next after first unit above.0 (less_from (key_order first.key unit.key) (wider (Some first.key) front unit grow.1 (above_own first front grow) is))

not_ahead : (after : Option UnitKey) (unit : units.Unit) (front : List units.Unit) → is_above after unit ≡ false → AllByRecursion (IsAfter unit.key) front → is_above (last_key after front) unit ≡ false
not_ahead after unit [] is all = is
not_ahead after unit (first ∷ front) is all = not_ahead (Some first.key) unit front (not_above unit first all.0) all.1

ahead_all : (after : Option UnitKey) (most : ℕ) (list : List units.Unit) → KeysGrow list → AllAbove after list → filter (is_above (last_key after (take most list))) list ≡ drop most list
unfolding IsStrictlySortedBy
ahead_all after zero list grow above = filter_all (is_above after) list above
ahead_all after (suc most) [] grow above = refl
ahead_all after (suc most) (unit ∷ list) grow above =
    let out : is_above (last_key (Some unit.key) (take most list)) unit ≡ false =
    not_ahead (Some unit.key) unit (take most list) (ap is_lt (tied_itself key_total unit.key)) (all_take (IsAfter unit.key) most list grow.0) in
    rw out (ahead_all (Some unit.key) most list grow.1 (above_own unit list grow))

-- the units above the last key that a step looked at
pub ahead_is : (after : Option UnitKey) (most : ℕ) (list : List units.Unit) → KeysGrow list
    → filter (is_above (last_key after (looked_at after most list))) list ≡ drop most (filter (is_above after) list)
unfolding looked_at
ahead_is after most list grow =
    let kept : List units.Unit = filter (is_above after) list in
    let sorted : KeysGrow kept = IsStrictlySortedBy-filter unit_order (is_above after) list grow in
    let above : AllAbove after kept = all_passes (is_above after) list in
    let front : AllAbove after (take most kept) = all_take (λ unit. is_above after unit ≡ true) most kept above in
    sym (filter_within (is_above (last_key after (take most kept))) (is_above after) list (λ unit. wider after (take most kept) unit (sorted_take unit_order most kept sorted) front))
    ∙ ahead_all after most kept sorted above

over_at : (list : List units.Unit) (at : ℕ) → nat_le (length list) at ≡ not (is_some (slice_get (drop at list) 0))
over_at [] zero = search (tests, rules)
over_at [] (suc at) = search (tests, rules)
over_at (first ∷ rest) zero = search (tests, rules)
over_at (first ∷ rest) (suc at) = let later = over_at rest at in search (tests, rules, later)

-- a step is the last exactly where nothing is above its last key
pub last_step : (after : Option UnitKey) (list : List units.Unit) (most : ℕ) → KeysGrow list
    → is_last_step after most list ≡ not (is_some (unit_above (last_key after (looked_at after most list)) list))
unfolding is_last_step
last_step after list most grow =
    over_at (filter (is_above after) list) most
    ∙ ap (λ ahead. not (is_some (slice_get ahead 0))) (sym (ahead_is after most list grow))
    ∙ ap (λ found. not (is_some found)) (sym (above_first (last_key after (looked_at after most list)) list))
