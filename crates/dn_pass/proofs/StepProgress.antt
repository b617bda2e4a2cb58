-- A step of a pass that isn't its last leaves fewer units to look at.
use Rattle.std.proofs.Common.{◌≡◌, ℕ, ◌+◌, ◌<◌, ◌≤◌, false, List, length, filter, take, drop, ap, arith, Option}
use Rattle.std.proofs.lemmas.Bool.{leb-false}
use Rattle.std.proofs.lemmas.List.{length-drop}
use Rattle.std.proofs.lemmas.List.Sums.{count_by-le-length, length-filter}
use Rattle.dn_property.specs.declared.rules.ZoneRules.{ZoneRules}
use Rattle.dn_stamp.specs.declared.stamp.ReplicaId.{ReplicaId}
use Rattle.dn_store.specs.declared.unit.Unit as units
use Rattle.dn_store.specs.declared.unit.UnitKey.{UnitKey}
use Rattle.dn_store.specs.Table.{KeysGrow, is_above, units_after}
use Rattle.dn_store.proofs.CallerLemmas.{AreThere, Here, ahead, ahead_taken, all_filter, all_here, all_map, all_take}
use Rattle.dn_pass.specs.Pass.{is_last_step, is_swept, last_key, looked_at, sweep, swept}
use Rattle.dn_pass.proofs.LastKeyLemmas.{ahead_is}

-- a step writes under keys that are there
sweep_there : (rules : ZoneRules) (ticks : ℕ) (id : ReplicaId) (after : Option UnitKey) (most : ℕ) (list : List units.Unit) → AreThere list (sweep rules ticks id (looked_at after most list))
unfolding sweep looked_at swept
sweep_there rules ticks id after most list =
    let above : List units.Unit = filter (is_above after) list in
    all_map _ (swept rules ticks id) (filter (is_swept rules ticks) (take most above))
    (all_filter (Here list) (is_swept rules ticks) (take most above) (all_take (Here list) most above (all_filter (Here list) (is_above after) list (all_here list))))

pub step_falls : (rules : ZoneRules) (ticks : ℕ) (id : ReplicaId) (after : Option UnitKey) (most : ℕ) (list : List units.Unit) (top : ℕ) → KeysGrow list
    → is_last_step after most list ≡ false → let looked = looked_at after most list in ahead (last_key after looked) (units_after list top (sweep rules ticks id looked)) + most ≤ ahead after list
unfolding is_last_step
step_falls rules ticks id after most list top grow more =
    let looked : List units.Unit = looked_at after most list in
    let above : List units.Unit = filter (is_above after) list in
    let same : ahead (last_key after looked) (units_after list top (sweep rules ticks id looked)) ≡ ahead (last_key after looked) list =
    ahead_taken (last_key after looked) list top (sweep rules ticks id looked) grow (sweep_there rules ticks id after most list) in
    let before : most < length above = leb-false (length above) most more in
    let left : ahead (last_key after looked) list ≡ length (drop most above) = ap length (ahead_is after most list grow) in
    omega (arith, length-drop most above)

-- at most all units are ahead
pub ahead_most : (after : Option UnitKey) (list : List units.Unit) → ahead after list ≤ length list
ahead_most after list = rw (length-filter (is_above after) list) (count_by-le-length (is_above after) list)
