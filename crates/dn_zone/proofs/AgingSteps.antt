-- What a step of a pass leaves behind it.
use Rattle.std.proofs.Common.{◌≡◌, ℕ, ◌+◌, ◌-◌, ◌^◌, ◌≤◌, Bool, true, false, true≢false, not, ◌&&◌, nat_le, List, length, count_by, sym, subst, arith, ◌∙◌}
use Rattle.std.proofs.Math.Nat.{le-min}
use Rattle.std.proofs.lemmas.List.Sums.{count_by-le-length}
use Rattle.std.specs.List.{AllByRecursion}
use Rattle.dn_property.specs.declared.rules.ZoneRules.{ZoneRules}
use Rattle.dn_property.specs.Rules.{rules_of}
use Rattle.dn_stamp.specs.declared.stamp.ReplicaId.{ReplicaId}
use Rattle.dn_store.specs.declared.unit.Unit as units
use Rattle.dn_store.specs.declared.unit.Write.{Write}
use Rattle.dn_store.specs.Contents.{props_number, properties_of}
use Rattle.dn_store.specs.Table.{change_limit, is_above, units_after}
use Rattle.dn_store.proofs.CallerLemmas.{IsSoundList, all_of, all_taken_old, all_then, and_both, and_first, and_second, count_mono, count_taken_old, is_written, length_bound, not_false, not_true, sound_taken}
use Rattle.dn_pass.specs.declared.pass.Pass.{Pass}
use Rattle.dn_pass.specs.Aging.{has_stale}
use Rattle.dn_pass.specs.Pass.{pass_after, is_skipped, is_swept, last_key, looked_at, add_capped, sweep}
use Rattle.dn_pass.proofs.CallerLemmas.{spans_all, spans_count, stale_is_wanted, swept_is_written}
use Rattle.dn_zone.proofs.AgingSound.{AtLast, Keeps, RunsSound, is_left, is_old_stale, new_not_left, new_not_old, properties_same, rules_same}

-- ---- the units that a step looked at and didn't write

-- an old unit with a stale record that no write of the step has the key of
abbrev pub is_unwritten : ZoneRules → Pass → List Write → units.Unit → Bool
is_unwritten rules pass writes unit = is_old_stale rules pass unit && not (is_written writes unit.key)

abbrev pub UnlessWritten : ZoneRules → Pass → List Write → units.Unit → Type 0
UnlessWritten rules pass writes unit = is_written writes unit.key ≡ false → AtLast rules pass unit

pub looked_last : (rules : ZoneRules) (pass : Pass) (id : ReplicaId) (looked : List units.Unit)
    → AllByRecursion (UnlessWritten rules pass (sweep rules pass.moment id looked)) looked
looked_last rules pass id looked =
    all_then (λ unit. is_written (sweep rules pass.moment id looked) unit.key ≡ false → is_swept rules pass.moment unit ≡ false)
    (UnlessWritten rules pass (sweep rules pass.moment id looked)) looked
    (λ unit unswept unwritten old.
    (stale_is_wanted rules pass.moment unit (and_second (nat_le unit.usn pass.start) (has_stale rules pass.moment unit) old)).1 (unswept unwritten))
    (swept_is_written rules pass.moment id looked)

pub looked_count : (rules : ZoneRules) (pass : Pass) (id : ReplicaId) (looked : List units.Unit)
    → count_by (is_unwritten rules pass (sweep rules pass.moment id looked)) looked ≤ count_by (is_skipped rules pass.moment) looked
looked_count rules pass id looked =
    let writes = sweep rules pass.moment id looked in
    count_mono (is_unwritten rules pass writes) (is_skipped rules pass.moment) looked
    (all_then (λ unit. is_written writes unit.key ≡ false → is_swept rules pass.moment unit ≡ false)
    (λ unit. is_unwritten rules pass writes unit ≡ true → is_skipped rules pass.moment unit ≡ true) looked
    (λ unit unswept both.
    (stale_is_wanted rules pass.moment unit
    (and_second (nat_le unit.usn pass.start) (has_stale rules pass.moment unit) (and_first (is_old_stale rules pass unit) (not (is_written writes unit.key)) both))).0
    (unswept (not_true (is_written writes unit.key) (and_second (is_old_stale rules pass unit) (not (is_written writes unit.key)) both))))
    (swept_is_written rules pass.moment id looked))

-- ---- counts stay below the last number of 64 bits

pub within_all : (p : units.Unit → Bool) (list : List units.Unit) (top most : ℕ) → IsSoundList list top → top ≤ most → count_by p list ≤ most
within_all p list top most sound within =
    let some : count_by p list ≤ length list = count_by-le-length p list in
    let all : length list ≤ top = length_bound list top sound.numbers sound.differ in
    omega arith

limit_within : (number : ℕ) → number ≤ change_limit → number ≤ 2 ^ 64 - 1
limit_within number within = omega arith

pub within_raised : (count more number : ℕ) → number ≤ count + more → number ≤ change_limit → number ≤ add_capped count more
within_raised count more number sum within = le-min sum (limit_within number within)

-- ---- a step that goes on

abbrev AllBehind : ZoneRules → Pass → List Write → List units.Unit → Type 0
AllBehind rules pass writes list = AllByRecursion (λ unit. is_above pass.after unit ≡ false → UnlessWritten rules pass writes unit) list

pub behind_all : (rules : ZoneRules) (pass : Pass) (writes : List Write) (list : List units.Unit) → Keeps rules pass list → AllBehind rules pass writes list
behind_all rules pass writes list keeps =
    all_then (λ unit. is_above pass.after unit ≡ false → AtLast rules pass unit) (λ unit. is_above pass.after unit ≡ false → UnlessWritten rules pass writes unit) list
    (λ unit last at unwritten. last at) keeps.last

pub behind_count : (rules : ZoneRules) (pass : Pass) (writes : List Write) (list : List units.Unit) → Keeps rules pass list
    → count_by (λ unit. not (is_above pass.after unit) && is_unwritten rules pass writes unit) list ≤ pass.skipped
behind_count rules pass writes list keeps =
    let fewer : count_by (λ unit. not (is_above pass.after unit) && is_unwritten rules pass writes unit) list ≤ count_by (is_left rules pass) list =
    count_mono (λ unit. not (is_above pass.after unit) && is_unwritten rules pass writes unit) (is_left rules pass) list
    (all_of (λ unit. (not (is_above pass.after unit) && is_unwritten rules pass writes unit) ≡ true → is_left rules pass unit ≡ true) list
    (λ unit both.
    and_both (not (is_above pass.after unit)) (is_old_stale rules pass unit) (and_first (not (is_above pass.after unit)) (is_unwritten rules pass writes unit) both)
    (and_first (is_old_stale rules pass unit) (not (is_written writes unit.key)) (and_second (not (is_above pass.after unit)) (is_unwritten rules pass writes unit) both)))) in
    let kept : count_by (is_left rules pass) list ≤ pass.skipped = keeps.count in
    omega arith

-- the count of those that are left behind the last key, after the step's writes
moved_count : (rules : ZoneRules) (pass : Pass) (most : ℕ) (id : ReplicaId) (list : List units.Unit) (top : ℕ) → pass.start ≤ top → IsSoundList list top → Keeps rules pass list
    → count_by (is_left rules (pass_after pass rules id (looked_at pass.after most list))) (units_after list top (sweep rules pass.moment id (looked_at pass.after most list)))
    ≤ pass.skipped + count_by (is_skipped rules pass.moment) (looked_at pass.after most list)
unfolding pass_after
moved_count rules pass most id list top start sound keeps =
    let looked = looked_at pass.after most list in
    let writes = sweep rules pass.moment id looked in
    let next = last_key pass.after looked in
    let after : count_by (λ unit. not (is_above next unit) && is_old_stale rules pass unit) (units_after list top writes)
    ≤ count_by (λ unit. not (is_above next unit) && is_unwritten rules pass writes unit) list =
    count_taken_old (λ unit. not (is_above next unit) && is_old_stale rules pass unit) (λ unit. not (is_above next unit) && is_unwritten rules pass writes unit)
    list top writes sound.ordered (λ unit more. new_not_left rules (pass_after pass rules id looked) top unit start more)
    (all_of (λ unit. is_written writes unit.key ≡ false → (not (is_above next unit) && is_old_stale rules pass unit) ≡ true → (not (is_above next unit) && is_unwritten rules pass writes unit) ≡ true) list
    (λ unit unwritten left.
    and_both (not (is_above next unit)) (is_unwritten rules pass writes unit) (and_first (not (is_above next unit)) (is_old_stale rules pass unit) left)
    (and_both (is_old_stale rules pass unit) (not (is_written writes unit.key)) (and_second (not (is_above next unit)) (is_old_stale rules pass unit) left)
    (not_false (is_written writes unit.key) unwritten)))) in
    let spans : count_by (λ unit. not (is_above next unit) && is_unwritten rules pass writes unit) list
    ≤ count_by (λ unit. not (is_above pass.after unit) && is_unwritten rules pass writes unit) list + count_by (is_unwritten rules pass writes) looked =
    spans_count (is_unwritten rules pass writes) pass.after most list sound.ordered in
    let before : count_by (λ unit. not (is_above pass.after unit) && is_unwritten rules pass writes unit) list ≤ pass.skipped = behind_count rules pass writes list keeps in
    let here : count_by (is_unwritten rules pass writes) looked ≤ count_by (is_skipped rules pass.moment) looked = looked_count rules pass id looked in
    omega arith

moved_last : (rules : ZoneRules) (pass : Pass) (most : ℕ) (id : ReplicaId) (list : List units.Unit) (top : ℕ) → pass.start ≤ top → IsSoundList list top → Keeps rules pass list
    → AllByRecursion (λ unit. is_above (last_key pass.after (looked_at pass.after most list)) unit ≡ false → AtLast rules pass unit)
    (units_after list top (sweep rules pass.moment id (looked_at pass.after most list)))
moved_last rules pass most id list top start sound keeps =
    let looked = looked_at pass.after most list in
    let writes = sweep rules pass.moment id looked in
    let next = last_key pass.after looked in
    all_taken_old (λ unit. is_above next unit ≡ false → AtLast rules pass unit) list top writes sound.ordered
    (λ unit more at old. absurd (true≢false (sym old ∙ new_not_old rules pass top unit start more)))
    (all_then (λ unit. is_above next unit ≡ false → UnlessWritten rules pass writes unit)
    (λ unit. is_written writes unit.key ≡ false → is_above next unit ≡ false → AtLast rules pass unit) list (λ unit last unwritten at. last at unwritten)
    (spans_all (UnlessWritten rules pass writes) pass.after most list sound.ordered (behind_all rules pass writes list keeps) (looked_last rules pass id looked)))

moved_keeps : (rules : ZoneRules) (pass : Pass) (most : ℕ) (id : ReplicaId) (list : List units.Unit) (top : ℕ) → pass.start ≤ top → IsSoundList list top
    → top + length (sweep rules pass.moment id (looked_at pass.after most list)) ≤ change_limit → Keeps rules pass list
    → Keeps rules (pass_after pass rules id (looked_at pass.after most list)) (units_after list top (sweep rules pass.moment id (looked_at pass.after most list)))
unfolding pass_after
moved_keeps rules pass most id list top start sound within keeps =
    let looked = looked_at pass.after most list in
    let writes = sweep rules pass.moment id looked in
    let next = pass_after pass rules id looked in
    record {
      due = keeps.due;
      last = moved_last rules pass most id list top start sound keeps;
      count =
          within_raised pass.skipped (count_by (is_skipped rules pass.moment) looked) (count_by (is_left rules next) (units_after list top writes))
          (moved_count rules pass most id list top start sound keeps)
          (within_all (is_left rules next) (units_after list top writes) (top + length writes) change_limit (sound_taken list top writes sound) within);
    }

pub runs_stepped : (list : List units.Unit) (top : ℕ) (pass : Pass) (most : ℕ) (id : ReplicaId) → IsSoundList list top → RunsSound list top pass → props_number list ≤ pass.start
    → top + length (sweep (rules_of (properties_of list)) pass.moment id (looked_at pass.after most list)) ≤ change_limit
    → RunsSound (units_after list top (sweep (rules_of (properties_of list)) pass.moment id (looked_at pass.after most list)))
    (top + length (sweep (rules_of (properties_of list)) pass.moment id (looked_at pass.after most list)))
    (pass_after pass (rules_of (properties_of list)) id (looked_at pass.after most list))
unfolding pass_after
runs_stepped list top pass most id sound runs old within =
    let rules = rules_of (properties_of list) in
    let looked = looked_at pass.after most list in
    let writes = sweep rules pass.moment id looked in
    let start : pass.start ≤ top = runs.start in
    record {
      start = omega arith;
      kept = λ later.
          subst (λ items. Keeps (rules_of items) (pass_after pass rules id looked) (units_after list top writes))
          (sym (properties_same list (units_after list top writes) (rules_same list top pass.start writes start sound later)))
          (moved_keeps rules pass most id list top start sound within (runs.kept old));
    }
