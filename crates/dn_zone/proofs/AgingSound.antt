-- What a zone keeps of its passes, whatever it takes.
use Rattle.std.proofs.Common.{◌≡◌, ℕ, ◌+◌, ◌<◌, ◌≤◌, Bool, true, false, true≢false, if◌then◌else◌, not, ◌&&◌, nat_le, List, length, Option, None, Some, count_by, refl, sym, ap, subst, arith, ◌∙◌}
use Rattle.std.specs.List.{AllByRecursion}
use Rattle.dn_io.specs.Moments.{hour_of}
use Rattle.dn_property.specs.declared.rules.ZoneRules.{ZoneRules}
use Rattle.dn_property.specs.Hours.{is_due}
use Rattle.dn_property.specs.Rules.{rules_of}
use Rattle.dn_store.specs.declared.unit.Unit as units
use Rattle.dn_store.specs.declared.unit.UnitKey.TheVariants as keys
use Rattle.dn_store.specs.declared.unit.Write.{Write}
use Rattle.dn_store.specs.Contents.{number_of_unit, props_number, properties_of_unit, properties_of}
use Rattle.dn_store.specs.Table.{change_limit, is_above, units_after, unit_at}
use Rattle.dn_store.proofs.CallerLemmas.{IsSoundList, all_of, all_taken, and_no, count_none, count_taken_old, first_no, past, props_taken, sound_taken}
use Rattle.dn_pass.specs.declared.pass.Pass.{Pass}
use Rattle.dn_pass.specs.Aging.{has_stale}
use Rattle.dn_pass.specs.Pass.{new_pass_if_due, is_at_last, new_pass}

-- ---- what holds while a pass runs by rules that haven't changed

-- written before the pass began, and with a stale record
abbrev pub is_old_stale : ZoneRules → Pass → units.Unit → Bool
is_old_stale rules pass unit = nat_le unit.usn pass.start && has_stale rules pass.moment unit

-- the same, at or before the last key that the pass looked at
abbrev pub is_left : ZoneRules → Pass → units.Unit → Bool
is_left rules pass unit = not (is_above pass.after unit) && is_old_stale rules pass unit

-- Such a unit is at its last version.
abbrev pub AtLast : ZoneRules → Pass → units.Unit → Type 0
AtLast rules pass unit = is_old_stale rules pass unit ≡ true → is_at_last unit ≡ true

pub record Keeps (rules : ZoneRules) (pass : Pass) (list : List units.Unit) : Type 0 where
  pub due : is_due rules (hour_of pass.moment) ≡ true
  pub last : AllByRecursion (λ unit. is_above pass.after unit ≡ false → AtLast rules pass unit) list
  pub count : count_by (is_left rules pass) list ≤ pass.skipped

pub record RunsSound (list : List units.Unit) (top : ℕ) (pass : Pass) : Type 0 where
  pub start : pass.start ≤ top
  pub kept : props_number list ≤ pass.start → Keeps (rules_of (properties_of list)) pass list

abbrev pub PassSound : List units.Unit → ℕ → Option Pass → Type 0
PassSound list top None = Unit {0}
PassSound list top (Some pass) = RunsSound list top pass

pub record IsSound (list : List units.Unit) (top : ℕ) (pass : Option Pass) : Type 0 where
  pub units : IsSoundList list top
  pub most : top ≤ change_limit
  pub passing : PassSound list top pass

-- ---- writes under new numbers keep it

pub properties_same : (list after : List units.Unit) → unit_at keys.Props after ≡ unit_at keys.Props list → properties_of after ≡ properties_of list
unfolding properties_of
properties_same list after same = ap properties_of_unit same

pub number_same : (list after : List units.Unit) → unit_at keys.Props after ≡ unit_at keys.Props list → props_number after ≡ props_number list
unfolding props_number
number_same list after same = ap number_of_unit same

pub new_not_old : (rules : ZoneRules) (pass : Pass) (top : ℕ) (unit : units.Unit) → pass.start ≤ top → top < unit.usn → is_old_stale rules pass unit ≡ false
new_not_old rules pass top unit within more =
    first_no (nat_le unit.usn pass.start) (has_stale rules pass.moment unit) (past unit.usn top pass.start within more)

pub new_not_left : (rules : ZoneRules) (pass : Pass) (top : ℕ) (unit : units.Unit) → pass.start ≤ top → top < unit.usn → is_left rules pass unit ≡ false
new_not_left rules pass top unit within more =
    and_no (not (is_above pass.after unit)) (is_old_stale rules pass unit) (new_not_old rules pass top unit within more)

keeps_taken : (rules : ZoneRules) (pass : Pass) (list : List units.Unit) (top : ℕ) (writes : List Write) → pass.start ≤ top → IsSoundList list top
    → Keeps rules pass list → Keeps rules pass (units_after list top writes)
keeps_taken rules pass list top writes within sound keeps =
    let count : count_by (is_left rules pass) (units_after list top writes) ≤ count_by (is_left rules pass) list =
    count_taken_old (is_left rules pass) (is_left rules pass) list top writes sound.ordered (λ unit more. new_not_left rules pass top unit within more)
    (all_of _ list (λ unit unwritten is. is)) in
    let before : count_by (is_left rules pass) list ≤ pass.skipped = keeps.count in
    record {
      due = keeps.due;
      last = all_taken (λ unit. is_above pass.after unit ≡ false → AtLast rules pass unit) list top writes
          (λ unit more behind old. absurd (true≢false (sym old ∙ new_not_old rules pass top unit within more))) keeps.last;
      count = omega arith;
    }

-- where the property list is an old one, it is the one from before
pub rules_same : (list : List units.Unit) (top start : ℕ) (writes : List Write) → start ≤ top → IsSoundList list top → props_number (units_after list top writes) ≤ start
    → unit_at keys.Props (units_after list top writes) ≡ unit_at keys.Props list
rules_same list top start writes within sound old = props_taken list top start writes within sound.numbers sound.ordered old

runs_taken : (list : List units.Unit) (top : ℕ) (pass : Pass) (writes : List Write) → IsSoundList list top → RunsSound list top pass
    → RunsSound (units_after list top writes) (top + length writes) pass
runs_taken list top pass writes sound runs =
    let start : pass.start ≤ top = runs.start in
    record {
      start = omega arith;
      kept = λ old.
          let same = rules_same list top pass.start writes start sound old in
          let before : props_number list ≤ pass.start = subst (λ number. number ≤ pass.start) (number_same list (units_after list top writes) same) old in
          subst (λ items. Keeps (rules_of items) pass (units_after list top writes)) (sym (properties_same list (units_after list top writes) same))
          (keeps_taken (rules_of (properties_of list)) pass list top writes start sound (runs.kept before));
    }

pass_taken : (list : List units.Unit) (top : ℕ) (pass : Option Pass) (writes : List Write) → IsSoundList list top → PassSound list top pass
    → PassSound (units_after list top writes) (top + length writes) pass
pass_taken list top None writes sound passing = tt
pass_taken list top (Some pass) writes sound passing = runs_taken list top pass writes sound passing

pub sound_after : (list : List units.Unit) (top : ℕ) (pass : Option Pass) (writes : List Write) → top + length writes ≤ change_limit → IsSound list top pass
    → IsSound (units_after list top writes) (top + length writes) pass
sound_after list top pass writes most sound =
    record { units = sound_taken list top writes sound.units; most = most; passing = pass_taken list top pass writes sound.units sound.passing }

-- ---- a pass that begins

due_by : (due : Bool) (moment top : ℕ) (pass : Pass) → (if due then Some (new_pass moment top) else None) ≡ Some pass → (due ≡ true) × (pass ≡ new_pass moment top)
due_by true moment top pass is = (refl, cc)
due_by false moment top pass is = absurd (cc)

begins : (list : List units.Unit) (moment top : ℕ) → is_due (rules_of (properties_of list)) (hour_of moment) ≡ true → RunsSound list top (new_pass moment top)
begins list moment top due =
    let rules = rules_of (properties_of list) in
    let none : count_by (is_left rules (new_pass moment top)) list ≡ 0 = count_none (is_left rules (new_pass moment top)) list (λ unit. refl) in
    record {
      start = omega arith;
      kept = λ old.
          record {
            due = due;
            last = all_of (λ unit. is_above None unit ≡ false → AtLast rules (new_pass moment top) unit) list (λ unit behind old. absurd (true≢false behind));
            count = omega arith;
          };
    }

pub sound_begun : (list : List units.Unit) (top moment : ℕ) (before : Option Pass) (pass : Pass) → new_pass_if_due (list, top) moment ≡ Some pass → IsSound list top before
    → IsSound list top (Some pass)
unfolding new_pass_if_due
sound_begun list top moment before pass is sound =
    let found = due_by (is_due (rules_of (properties_of list)) (hour_of moment)) moment top pass is in
    record {
      units = sound.units;
      most = sound.most;
      passing = subst (RunsSound list top) (sym found.1) (begins list moment top found.0);
    }

pub sound_without : (list : List units.Unit) (top : ℕ) (pass : Option Pass) → IsSound list top pass → IsSound list top None
sound_without list top pass sound = record { units = sound.units; most = sound.most; passing = tt }
