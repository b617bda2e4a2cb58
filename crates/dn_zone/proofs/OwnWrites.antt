-- What the steps of a pass write has no stale record, and what a finished pass leaves.
use Rattle.std.proofs.Common.{◌≡◌, ℕ, ◌+◌, ◌≤◌, true, false, true≢false, not, ◌&&◌, nat_lt, nat_le, List, [], ◌∷◌, length, count_by, Option, None, Some, refl, sym, subst, arith, le_trans, ◌∙◌}
use Rattle.std.proofs.lemmas.Bool.{le-ltb, leb-true}
use Rattle.std.specs.List.{AllByRecursion, list_any}
use Rattle.dn_io.specs.Moments.{hour_of}
use Rattle.dn_property.specs.declared.rules.ZoneRules.{ZoneRules}
use Rattle.dn_property.specs.Rules.{rules_of}
use Rattle.dn_stamp.specs.declared.stamp.ReplicaId.{ReplicaId}
use Rattle.dn_store.specs.declared.unit.Unit as units
use Rattle.dn_store.specs.declared.unit.Write.{Write}
use Rattle.dn_store.specs.Contents.{rows_in, props_number, properties_of}
use Rattle.dn_store.specs.Table.{IsNumber, change_limit, is_above, numbered, placed, units_after}
use Rattle.dn_store.proofs.CallerLemmas.{IsSoundList, all_both, all_of, all_placed, all_taken, all_taken_old, all_then, and_both, and_first, and_second, count_mono, count_taken_old, either, is_written, not_false, sound_taken}
use Rattle.dn_pass.specs.declared.pass.Pass.{Pass}
use Rattle.dn_pass.specs.Aging.{has_stale}
use Rattle.dn_pass.specs.Pass.{pass_after, is_at_last, is_last_step, is_skipped, is_stale_row, looked_at, add_capped, sweep}
use Rattle.dn_pass.proofs.CallerLemmas.{spans_all_last, spans_count_last, swept_fresh}
use Rattle.dn_zone.specs.Aging.{Given, LeavesNone, also_between, is_untouched}
use Rattle.dn_zone.proofs.AgingSound.{AtLast, Keeps, is_old_stale, new_not_old, number_same, properties_same, rules_same}
use Rattle.dn_zone.proofs.AgingSteps.{UnlessWritten, behind_all, behind_count, is_unwritten, looked_count, looked_last, within_all, within_raised}

-- ---- the units that the steps of the running pass gave

-- one of these has no stale record
abbrev pub FreshWhere : Given → ZoneRules → ℕ → units.Unit → Type 0
FreshWhere given rules ticks unit = given unit.usn ≡ true → has_stale rules ticks unit ≡ false

abbrev pub PassFresh : List units.Unit → Given → Option Pass → Type 0
PassFresh list given None = Unit {0}
PassFresh list given (Some pass) = props_number list ≤ pass.start → AllByRecursion (FreshWhere given (rules_of (properties_of list)) pass.moment) list

pub record GivenSound (list : List units.Unit) (top : ℕ) (pass : Option Pass) (given : Given) : Type 0 where
  pub within : (number : ℕ) → given number ≡ true → number ≤ top
  pub fresh : PassFresh list given pass

pub none_sound : (list : List units.Unit) (top : ℕ) (pass : Option Pass) → GivenSound list top pass (λ number. false)
none_sound list top None = record { within = λ number is. absurd (true≢false (sym is)); fresh = tt }
none_sound list top (Some pass) =
    record {
      within = λ number is. absurd (true≢false (sym is));
      fresh = λ old. all_of (FreshWhere (λ number. false) (rules_of (properties_of list)) pass.moment) list (λ unit is. absurd (true≢false (sym is)));
    }

-- ---- writes that no step made

fresh_taken : (list : List units.Unit) (top : ℕ) (writes : List Write) (given : Given) (pass : Pass) → pass.start ≤ top → IsSoundList list top
    → ((number : ℕ) → given number ≡ true → number ≤ top) → PassFresh list given (Some pass) → PassFresh (units_after list top writes) given (Some pass)
fresh_taken list top writes given pass start sound within fresh old =
    let same = rules_same list top pass.start writes start sound old in
    let before : props_number list ≤ pass.start = subst (λ number. number ≤ pass.start) (number_same list (units_after list top writes) same) old in
    subst (λ items. AllByRecursion (FreshWhere given (rules_of items) pass.moment) (units_after list top writes)) (sym (properties_same list (units_after list top writes) same))
    (all_taken (FreshWhere given (rules_of (properties_of list)) pass.moment) list top writes
    (λ unit more is. let most : unit.usn ≤ top = within unit.usn is in absurd (omega arith)) (fresh before))

-- the same, whether a pass runs or not
pub given_taken : (list : List units.Unit) (top : ℕ) (writes : List Write) (given : Given) (pass : Option Pass) → IsSoundList list top
    → ((running : Pass) → pass ≡ Some running → running.start ≤ top) → GivenSound list top pass given → GivenSound (units_after list top writes) (top + length writes) pass given
given_taken list top writes given None sound start fresh =
    record { within = λ number is. let most : number ≤ top = fresh.within number is in omega arith; fresh = tt }
given_taken list top writes given (Some pass) sound start fresh =
    record {
      within = λ number is. let most : number ≤ top = fresh.within number is in omega arith;
      fresh = fresh_taken list top writes given pass (start pass refl) sound fresh.within fresh.fresh;
    }

-- ---- writes of a step

-- what each write brings under any number, and each unit from before has, each unit behind the writes has
all_brought : (P : units.Unit → Type 0) (list : List units.Unit) (top : ℕ) (writes : List Write) → AllByRecursion (λ write. (number : ℕ) → P (numbered number write)) writes
    → AllByRecursion P list → AllByRecursion P (units_after list top writes)
all_brought P list top [] brings all = all
all_brought P list top (write ∷ writes) brings all =
    all_brought P (placed (numbered (top + 1) write) list) (top + 1) writes brings.1 (all_placed P (numbered (top + 1) write) list (brings.0 (top + 1)) all)

brought_then : (P : Write → Type 0) (Q : units.Unit → Type 0) (writes : List Write) → ((write : Write) (number : ℕ) → P write → Q (numbered number write))
    → AllByRecursion P writes → AllByRecursion (λ write. (number : ℕ) → Q (numbered number write)) writes
brought_then P Q [] on all = tt
brought_then P Q (write ∷ writes) on all = ((λ number. on write number all.0), brought_then P Q writes on all.1)

old_given : (given : Given) (top after : ℕ) (number : ℕ) → number ≤ top → also_between given top after number ≡ true → given number ≡ true
old_given given top after number within is =
    either (given number) (nat_lt top number && nat_le number after) (given number ≡ true) is (λ before. before)
    (λ new. absurd (true≢false (sym (and_first (nat_lt top number) (nat_le number after) new) ∙ le-ltb top number within)))

pub step_fresh : (rules : ZoneRules) (ticks : ℕ) (id : ReplicaId) (looked list : List units.Unit) (top after : ℕ) (given : Given)
    → AllByRecursion (λ unit. IsNumber top unit.usn) list → AllByRecursion (FreshWhere given rules ticks) list
    → AllByRecursion (FreshWhere (also_between given top after) rules ticks) (units_after list top (sweep rules ticks id looked))
unfolding has_stale
step_fresh rules ticks id looked list top after given numbers fresh =
    all_brought (FreshWhere (also_between given top after) rules ticks) list top (sweep rules ticks id looked)
    (brought_then (λ write. list_any (is_stale_row rules (hour_of ticks)) (rows_in write.value) ≡ false) (FreshWhere (also_between given top after) rules ticks)
    (sweep rules ticks id looked) (λ write number none is. none) (swept_fresh rules ticks id looked))
    (all_both (λ unit. IsNumber top unit.usn) (FreshWhere given rules ticks) (FreshWhere (also_between given top after) rules ticks) list
    (λ unit number before is. before (old_given given top after unit.usn number.1 is)) numbers fresh)

pub step_within : (given : Given) (top after : ℕ) → top ≤ after → ((number : ℕ) → given number ≡ true → number ≤ top) → (number : ℕ) → also_between given top after number ≡ true
    → number ≤ after
step_within given top after more within number is =
    either (given number) (nat_lt top number && nat_le number after) (number ≤ after) is
    (λ before. let most : number ≤ top = within number before in omega arith)
    (λ new. leb-true number after (and_second (nat_lt top number) (nat_le number after) new))

-- ---- what a finished pass leaves

old_last : (rules : ZoneRules) (pass : Pass) (most : ℕ) (id : ReplicaId) (list : List units.Unit) (top : ℕ) → pass.start ≤ top → IsSoundList list top → Keeps rules pass list
    → is_last_step pass.after most list ≡ true → AllByRecursion (AtLast rules pass) (units_after list top (sweep rules pass.moment id (looked_at pass.after most list)))
old_last rules pass most id list top start sound keeps last =
    let looked = looked_at pass.after most list in
    let writes = sweep rules pass.moment id looked in
    all_taken_old (AtLast rules pass) list top writes sound.ordered
    (λ unit more old. absurd (true≢false (sym old ∙ new_not_old rules pass top unit start more)))
    (spans_all_last (UnlessWritten rules pass writes) pass.after most list last (behind_all rules pass writes list keeps) (looked_last rules pass id looked))

old_count : (rules : ZoneRules) (pass : Pass) (most : ℕ) (id : ReplicaId) (list : List units.Unit) (top : ℕ) → pass.start ≤ top → IsSoundList list top → Keeps rules pass list
    → is_last_step pass.after most list ≡ true
    → count_by (is_old_stale rules pass) (units_after list top (sweep rules pass.moment id (looked_at pass.after most list)))
    ≤ pass.skipped + count_by (is_skipped rules pass.moment) (looked_at pass.after most list)
old_count rules pass most id list top start sound keeps last =
    let looked = looked_at pass.after most list in
    let writes = sweep rules pass.moment id looked in
    let after : count_by (is_old_stale rules pass) (units_after list top writes) ≤ count_by (is_unwritten rules pass writes) list =
    count_taken_old (is_old_stale rules pass) (is_unwritten rules pass writes) list top writes sound.ordered
    (λ unit more. new_not_old rules pass top unit start more)
    (all_of (λ unit. is_written writes unit.key ≡ false → is_old_stale rules pass unit ≡ true → is_unwritten rules pass writes unit ≡ true) list
    (λ unit unwritten old. and_both (is_old_stale rules pass unit) (not (is_written writes unit.key)) old (not_false (is_written writes unit.key) unwritten))) in
    let spans : count_by (is_unwritten rules pass writes) list
    ≤ count_by (λ unit. not (is_above pass.after unit) && is_unwritten rules pass writes unit) list + count_by (is_unwritten rules pass writes) looked =
    spans_count_last (is_unwritten rules pass writes) pass.after most list last in
    let before : count_by (λ unit. not (is_above pass.after unit) && is_unwritten rules pass writes unit) list ≤ pass.skipped = behind_count rules pass writes list keeps in
    let here : count_by (is_unwritten rules pass writes) looked ≤ count_by (is_skipped rules pass.moment) looked = looked_count rules pass id looked in
    omega arith

untouched_old : (rules : ZoneRules) (pass : Pass) (given : Given) (unit : units.Unit) → FreshWhere given rules pass.moment unit → is_untouched given pass unit ≡ true
    → has_stale rules pass.moment unit ≡ true → is_old_stale rules pass unit ≡ true
unfolding is_untouched
untouched_old rules pass given unit fresh untouched stale =
    either (nat_le unit.usn pass.start) (given unit.usn) (is_old_stale rules pass unit ≡ true) untouched
    (λ old. and_both (nat_le unit.usn pass.start) (has_stale rules pass.moment unit) old stale)
    (λ new. absurd (true≢false (sym stale ∙ fresh new)))

pub leaves_none : (rules : ZoneRules) (pass : Pass) (most : ℕ) (id : ReplicaId) (list : List units.Unit) (top : ℕ) (given : Given) → pass.start ≤ top → IsSoundList list top
    → Keeps rules pass list → is_last_step pass.after most list ≡ true
    → top + length (sweep rules pass.moment id (looked_at pass.after most list)) ≤ change_limit
    → AllByRecursion (FreshWhere given rules pass.moment) (units_after list top (sweep rules pass.moment id (looked_at pass.after most list)))
    → LeavesNone rules pass given (units_after list top (sweep rules pass.moment id (looked_at pass.after most list))) (pass_after pass rules id (looked_at pass.after most list)).skipped
unfolding pass_after
leaves_none rules pass most id list top given start sound keeps last within fresh =
    let looked = looked_at pass.after most list in
    let writes = sweep rules pass.moment id looked in
    let after = units_after list top writes in
    let fewer : count_by (λ unit. is_untouched given pass unit && has_stale rules pass.moment unit) after ≤ count_by (is_old_stale rules pass) after =
    count_mono (λ unit. is_untouched given pass unit && has_stale rules pass.moment unit) (is_old_stale rules pass) after
    (all_then (FreshWhere given rules pass.moment)
    (λ unit. (is_untouched given pass unit && has_stale rules pass.moment unit) ≡ true → is_old_stale rules pass unit ≡ true) after
    (λ unit none both.
    untouched_old rules pass given unit none (and_first (is_untouched given pass unit) (has_stale rules pass.moment unit) both)
    (and_second (is_untouched given pass unit) (has_stale rules pass.moment unit) both)) fresh) in
    let some : count_by (is_old_stale rules pass) after ≤ add_capped pass.skipped (count_by (is_skipped rules pass.moment) looked) =
    within_raised pass.skipped (count_by (is_skipped rules pass.moment) looked) (count_by (is_old_stale rules pass) after)
    (old_count rules pass most id list top start sound keeps last)
    (within_all (is_old_stale rules pass) after (top + length writes) change_limit (sound_taken list top writes sound) within) in
    record {
      last =
          all_both (AtLast rules pass) (FreshWhere given rules pass.moment)
          (λ unit. is_untouched given pass unit ≡ true → has_stale rules pass.moment unit ≡ true → is_at_last unit ≡ true) after
          (λ unit at none untouched stale. at (untouched_old rules pass given unit none untouched stale))
          (old_last rules pass most id list top start sound keeps last) fresh;
      count = le_trans fewer some;
    }
