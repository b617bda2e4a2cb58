-- Passes: their begin, their steps, and every list of events.
use Rattle.std.proofs.Common.{◌≡◌, ℕ, ◌+◌, ◌<◌, ◌≤◌, Bool, true, false, cond, List, [], ◌∷◌, length, nat_lt, nat_le, ◌&&◌, Option, None, Some, refl, sym, subst, arith}
use Rattle.std.proofs.lemmas.Bool.{leb-true, ltb-false, ltb-true}
use Rattle.std.specs.List.{AllByRecursion}
use Rattle.std.specs.List.Sorted.{IsStrictlySortedBy}
use Rattle.dn_property.specs.Rules.{rules_of}
use Rattle.dn_store.specs.declared.unit.Unit as units
use Rattle.dn_store.specs.declared.unit.Write.{Write}
use Rattle.dn_store.specs.Contents.{props_number, properties_of}
use Rattle.dn_store.specs.Table.{change_limit, units_after}
use Rattle.dn_store.proofs.CallerLemmas.{all_then, and_first, and_second, either, sound_taken}
use Rattle.dn_update.specs.declared.plan.Limit.TheVariants as limits
use Rattle.dn_pass.specs.declared.pass.Pass.{Pass}
use Rattle.dn_pass.specs.declared.pass.StepPlan.{StepPlan}
use Rattle.dn_pass.specs.declared.pass.StepPlan.TheVariants as plans
use Rattle.dn_pass.specs.Pass.{new_pass_if_due, pass_after, is_last_step, looked_at, plan_for, planned, step_plan, sweep}
use Rattle.dn_pass.proofs.CallerLemmas.{rows_swept}
use Rattle.dn_zone.specs.declared.event.Answer.{Answer}
use Rattle.dn_zone.specs.declared.event.Answer.TheVariants as answers
use Rattle.dn_zone.specs.declared.event.Event.{Event}
use Rattle.dn_zone.specs.declared.event.Event.TheVariants as events
use Rattle.dn_zone.specs.State.{ZoneState}
use Rattle.dn_zone.specs.Aging.{Ages, EventAges, Given, StepAges, LeavesNone, LeavesUnits, StepOf, also_between, given_at_begin, given_behind, none_given, rules_at}
use Rattle.dn_zone.specs.Creation.{created, first_writes, joined_zone}
use Rattle.dn_zone.specs.Outcome.{OfVoid, WhereOver, outcome_of}
use Rattle.dn_zone.specs.Zone.{begin_at, begin_step, begin_unless, finished, pass_step, step_by, step_of, swept_zone, zstep}
use Rattle.dn_zone.proofs.AgingEvents.{Both, BothZone, admin_both, merge_both}
use Rattle.dn_zone.proofs.AgingSound.{IsSound, Keeps, properties_same, rules_same, sound_after, sound_begun, sound_without}
use Rattle.dn_zone.proofs.AgingSteps.{runs_stepped}
use Rattle.dn_zone.proofs.Keeping.{Keeping}
use Rattle.dn_zone.proofs.OwnWrites.{FreshWhere, GivenSound, leaves_none, none_sound, step_fresh, step_within}

-- ---- a pass begins

begun_both : (given : Given) (zone : ZoneState) (moment : ℕ) (found : Option Pass) → new_pass_if_due zone.table moment ≡ found → zone.pass ≡ None → BothZone given zone
    → BothZone none_given (begin_at zone moment found).0
begun_both given zone moment None is idle both = (both.0, none_sound zone.table.0 zone.table.1 zone.pass)
begun_both given zone moment (Some pass) is idle both =
    (sound_begun zone.table.0 zone.table.1 moment zone.pass pass is both.0, none_sound zone.table.0 zone.table.1 (Some pass))

begin_by : (given : Given) (zone : ZoneState) (moment : ℕ) (running : Option Pass) → zone.pass ≡ running → BothZone given zone
    → BothZone (given_at_begin given running) (begin_unless running zone moment).0
begin_by given zone moment None is both = begun_both given zone moment (new_pass_if_due zone.table moment) refl is both
begin_by given zone moment (Some pass) is both = both

begin_both : (given : Given) (zone : ZoneState) (moment : ℕ) → BothZone given zone → BothZone (given_behind given zone (events.Begin moment)) (begin_step zone moment).0
unfolding begin_step
begin_both given zone moment both = begin_by given zone moment zone.pass refl both

-- no unit changes where a pass begins, nor where it doesn't
begin_leaves_at : (zone : ZoneState) (moment : ℕ) (found : Option Pass) → LeavesUnits zone (begin_at zone moment found)
begin_leaves_at zone moment None = refl
begin_leaves_at zone moment (Some pass) = refl

begin_leaves_by : (running : Option Pass) (zone : ZoneState) (moment : ℕ) → LeavesUnits zone (begin_unless running zone moment)
begin_leaves_by None zone moment = begin_leaves_at zone moment (new_pass_if_due zone.table moment)
begin_leaves_by (Some pass) zone moment = refl

begin_leaves : (zone : ZoneState) (moment : ℕ) → LeavesUnits zone (begin_step zone moment)
unfolding begin_step
begin_leaves zone moment = begin_leaves_by zone.pass zone moment

-- ---- a pass goes on

-- what a step leaves and what it says
record StepOut (given : Given) (zone : ZoneState) (running : Option Pass) (after : ZoneState × Answer) : Type 0 where
  both : BothZone (also_between given zone.table.1 after.0.table.1) after.0
  ages : StepOf running zone (also_between given zone.table.1 after.0.table.1) after

-- nothing was written
still : (given : Given) (list : List units.Unit) (top : ℕ) (pass : Option Pass) → GivenSound list top pass given → GivenSound list top None (also_between given top top)
still given list top pass fresh = record { within = step_within given top top (omega arith) fresh.within; fresh = tt }

still_fresh : (given : Given) (top number : ℕ) → also_between given top top number ≡ true → given number ≡ true
still_fresh given top number is =
    either (given number) (nat_lt top number && nat_le number top) (given number ≡ true) is (λ before. before)
    (λ new.
    let above : top < number = ltb-true top number (and_first (nat_lt top number) (nat_le number top) new) in
    let within : number ≤ top = leb-true number top (and_second (nat_lt top number) (nat_le number top) new) in
    absurd (omega arith))

pass_still : (given : Given) (list : List units.Unit) (top : ℕ) (pass : Pass) → GivenSound list top (Some pass) given → GivenSound list top (Some pass) (also_between given top top)
pass_still given list top pass fresh =
    record {
      within = step_within given top top (omega arith) fresh.within;
      fresh = λ old.
          all_then (FreshWhere given (rules_of (properties_of list)) pass.moment) (FreshWhere (also_between given top top) (rules_of (properties_of list)) pass.moment) list
          (λ unit none is. none (still_fresh given top unit.usn is)) (fresh.fresh old);
    }

-- what a step over the units of a zone needs
record Running (given : Given) (zone : ZoneState) (pass : Pass) : Type 0 where
  both : Both given zone.table.0 zone.table.1 (Some pass)
  is : zone.pass ≡ Some pass
  old : props_number zone.table.0 ≤ pass.start

kept_in : (given : Given) (zone : ZoneState) (pass : Pass) → Running given zone pass → Keeps (rules_at zone) pass zone.table.0
kept_in given zone pass running = running.both.0.passing.kept running.old

-- the change count would pass its limit: nothing happens
refused_out : (given : Given) (zone : ZoneState) (pass : Pass) (answer : Answer) → Running given zone pass → OfVoid (outcome_of answer) (LeavesUnits zone (zone, answer)) (StepAges zone pass (also_between given zone.table.1 zone.table.1) (zone, answer))
    → StepOut given zone (Some pass) (zone, answer)
refused_out given zone pass answer running ages =
    record {
      both =
          subst (λ (one : Option Pass). Both (also_between given zone.table.1 zone.table.1) zone.table.0 zone.table.1 one) (sym running.is)
          (running.both.0, pass_still given zone.table.0 zone.table.1 pass running.both.1);
      ages = ages;
    }

written_given : (given : Given) (zone : ZoneState) (pass : Pass) (most : ℕ) → Running given zone pass
    → let rules = rules_at zone in let writes = sweep rules pass.moment zone.id (looked_at pass.after most zone.table.0) in
    AllByRecursion (FreshWhere (also_between given zone.table.1 (zone.table.1 + length writes)) rules pass.moment) (units_after zone.table.0 zone.table.1 writes)
written_given given zone pass most running =
    let writes = sweep (rules_at zone) pass.moment zone.id (looked_at pass.after most zone.table.0) in
    step_fresh (rules_at zone) pass.moment zone.id (looked_at pass.after most zone.table.0) zone.table.0 zone.table.1 (zone.table.1 + length writes) given
    running.both.0.units.numbers (running.both.1.fresh running.old)

given_within : (given : Given) (zone : ZoneState) (pass : Pass) (more : ℕ) → Running given zone pass → (number : ℕ) → also_between given zone.table.1 (zone.table.1 + more) number ≡ true
    → number ≤ zone.table.1 + more
given_within given zone pass more running = step_within given zone.table.1 (zone.table.1 + more) (omega arith) running.both.1.within

moved_out : (given : Given) (zone : ZoneState) (pass : Pass) (most : ℕ) → Running given zone pass
    → let rules = rules_at zone in let looked = looked_at pass.after most zone.table.0 in let writes = sweep rules pass.moment zone.id looked in
    zone.table.1 + length writes ≤ change_limit
    → StepOut given zone (Some pass) (swept_zone zone writes (Some (pass_after pass rules zone.id looked)), answers.Moved)
unfolding pass_after
moved_out given zone pass most running within =
    let rules = rules_at zone in
    let looked = looked_at pass.after most zone.table.0 in
    let writes = sweep rules pass.moment zone.id looked in
    let fresh = written_given given zone pass most running in
    let sound = running.both.0.units in
    record {
      both = (
        record {
          units = sound_taken zone.table.0 zone.table.1 writes sound;
          most = within;
          passing = runs_stepped zone.table.0 zone.table.1 pass most zone.id sound running.both.0.passing running.old within;
        },
        record {
          within = given_within given zone pass (length writes) running;
          fresh = λ later.
              subst (λ items. AllByRecursion (FreshWhere (also_between given zone.table.1 (zone.table.1 + length writes)) (rules_of items) pass.moment) (units_after zone.table.0 zone.table.1 writes))
              (sym (properties_same zone.table.0 (units_after zone.table.0 zone.table.1 writes)
              (rules_same zone.table.0 zone.table.1 pass.start writes running.both.0.passing.start sound later))) fresh;
        },
      );
      ages =
          record {
            due = (kept_in given zone pass running).due;
            rows = rows_swept rules pass.moment zone.id pass.after most zone.table.1 zone.table.0 sound.ordered;
            finished = tt;
          };
    }

finished_out : (given : Given) (zone : ZoneState) (pass : Pass) (most : ℕ) → Running given zone pass → is_last_step pass.after most zone.table.0 ≡ true
    → let rules = rules_at zone in let looked = looked_at pass.after most zone.table.0 in let writes = sweep rules pass.moment zone.id looked in
    zone.table.1 + length writes ≤ change_limit
    → StepOut given zone (Some pass) (swept_zone zone writes None, finished zone (pass_after pass rules zone.id looked) writes)
finished_out given zone pass most running last within =
    let rules = rules_at zone in
    let looked = looked_at pass.after most zone.table.0 in
    let writes = sweep rules pass.moment zone.id looked in
    let sound = running.both.0.units in
    record {
      both = (
        record { units = sound_taken zone.table.0 zone.table.1 writes sound; most = within; passing = tt },
        record { within = given_within given zone pass (length writes) running; fresh = tt },
      );
      ages =
          record {
            due = (kept_in given zone pass running).due;
            rows = rows_swept rules pass.moment zone.id pass.after most zone.table.1 zone.table.0 sound.ordered;
            finished =
                leaves_none rules pass most zone.id zone.table.0 zone.table.1 (also_between given zone.table.1 (zone.table.1 + length writes)) running.both.0.passing.start sound
                (kept_in given zone pass running) last within (written_given given zone pass most running);
          };
    }

refused_ages : (given : Given) (zone : ZoneState) (pass : Pass) (answer : Answer) → Running given zone pass → WhereOver (outcome_of answer) (LeavesNone (rules_at zone) pass (also_between given zone.table.1 zone.table.1) zone.table.0)
    → StepAges zone pass (also_between given zone.table.1 zone.table.1) (zone, answer)
refused_ages given zone pass answer running finished =
    record { due = (kept_in given zone pass running).due; rows = λ key. (false, refl); finished = finished }

full_out : (full : Bool) (given : Given) (zone : ZoneState) (pass : Pass) (writes : List Write) (after : ZoneState × Answer) → nat_lt change_limit (zone.table.1 + length writes) ≡ full
    → Running given zone pass → (zone.table.1 + length writes ≤ change_limit → StepOut given zone (Some pass) after)
    → StepOut given zone (Some pass) (cond {A = ZoneState × Answer} full (zone, answers.Refused limits.Changes) after)
full_out true given zone pass writes after is running out =
    refused_out given zone pass (answers.Refused limits.Changes) running (refused_ages given zone pass (answers.Refused limits.Changes) running tt)
full_out false given zone pass writes after is running out = out (ltb-false change_limit (zone.table.1 + length writes) is)

planned_out : (last : Bool) (given : Given) (zone : ZoneState) (pass : Pass) (most : ℕ) → is_last_step pass.after most zone.table.0 ≡ last → Running given zone pass
    → let rules = rules_at zone in let looked = looked_at pass.after most zone.table.0 in let writes = sweep rules pass.moment zone.id looked in
    StepOut given zone (Some pass) (step_by zone (plan_for last writes (pass_after pass rules zone.id looked)))
planned_out true given zone pass most is running =
    let writes = sweep (rules_at zone) pass.moment zone.id (looked_at pass.after most zone.table.0) in
    full_out (nat_lt change_limit (zone.table.1 + length writes)) given zone pass writes _ refl running (finished_out given zone pass most running is)
planned_out false given zone pass most is running =
    let writes = sweep (rules_at zone) pass.moment zone.id (looked_at pass.after most zone.table.0) in
    full_out (nat_lt change_limit (zone.table.1 + length writes)) given zone pass writes _ refl running (moved_out given zone pass most running)

void_out : (void : Bool) (given : Given) (zone : ZoneState) (pass : Pass) (most : ℕ) → nat_lt pass.start (props_number zone.table.0) ≡ void → zone.pass ≡ Some pass
    → Both given zone.table.0 zone.table.1 (Some pass)
    → StepOut given zone (Some pass)
    (step_by zone (cond {A = StepPlan} void (plans.Void (props_number zone.table.0)) (planned zone.table.0 pass most zone.id (rules_at zone))))
void_out true given zone pass most is running both =
    record {
      both = (sound_without zone.table.0 zone.table.1 (Some pass) both.0, still given zone.table.0 zone.table.1 (Some pass) both.1);
      ages = refl;
    }
void_out false given zone pass most is running both =
    planned_out (is_last_step pass.after most zone.table.0) given zone pass most refl
    (record { both = both; is = running; old = ltb-false pass.start (props_number zone.table.0) is })

step_out_by : (running : Option Pass) (given : Given) (zone : ZoneState) (most : ℕ) → zone.pass ≡ running → BothZone given zone → StepOut given zone running (step_of running zone most)
unfolding step_plan
step_out_by None given zone most is both =
    record {
      both = subst (λ (one : Option Pass). Both (also_between given zone.table.1 zone.table.1) zone.table.0 zone.table.1 one) (sym is)
          (sound_without zone.table.0 zone.table.1 zone.pass both.0, still given zone.table.0 zone.table.1 zone.pass both.1);
      ages = refl;
    }
step_out_by (Some pass) given zone most is both =
    void_out (nat_lt pass.start (props_number zone.table.0)) given zone pass most refl is (subst (λ (one : Option Pass). Both given zone.table.0 zone.table.1 one) is both)

step_out : (given : Given) (zone : ZoneState) (most : ℕ) → BothZone given zone → StepOut given zone zone.pass (pass_step zone most)
unfolding pass_step
step_out given zone most both = step_out_by zone.pass given zone most refl both

-- ---- every event, and every list of events

pub event_both : (given : Given) (zone : ZoneState) (event : Event) → BothZone given zone → BothZone (given_behind given zone event) (zstep zone event).0
unfolding zstep
event_both given zone (events.Admin cmd moment) both = admin_both given zone cmd moment both
event_both given zone (events.Begin moment) both = begin_both given zone moment both
event_both given zone (events.Step most) both = (step_out given zone most both).both
event_both given zone (events.Merge changes) both = merge_both given zone changes both

pub event_ages : (given : Given) (zone : ZoneState) (event : Event) → BothZone given zone → EventAges zone given event
unfolding zstep
event_ages given zone (events.Admin cmd moment) both = tt
event_ages given zone (events.Begin moment) both = begin_leaves zone moment
event_ages given zone (events.Step most) both = (step_out given zone most both).ages
event_ages given zone (events.Merge changes) both = tt

all_age : (list : List Event) (given : Given) (zone : ZoneState) → BothZone given zone → Ages zone given list
all_age [] given zone both = tt
all_age (event ∷ rest) given zone both =
    (event_ages given zone event both, all_age rest (given_behind given zone event) (zstep zone event).0 (event_both given zone event both))

abbrev pub SoundZone : ZoneState → Type 0
SoundZone zone = IsSound zone.table.0 zone.table.1 zone.pass

pub sound_ages : (zone : ZoneState) (list : List Event) → SoundZone zone → Ages zone none_given list
sound_ages zone list sound = all_age list none_given zone (sound, none_sound zone.table.0 zone.table.1 zone.pass)

empty_sound : IsSound [] 0 None
unfolding IsStrictlySortedBy
empty_sound = record { units = record { ordered = tt; numbers = tt; differ = tt }; most = omega arith; passing = tt }

pub zones_sound : Keeping SoundZone
unfolding created joined_zone first_writes
zones_sound =
    record {
      created = λ id host apex mailbox ticks. sound_after [] 0 None (first_writes id host apex mailbox ticks) (omega arith) empty_sound;
      joined = λ id host apex. empty_sound;
      event = λ zone event sound. (event_both none_given zone event (sound, none_sound zone.table.0 zone.table.1 zone.pass)).0;
    }
