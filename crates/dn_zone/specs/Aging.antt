-- What passes of the scavenger do, whatever else happens to a zone between their steps: they take away stale records alone,
-- and a finished pass leaves none on what nothing else has touched.
use Rattle.std.specs.Prelude.{◌≡◌, ◌≤◌, ℕ, Bool, true, false, ◌&&◌, ◌||◌, nat_lt, nat_le, List, [], ◌∷◌, count_by, Option, None, Some}
use Rattle.std.specs.List.{AllByRecursion}
use Rattle.dn_io.specs.Moments.{hour_of}
use Rattle.dn_property.specs.declared.rules.ZoneRules.{ZoneRules}
use Rattle.dn_property.specs.Hours.{is_due}
use Rattle.dn_property.specs.Rules.{rules_of}
use Rattle.dn_store.specs.declared.unit.Unit as units
use Rattle.dn_store.specs.Contents.{properties_of}
use Rattle.dn_pass.specs.declared.pass.Pass.{Pass}
use Rattle.dn_pass.specs.Aging.{has_stale, TakesStaleAlone}
use Rattle.dn_pass.specs.Pass.{is_at_last}
use Rattle.dn_zone.specs.declared.event.Answer.{Answer}
use Rattle.dn_zone.specs.declared.event.Event.{Event}
use Rattle.dn_zone.specs.declared.event.Event.TheVariants as events
use Rattle.dn_zone.specs.State.{ZoneState}
use Rattle.dn_zone.specs.Outcome.{OfVoid, WhereOver, outcome_of}
use Rattle.dn_zone.specs.Zone.{zstep}

abbrev pub rules_at : ZoneState → ZoneRules
rules_at zone = rules_of (properties_of zone.table.0)

-- the numbers of the changes that the steps of the running pass made
abbrev pub Given : Type 0
Given = ℕ → Bool

abbrev pub none_given : Given
none_given number = false

abbrev pub also_between : Given → ℕ → ℕ → Given
also_between given before after number = given number || (nat_lt before number && nat_le number after)

abbrev pub given_at_begin : Given → Option Pass → Given
given_at_begin given None = none_given
given_at_begin given (Some pass) = given

-- The same after an event. A pass that begins has made none.
abbrev pub given_behind : Given → ZoneState → Event → Given
given_behind given zone (events.Admin cmd moment) = given
given_behind given zone (events.Begin moment) = given_at_begin given zone.pass
given_behind given zone (events.Step most) = also_between given zone.table.1 (zstep zone (events.Step most)).0.table.1
given_behind given zone (events.Merge changes) = given

-- Nothing else has written the unit since the pass began: its number is from before, or a step of this pass gave it.
unfoldable pub is_untouched : Given → Pass → units.Unit → Bool
is_untouched given pass unit = nat_le unit.usn pass.start || given unit.usn

-- Where a pass finished: of the nodes that nothing else has touched, those with a stale record are at their last version, and
-- there are at most as many of them as it skipped.
pub record LeavesNone (rules : ZoneRules) (pass : Pass) (given : Given) (list : List units.Unit) (skipped : ℕ) : Type 0 where
  pub last : AllByRecursion (λ unit. is_untouched given pass unit ≡ true → has_stale rules pass.moment unit ≡ true → is_at_last unit ≡ true) list
  pub count : count_by (λ unit. is_untouched given pass unit && has_stale rules pass.moment unit) list ≤ skipped

-- A step of a running pass: the zone is due at the pass's hour, stale records alone go, and where the pass finished none is
-- left on what nothing else has touched.
pub record StepAges (zone : ZoneState) (pass : Pass) (given : Given) (after : ZoneState × Answer) : Type 0 where
  pub due : is_due (rules_at zone) (hour_of pass.moment) ≡ true
  pub rows : TakesStaleAlone (rules_at zone) pass.moment zone.table.0 after.0.table.0
  pub finished : WhereOver (outcome_of after.1) (LeavesNone (rules_at zone) pass given after.0.table.0)

-- No unit changes, so no record at any key does.
abbrev pub LeavesUnits : ZoneState → ZoneState × Answer → Type 0
LeavesUnits zone after = after.0.table ≡ zone.table

-- A step: one that is idle, since no pass runs, or that gives a void pass up, leaves each unit as it is.
abbrev pub StepOf : Option Pass → ZoneState → Given → ZoneState × Answer → Type 0
StepOf None zone given after = LeavesUnits zone after
StepOf (Some pass) zone given after = OfVoid (outcome_of after.1) (LeavesUnits zone after) (StepAges zone pass given after)

-- One event. A pass that begins, or doesn't, leaves each unit as it is.
abbrev pub EventAges : ZoneState → Given → Event → Type 0
EventAges zone given (events.Admin cmd moment) = Unit {0}
EventAges zone given (events.Begin moment) = LeavesUnits zone (zstep zone (events.Begin moment))
EventAges zone given (events.Step most) =
    StepOf zone.pass zone (given_behind given zone (events.Step most)) (zstep zone (events.Step most))
EventAges zone given (events.Merge changes) = Unit {0}

-- a list of events, each in the state behind those before it
abbrev pub Ages : ZoneState → Given → List Event → Type 0
Ages zone given [] = Unit {0}
Ages zone given (event ∷ rest) = EventAges zone given event × Ages (zstep zone event).0 (given_behind given zone event) rest
