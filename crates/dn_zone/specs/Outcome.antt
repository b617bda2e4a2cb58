-- What an answer says of the pass of a zone.
use Rattle.std.specs.Prelude.{ℕ, Bool, true, false}
use Rattle.dn_zone.specs.declared.event.Answer.{Answer}
use Rattle.dn_zone.specs.declared.event.Answer.TheVariants as answers

-- a pass began, goes on, is over and has skipped so many units, or was given up; or the answer is about something else
pub data StepOutcome : Type 0 where
  HasBegun : StepOutcome
  GoesOn : StepOutcome
  IsOver : ℕ → StepOutcome
  IsVoid : StepOutcome
  IsOther : StepOutcome

abbrev pub outcome_of : Answer → StepOutcome
outcome_of (answers.Admin done) = IsOther
outcome_of answers.Begun = HasBegun
outcome_of answers.NotDue = IsOther
outcome_of (answers.Busy hour) = IsOther
outcome_of answers.Moved = GoesOn
outcome_of (answers.Finished start end removed entombed deleted skipped) = IsOver skipped
outcome_of (answers.Void props_usn) = IsVoid
outcome_of answers.Idle = IsOther
outcome_of (answers.Merged won) = IsOther
outcome_of (answers.Gap cursor from) = IsOther
outcome_of (answers.Refused limit) = IsOther

abbrev pub has_begun : StepOutcome → Bool
has_begun HasBegun = true
has_begun GoesOn = false
has_begun (IsOver skipped) = false
has_begun IsVoid = false
has_begun IsOther = false

abbrev pub goes_on : StepOutcome → Bool
goes_on HasBegun = false
goes_on GoesOn = true
goes_on (IsOver skipped) = false
goes_on IsVoid = false
goes_on IsOther = false

-- where the pass is over
abbrev pub WhereOver : StepOutcome → (ℕ → Type 0) → Type 0
WhereOver HasBegun Then = Unit {0}
WhereOver GoesOn Then = Unit {0}
WhereOver (IsOver skipped) Then = Then skipped
WhereOver IsVoid Then = Unit {0}
WhereOver IsOther Then = Unit {0}

-- the one where the pass was given up, and else the other
abbrev pub OfVoid : StepOutcome → Type 0 → Type 0 → Type 0
OfVoid HasBegun Void Else = Else
OfVoid GoesOn Void Else = Else
OfVoid (IsOver skipped) Void Else = Else
OfVoid IsVoid Void Else = Void
OfVoid IsOther Void Else = Else
