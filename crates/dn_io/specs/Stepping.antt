-- What a call that takes memory does to a state.
use Rattle.std.specs.Prelude.{◌≡◌, Result, Ok, Err}

-- The state made a step to that state, with that answer; or the call failed, and the state is as before.
abbrev pub StepsOrStays : {S A E : Type 0} → Result A E → S → S → S × A → Type 0
StepsOrStays (Ok answer) old new after = after ≡ (new, answer)
StepsOrStays (Err why) old new after = new ≡ old
