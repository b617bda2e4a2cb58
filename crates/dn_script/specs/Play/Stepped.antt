-- What a body tells of a line is the script's step: its output and the script behind it, or that it isn't valid.
use Rattle.std.specs.Prelude.{◌≡◌, ℕ, List, Option, None, Some, Result, Ok, Err, ⊤}
use Rattle.dn_lines.specs.declared.bad.Bad.{Bad}
use Rattle.dn_lines.specs.declared.bad.Bad.TheVariants as bad
use Rattle.dn_script.specs.declared.script.Script.{Script}
use Rattle.dn_script.specs.Play.{Step, step_text}
use Rattle.dn_lines.specs.Said.{GivesIn}

-- why there is nothing: the line isn't valid, or memory ran out
abbrev pub Lacks : {X : Type 0} → Bad → Option X → Type 0
Lacks bad.Line there = there ≡ None
Lacks bad.Memory there = ⊤

-- what was given is what is there, unless memory ran out
abbrev pub GivesOrLacks : {X : Type 0} → Result X Bad → Option X → Type 0
GivesOrLacks (Ok value) there = there ≡ Some value
GivesOrLacks (Err why) there = Lacks why there

-- The same where memory plays no part: without the value the line isn't valid.
abbrev pub GivesOrRefuses : {X : Type 0} → Result X Bad → Option X → Type 0
GivesOrRefuses (Ok value) there = there ≡ Some value
GivesOrRefuses (Err why) there = (there ≡ None) × (why ≡ bad.Line)

abbrev pub Steps : Result (List ℕ) Bad → Script → Step → Type 0
Steps (Ok output) now step = step ≡ Some (now, output)
Steps (Err why) now step = Lacks why step

-- what the text of a line gives to a replay: what the script's step by it is
abbrev pub Replays : GivesIn Script
Replays script text given = step_text script text ≡ given
