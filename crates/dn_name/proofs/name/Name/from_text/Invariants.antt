use Rattle.std.proofs.Common.{◌≡◌, ◌≤◌, [], length}
use Rattle.dn_name.specs.Reading.{completed}
use Rattle.dn_name.specs.Text.{name_of_text}
use Rattle.dn_name.proofs.name.Name.from_text.Given as goal

abbrev pub invariant-loop-text : goal.invariant-loop-text
invariant-loop-text l = (length l.rest ≤ length l.text) × (name_of_text l.text ≡ completed l.name [] l.rest)

abbrev pub decreases-loop-text : goal.decreases-loop-text
decreases-loop-text l = length l.rest
