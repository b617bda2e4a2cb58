use Rattle.std.proofs.Common.{ap, sym, ◌∙◌}
use Rattle.dn_answer.specs.Told.{value_of}
use Rattle.dn_script.proofs.asking.value_in.Goals as goal

pub unreachable-requires-in-Err-Form : goal.unreachable-requires-in-Err-Form
unreachable-requires-in-Err-Form c = (rw c.in-Err-Form.field-0-is at c.in-Err-Form.ensures.exact) c.requires.0 c.requires.2

pub returns-in-Some : goal.returns-in-Some
returns-in-Some c = λ reply is. ap value_of (c.in-Ok.ensures.exact.1 reply is) ∙ sym c.value_of.ensures ∙ c.in-Some.is
