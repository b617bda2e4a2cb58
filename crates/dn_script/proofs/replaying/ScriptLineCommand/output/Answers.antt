use Rattle.dn_script.proofs.PlayRuns.{step_valid}
use Rattle.dn_script.proofs.replaying.ScriptLineCommand.output.Goals as goal

pub returns-clause-stays : goal.returns-clause-stays
returns-clause-stays c = step_valid c.args.self.now c.step.new.self c.args.text.now c.step.result c.requires c.step.ensures
