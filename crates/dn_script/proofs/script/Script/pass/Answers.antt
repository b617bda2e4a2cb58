use Rattle.dn_script.proofs.LineLemmas.{pass_steps}
use Rattle.dn_script.proofs.script.Script.pass.Goals as goal

pub returns : goal.returns
returns c = pass_steps c.args.self.now c.args.replica.now c.args.apex.now c.in_ok-at.at (c.whole_pass.new.world, c.in_ok-answer.answer) c.output_of.result (c.in_ok-at.ensures) c.in_ok-answer.ensures c.output_of.ensures
