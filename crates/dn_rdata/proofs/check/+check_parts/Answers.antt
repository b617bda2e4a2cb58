use Rattle.dn_rdata.proofs.PartLemmas.{is_missing, no_part, part_then}
use Rattle.dn_rdata.proofs.check.+check_parts.Goals as goal

pub fault_of_part-requires-clause-missing : goal.fault_of_part-requires-clause-missing
fault_of_part-requires-clause-missing t c =
    is_missing c.in-Some.part.now c.in-Some.parts.now c.args.parts.now c.in-Some.ensures.cases.0 c.args.bytes.now c.args.at c.split_at.result.1.now c.split_at.ensures.back
    c.in-None-behind_part.ensures.only

pub returns-in-Some-behind_part-clause-exact : goal.returns-in-Some-behind_part-clause-exact
returns-in-Some-behind_part-clause-exact t c =
    let read = c.in-Some-behind_part.ensures in
    part_then c.in-Some.part.now c.in-Some.parts.now c.args.parts.now c.in-Some.ensures.cases.0 c.args.bytes.now c.args.at c.split_at.result.1.now c.split_at.ensures.back
    c.in-Some-behind_part.behind.now c.saturating_sub.result read.found read.only c.saturating_sub.ensures c.check_parts.result c.check_parts.ensures.exact

pub returns-in-None-behind_part-clause-exact : goal.returns-in-None-behind_part-clause-exact
returns-in-None-behind_part-clause-exact t c = (
  λ ok. absurd (cc),
  λ are. absurd (no_part c.in-Some.part.now c.in-Some.parts.now c.args.parts.now c.in-Some.ensures.cases.0 c.args.bytes.now c.args.at c.split_at.result.1.now c.split_at.ensures.back
      c.in-None-behind_part.ensures.only are),
)
