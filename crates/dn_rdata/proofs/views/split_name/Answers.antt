use Rattle.dn_rdata.proofs.ViewLemmas.{name_behind, name_missed}
use Rattle.dn_rdata.proofs.views.split_name.Goals as goal

pub unreachable-requires : goal.unreachable-requires
unreachable-requires c = name_missed c.args.bytes.now c.requires c.in-None.ensures.only

pub returns-clause-only : goal.returns-clause-only
returns-clause-only c = name_behind c.args.bytes.now c.in-Some.behind.now c.split_at.result.1.now c.in-Some.ensures.found c.in-Some.ensures.only c.split_at.ensures.back
