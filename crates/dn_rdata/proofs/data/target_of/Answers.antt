use Rattle.std.proofs.Common.{ap, drop, ◌∙◌}
use Rattle.dn_rdata.specs.Record.{bytes_before_names}
use Rattle.dn_rdata.proofs.TargetLemmas.{drop_cut, target_found}
use Rattle.dn_rdata.proofs.data.target_of.Goals as goal

pub returns : goal.returns
returns c =
    target_found c.args.row.now _ c.in_ok-name.name _ c.in_ok-name.ensures.plain
    (c.split_at.ensures.back ∙ drop_cut (bytes_before_names c.args.row.now.rtype) c.min-start.result c.as_slice-rdata.result.now (rw c.bytes_before_names.ensures at c.min-start.ensures) ∙ ap (drop (bytes_before_names c.args.row.now.rtype)) c.as_slice-rdata.ensures)
