use Rattle.std.proofs.Common.{◌++◌, ap, refl, ◌∙◌}
use Rattle.dn_rdata.proofs.ViewLemmas.{last_twenty, second_name}
use Rattle.dn_rdata.proofs.views.view_of_soa.Goals as goal

pub split_name-requires-2 : goal.split_name-requires-2
split_name-requires-2 c = second_name c.args.rdata.now c.requires c.split_name.result.1.now c.split_name.ensures.only

pub returns : goal.returns
returns c =
    let first = c.split_name in
    let second = c.split_name-2 in (
      refl,
      first.ensures.split ∙ ap (λ xs. first.result.0.now ++ xs) second.ensures.split,
      first.ensures.name,
      second.ensures.name,
      last_twenty c.args.rdata.now c.requires first.result.1.now first.ensures.only second.result.1.now second.ensures.only,
    )
