use Rattle.std.proofs.Common.{refl}
use Rattle.std.specs.Int.{w16, to_be_bytes}
use Rattle.dn_rdata.proofs.ViewLemmas.{name_last}
use Rattle.dn_rdata.proofs.views.view_of_mx.Goals as goal

pub returns : goal.returns
returns c =
    let number = c.split_number-preference in (
      refl,
      number.ensures.split,
      number.ensures.short,
      name_last 2 c.args.rdata.now c.requires (to_be_bytes w16 number.result.0) number.result.1.now number.ensures.split refl,
    )
