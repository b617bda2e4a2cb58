use Rattle.std.proofs.Common.{◌≡◌, ◌++◌, ap, refl, ◌∙◌}
use Rattle.std.specs.Int.{w16, to_be_bytes}
use Rattle.dn_rdata.proofs.ViewLemmas.{name_last}
use Rattle.dn_rdata.proofs.views.view_of_srv.Goals as goal

pub returns : goal.returns
returns c =
    let first = to_be_bytes w16 c.split_number-priority.result.0 in
    let second = to_be_bytes w16 c.split_number-weight.result.0 in
    let third = to_be_bytes w16 c.split_number-port.result.0 in
    let target = c.split_number-port.result.1.now in
    let split : c.args.rdata.now ≡ first ++ (second ++ (third ++ target)) =
    c.split_number-priority.ensures.split ∙ ap (λ xs. first ++ xs) (c.split_number-weight.ensures.split ∙ ap (λ xs. second ++ xs) c.split_number-port.ensures.split) in (
      refl,
      split,
      c.split_number-priority.ensures.short,
      c.split_number-weight.ensures.short,
      c.split_number-port.ensures.short,
      name_last 6 c.args.rdata.now c.requires (first ++ (second ++ third)) target split refl,
    )
