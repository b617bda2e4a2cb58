use Rattle.std.proofs.Common.{ap, arith, filter, map, sym, ◌∙◌}
use Rattle.std.specs.Option.{option_copied}
use Rattle.dn_store.specs.Table.{is_above, unit_above}
use Rattle.dn_store.proofs.CallerLemmas.{above_behind, above_first, behind, looked_more, take_over}
use Rattle.dn_pass.specs.Pass.{looked_at}
use Rattle.dn_pass.proofs.stepping.looked_at.Goals as goal

pub loop-at-init : goal.loop-at-init
loop-at-init c = record {
  looked = ap (map behind) c.new-looked.ensures.items;
  next = c.next_after-next.ensures.first ∙ ap (λ key. unit_above key c.args.table.now.0) c.as_ref.ensures.value ∙ above_first c.args.after c.args.table.now.0;
}

pub returns-in_default : goal.returns-in_default
unfolding looked_at
returns-in_default c =
    let none = sym c.loop-at.invariant.next ∙ ap option_copied c.in_default.is in
    c.loop-at.invariant.looked ∙ take_over (filter (is_above c.args.after) c.args.table.now.0) c.loop-at._at c.args.most none (omega arith)

pub loop-at-preserved : goal.loop-at-preserved
loop-at-preserved c =
    let list = c.args.table.now.0 in
    let here = sym c.loop-at.invariant.next ∙ ap option_copied c.in-Some.is in
    record {
      looked = looked_more c.args.after list c.loop-at._at c.in-Some.unit c.loop-at.looked.items _ here c.loop-at.invariant.looked c.in_ok-push.ensures.items;
      next = c.next_after-next-in-loop-at.ensures.first ∙ above_behind c.args.after list c.loop-at._at c.in-Some.unit.now c.facts.ensures.ordered here;
    }
