use Rattle.std.proofs.Common.{◌≡◌, ◌∙◌, sym, take, arith}
use Rattle.dn_io.specs.Lines.{without_return}
use Rattle.dn_io.proofs.LineEndLemmas.{too_long-feed, takes-feed}
use Rattle.dn_io.proofs.line.cut_line.Goals as goal

pub returns-then-is_overlong-clause-cuts : goal.returns-then-is_overlong-clause-cuts
returns-then-is_overlong-clause-cuts c =
    too_long-feed c.args.held.now.items c.args.taken.now c.args.end c.requires (sym c.is_overlong.ensures ∙ c.if-is_overlong.true)

pub returns-clause-cuts : goal.returns-clause-cuts
returns-clause-cuts c =
    let front : c.in_ok-text.text ≡ without_return (take c.args.end c.args.held.now.items) =
    c.in_ok-text.ensures.ok ∙ (c.strip_return.ensures ∙ grind (arith, c.deref.ensures.value)) in
    takes-feed c.args.held.now.items c.drop_front.new.held.items c.in_ok-text.text c.args.taken.now c.args.end c.requires
    (sym c.is_overlong.ensures ∙ c.if-is_overlong.false) front c.drop_front.ensures
