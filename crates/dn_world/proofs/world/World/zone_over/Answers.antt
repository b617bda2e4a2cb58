use Rattle.std.proofs.Common.{◌≡◌, ℕ, List, ap, ap₂, drop, sym, ◌∙◌, arith}
use Rattle.dn_answer.specs.Datagram.{nearer}
use Rattle.dn_zone.specs.State.{ZoneState}
use Rattle.dn_world.specs.Datagram.{zones_of}
use Rattle.dn_world.specs.State.{WorldState}
use Rattle.dn_world.proofs.ViewLemmas.{over, over_end, over_more}
use Rattle.dn_world.proofs.world.World.zone_over.Goals as goal

pub loop-at-init : goal.loop-at-init
loop-at-init c = record { found = sym (over_end c.args.id c.args.name.now c.as_slice-zones.result.now); within = omega arith }

pub loop-at-preserved-then-covers : goal.loop-at-preserved-then-covers
loop-at-preserved-then-covers c = record {
  found =
      sym c.nearer.ensures ∙ ap (λ seen. nearer seen c.loop-at.nearest) c.view_of.ensures
      ∙ over_more c.args.id c.args.name.now c.as_slice-zones.result.now c.loop-at.at c.index-zones-at.result c.loop-at.nearest c.loop-at-test.true c.loop-at.invariant.within (sym c.index-zones-at.is)
      (sym c.covers.ensures ∙ c.if-covers.true) c.loop-at.invariant.found;
  within = omega (arith, c.loop-at.invariant.within);
}

pub returns : goal.returns
unfolding zones_of
returns c =
    c.loop-at.invariant.found
    ∙ (let none : c.loop-at.at ≡ 0 = omega (arith, c.loop-at-test.false) in
    ap₂ (λ (n : ℕ) (list : List ZoneState). over c.args.id c.args.name.now (drop n list)) none c.as_slice-zones.ensures)
    ∙ ap (λ (world : WorldState). over c.args.id c.args.name.now world.zones) c.self.view_is
