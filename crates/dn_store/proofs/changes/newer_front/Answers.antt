use Rattle.std.proofs.Common.{List, drop, subst}
use Rattle.std.proofs.lemmas.Result.{IfOk-weaker}
use Rattle.dn_pages.specs.Pages.{items, rank}
use Rattle.dn_store.specs.declared.unit.Unit as units
use Rattle.dn_store.specs.Fronts.{IsFront, above}
use Rattle.dn_store.proofs.FrontingLemmas.{above_place}
use Rattle.dn_store.proofs.changes.newer_front.Goals as goal

pub returns : goal.returns
returns c =
    let same = above_place c.args.usn (items c.args.changes.now) (rank c.args.changes.now c.place_of-start.result) c.requires c.place_of-start.ensures.cut in
    IfOk-weaker c.front_of.result (λ front. IsFront c.args.room (drop (rank c.args.changes.now c.place_of-start.result) (items c.args.changes.now)) front.units front.whole)
    (λ front. IsFront c.args.room (above c.args.usn (items c.args.changes.now)) front.units front.whole)
    (λ front is. subst (λ (all : List units.Unit). IsFront c.args.room all front.units front.whole) same is) c.front_of.ensures
