use Rattle.std.proofs.Common.{◌+◌, ◌<◌, ◌∙◌, None, Some, ap, arith, drop, length, refl, sym}
use Rattle.std.proofs.lemmas.Option.{slice_get_within}
use Rattle.dn_pages.specs.Pages.{items, rank}
use Rattle.dn_store.specs.declared.unit.Unit as units
use Rattle.dn_store.specs.Fronts.{added}
use Rattle.dn_store.proofs.FrontingLemmas.{unit_more, units_end}
use Rattle.dn_store.proofs.changes.front_of.Goals as goal

pub returns-in-None : goal.returns-in-None
returns-in-None c =
    unit_more (items c.args.changes.now) c.args.room c.loop-held.left (rank c.args.changes.now c.loop-held.place) (rank c.args.changes.now c.loop-held.place + 1)
    (drop (rank c.args.changes.now c.args.start) (items c.args.changes.now)) c.loop-held.found c.add_unit.new.front c.in-Some.held.now c.in_ok-add_unit.field-0 None
    (sym c.in-Some.ensures) refl (ap (λ (one : units.Unit). added one c.loop-held.left c.loop-held.found) (sym c.unit.ensures) ∙ c.in_ok-add_unit.ensures) c.in-None.is c.loop-held.invariant.begun

pub next-place-requires : goal.next-place-requires
next-place-requires c = c.loop-held.invariant.settled (slice_get_within (items c.args.changes.now) (rank c.args.changes.now c.loop-held.place) c.in-Some.held.now (sym c.in-Some.ensures))

pub loop-held-smaller : goal.loop-held-smaller
loop-held-smaller c =
    let there : rank c.args.changes.now c.loop-held.place < length (items c.args.changes.now) =
    slice_get_within (items c.args.changes.now) (rank c.args.changes.now c.loop-held.place) c.in-Some.held.now (sym c.in-Some.ensures) in
    omega (arith, there, c.next-place.ensures.next)

pub loop-held-preserved : goal.loop-held-preserved
loop-held-preserved c = record {
  settled = c.next-place.ensures.settled;
  begun =
      unit_more (items c.args.changes.now) c.args.room c.loop-held.left (rank c.args.changes.now c.loop-held.place) (rank c.args.changes.now c.next-place.result)
      (drop (rank c.args.changes.now c.args.start) (items c.args.changes.now)) c.loop-held.found c.add_unit.new.front c.in-Some.held.now c.in_ok-add_unit.field-0 (Some c.in-Some-2.rest)
      (sym c.in-Some.ensures) c.next-place.ensures.next (ap (λ (one : units.Unit). added one c.loop-held.left c.loop-held.found) (sym c.unit.ensures) ∙ c.in_ok-add_unit.ensures) c.in-Some-2.is c.loop-held.invariant.begun;
}

pub returns : goal.returns
returns c =
    units_end (items c.args.changes.now) c.args.room c.loop-held.left (rank c.args.changes.now c.loop-held.place)
    (drop (rank c.args.changes.now c.args.start) (items c.args.changes.now)) c.loop-held.found (sym c.in_default.ensures) c.loop-held.invariant.begun
