use Rattle.std.proofs.Common.{sym, subst}
use Rattle.std.proofs.lemmas.Result.{err_from_is_err_and}
use Rattle.dn_name.specs.Name.{Labels, IsName}
use Rattle.dn_name.specs.Spelled.{Segment, Spelled}
use Rattle.dn_name.proofs.PointerTurnLemmas.{begins, met_first, whole}
use Rattle.dn_name.proofs.SpelledLemmas.{inside, only_one}
use Rattle.dn_name.proofs.name.Name.read_wire.Goals as goal

pub returns-in_err-next-clause-exact : goal.returns-in_err-next-clause-exact
returns-in_err-next-clause-exact c =
    let p = err_from_is_err_and c.from_residual.result c.from_residual.ensures.1 in
    rw p.1 (λ found spelled.
    c.in_err-next.ensures.0 found.0 found.1 spelled.0 (c.loop-next.invariant.only found.0 found.1 (begins c.args.bytes.now c.args.at found.1 c.root.result found.0 c.root.ensures spelled.1)))

pub returns-in-Some-clause-exact : goal.returns-in-Some-clause-exact
returns-in-Some-clause-exact c =
    let turned = rw c.in-Some.is at c.in_ok-next.ensures in
    let spelled : Spelled c.args.bytes.now c.args.at c.turn.new.walk.name c.in-Some.next = (
      subst IsName (sym turned.0) c.loop-next.invariant.named,
      subst (λ (name : Labels). Segment c.args.bytes.now c.args.at c.args.at name c.in-Some.next) (sym turned.0)
          (whole c.args.bytes.now c.args.at c.in-Some.next c.root.result _ c.root.ensures (c.loop-next.invariant.goes _ _ turned.1)),
    ) in
    (spelled, only_one c.args.bytes.now c.args.at c.in-Some.next c.turn.new.walk.name spelled)

pub returns-in-Some-clause-within : goal.returns-in-Some-clause-within
returns-in-Some-clause-within c =
    let turned = rw c.in-Some.is at c.in_ok-next.ensures in
    inside c.args.bytes.now (whole c.args.bytes.now c.args.at c.in-Some.next c.root.result _ c.root.ensures (c.loop-next.invariant.goes _ _ turned.1))

pub returns-in_err-next-clause-fault : goal.returns-in_err-next-clause-fault
returns-in_err-next-clause-fault c =
    let p = err_from_is_err_and c.from_residual.result c.from_residual.ensures.1 in
    rw (p.1, p.2) (met_first c.args.bytes.now c.args.at c.root.result c.in_err-next.field-0.0 c.root.ensures (c.loop-next.invariant.faults _ c.in_err-next.ensures.1))
