use Rattle.std.proofs.Common.{length, arith}
use Rattle.dn_property.specs.FirstFault.FirstFault.{CutHead, OtherVersion, CutContent, BehindTail}
use Rattle.dn_property.specs.declared.error.PropertyFault.TheVariants.{Short}
use Rattle.dn_property.proofs.FaultLemmas.{faulty}
use Rattle.dn_property.proofs.stored.split_parts.Goals as goal

pub returns-in_default-clause-fault : goal.returns-in_default-clause-fault
returns-in_default-clause-fault c = faulty c.args.bytes.now c.cut.result Short (length c.args.bytes.now) c.cut.ensures (CutHead c.in_default.ensures.none)

pub returns-then-head-ne-VERSION-clause-fault : goal.returns-then-head-ne-VERSION-clause-fault
returns-then-head-ne-VERSION-clause-fault c = OtherVersion c.in-Some.head c.in-Some.rest.now c.in-Some.ensures.found c.if-head-ne-VERSION.true

pub returns-in_default-split_at_checked-clause-fault : goal.returns-in_default-split_at_checked-clause-fault
returns-in_default-split_at_checked-clause-fault c =
    faulty c.args.bytes.now c.cut-in_default-split_at_checked.result Short (length c.args.bytes.now) c.cut-in_default-split_at_checked.ensures
    (CutContent c.in-Some.head c.in-Some.rest.now c.in-Some.ensures.found c.if-head-ne-VERSION.false (omega (arith, c.in_default-split_at_checked.ensures.cases)))

pub returns-then-tail-lt-LEAST_TAIL-clause-fault : goal.returns-then-tail-lt-LEAST_TAIL-clause-fault
returns-then-tail-lt-LEAST_TAIL-clause-fault c =
    faulty c.args.bytes.now c.cut-then-tail-lt-LEAST_TAIL.result Short (length c.args.bytes.now) c.cut-then-tail-lt-LEAST_TAIL.ensures
    (CutContent c.in-Some.head c.in-Some.rest.now c.in-Some.ensures.found c.if-head-ne-VERSION.false (omega (arith, c.in-Some-split_at_checked.ensures.cases.4, c.if-tail-lt-LEAST_TAIL.true)))

pub returns-then-tail-gt-MOST_TAIL-clause-fault : goal.returns-then-tail-gt-MOST_TAIL-clause-fault
returns-then-tail-gt-MOST_TAIL-clause-fault c =
    BehindTail c.in-Some.head c.in-Some.rest.now c.in-Some.ensures.found c.if-head-ne-VERSION.false (omega (arith, c.in-Some-split_at_checked.ensures.cases.4, c.if-tail-gt-MOST_TAIL.true))
