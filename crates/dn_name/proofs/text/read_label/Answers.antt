use Rattle.std.proofs.Common.{take, arith}
use Rattle.dn_name.proofs.LabelTurnLemmas.{read_end, read_dot, unread_room, hopeless_rest}
use Rattle.dn_name.proofs.text.read_label.Goals as goal
use Rattle.dn_name.proofs.text.read_label.Goals.{else-end-eq46-via-then-end-eq46+else-label-gt0-2, else-end-eq46-via-else-end-eq46}

pub returns-then-label-room-clause-unread : goal.returns-then-label-room-clause-unread
returns-then-label-room-clause-unread c =
    unread_room c.args.room c.args.text.now (take c.in-Some.label.len c.in-Some.label.bytes) c.in-Some.rest.now c.in-Some.ensures.part
    (omega (arith, c.in-Some.ensures.len)) (omega (arith, c.in-Some.ensures.len))

pub returns-in_default-split_first-clause-read : goal.returns-in_default-split_first-clause-read
returns-in_default-split_first-clause-read c =
    read_end c.args.room c.args.text.now (take c.in-Some.label.len c.in-Some.label.bytes) c.in-Some.rest.now c.in-Some.ensures.part
    c.in_default-split_first.ensures.cases c.requires.some (λ some. omega (arith, c.in-Some.ensures.len, c.else-label-gt0.either))

pub returns-then-label-gt0-2-clause-read : goal.returns-then-label-gt0-2-clause-read
returns-then-label-gt0-2-clause-read c =
    read_dot c.args.room c.args.text.now (take c.in-Some.label.len c.in-Some.label.bytes) c.in-Some.rest.now c.in-Some-split_first.behind.now
    (rw c.if-end-eq46.true at c.in-Some-split_first.ensures.cases.0) c.in-Some.ensures.part
    (omega (arith, c.in-Some.ensures.len)) (omega (arith, c.in-Some.ensures.len, c.else-label-gt0.either))

pub returns-clause-unread : goal.returns-clause-unread
returns-clause-unread c done full =
    hopeless_rest c.args.text.now (take c.in-Some.label.len c.in-Some.label.bytes) c.in-Some.rest.now c.in-Some-split_first.end.now
    c.in-Some-split_first.behind.now c.in-Some-split_first.ensures.cases.0 c.in-Some.ensures.part c.in-Some.ensures.stops
    (λ dot. omega (arith, dot, c.in-Some.ensures.len, c.else-end-eq46.either)) done
