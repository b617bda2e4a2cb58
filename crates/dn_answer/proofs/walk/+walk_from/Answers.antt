use Rattle.dn_answer.proofs.WalkLemmas.{made_as, walk_cut, walk_ends, walk_goes, walk_stops}
use Rattle.dn_answer.proofs.walk.+walk_from.Goals as goal

pub returns-in-Some : goal.returns-in-Some
returns-in-Some t c =
    made_as c.referred.result _ _
    (walk_cut c.args.links c.args.rows.now c.args.apex.now c.args.qtype c.args.spelled c.args.name.now c.in-Some.at c.in-Some.ensures) c.referred.ensures

pub returns-in_default-2 : goal.returns-in_default-2
returns-in_default-2 t c =
    made_as c.ended_at.result _ _
    (walk_ends c.args.links c.args.rows.now c.args.apex.now c.args.qtype c.args.spelled c.args.name.now c.in_default.ensures (rw c.in_default-2.is at c.in_ok-one.ensures)) c.ended_at.ensures

pub returns-in_default-next_name : goal.returns-in_default-next_name
returns-in_default-next_name t c =
    made_as c.behind_link.result _ _
    (walk_stops c.args.links c.args.rows.now c.args.apex.now c.args.qtype c.args.spelled c.args.name.now c.in-Some-2.one c.stopped.result c.in_default.ensures
    (rw c.in-Some-2.is at c.in_ok-one.ensures) (rw c.as_slice.ensures at c.in_default-next_name.ensures.next) c.stopped.ensures) c.behind_link.ensures

pub returns : goal.returns
returns t c =
    made_as c.behind_link-2.result _ _
    (walk_goes c.args.links c.args.rows.now c.args.apex.now c.args.qtype c.args.spelled _ c.args.name.now c.in-Some-next_name.next c.in-Some-2.one c.in_ok-rest.rest c.in_default.ensures
    (rw c.in-Some-2.is at c.in_ok-one.ensures) (rw c.as_slice.ensures at c.in-Some-next_name.ensures.next) c.in_ok-push.ensures.ok c.in_ok-rest.ensures) c.behind_link-2.ensures
