use Rattle.dn_stamp.proofs.join.order_makes_no_difference.Goals as goal
use Rattle.dn_stamp.proofs.JoinedLists.{order_is_free}

-- src/join.rt:69:1
pub returns : goal.returns
returns g c =
    let laws = g.met.J.Join in
    order_is_free _ g.J.Join.agree g.J.Join.joined
    (record { itself = laws.agrees_with_itself; both = laws.agrees_both_ways; commutes = laws.commutes; associates = laws.associates; idempotent = laws.idempotent; onward = laws.agrees_onward })
