use Rattle.dn_name.proofs.OrderLemmas.{ends_found, ends_step}
use Rattle.dn_name.proofs.order.+ends_with.Goals as goal

pub returns-then-eq : goal.returns-then-eq
returns-then-eq t c = λ name above l r e f. ends_found name above l r _ _ e f c.if-eq.ensures

pub returns-in-Some : goal.returns-in-Some
returns-in-Some t c = λ name above l r e f.
    ends_step name above l r _ _ _ _ c.ends_with.result e f c.if-eq.ensures (c.in-Some.ensures.name name l e)
    (λ names l' e'. c.ends_with.ensures names above l' r e' f)
