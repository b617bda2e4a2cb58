use Rattle.std.proofs.Common.{◌∙◌, ap, Ordering}
use Rattle.std.specs.Ordering.{ordering_then}
use Rattle.dn_name.specs.Name.{lowered}
use Rattle.dn_name.specs.Walk.{order_of}
use Rattle.dn_name.proofs.OrderLemmas.{compare_step}
use Rattle.dn_name.proofs.order.+compare_labels.Goals as goal

pub returns-in-Some-Some : goal.returns-in-Some-Some
returns-in-Some-Some t c = λ name other l r same e f.
    compare_step name other l r same _ _ _ _ c.compare_labels.result c.args.otherwise
    (c.in-Some-Some.ensures.name name l e) (c.in-Some-Some.ensures'.name other r f)
    (λ names others l' r' same' e' f'.
    c.compare_labels.ensures names others l' r' same' e' f'
    ∙ ap (ordering_then (order_of (lowered names) (lowered others))) (c.then.ensures ∙ ap (λ (o : Ordering). ordering_then o c.args.otherwise) c.compare_folded.ensures))
