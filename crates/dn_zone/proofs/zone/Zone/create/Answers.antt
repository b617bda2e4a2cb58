use Rattle.dn_zone.proofs.CreationLemmas.{properties_fit}
use Rattle.dn_zone.proofs.zone.Zone.create.Goals as goal

pub put-requires-clause-values : goal.put-requires-clause-values
put-requires-clause-values c =
    rw (c.in_ok-push-2.ensures.ok, c.in_ok-push.ensures.ok, c.new-batch.ensures)
    (properties_fit _ c.in_ok-first_properties.ensures, (c.in_ok-first_rows.ensures.fits, tt))
