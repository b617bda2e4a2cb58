use Rattle.std.proofs.Common.{refl}
use Rattle.dn_message.proofs.record.first_fields.Goals as goal

pub returns-clause-found : goal.returns-clause-found
returns-clause-found c = (
  (c.in_ok-len.field-0-1.now, cc (c.in_ok-rtype.ensures.found, c.in_ok-rclass.ensures.found, c.in_ok-ttl.ensures.found, c.in_ok-len.ensures.found)),
  refl,
)
