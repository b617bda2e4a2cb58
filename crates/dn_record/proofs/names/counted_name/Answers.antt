use Rattle.dn_record.proofs.NameLemmas.{counted_again, counted_front, no_counted}
use Rattle.dn_record.proofs.names.counted_name.Goals as goal

pub returns-in-Ok-clause-found : goal.returns-in-Ok-clause-found
returns-in-Ok-clause-found c = counted_front c.args.bytes.now _ _ _ c.split_at.ensures.back c.in-Ok.ensures.exact.0

pub returns-in-Ok-clause-only : goal.returns-in-Ok-clause-only
returns-in-Ok-clause-only c = counted_again c.args.bytes.now _ _ _ c.split_at.ensures.back c.in-Ok.ensures.exact.1

pub returns-in-Err-clause-only : goal.returns-in-Err-clause-only
returns-in-Err-clause-only c = λ name back named e. absurd (no_counted c.args.bytes.now c.in-Err.ensures.exact name back named e)
