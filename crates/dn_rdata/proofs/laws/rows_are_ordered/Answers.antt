use Rattle.dn_rdata.proofs.RowOrderLemmas.{row_exact, row_stays, row_total}
use Rattle.dn_rdata.proofs.laws.rows_are_ordered.Goals as goal

pub returns-clause-order : goal.returns-clause-order
returns-clause-order c = row_total

pub returns-clause-differ : goal.returns-clause-differ
returns-clause-differ c = row_exact

pub returns-clause-stay : goal.returns-clause-stay
returns-clause-stay c = row_stays
