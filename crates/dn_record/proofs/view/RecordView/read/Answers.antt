use Rattle.dn_record.proofs.FaultLemmas.{bad_form, faulty}
use Rattle.dn_record.proofs.ReadLemmas.{lent}
use Rattle.dn_record.proofs.view.RecordView.read.Goals as goal

pub returns-in-Some : goal.returns-in-Some
returns-in-Some c = record { exact = lent c.args.bytes.now c.in_ok-view.view c.in_ok-view.ensures.found _ c.in-Some.ensures.found }

pub returns-in-None : goal.returns-in-None
returns-in-None c = record { exact = faulty c.args.bytes.now _ (bad_form c.args.bytes.now c.in_ok-view.view c.in_ok-view.ensures.found c.in-None.ensures.none) }
