use Rattle.std.proofs.Common.{subst, sym}
use Rattle.dn_rdata.specs.Stored.{IsStored}
use Rattle.dn_record.proofs.FaultLemmas.{bad_form, faulty}
use Rattle.dn_record.proofs.ReadLemmas.{read_once}
use Rattle.dn_record.proofs.read.read_record.Goals as goal

pub returns-in_default : goal.returns-in_default
returns-in_default c =
    record { exact = faulty c.args.bytes.now _ (bad_form c.args.bytes.now c.in_ok-view.view c.in_ok-view.ensures.found c.in_default.ensures.none) }

pub returns : goal.returns
returns c =
    record {
      exact = read_once c.args.bytes.now c.in_ok-view.view c.in_ok-view.ensures.found c.in_ok-rdata.rdata
          (subst (λ xs. IsStored c.in_ok-view.view.rtype c.in_ok-view.view.stored.now xs) (sym c.in_ok-rdata.ensures) c.in-Some.ensures.found);
    }
