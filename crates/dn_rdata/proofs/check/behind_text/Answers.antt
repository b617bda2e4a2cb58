use Rattle.dn_rdata.proofs.TextsLemmas.{text_begins}
use Rattle.dn_rdata.proofs.check.behind_text.Goals as goal

pub returns-clause-found : goal.returns-clause-found
returns-clause-found c =
    let split = c.in_ok-rest.ensures.cases in
    text_begins c.args.bytes.now _ c.in_ok-rest.rest.now c.in_ok-len.field-0-0.now c.from.result c.in_ok-len.ensures.cases.0 c.from.ensures split.0 split.2
