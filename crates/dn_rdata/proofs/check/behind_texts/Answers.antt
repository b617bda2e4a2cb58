use Rattle.std.proofs.Common.{arith}
use Rattle.dn_rdata.proofs.TextsLemmas.{first_text, next_text, no_first_text, no_next_text}
use Rattle.dn_rdata.proofs.check.behind_texts.Goals as goal

pub returns-in_err-rest-clause-only : goal.returns-in_err-rest-clause-only
returns-in_err-rest-clause-only c = λ back h. absurd (no_first_text c.args.bytes.now c.in_err-rest.ensures.only back h)

pub loop-rest-init : goal.loop-rest-init
loop-rest-init c = first_text c.args.bytes.now c.in_ok-rest.rest.now c.in_ok-rest.ensures.found c.in_ok-rest.ensures.only

pub returns-in_err-rest-2-clause-only : goal.returns-in_err-rest-2-clause-only
returns-in_err-rest-2-clause-only c = λ back h.
    absurd (no_next_text c.args.bytes.now c.loop-rest.rest.now c.loop-rest.invariant (grind (arith, c.loop-rest-test.true, c.is_empty.ensures)) c.in_err-rest-2.ensures.only back h)

pub loop-rest-preserved : goal.loop-rest-preserved
loop-rest-preserved c =
    next_text c.args.bytes.now c.loop-rest.rest.now c.loop-rest.invariant (grind (arith, c.loop-rest-test.true, c.is_empty.ensures)) c.in_ok-rest-2.rest.now c.in_ok-rest-2.ensures.found c.in_ok-rest-2.ensures.only
