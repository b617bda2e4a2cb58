use Rattle.std.proofs.Common.{◌≡◌, ◌+◌, ◌-◌, arith, subst, sym}
use Rattle.std.proofs.lemmas.Result.{err_from_is_err_and}
use Rattle.dn_message.specs.Reply.{IsQuestion}
use Rattle.dn_message.proofs.EntryLemmas.{Completing, all_read, none_read, one_read}
use Rattle.dn_message.proofs.questions.read_questions.Goals as goal

pub returns-in_err-question-clause-exact : goal.returns-in_err-question-clause-exact
returns-in_err-question-clause-exact c =
    let p = err_from_is_err_and c.from_residual.result c.from_residual.ensures.1 in
    let more : c.args.count - c.loop.counter ≡ (c.args.count - (c.loop.counter + 1)) + 1 = omega arith in
    let Is = IsQuestion c.args.bytes.now in
    rw (p.1, p.2)
    (none_read Is c.args.count c.args.at c.loop.questions _ c.loop.place
    (subst (λ n. Completing Is c.args.count c.args.at c.loop.questions n c.loop.place) more c.loop.invariant.so_far) c.in_err-question.ensures.exact)

pub loop-preserved : goal.loop-preserved
loop-preserved c =
    let more : c.args.count - c.loop.counter ≡ (c.args.count - (c.loop.counter + 1)) + 1 = omega arith in
    let Is = IsQuestion c.args.bytes.now in
    let read = c.in_ok-question.ensures.exact in
    record {
      so_far = subst (λ xs. Completing Is c.args.count c.args.at xs (c.args.count - (c.loop.counter + 1)) c.in_ok-question.next) (sym c.in_ok-push.ensures.ok)
          (one_read Is c.args.count c.args.at c.loop.questions _ c.loop.place
          (subst (λ n. Completing Is c.args.count c.args.at c.loop.questions n c.loop.place) more c.loop.invariant.so_far) c.in_ok-question.question c.in_ok-question.next read.0 read.1);
      within = c.in_ok-question.ensures.within;
    }

pub returns-clause-exact : goal.returns-clause-exact
returns-clause-exact c = all_read (IsQuestion c.args.bytes.now) c.args.count c.args.at _ c.loop.place c.loop.questions (omega arith) c.loop.invariant.so_far
