use Rattle.std.proofs.Common.{◌≡◌, ◌+◌, ◌-◌, arith, subst, sym}
use Rattle.std.proofs.lemmas.Result.{err_from_is_err_and}
use Rattle.dn_message.specs.Reading.{Completes}
use Rattle.dn_message.proofs.AdditionalLemmas.{at_end, only_end}
use Rattle.dn_message.proofs.additional.read_additional.Goals as goal

pub returns-in_err-seen : goal.returns-in_err-seen
returns-in_err-seen c =
    let p = err_from_is_err_and c.from_residual.result c.from_residual.ensures.1 in
    let more : c.args.count - c.loop.counter ≡ (c.args.count - (c.loop.counter + 1)) + 1 = omega arith in
    rw p.1 (λ final f. c.in_err-seen.ensures.sees _ final
    (subst (λ n. Completes c.args.bytes.now n c.loop.place c.loop.seen final) more (c.loop.invariant.only final f)))

pub loop-preserved : goal.loop-preserved
loop-preserved c =
    let more : c.args.count - c.loop.counter ≡ (c.args.count - (c.loop.counter + 1)) + 1 = omega arith in
    let one = c.in_ok-seen.ensures.sees (c.args.count - (c.loop.counter + 1)) in
    record {
      goes = λ final f. c.loop.invariant.goes final (subst (λ n. Completes c.args.bytes.now n c.loop.place c.loop.seen final) (sym more) (one.goes final f));
      only = λ final f. one.only final (subst (λ n. Completes c.args.bytes.now n c.loop.place c.loop.seen final) more (c.loop.invariant.only final f));
      within = c.in_ok-seen.ensures.within;
    }

pub returns-then-place-bytes : goal.returns-then-place-bytes
returns-then-place-bytes c = λ final f.
    let end = only_end c.args.bytes.now _ c.loop.place c.loop.seen final (omega arith) (c.loop.invariant.only final f) in
    omega (arith, end.place)

pub returns : goal.returns
returns c = (
  c.loop.invariant.goes c.loop.seen (at_end c.args.bytes.now _ c.loop.place c.loop.seen (omega arith) (omega arith)),
  λ final f. (only_end c.args.bytes.now _ c.loop.place c.loop.seen final (omega arith) (c.loop.invariant.only final f)).final_is,
)
