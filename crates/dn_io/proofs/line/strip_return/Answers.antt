use Rattle.std.proofs.Common.{◌-◌, length, sym, ◌∙◌, arith}
use Rattle.dn_io.proofs.LineEndLemmas.{without-return, without-other}
use Rattle.dn_io.proofs.line.strip_return.Goals as goal

pub returns-then-last-eq13 : goal.returns-then-last-eq13
returns-then-last-eq13 c =
    let bytes = c.args.bytes.now in
    let item = c.in-Some.ensures.item in
    without-return bytes (length bytes - 1) (omega (arith, item.3.0)) (sym (item.4 (omega arith) 0) ∙ c.if-last-eq13.true)

pub returns-else-last-eq13 : goal.returns-else-last-eq13
returns-else-last-eq13 c =
    let bytes = c.args.bytes.now in
    let item = c.in-Some.ensures.item in
    without-other bytes (length bytes - 1) (omega (arith, item.3.0)) (λ e. c.if-last-eq13.false (item.4 (omega arith) 0 ∙ e))
