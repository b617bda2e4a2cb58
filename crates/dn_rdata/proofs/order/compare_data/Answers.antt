use Rattle.std.proofs.Common.{◌<◌, ◌∙◌, sym, length, arith}
use Rattle.dn_rdata.specs.Record.{folded}
use Rattle.dn_rdata.proofs.FoldedLemmas.{cmp_ends, equal_at, folded_len, greater_at, less_at}
use Rattle.dn_rdata.proofs.order.compare_data.Goals as goal

pub returns-then-byte-other : goal.returns-then-byte-other
returns-then-byte-other c =
    let left = folded c.args.left_type c.args.left.now in
    let right = folded c.args.right_type c.args.right.now in
    let first : c.loop-at.at < length left = omega (arith, folded_len c.args.left_type c.args.left.now) in
    let second : c.loop-at.at < length right = omega (arith, folded_len c.args.right_type c.args.right.now) in
    less_at left right c.loop-at.at c.folded_byte-byte.result c.folded_byte-other.result first second c.folded_byte-byte.ensures c.folded_byte-other.ensures c.if-byte-other.true c.loop-at.invariant

pub returns-then-other-byte : goal.returns-then-other-byte
returns-then-other-byte c =
    let left = folded c.args.left_type c.args.left.now in
    let right = folded c.args.right_type c.args.right.now in
    let first : c.loop-at.at < length left = omega (arith, folded_len c.args.left_type c.args.left.now) in
    let second : c.loop-at.at < length right = omega (arith, folded_len c.args.right_type c.args.right.now) in
    greater_at left right c.loop-at.at c.folded_byte-byte.result c.folded_byte-other.result first second c.folded_byte-byte.ensures c.folded_byte-other.ensures c.if-other-byte.true c.loop-at.invariant

pub loop-at-preserved : goal.loop-at-preserved
loop-at-preserved c =
    let left = folded c.args.left_type c.args.left.now in
    let right = folded c.args.right_type c.args.right.now in
    let first : c.loop-at.at < length left = omega (arith, folded_len c.args.left_type c.args.left.now) in
    let second : c.loop-at.at < length right = omega (arith, folded_len c.args.right_type c.args.right.now) in
    equal_at left right c.loop-at.at c.folded_byte-byte.result c.folded_byte-other.result first second c.folded_byte-byte.ensures c.folded_byte-other.ensures
    c.if-byte-other.false c.if-other-byte.false c.loop-at.invariant

pub returns : goal.returns
returns c =
    let left = folded c.args.left_type c.args.left.now in
    let right = folded c.args.right_type c.args.right.now in
    c.cmp.ensures
    ∙ sym (cmp_ends left right c.loop-at.at (length c.args.left.now) (length c.args.right.now) c.min-at-end.result (folded_len c.args.left_type c.args.left.now)
    (folded_len c.args.right_type c.args.right.now) c.min-at-end.ensures c.loop-at.auto.at-end c.loop-at-test.false)
    ∙ c.loop-at.invariant
