use Rattle.std.proofs.Common.{◌≡◌, ◌+◌, ◌≤◌, false, length, take, [], ◌∷◌, sym, arith, nat_eq}
use Rattle.std.proofs.lemmas.Bool.Decides.{nat_tests}
use lib.Pointwise.{pointwise}
use Rattle.dn_name.specs.Name.{wire_len}
use Rattle.dn_name.proofs.LabelTurnLemmas.{pushes, ends_named, ends_unnamed}
use Rattle.dn_name.proofs.TextReadingLemmas.{begins, wire_len_least}
use Rattle.dn_name.proofs.name.Name.from_text.Goals as goal

pub loop-text-init : goal.loop-text-init
loop-text-init c =
    let other : pointwise nat_eq c.args.text.now (46 ∷ []) ≡ false = rw c.as_slice.ensures at (sym c.if-eq.ensures) in
    (omega arith, rw c.root-name.ensures (begins c.args.text.now other))

pub unreachable-requires : goal.unreachable-requires
unreachable-requires c =
    let fits : wire_len c.loop-text.name + length (take c.in_ok-label.label.len c.in_ok-label.label.bytes) + 1 ≤ 255 =
    omega (arith, c.in_ok-label.ensures.read.fits, c.wire_len.ensures.len) in
    let short = pushes c.loop-text.name (take c.in_ok-label.label.len c.in_ok-label.label.bytes) fits in
    let none = rw short at c.in_default.ensures in cc

pub returns-then-wire_len-eq1 : goal.returns-then-wire_len-eq1
returns-then-wire_len-eq1 c =
    let none : length c.loop-text.rest.now ≡ 0 = grind (arith, nat_tests, c.loop-text-test.ensures) in
    ends_unnamed c.args.text.now c.loop-text.name c.loop-text.rest.now c.loop-text.invariant.1 none (omega (arith, c.wire_len-2.ensures.len))

pub returns : goal.returns
returns c =
    let none : length c.loop-text.rest.now ≡ 0 = grind (arith, nat_tests, c.loop-text-test.ensures) in
    ends_named c.args.text.now c.loop-text.name c.loop-text.rest.now c.loop-text.invariant.1 none c.wire_len-2.ensures.name
    (omega (arith, c.wire_len-2.ensures.len, wire_len_least c.loop-text.name))
