use Rattle.std.proofs.Common.{◌≡◌, ℕ, ◌+◌, ◌-◌, List, ◌++◌, take, drop, ap, ◌∙◌, arith, length-take-le, rules}
use Rattle.dn_name.specs.Name.{wire_len}
use Rattle.dn_name.proofs.SpelledLemmas.{written_spelled}
use Rattle.dn_name.proofs.name.Name.write_wire.Goals as goal

pub returns-clause-spelled : goal.returns-clause-spelled
returns-clause-spelled c =
    let after_is : c.in_ok-after.after ≡ c.args.at + wire_len c.args.self.now = search rules in
    written_spelled _ (take c.args.at c.args.out.now) (drop (c.in_ok-after.after - c.args.at) (drop c.args.at c.args.out.now)) c.args.at c.in_ok-after.after c.args.self.now
    c.wire-wire.ensures.name (length-take-le c.args.at c.args.out.now (omega (arith, after_is, c.if-after-out.false))) after_is
    (ap (λ (xs : List ℕ). take c.args.at c.args.out.now ++ (xs ++ drop (c.in_ok-after.after - c.args.at) (drop c.args.at c.args.out.now))) (c.copy_from_slice.ensures.after ∙ c.wire-wire.ensures.wire))
