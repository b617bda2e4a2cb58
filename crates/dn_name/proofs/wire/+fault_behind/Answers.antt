use Rattle.std.proofs.Common.{◌+◌, ◌≤◌, ◌∷◌, length, sym, ap, ◌∙◌, arith, length-drop}
use Rattle.dn_name.specs.PlainFault.{Ended, TooLong}
use Rattle.dn_name.proofs.PlainFaultLemmas.{cut, later, no_zero, none_behind, too_many}
use Rattle.dn_name.proofs.wire.+fault_behind.Goals as goal

pub unreachable-requires : goal.unreachable-requires
unreachable-requires t c =
    let there = sym c.split_at.ensures.back ∙ c.in-Some-eq0-default.ensures.cases.0 in
    absurd (omega (arith, c.in-Some-eq0-default.field-0-0-test, no_zero c.args.bytes.now c.args.at c.args.size c.in-Some-eq0-default.field-0-1.now c.requires.none c.requires.size c.in-Some-eq0-default.field-0-0.now there))

pub returns-in-None : goal.returns-in-None
returns-in-None t c = Ended (sym (ap length c.split_at.ensures.back) ∙ c.in-None.ensures.cases)

pub returns-in-Some : goal.returns-in-Some
returns-in-Some t c =
    TooLong c.in-Some.field-0-0.now c.in-Some.field-0-1.now (sym c.split_at.ensures.back ∙ c.in-Some.ensures.cases.0) (omega (arith, c.in-Some.len-is, c.if-len-gt63.true))

pub returns-in-Some-2 : goal.returns-in-Some-2
returns-in-Some-2 t c =
    too_many c.args.bytes.now c.args.at c.args.size c.in-Some.field-0-1.now c.requires.none c.requires.size c.in-Some.field-0-0.now
    (sym c.split_at.ensures.back ∙ c.in-Some.ensures.cases.0) (omega (arith, c.in-Some.len-is, c.if-len-gt63.false)) (omega (arith, c.from.ensures, c.in-Some-2.len-is, c.if-size-from-gt255.true))

pub returns-in-Some-3 : goal.returns-in-Some-3
returns-in-Some-3 t c =
    cut c.args.bytes.now c.args.at c.args.size c.in-Some.field-0-1.now c.requires.none c.requires.size c.in-Some.field-0-0.now
    (sym c.split_at.ensures.back ∙ c.in-Some.ensures.cases.0) (omega (arith, c.in-Some.len-is, c.if-len-gt63.false)) (omega (arith, c.from.ensures, c.in-Some-2.len-is, c.if-size-from-gt255.false)) (omega arith)

pub returns-in-Some-4 : goal.returns-in-Some-4
returns-in-Some-4 t c =
    let there = sym c.split_at.ensures.back ∙ c.in-Some.ensures.cases.0 ∙ ap (λ n. n ∷ c.in-Some.field-0-1.now) (sym c.from-taken.ensures) in
    later c.args.bytes.now c.args.at c.args.size c.in-Some.field-0-1.now c.requires.none c.requires.size c.from-taken.result there
    (omega (arith, c.in-Some.len-is, c.if-len-gt63.false)) (omega (arith, c.from.ensures, c.in-Some-2.len-is, c.if-size-from-gt255.false)) (omega (arith, c.if-rest-from.false))
    c.fault_behind.result.kind c.fault_behind.result.place c.fault_behind.ensures

pub fault_behind-requires : goal.fault_behind-requires
fault_behind-requires t c =
    let there = sym c.split_at.ensures.back ∙ c.in-Some.ensures.cases.0 ∙ ap (λ n. n ∷ c.in-Some.field-0-1.now) (sym c.from-taken.ensures) in
    let fits : c.args.size + c.from-taken.result + 1 ≤ 255 = omega (arith, c.from.ensures, c.in-Some-2.len-is, c.if-size-from-gt255.false) in
    let whole : c.from-taken.result ≤ length c.in-Some.field-0-1.now = omega (arith, c.if-rest-from.false) in (
      omega (arith, c.decreases, fits),
      (
        omega (arith, whole, ap length there, length-drop c.args.at c.args.bytes.now),
        (
          omega (arith, fits),
          none_behind c.args.bytes.now c.args.at c.args.size c.in-Some.field-0-1.now c.requires.none c.requires.size c.from-taken.result there
              (omega (arith, c.in-Some.len-is, c.if-len-gt63.false)) fits whole,
        ),
      ),
    )
