use Rattle.std.proofs.Common.{◌≡◌, ◌∙◌, ◌++◌, sym, ap, ap₂, arith, ℕ, drop, Some, None}
use Rattle.dn_name.specs.Name.{Labels, wire_len, wire_of}
use Rattle.dn_name.proofs.LabelWalkLemmas.{plain_long, plain_whole, plain_found}
use Rattle.dn_name.proofs.ReadAgainLemmas.{len_again, name_again, spelled_by}
use Rattle.dn_name.proofs.name.Name.read_plain.Goals as goal

pub returns-then-len-gt255-clause-plain : goal.returns-then-len-gt255-clause-plain
returns-then-len-gt255-clause-plain c = plain_long c.args.bytes.now c.in_ok-len.len c.in_ok-len.ensures.len c.if-len-gt255.true

pub returns-then-len-gt255-clause-again : goal.returns-then-len-gt255-clause-again
returns-then-len-gt255-clause-again c = λ name rest is e.
    let again : Some c.in_ok-len.len ≡ Some (wire_len name) = c.in_ok-len.ensures.len ∙ len_again name rest c.args.bytes.now is e in
    let same : c.in_ok-len.len ≡ wire_len name = cc in
    absurd (omega (arith, is.1))

pub from_wire-requires : goal.from_wire-requires
from_wire-requires c = plain_whole c.args.bytes.now c.in_ok-len.len c.in_ok-len.ensures.len c.if-len-gt255.false

pub returns-clause-plain : goal.returns-clause-plain
returns-clause-plain c =
    ap (λ (name : Labels). Some (name, drop c.in_ok-len.len c.args.bytes.now)) c.from_wire.ensures
    ∙ plain_found c.args.bytes.now c.in_ok-len.len c.in_ok-len.ensures.len c.if-len-gt255.false

pub returns-clause-spelled : goal.returns-clause-spelled
returns-clause-spelled c =
    spelled_by c.in_ok-len.len c.args.bytes.now (plain_whole c.args.bytes.now c.in_ok-len.len c.in_ok-len.ensures.len c.if-len-gt255.false)
    ∙ ap (λ (name : Labels). wire_of name ++ drop c.in_ok-len.len c.args.bytes.now) (sym c.from_wire.ensures)

pub returns-clause-again : goal.returns-clause-again
returns-clause-again c = λ name rest is e.
    let again : Some c.in_ok-len.len ≡ Some (wire_len name) = c.in_ok-len.ensures.len ∙ len_again name rest c.args.bytes.now is e in
    let same : c.in_ok-len.len ≡ wire_len name = cc in
    ap₂ (λ (xs : Labels) (n : ℕ). Some (xs, n)) (c.from_wire.ensures ∙ name_again name rest c.args.bytes.now is e c.in_ok-len.len same) same

pub returns-in_err-len-clause-again : goal.returns-in_err-len-clause-again
returns-in_err-len-clause-again c = λ name rest is e.
    let again : None ≡ Some (wire_len name) = c.in_err-len.ensures.len ∙ len_again name rest c.args.bytes.now is e in
    absurd (cc)
