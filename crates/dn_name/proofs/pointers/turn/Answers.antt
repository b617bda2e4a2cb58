use Rattle.std.proofs.Common.{arith, sym, refl, ap, length, ◌∷◌, ◌∙◌}
use Rattle.dn_name.specs.declared.error.NameFault.TheVariants.{Short, LabelTooLong}
use Rattle.dn_name.specs.FirstFault.{NoByte, NoLength}
use Rattle.dn_name.proofs.PointerTurnLemmas.{ends, no_byte, no_length, meets_by}
use Rattle.dn_name.proofs.pointers.turn.Goals as goal

pub returns-in-Some-eq0-default : goal.returns-in-Some-eq0-default
returns-in-Some-eq0-default c = (
  refl,
  ends c.args.bytes.now c.args.walk.now c.in-Some-eq0-default.field-0-1.now c.unwrap_or.result
      (sym c.split_at.ensures.back ∙ c.in-Some-eq0-default.ensures.cases.0 ∙ ap (λ b. b ∷ c.in-Some-eq0-default.field-0-1.now) c.in-Some-eq0-default.field-0-0-test)
      c.unwrap_or.ensures,
)

pub returns-in-Some-3 : goal.returns-in-Some-3
returns-in-Some-3 c =
    let at = sym c.split_at.ensures.back ∙ c.in-Some.ensures.cases.0 in (
      no_length c.args.bytes.now c.args.walk.now _ _ at (omega arith) (omega arith),
      meets_by c.args.bytes.now c.args.walk.now LabelTooLong c.args.walk.now.place _ c.fault_at.ensures (NoLength _ _ at (omega arith) (omega arith)),
    )

pub returns-in-None : goal.returns-in-None
returns-in-None c =
    let none = ap length (sym c.split_at.ensures.back) ∙ c.in-None.ensures.cases in
    (no_byte c.args.bytes.now c.args.walk.now none, meets_by c.args.bytes.now c.args.walk.now Short (length c.args.bytes.now) _ c.fault_at-in-None.ensures (NoByte none))
