use Rattle.std.proofs.Common.{◌<◌, subst, get_or, arith, ap, length, ◌∷◌, ◌∙◌}
use Rattle.dn_name.specs.declared.error.NameFault.TheVariants.{Short, BadPointer}
use Rattle.dn_name.specs.FirstFault.{CutPointer, Forward}
use Rattle.dn_name.proofs.PointerTurnLemmas.{pointer_cut, pointer_forward, pointer_on, meets_by}
use Rattle.dn_name.proofs.pointers.follow.Goals as goal

pub overflow_add-target : goal.overflow_add-target
overflow_add-target c =
    let small : c.in-Some.field-0-0.now < 256 = subst (λ xs. get_or xs 0 0 < 256) c.in-Some.ensures.cases.0 (c.type_inv.rest 0).fits in
    omega arith

pub returns-in_default : goal.returns-in_default
returns-in_default c = (
  pointer_cut c.args.bytes.now c.args.walk.now c.args.high c.args.rest.now c.requires.at c.requires.high (omega (arith, c.in_default.ensures.cases)),
  meets_by c.args.bytes.now c.args.walk.now Short (length c.args.bytes.now) _ c.fault_at.ensures (CutPointer c.args.high c.args.rest.now c.requires.at c.requires.high (omega (arith, c.in_default.ensures.cases))),
)

pub returns-then-target-walk : goal.returns-then-target-walk
returns-then-target-walk c = (
  pointer_forward c.args.bytes.now c.args.walk.now c.args.high c.in-Some.field-0-0.now c.args.rest.now _ c.requires.at c.requires.high c.in-Some.ensures.cases.0 (omega arith),
  meets_by c.args.bytes.now c.args.walk.now BadPointer c.args.walk.now.place _ c.fault_at-then-target-walk.ensures
      (Forward c.args.high c.in-Some.field-0-0.now c.in-Some.field-0-1.now (c.requires.at ∙ ap (λ xs. c.args.high ∷ xs) c.in-Some.ensures.cases.0) c.requires.high (omega arith)),
)

pub returns : goal.returns
returns c =
    pointer_on c.args.bytes.now c.args.walk.now c.args.high c.in-Some.field-0-0.now _ _ c.args.rest.now _ c.requires.at c.requires.high
    (c.in-Some.ensures.cases.0) (omega arith) c.if-target-walk.false c.requires.within.start c.unwrap_or.ensures
