use Rattle.std.proofs.Common.{arith, sym, ◌∙◌, ◌++◌, ap₂, take-append-drop}
use Rattle.dn_name.specs.declared.error.NameFault.TheVariants.{NameTooLong}
use Rattle.dn_name.specs.FirstFault.{Passes}
use Rattle.dn_name.proofs.PushedLabelLemmas.{wire_len-push}
use Rattle.dn_name.proofs.PointerTurnLemmas.{chosen_fits, chosen_none, chosen_some, label_cut, label_long, label_on, meets_by}
use Rattle.dn_name.proofs.pointers.take_label.Goals as goal

pub returns-in-Some-pushed : goal.returns-in-Some-pushed
returns-in-Some-pushed c =
    let split = c.in-Some.ensures.cases in
    label_on c.args.bytes.now c.args.walk.now c.args.len _ c.args.rest.now c.in-Some.label.now c.in-Some.field-0-1.now _ c.requires.at c.requires.len.0 c.requires.len.1
    (sym (ap₂ ◌++◌ split.1 split.2 ∙ take-append-drop c.from.result c.args.rest.now)) (split.3 ∙ c.from.ensures)
    (chosen_some _ _ _ (sym c.pushed.ensures ∙ c.in-Some-pushed.is)) c.requires.within.start (chosen_fits _ _ _ (sym c.pushed.ensures ∙ c.in-Some-pushed.is)) (omega arith)

pub returns-in-None-pushed : goal.returns-in-None-pushed
returns-in-None-pushed c =
    let split = c.in-Some.ensures.cases in
    let long = chosen_none _ _ (sym c.pushed.ensures ∙ c.in-None-pushed.is) in (
      label_long c.args.bytes.now c.args.walk.now c.args.len c.args.rest.now c.in-Some.label.now c.in-Some.field-0-1.now c.requires.at c.requires.len.0 c.requires.len.1
          (sym (ap₂ ◌++◌ split.1 split.2 ∙ take-append-drop c.from.result c.args.rest.now)) (split.3 ∙ c.from.ensures) long,
      meets_by c.args.bytes.now c.args.walk.now NameTooLong c.args.walk.now.place _ c.fault_at.ensures
          (Passes c.args.len c.args.rest.now c.requires.at c.requires.len.0 c.requires.len.1 (omega (arith, long, wire_len-push c.args.walk.now.name c.in-Some.label.now, split.3, c.from.ensures))),
    )

pub returns-in-None : goal.returns-in-None
returns-in-None c = (label_cut c.args.bytes.now c.args.walk.now c.args.len c.args.rest.now c.requires.at c.requires.len.0 c.requires.len.1 (omega (arith, c.in-None.ensures.cases)), c.fault_of_cut_label.ensures)
