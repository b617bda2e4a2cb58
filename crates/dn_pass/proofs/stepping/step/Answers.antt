use Rattle.std.proofs.Common.{◌≡◌, Bool, true, false, not, ap, map, sym, ◌∙◌, arith}
use Rattle.std.specs.List.{AllByRecursion}
use Rattle.std.specs.Prelude.{IsTrue}
use Rattle.dn_property.specs.Rules.{rules_of}
use Rattle.dn_store.specs.Table.{KeysDiffer, unit_above}
use Rattle.dn_store.specs.Value.{fits}
use Rattle.dn_store.proofs.CallerLemmas.{behind}
use Rattle.dn_pass.specs.Pass.{plan_for, step_plan}
use Rattle.dn_pass.proofs.StepPlanLemmas.{planned_by, void_by}
use Rattle.dn_pass.proofs.StepWrites.{keys_differ, values_fit}
use Rattle.dn_pass.proofs.stepping.step.Goals as goal
use Rattle.dn_pass.proofs.stepping.step.Goals.{After-is_some}

pub returns-then-pass-props_usn : goal.returns-then-pass-props_usn
returns-then-pass-props_usn c = record {
  plan = void_by c.args.table.now.0 c.args.pass.now c.args.most c.args.id c.props_number-props_usn.result c.props_number-props_usn.ensures c.if-pass-props_usn.true;
  keys = tt;
  values = tt;
}

-- where the pass isn't void, whether a unit is above the step's last key or not
goes_by : (some : Bool) (c : After-is_some) → c.is_some.result ≡ some
    → (plan_for (not some) c.in_ok-writes.writes c.pass_after-after.result ≡ step_plan c.args.table.now.0 c.args.pass.now c.args.most c.args.id)
    × KeysDiffer c.in_ok-writes.writes
    × AllByRecursion (λ write. IsTrue (fits write.value)) c.in_ok-writes.writes
goes_by some c is =
    let list = c.args.table.now.0 in
    let pass = c.args.pass.now in
    let first = ap (map behind) c.as_slice.ensures.value ∙ c.in_ok-looked.ensures in
    let second = ap (map behind) c.as_slice-2.ensures.value ∙ c.in_ok-looked.ensures in
    let ruled = c.rules_of.ensures ∙ ap rules_of c.properties_of.ensures in
    let next = c.next_after.ensures.first ∙ ap (λ key. unit_above key list) c.as_ref.ensures.value in
    let wrote = c.in_ok-writes.ensures in
    let grow = c.facts.ensures.ordered in (
      planned_by list pass c.pass_after-after.result c.args.most c.args.id c.rules_of.result _ _ c.in_ok-writes.writes c.next_after.result some grow (omega arith) ruled first second wrote c.pass_after-after.ensures next (sym c.is_some.ensures ∙ is),
      keys_differ c.rules_of.result pass.moment c.args.id pass.after c.args.most list _ c.in_ok-writes.writes grow first wrote,
      values_fit c.rules_of.result pass.moment c.args.id pass.after c.args.most list _ c.in_ok-writes.writes c.facts.ensures.fitting first wrote,
    )

pub returns-then-is_some : goal.returns-then-is_some
returns-then-is_some c =
    let all = goes_by true (goal.at.returns-then-is_some c).After-is_some c.if-is_some.true in record { plan = all.0; keys = all.1; values = all.2 }

pub returns : goal.returns
returns c =
    let all = goes_by false (goal.at.returns c).After-is_some c.if-is_some.false in record { plan = all.0; keys = all.1; values = all.2 }
