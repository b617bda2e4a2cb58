-- The plan of a step, from what its calls gave.
use Rattle.std.proofs.Common.{◌≡◌, ℕ, ◌<◌, ◌≤◌, Bool, not, List, Option, None, Some, Bor, nat_lt, option_copied, refl, ap, arith, rules, sym, ◌∙◌}
use Rattle.std.proofs.lemmas.Bool.{cond-false, cond-true, le-ltb, lt-ltb}
use Rattle.std.specs.Option.{is_some}
use Rattle.dn_property.specs.declared.rules.ZoneRules.{ZoneRules}
use Rattle.dn_property.specs.Rules.{rules_of}
use Rattle.dn_stamp.specs.declared.stamp.ReplicaId.{ReplicaId}
use Rattle.dn_store.specs.declared.unit.Unit as units
use Rattle.dn_store.specs.declared.unit.UnitKey.{UnitKey}
use Rattle.dn_store.specs.declared.unit.Write.{Write}
use Rattle.dn_store.specs.Contents.{props_number, properties_of}
use Rattle.dn_store.specs.Table.{KeysGrow, unit_above}
use Rattle.dn_pass.specs.declared.pass.Pass.{Pass}
use Rattle.dn_pass.specs.declared.pass.StepPlan.{StepPlan}
use Rattle.dn_pass.specs.declared.pass.StepPlan.TheVariants.{Void}
use Rattle.dn_pass.specs.Pass.{pass_after, is_last_step, last_key, looked_at, plan_for, planned, step_plan, sweep}
use Rattle.dn_pass.proofs.LastKeyLemmas.{last_step}

-- what the calls of a step gave
copied_some : (found : Option (Bor units.Unit)) → is_some (option_copied found) ≡ is_some found
copied_some None = refl
copied_some (Some unit) = refl

after_is : (pass after : Pass) (rules : ZoneRules) (id : ReplicaId) (looked : List units.Unit) → after ≡ pass_after pass rules id looked → after.after ≡ last_key pass.after looked
unfolding pass_after
after_is pass after rules id looked is = ap (λ (one : Pass). one.after) is

-- a pass is void once the properties were written behind its start
pub void_by : (list : List units.Unit) (pass : Pass) (most : ℕ) (id : ReplicaId) (number : ℕ) → number ≡ props_number list → pass.start < number → Void number ≡ step_plan list pass most id
unfolding step_plan
void_by list pass most id number is lt =
    let whole : StepPlan = planned list pass most id (rules_of (properties_of list)) in
    ap Void is ∙ sym (cond-true (nat_lt pass.start (props_number list)) (Void (props_number list)) whole (lt-ltb pass.start (props_number list) (omega arith)))

-- any other step goes by the rules of the zone
plan_is : (list : List units.Unit) (pass : Pass) (most : ℕ) (id : ReplicaId) (rules : ZoneRules) → props_number list ≤ pass.start → rules ≡ rules_of (properties_of list)
    → planned list pass most id rules ≡ step_plan list pass most id
unfolding step_plan
plan_is list pass most id rules le is =
    let whole : StepPlan = planned list pass most id (rules_of (properties_of list)) in
    ap (planned list pass most id) is ∙ sym (cond-false (nat_lt pass.start (props_number list)) (Void (props_number list)) whole (le-ltb pass.start (props_number list) le))

-- and so is over where nothing is above its last key
pub planned_by : (list : List units.Unit) (pass after : Pass) (most : ℕ) (id : ReplicaId) (rules : ZoneRules) (first second : List units.Unit) (writes : List Write) (found : Option (Bor units.Unit))
    (some : Bool) → KeysGrow list → props_number list ≤ pass.start → rules ≡ rules_of (properties_of list) → first ≡ looked_at pass.after most list → second ≡ looked_at pass.after most list
    → writes ≡ sweep rules pass.moment id first → after ≡ pass_after pass rules id second → option_copied found ≡ unit_above after.after list → is_some found ≡ some
    → plan_for (not some) writes after ≡ step_plan list pass most id
planned_by list pass after most id rules first second writes found some grow le ruled looks looked wrote moved next is =
    let there : Option UnitKey → Bool = λ key. not (is_some (unit_above key list)) in
    let key : after.after ≡ last_key pass.after (looked_at pass.after most list) = after_is pass after rules id second moved ∙ ap (last_key pass.after) looked in
    let none : not some ≡ not (is_some (option_copied found)) = ap not (sym (copied_some found ∙ is)) in
    let over : not some ≡ is_last_step pass.after most list =
    none ∙ ap (λ one. not (is_some one)) next ∙ ap there key ∙ sym (last_step pass.after list most grow) in
    let put : writes ≡ sweep rules pass.moment id (looked_at pass.after most list) = wrote ∙ ap (sweep rules pass.moment id) looks in
    let moves : after ≡ pass_after pass rules id (looked_at pass.after most list) = moved ∙ ap (pass_after pass rules id) looked in
    ap (λ b. plan_for b writes after) over
    ∙ ap (λ put_list. plan_for (is_last_step pass.after most list) put_list after) put
    ∙ ap (plan_for (is_last_step pass.after most list) (sweep rules pass.moment id (looked_at pass.after most list))) moves
    ∙ plan_is list pass most id rules le ruled
