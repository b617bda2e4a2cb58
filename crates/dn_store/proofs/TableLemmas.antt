-- What stays of a table as writes are taken, and the first unit of it above a key.
use Rattle.std.proofs.Common.{◌≡◌, ℕ, ◌+◌, ◌<◌, ◌≤◌, true, false, List, [], ◌∷◌, length, ap, arith, sym, subst, ◌∙◌, ◌^◌, Option, Some}
use Rattle.std.proofs.lemmas.Bool.{cond_both, false≢true}
use Rattle.std.proofs.lemmas.Cmp.{tied_itself}
use Rattle.std.specs.List.{AllByRecursion}
use Rattle.std.specs.List.Sorted.{IsStrictlySortedBy}
use Rattle.std.specs.Ordering.{is_gt}
use Rattle.std.specs.Prelude.{IsTrue}
use Rattle.dn_store.specs.declared.unit.Unit as units
use Rattle.dn_store.specs.declared.unit.UnitKey.{UnitKey}
use Rattle.dn_store.specs.declared.unit.Write.{Write}
use Rattle.dn_store.specs.Table.{change_limit, IsLeastAbove, IsTable, KeysGrow, is_above, units_after, unit_above}
use Rattle.dn_store.specs.Value.{fits, key_order}
use Rattle.dn_store.proofs.ListLemmas.{all_then}
use Rattle.dn_store.proofs.OrderLemmas.{IsAfter, key_total}
use Rattle.dn_store.proofs.TakenLemmas.{IsSoundList, all_brought, length_bound, sound_taken}

-- a table stays a table after a whole batch
pub table_taken : (list : List units.Unit) (top : ℕ) (writes : List Write) → top + length writes ≤ change_limit → AllByRecursion (λ write. IsTrue (fits write.value)) writes → IsTable list top
    → IsTable (units_after list top writes) (top + length writes)
table_taken list top writes most fit table =
    let before : IsSoundList list top = record { ordered = table.ordered; numbers = table.numbers; differ = table.differ } in
    let after : IsSoundList (units_after list top writes) (top + length writes) = sound_taken list top writes before in
    let brings = all_then (λ write. IsTrue (fits write.value)) (λ write. (number : ℕ) → top < number → IsTrue (fits write.value)) writes (λ write fits_in number above. fits_in) fit in
    record {
      ordered = after.ordered;
      numbers = after.numbers;
      differ = after.differ;
      fitting = all_brought (λ unit. IsTrue (fits unit.value)) list top writes brings table.fitting;
      most = most;
    }

-- there are at most as many units as changes
pub few_units : (list : List units.Unit) (top : ℕ) → IsTable list top → length list < 2 ^ 64
few_units list top table =
    let bound : length list ≤ top = length_bound list top table.numbers table.differ in
    let most : top ≤ 2 ^ 63 = table.most in
    omega (arith, bound, most)

-- ---- the first unit above a key is the least

pub least_above : (key : Option UnitKey) (list : List units.Unit) → KeysGrow list → IsLeastAbove key (unit_above key list) list
unfolding IsStrictlySortedBy
least_above key [] grow = tt
least_above key (next ∷ rest) grow =
    cond_both (is_above key next) (Some next) (unit_above key rest) (λ answer. IsLeastAbove key answer (next ∷ rest))
    (λ is. (
      (λ above. ap is_gt (tied_itself key_total next.key)),
      all_then (IsAfter next.key) (λ later. is_above key later ≡ true → is_gt (key_order next.key later.key) ≡ false) rest (λ later less above. ap is_gt less) grow.0,
    ))
    (λ is. ((λ above. absurd (false≢true (sym is ∙ above))), least_above key rest grow.1))

-- the same, for an answer from the list as a call saw it
pub least_seen : (key : Option UnitKey) (answer : Option units.Unit) (seen inside list : List units.Unit) → answer ≡ unit_above key seen → seen ≡ inside → inside ≡ list → KeysGrow inside
    → IsLeastAbove key answer list
least_seen key answer seen inside list is same view grow =
    let e : unit_above key inside ≡ answer = sym (is ∙ ap (unit_above key) same) in
    let here : IsLeastAbove key answer inside = subst (λ (a : Option units.Unit). IsLeastAbove key a inside) e (least_above key inside grow) in
    subst (λ (l : List units.Unit). IsLeastAbove key answer l) view here
