-- Records and properties that stand in order.
use Rattle.std.proofs.Common.{◌≡◌, ℕ, ◌-◌, ◌≤◌, Bool, true, List, [], ◌∷◌, length, drop, refl, arith}
use Rattle.std.proofs.lemmas.List.{length-drop}
use Rattle.std.proofs.lemmas.List.Recursion.{is_count_by}
use Rattle.std.specs.Prelude.{count_by}
use Rattle.dn_property.specs.declared.property.Property.{Property}
use Rattle.dn_rdata.specs.declared.record.Record.{Record}
use Rattle.dn_store.specs.Value.{ids_grow, is_soa, rows_grow, soas}

-- what holds of no element and of one holds of at most one
of_one : {X : Type 0} (grow : List X → Bool) → grow [] ≡ true → ((one : X) → grow (one ∷ []) ≡ true) → (list : List X) → length list ≤ 1 → grow list ≡ true
of_one grow none here [] le = none
of_one grow none here (one ∷ []) le = here one
of_one grow none here (one ∷ next ∷ list) le = absurd (omega arith)

pub rows_end : (rows : List Record) (at : ℕ) → length rows ≤ at → rows_grow (drop (at - 1) rows) ≡ true
rows_end rows at le = of_one rows_grow refl (λ row. refl) (drop (at - 1) rows) (omega (arith, length-drop (at - 1) rows))

pub ids_end : (list : List Property) (at : ℕ) → length list ≤ at → ids_grow (drop (at - 1) list) ≡ true
ids_end list at le = of_one ids_grow refl (λ item. refl) (drop (at - 1) list) (omega (arith, length-drop (at - 1) list))

pub soas_counted : (rows : List Record) → soas rows ≡ count_by is_soa rows
soas_counted rows = is_count_by soas is_soa refl (λ row rest. refl) rows
