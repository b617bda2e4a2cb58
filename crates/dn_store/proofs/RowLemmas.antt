-- The records of a node: their order as std says it, and what a test keeps of them.
use Rattle.std.proofs.Common.{◌≡◌, ℕ, ◌+◌, ◌≤◌, Bool, true, false, cond, List, [], ◌∷◌, filter, nat_le, refl, ap, arith}
use Rattle.std.proofs.lemmas.Bool.{and_from, and_parts, cond_both, leb-true, le-leb}
use Rattle.std.proofs.lemmas.Cmp.{nat_cmp_total, nat_list_cmp_total, on_total, then_total}
use Rattle.std.proofs.lemmas.List.Kept.{IsStrictlySortedBy-filter}
use Rattle.std.specs.Cmp.{IsTotalOrder}
use Rattle.std.specs.List.{list_all}
use Rattle.std.specs.List.Sorted.{IsStrictlySortedBy}
use Rattle.std.specs.Ordering.{is_lt}
use Rattle.std.specs.declared.cmp.Ordering.TheVariants.{Less}
use Rattle.dn_rdata.specs.declared.record.Record.{Record}
use Rattle.dn_rdata.specs.Record.{data_order, folded}
use Rattle.dn_store.specs.Value.{is_soa, row_ok, rows_grow, soas}
use Rattle.dn_store.proofs.ListLemmas.{all_then}
use Rattle.dn_store.proofs.OrderLemmas.{less_from}

-- ---- the order

pub row_total : IsTotalOrder data_order
row_total = then_total (on_total (λ (row : Record). row.rtype) nat_cmp_total) (on_total (λ (row : Record). folded row.rtype row.rdata) nat_list_cmp_total)

-- each record comes before all later ones
abbrev pub RowsGrow : List Record → Type 0
RowsGrow rows = IsStrictlySortedBy data_order rows

abbrev pub RowAfter : Record → Record → Type 0
RowAfter row later = data_order row later ≡ Less

pub grow_sorted : (rows : List Record) → rows_grow rows ≡ true → RowsGrow rows
unfolding IsStrictlySortedBy
grow_sorted [] grow = tt
grow_sorted (row ∷ []) grow = (tt, tt)
grow_sorted (row ∷ next ∷ rows) grow =
    let parts = and_parts (is_lt (data_order row next)) (rows_grow (next ∷ rows)) grow in
    let less : data_order row next ≡ Less = less_from (data_order row next) parts.0 in
    let later : RowsGrow (next ∷ rows) = grow_sorted (next ∷ rows) parts.1 in
    ((less, all_then (RowAfter next) (RowAfter row) rows (λ one. row_total.trans row next one less) later.0), later)

pub sorted_grow : (rows : List Record) → RowsGrow rows → rows_grow rows ≡ true
unfolding IsStrictlySortedBy
sorted_grow [] sorted = refl
sorted_grow (row ∷ []) sorted = refl
sorted_grow (row ∷ next ∷ rows) sorted = and_from (is_lt (data_order row next)) (rows_grow (next ∷ rows)) (ap is_lt sorted.0.0) (sorted_grow (next ∷ rows) sorted.1)

-- ---- what a test keeps

kept_pass : {X : Type 0} (ok test : X → Bool) (list : List X) → list_all ok list ≡ true → list_all ok (filter test list) ≡ true
kept_pass ok test [] all = refl
kept_pass ok test (one ∷ list) all =
    let parts = and_parts (ok one) (list_all ok list) all in
    let later : list_all ok (filter test list) ≡ true = kept_pass ok test list parts.1 in
    cond_both (test one) (one ∷ filter test list) (filter test list) (λ some. list_all ok some ≡ true) (λ is. and_from (ok one) (list_all ok (filter test list)) parts.0 later) (λ is. later)

-- a record more is at most one SOA more
pub soas_more : (b : Bool) (fewer all : ℕ) → fewer ≤ all → (fewer ≤ cond b (1 + all) all) × (cond b (1 + fewer) fewer ≤ cond b (1 + all) all)
soas_more true fewer all le = (omega arith, omega arith)
soas_more false fewer all le = (le, le)

kept_soas : (test : Record → Bool) (rows : List Record) → soas (filter test rows) ≤ soas rows
kept_soas test [] = omega arith
kept_soas test (row ∷ rows) =
    let later = soas_more (is_soa row) (soas (filter test rows)) (soas rows) (kept_soas test rows) in
    cond_both (test row) (row ∷ filter test rows) (filter test rows) (λ some. soas some ≤ soas (row ∷ rows)) (λ is. later.1) (λ is. later.0)

pub one_soa : (fewer rows : List Record) → soas fewer ≤ soas rows → nat_le (soas rows) 1 ≡ true → nat_le (soas fewer) 1 ≡ true
one_soa fewer rows le most = let within : soas rows ≤ 1 = leb-true (soas rows) 1 most in le-leb (soas fewer) 1 (omega arith)

-- ---- records that may stand together under a name, at the apex or not

abbrev pub AreRows : Bool → List Record → Type 0
AreRows at_apex rows = (rows_grow rows ≡ true) × (list_all (row_ok at_apex) rows ≡ true) × (nat_le (soas rows) 1 ≡ true)

pub rows_kept : (at_apex : Bool) (test : Record → Bool) (rows : List Record) → AreRows at_apex rows → AreRows at_apex (filter test rows)
rows_kept at_apex test rows are = (
  sorted_grow (filter test rows) (IsStrictlySortedBy-filter data_order test rows (grow_sorted rows are.0)),
  kept_pass (row_ok at_apex) test rows are.1,
  one_soa (filter test rows) rows (kept_soas test rows) are.2,
)
