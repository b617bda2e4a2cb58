-- Which units are not above the last key that a step of a pass looked at: those from before, and those that the step
-- looked at.
use Rattle.std.proofs.Common.{◌≡◌, ℕ, ◌+◌, ◌≤◌, Bool, true, false, not, ◌&&◌, List, [], ◌∷◌, length, filter, take, drop, count_by, arith, sym, subst, ◌∙◌, Option, take_all}
use Rattle.std.proofs.lemmas.Bool.{and_from, and_left, cond_both, false≢true, leb-true, not_from_false, not_from_true}
use Rattle.std.proofs.lemmas.List.Sums.{sum_by-take-drop}
use Rattle.std.specs.Cmp.{first_so, second_so}
use Rattle.std.specs.List.{AllByRecursion}
use Rattle.dn_store.specs.declared.unit.Unit as units
use Rattle.dn_store.specs.declared.unit.UnitKey.{UnitKey}
use Rattle.dn_store.specs.Table.{KeysGrow, is_above}
use Rattle.dn_store.proofs.CallerLemmas.{all_join, all_of, all_passes, all_then, count_cons, count_mono, none_counted, ones, ones_mono}
use Rattle.dn_pass.specs.Pass.{is_last_step, last_key, looked_at}
use Rattle.dn_pass.proofs.LastKeyLemmas.{ahead_is}

-- ---- the units above a key and the others are all

abbrev HoldsBehind : (units.Unit → Type 0) → Option UnitKey → List units.Unit → Type 0
HoldsBehind P after list = AllByRecursion (λ unit. is_above after unit ≡ false → P unit) list

all_parts : (P : units.Unit → Type 0) (after : Option UnitKey) (list : List units.Unit) → HoldsBehind P after list → AllByRecursion P (filter (is_above after) list) → AllByRecursion P list
all_parts P after [] before above = tt
all_parts P after (unit ∷ rest) before above =
    let kept : List units.Unit = filter (is_above after) rest in
    cond_both (is_above after unit) (unit ∷ kept) kept (λ list. AllByRecursion P list → AllByRecursion P (unit ∷ rest)) (λ is all. (all.0, all_parts P after rest before.1 all.1))
    (λ is all. (before.0 is, all_parts P after rest before.1 all)) above

-- how many units that pass a test are not above a key
abbrev behind_too : (units.Unit → Bool) → Option UnitKey → units.Unit → Bool
behind_too q after unit = not (is_above after unit) && q unit

count_parts : (q : units.Unit → Bool) (after : Option UnitKey) (list : List units.Unit) → count_by q list ≤ count_by (behind_too q after) list + count_by q (filter (is_above after) list)
count_parts q after [] = omega arith
count_parts q after (unit ∷ rest) =
    let kept : List units.Unit = filter (is_above after) rest in
    let here : count_by q (unit ∷ rest) ≡ ones (q unit) + count_by q rest = count_cons q unit rest in
    let there : count_by (behind_too q after) (unit ∷ rest) ≡ ones (behind_too q after unit) + count_by (behind_too q after) rest = count_cons (behind_too q after) unit rest in
    let later : count_by q rest ≤ count_by (behind_too q after) rest + count_by q kept = count_parts q after rest in
    cond_both (is_above after unit) (unit ∷ kept) kept (λ list. count_by q (unit ∷ rest) ≤ count_by (behind_too q after) (unit ∷ rest) + count_by q list)
    (λ is. let some : count_by q (unit ∷ kept) ≡ ones (q unit) + count_by q kept = count_cons q unit kept in omega arith)
    (λ is. let one : ones (q unit) ≤ ones (behind_too q after unit) = ones_mono (q unit) (behind_too q after unit) (and_from (not (is_above after unit)) (q unit) (not_from_false (is_above after unit) is)) in omega arith)

-- ---- a step

pub spans_all : (P : units.Unit → Type 0) (after : Option UnitKey) (most : ℕ) (list : List units.Unit) → KeysGrow list
    → AllByRecursion (λ unit. is_above after unit ≡ false → P unit) list → AllByRecursion P (looked_at after most list)
    → AllByRecursion (λ unit. is_above (last_key after (looked_at after most list)) unit ≡ false → P unit) list
unfolding looked_at
spans_all P after most list grow before looked =
    let kept : List units.Unit = filter (is_above after) list in
    let next : Option UnitKey = last_key after (take most kept) in
    let Q : units.Unit → Type 0 = λ unit. is_above next unit ≡ false → P unit in
    let front : AllByRecursion Q (take most kept) = all_then P Q (take most kept) (λ unit holds none. holds) looked in
    let ahead : AllByRecursion Q (filter (is_above next) list) =
    all_then (λ unit. is_above next unit ≡ true) Q (filter (is_above next) list) (λ unit above none. absurd (false≢true (sym none ∙ above))) (all_passes (is_above next) list) in
    all_parts Q after list (all_then (λ unit. is_above after unit ≡ false → P unit) (λ unit. is_above after unit ≡ false → Q unit) list (λ unit holds is none. holds is) before)
    (all_join Q most kept front (subst (AllByRecursion Q) (ahead_is after most list grow) ahead))

pub spans_count : (q : units.Unit → Bool) (after : Option UnitKey) (most : ℕ) (list : List units.Unit) → KeysGrow list
    → count_by (λ unit. not (is_above (last_key after (looked_at after most list)) unit) && q unit) list
    ≤ count_by (λ unit. not (is_above after unit) && q unit) list + count_by q (looked_at after most list)
unfolding looked_at
spans_count q after most list grow =
    let kept : List units.Unit = filter (is_above after) list in
    let next : Option UnitKey = last_key after (take most kept) in
    let p : units.Unit → Bool = behind_too q next in
    let parts : count_by p list ≤ count_by (behind_too p after) list + count_by p kept = count_parts p after list in
    let before : count_by (behind_too p after) list ≤ count_by (behind_too q after) list =
    count_mono (behind_too p after) (behind_too q after) list
    (all_of (λ unit. behind_too p after unit ≡ true → behind_too q after unit ≡ true) list
    (λ unit both. and_from (not (is_above after unit)) (q unit) (first_so (not (is_above after unit)) (p unit) both)
    (second_so (not (is_above next unit)) (q unit) (second_so (not (is_above after unit)) (p unit) both)))) in
    let some : count_by p (take most kept) + count_by p (drop most kept) ≡ count_by p kept = sum_by-take-drop (λ unit. ones (p unit)) kept most in
    let front : count_by p (take most kept) ≤ count_by q (take most kept) =
    count_mono p q (take most kept) (all_of (λ unit. p unit ≡ true → q unit ≡ true) (take most kept) (λ unit. second_so (not (is_above next unit)) (q unit))) in
    let none : count_by p (drop most kept) ≡ 0 =
    subst (λ (ahead : List units.Unit). count_by p ahead ≡ 0) (ahead_is after most list grow)
    (none_counted p (filter (is_above next) list) (all_then (λ unit. is_above next unit ≡ true) (λ unit. p unit ≡ false) (filter (is_above next) list)
    (λ unit above. and_left (not (is_above next unit)) (q unit) (not_from_true (is_above next unit) above)) (all_passes (is_above next) list))) in
    omega arith

-- ---- the last step

above_taken : (after : Option UnitKey) (most : ℕ) (list : List units.Unit) → is_last_step after most list ≡ true → filter (is_above after) list ≡ looked_at after most list
unfolding is_last_step looked_at
above_taken after most list last = sym (take_all most (filter (is_above after) list) (leb-true (length (filter (is_above after) list)) most last))

pub spans_all_last : (P : units.Unit → Type 0) (after : Option UnitKey) (most : ℕ) (list : List units.Unit) → is_last_step after most list ≡ true
    → AllByRecursion (λ unit. is_above after unit ≡ false → P unit) list → AllByRecursion P (looked_at after most list) → AllByRecursion P list
spans_all_last P after most list last before looked = all_parts P after list before (subst (AllByRecursion P) (sym (above_taken after most list last)) looked)

pub spans_count_last : (q : units.Unit → Bool) (after : Option UnitKey) (most : ℕ) (list : List units.Unit) → is_last_step after most list ≡ true
    → count_by q list ≤ count_by (λ unit. not (is_above after unit) && q unit) list + count_by q (looked_at after most list)
spans_count_last q after most list last =
    subst (λ (some : List units.Unit). count_by q list ≤ count_by (behind_too q after) list + count_by q some) (above_taken after most list last) (count_parts q after list)
