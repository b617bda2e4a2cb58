-- The longest front of units that takes at most so many bytes.
use Rattle.std.proofs.Common.{◌≡◌, ℕ, ◌+◌, ◌-◌, ◌*◌, ◌<◌, ◌≤◌, List, [], ◌∷◌, ◌++◌, length, nat_le, Bool, true, false, if◌then◌else◌, cond, refl, ap, sym, subst, arith}
use Rattle.std.proofs.lemmas.Bool.{cond_both, leb-false, leb-true}
use Rattle.std.proofs.lemmas.List.Sums.{sum_by-cons}
use Rattle.std.specs.List.{AllByRecursion, IsDistinct}
use Rattle.std.specs.Ordering.{eq_by_cmp}
use Rattle.std.specs.Prelude.{sum_by}
use Rattle.dn_store.specs.declared.unit.Unit as units
use Rattle.dn_store.specs.declared.unit.UnitKey.{UnitKey}
use Rattle.dn_store.specs.declared.unit.UnitKey.TheVariants.{Props, Node}
use Rattle.dn_store.specs.Run.{FirstIsOver}
use Rattle.dn_store.specs.Table.{form_size, front_within, key_size}
use Rattle.dn_store.proofs.OrderLemmas.{unit_order}

-- ---- what it keeps

pub all_front : (P : units.Unit → Type 0) (room : ℕ) (list : List units.Unit) → AllByRecursion P list → AllByRecursion P (front_within room list)
all_front P room [] all = tt
all_front P room (unit ∷ list) all =
    let left : ℕ = room - form_size unit in
    cond_both (nat_le (form_size unit) room) (unit ∷ front_within left list) [] (AllByRecursion P) (λ is. (all.0, all_front P left list all.1)) (λ is. tt)

-- whether two units have one key
abbrev pub same : units.Unit → units.Unit → Bool
same = eq_by_cmp unit_order

pub distinct_front : (room : ℕ) (list : List units.Unit) → IsDistinct same list → IsDistinct same (front_within room list)
unfolding IsDistinct
distinct_front room [] apart = tt
distinct_front room (unit ∷ list) apart =
    let left : ℕ = room - form_size unit in
    cond_both (nat_le (form_size unit) room) (unit ∷ front_within left list) [] (IsDistinct same) (λ is. (all_front (λ later. same unit later ≡ false) left list apart.0, distinct_front left list apart.1)) (λ is. tt)

-- ---- how many bytes it takes

pub front_room : (room : ℕ) (list : List units.Unit) → sum_by form_size (front_within room list) ≤ room
front_room room [] = omega arith
front_room room (unit ∷ list) =
    let size : ℕ = form_size unit in
    let front : List units.Unit = front_within (room - size) list in
    let later : sum_by form_size front ≤ room - size = front_room (room - size) list in
    let whole : sum_by form_size (unit ∷ front) ≡ size + sum_by form_size front = sum_by-cons form_size unit front in
    cond_both (nat_le size room) (unit ∷ front) [] (λ some. sum_by form_size some ≤ room) (λ is. let fit : size ≤ room = leb-true size room is in omega arith) (λ is. omega arith)

key_least : (key : UnitKey) → 1 ≤ key_size key
key_least Props = omega arith
key_least (Node name) = omega arith

-- a unit takes at least 29 bytes
pub size_count : (list : List units.Unit) → 29 * length list ≤ sum_by form_size list
size_count [] = omega arith
size_count (unit ∷ list) =
    let key : 1 ≤ key_size unit.key = key_least unit.key in
    let later : 29 * length list ≤ sum_by form_size list = size_count list in
    let whole : sum_by form_size (unit ∷ list) ≡ form_size unit + sum_by form_size list = sum_by-cons form_size unit list in
    omega arith

-- ---- what stands behind it

abbrev pub behind_front : ℕ → List units.Unit → List units.Unit
behind_front room [] = []
behind_front room (unit ∷ list) = if nat_le (form_size unit) room then behind_front (room - form_size unit) list else unit ∷ list

split_one : (b : Bool) (unit : units.Unit) (front rest list : List units.Unit) → front ++ rest ≡ list → cond b (unit ∷ front) [] ++ cond b rest (unit ∷ list) ≡ unit ∷ list
split_one true unit front rest list is = ap (λ later. unit ∷ later) is
split_one false unit front rest list is = refl

pub front_split : (room : ℕ) (list : List units.Unit) → front_within room list ++ behind_front room list ≡ list
front_split room [] = refl
front_split room (unit ∷ list) =
    let left : ℕ = room - form_size unit in
    split_one (nat_le (form_size unit) room) unit (front_within left list) (behind_front left list) list (front_split left list)

-- what is over behind the later units is over behind all
over_more : (room used size : ℕ) (rest : List units.Unit) → size ≤ room → FirstIsOver (room - size) used rest → FirstIsOver room (size + used) rest
over_more room used size [] fit over = tt
over_more room used size (unit ∷ rest) fit over = omega arith

over_one : (room : ℕ) (b : Bool) (unit : units.Unit) (front rest list : List units.Unit) → nat_le (form_size unit) room ≡ b
    → (form_size unit ≤ room → FirstIsOver room (sum_by form_size (unit ∷ front)) rest) → FirstIsOver room (sum_by form_size (cond b (unit ∷ front) [])) (cond b rest (unit ∷ list))
over_one room true unit front rest list is later = later (leb-true (form_size unit) room is)
over_one room false unit front rest list is later = let over : room < form_size unit = leb-false (form_size unit) room is in omega arith

-- the first of them doesn't fit
pub front_over : (room : ℕ) (list : List units.Unit) → FirstIsOver room (sum_by form_size (front_within room list)) (behind_front room list)
front_over room [] = tt
front_over room (unit ∷ list) =
    let size : ℕ = form_size unit in
    let left : ℕ = room - size in
    let front : List units.Unit = front_within left list in
    let rest : List units.Unit = behind_front left list in
    let whole : sum_by form_size (unit ∷ front) ≡ size + sum_by form_size front = sum_by-cons form_size unit front in
    over_one room (nat_le size room) unit front rest list refl
    (λ fit. subst (λ (used : ℕ). FirstIsOver room used rest) (sym whole) (over_more room (sum_by form_size front) size rest fit (front_over left list)))
