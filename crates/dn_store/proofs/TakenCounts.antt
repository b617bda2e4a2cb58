-- Of the old units, taking writes keeps those whose keys no write has: what holds of each unit, how many pass a test, and
-- the zone's properties.
use Rattle.std.proofs.Common.{◌≡◌, ℕ, ◌+◌, ◌<◌, ◌≤◌, Bool, true, false, List, [], ◌∷◌, refl, ap, sym, ◌∙◌, arith, ⊎_elim}
use Rattle.std.proofs.lemmas.Bool.{and_from, and_left, and_parts, cases_Bool, false≢true, not-true, not_from_false, or_from}
use Rattle.std.specs.List.{AllByRecursion, list_any}
use Rattle.std.specs.List.Sorted.{IsStrictlySortedBy}
use Rattle.std.specs.Ordering.{is_eq}
use Rattle.std.specs.Prelude.{◌&&◌, count_by, not}
use Rattle.dn_store.specs.declared.unit.Unit as units
use Rattle.dn_store.specs.declared.unit.UnitKey.{UnitKey}
use Rattle.dn_store.specs.declared.unit.UnitKey.TheVariants.{Props}
use Rattle.dn_store.specs.declared.unit.Write.{Write}
use Rattle.dn_store.specs.Contents.{number_of_unit, props_number}
use Rattle.dn_store.specs.Table.{IsNumber, KeysGrow, numbered, placed, units_after, unit_at}
use Rattle.dn_store.specs.Value.{key_order}
use Rattle.dn_store.proofs.CountLemmas.{count_more, count_mono, count_out}
use Rattle.dn_store.proofs.FoundLemmas.{other_placed, put_found}
use Rattle.dn_store.proofs.ListLemmas.{all_both, all_of, all_then}
use Rattle.dn_store.proofs.OrderLemmas.{IsAfter, all_after, key_back, key_same, rest_after}
use Rattle.dn_store.proofs.TakenLemmas.{grow_placed, where_placed}

-- some write has the key
abbrev pub is_written : List Write → UnitKey → Bool
is_written writes key = list_any (λ write. is_eq (key_order key write.key)) writes

-- ---- units of other keys

-- what holds of a unit whose key isn't this one
abbrev Apart : (units.Unit → Type 0) → UnitKey → units.Unit → Type 0
Apart P key unit = is_eq (key_order unit.key key) ≡ false → P unit

-- all units that come after a key have others
all_apart : (P : units.Unit → Type 0) (key : UnitKey) (list : List units.Unit) → AllByRecursion (IsAfter key) list → AllByRecursion (Apart P key) list → AllByRecursion P list
all_apart P key list after all = all_both (IsAfter key) (Apart P key) P list (λ unit less apart. apart (key_same.symm unit.key key ∙ ap is_eq less)) after all

-- what holds of the unit that is put, and of those of other keys
old_placed : (P : units.Unit → Type 0) (unit : units.Unit) (list : List units.Unit) → KeysGrow list → P unit → AllByRecursion (Apart P unit.key) list → AllByRecursion P (placed unit list)
unfolding IsStrictlySortedBy
old_placed P unit [] grow holds all = (holds, tt)
old_placed P unit (next ∷ rest) grow holds all =
    where_placed (AllByRecursion P) unit next rest (λ less. (holds, all_apart P unit.key (next ∷ rest) (all_after unit.key next rest less grow) all))
    (λ same. (holds, all_apart P unit.key rest (rest_after unit.key next rest same grow) all.1))
    (λ more. (all.0 (ap is_eq (key_back unit.key next.key more)), old_placed P unit rest grow.1 holds all.1))

-- ---- what holds of each unit

-- what holds of a unit that no write replaces
abbrev Kept : (units.Unit → Type 0) → List Write → units.Unit → Type 0
Kept P writes unit = is_written writes unit.key ≡ false → P unit

all_split : (P : units.Unit → Type 0) (write : Write) (writes : List Write) (list : List units.Unit) → AllByRecursion (Kept P (write ∷ writes)) list → AllByRecursion (Apart (Kept P writes) write.key) list
all_split P write writes list all =
    all_then (Kept P (write ∷ writes)) (Apart (Kept P writes) write.key) list (λ unit kept apart none. kept (or_from (is_eq (key_order unit.key write.key)) (is_written writes unit.key) apart none)) all

-- what holds of each new unit, and of each old one that no write replaces
pub all_taken_old : (P : units.Unit → Type 0) (list : List units.Unit) (top : ℕ) (writes : List Write) → KeysGrow list → ((unit : units.Unit) → top < unit.usn → P unit)
    → AllByRecursion (λ unit. list_any (λ write. is_eq (key_order unit.key write.key)) writes ≡ false → P unit) list
    → AllByRecursion P (units_after list top writes)
all_taken_old P list top [] grow new all = all_then (Kept P []) P list (λ unit kept. kept refl) all
all_taken_old P list top (write ∷ writes) grow new all =
    let unit : units.Unit = numbered (top + 1) write in
    let holds : P unit = new unit (omega arith) in
    all_taken_old P (placed unit list) (top + 1) writes (grow_placed unit list grow) (λ other above. new other (omega arith))
    (old_placed (Kept P writes) unit list grow (λ none. holds) (all_split P write writes list all))

-- ---- how many units pass a test

abbrev Passes : (units.Unit → Bool) → (units.Unit → Bool) → units.Unit → Type 0
Passes p r unit = p unit ≡ true → r unit ≡ true

count_placed : (p r : units.Unit → Bool) (unit : units.Unit) (list : List units.Unit) → KeysGrow list → p unit ≡ false → AllByRecursion (Apart (Passes p r) unit.key) list
    → count_by p (placed unit list) ≤ count_by r list
unfolding IsStrictlySortedBy
count_placed p r unit [] grow fails all = rw (count_out p unit [] fails) (omega arith)
count_placed p r unit (next ∷ rest) grow fails all =
    where_placed (λ after. count_by p after ≤ count_by r (next ∷ rest)) unit next rest
    (λ less. rw (count_out p unit (next ∷ rest) fails) (count_mono p r (next ∷ rest) (all_apart (Passes p r) unit.key (next ∷ rest) (all_after unit.key next rest less grow) all)))
    (λ same. count_more p r unit next rest rest (λ passes. absurd (false≢true (sym fails ∙ passes)))
    (count_mono p r rest (all_apart (Passes p r) unit.key rest (rest_after unit.key next rest same grow) all.1)))
    (λ more. count_more p r next next (placed unit rest) rest (all.0 (ap is_eq (key_back unit.key next.key more))) (count_placed p r unit rest grow.1 fails all.1))

-- the units that pass and that no further write replaces
abbrev stays : (units.Unit → Bool) → List Write → units.Unit → Bool
stays p writes unit = p unit && not (is_written writes unit.key)

-- no new unit passes, and each old one that passes and that no write replaces was counted before
pub count_taken_old : (p r : units.Unit → Bool) (list : List units.Unit) (top : ℕ) (writes : List Write) → KeysGrow list → ((unit : units.Unit) → top < unit.usn → p unit ≡ false)
    → AllByRecursion (λ unit. list_any (λ write. is_eq (key_order unit.key write.key)) writes ≡ false → p unit ≡ true → r unit ≡ true) list
    → count_by p (units_after list top writes) ≤ count_by r list
count_taken_old p r list top [] grow new all = count_mono p r list (all_then (Kept (Passes p r) []) (Passes p r) list (λ unit kept. kept refl) all)
count_taken_old p r list top (write ∷ writes) grow new all =
    let unit : units.Unit = numbered (top + 1) write in
    let fails : p unit ≡ false = new unit (omega arith) in
    let between : units.Unit → Bool = stays p writes in
    let later : count_by p (units_after (placed unit list) (top + 1) writes) ≤ count_by between (placed unit list) =
    count_taken_old p between (placed unit list) (top + 1) writes (grow_placed unit list grow) (λ other above. new other (omega arith))
    (all_of (Kept (Passes p between) writes) (placed unit list)
    (λ other none passes. and_from (p other) (not (is_written writes other.key)) passes (not_from_false (is_written writes other.key) none))) in
    let first : count_by between (placed unit list) ≤ count_by r list =
    count_placed between r unit list grow (and_left (p unit) (not (is_written writes unit.key)) fails)
    (all_then (Apart (Kept (Passes p r) writes) write.key) (Apart (Passes between r) write.key) list
    (λ other kept apart stay. let parts = and_parts (p other) (not (is_written writes other.key)) stay in kept apart (not-true (is_written writes other.key) parts.1) parts.0)
    (all_split (Passes p r) write writes list all)) in
    omega (arith, later, first)

-- ---- the zone's properties

props_one : (list : List units.Unit) (top bound : ℕ) (writes : List Write) → bound ≤ top → number_of_unit (unit_at Props (units_after list top writes)) ≤ bound
    → unit_at Props (units_after list top writes) ≡ unit_at Props list
props_one list top bound [] le old = refl
props_one list top bound (write ∷ writes) le old =
    let unit : units.Unit = numbered (top + 1) write in
    let later : unit_at Props (units_after (placed unit list) (top + 1) writes) ≡ unit_at Props (placed unit list) = props_one (placed unit list) (top + 1) bound writes (omega arith) old in
    later
    ∙ ⊎_elim
    (λ same. let new : number_of_unit (unit_at Props (units_after (placed unit list) (top + 1) writes)) ≡ top + 1 = ap number_of_unit (later ∙ put_found Props unit list same) in absurd (omega (arith, new, le, old)))
    (λ apart. other_placed Props unit list apart) (cases_Bool (is_eq (key_order write.key Props)))

-- where the number of the properties is old, they are as before
pub props_taken : (list : List units.Unit) (top bound : ℕ) (writes : List Write) → bound ≤ top → AllByRecursion (λ unit. IsNumber top unit.usn) list → KeysGrow list
    → props_number (units_after list top writes) ≤ bound → unit_at Props (units_after list top writes) ≡ unit_at Props list
unfolding props_number
props_taken list top bound writes le numbers grow old = props_one list top bound writes le old
