-- How many units are above a key, as writes are taken whose keys are there.
use Rattle.std.proofs.Common.{◌≡◌, ℕ, ◌+◌, Bool, true, false, List, [], ◌∷◌, length, filter, refl, ap, sym, ◌∙◌, Option, None, Some, ⊎_elim}
use Rattle.std.proofs.lemmas.Bool.{false≢true, or_cases, or_left, or_right}
use Rattle.std.proofs.lemmas.Cmp.{alike_right, eq_by_cmp_equiv}
use Rattle.std.proofs.lemmas.List.Elements.{All-from_recursion, recursion_from_All}
use Rattle.std.proofs.lemmas.List.Folds.{list_any_none}
use Rattle.std.proofs.lemmas.List.Sums.{length-filter}
use Rattle.std.proofs.lemmas.Map.Made.{All-is_member}
use Rattle.std.specs.List.{AllByRecursion, list_any}
use Rattle.std.specs.List.Sorted.{IsStrictlySortedBy}
use Rattle.std.specs.Ordering.{is_eq, is_lt}
use Rattle.std.specs.Prelude.{count_by}
use Rattle.std.specs.declared.cmp.Ordering.TheVariants.{Equal}
use Rattle.dn_store.specs.declared.unit.Unit as units
use Rattle.dn_store.specs.declared.unit.UnitKey.{UnitKey}
use Rattle.dn_store.specs.declared.unit.Write.{Write}
use Rattle.dn_store.specs.Table.{KeysGrow, is_above, numbered, placed, units_after}
use Rattle.dn_store.specs.Value.{key_order}
use Rattle.dn_store.proofs.CountLemmas.{count_cons, ones}
use Rattle.dn_store.proofs.ListLemmas.{all_then}
use Rattle.dn_store.proofs.OrderLemmas.{IsAfter, all_after, key_total, unit_total}
use Rattle.dn_store.proofs.TakenLemmas.{grow_placed, where_placed}

-- how many units are above a key
abbrev pub ahead : Option UnitKey → List units.Unit → ℕ
ahead after list = length (filter (is_above after) list)

-- a unit has the key
abbrev has : UnitKey → List units.Unit → Bool
has key list = list_any (λ unit. is_eq (key_order key unit.key)) list

-- ---- a unit that takes the place of one of its key

none_has : (key : UnitKey) (list : List units.Unit) → AllByRecursion (IsAfter key) list → has key list ≡ false
none_has key list after =
    let Apart : units.Unit → Type 0 = λ unit. is_eq (key_order key unit.key) ≡ false in
    list_any_none (λ unit. is_eq (key_order key unit.key)) list (All-from_recursion Apart list (all_then (IsAfter key) Apart list (λ unit less. ap is_eq less) after))

same_above : (after : Option UnitKey) (unit next : units.Unit) → key_order unit.key next.key ≡ Equal → is_above after unit ≡ is_above after next
same_above None unit next same = refl
same_above (Some key) unit next same = ap is_lt (alike_right key_total unit.key next.key key same)

above_placed : (after : Option UnitKey) (unit : units.Unit) (list : List units.Unit) → KeysGrow list → has unit.key list ≡ true → count_by (is_above after) (placed unit list) ≡ count_by (is_above after) list
unfolding IsStrictlySortedBy
above_placed after unit [] grow there = absurd (false≢true there)
above_placed after unit (next ∷ rest) grow there =
    let above : units.Unit → Bool = is_above after in
    let counted : count_by above (next ∷ rest) ≡ ones (above next) + count_by above rest = count_cons above next rest in
    where_placed (λ list. count_by above list ≡ count_by above (next ∷ rest)) unit next rest
    (λ less. absurd (false≢true (sym (none_has unit.key (next ∷ rest) (all_after unit.key next rest less grow)) ∙ there)))
    (λ same. count_cons above unit rest ∙ ap (λ b. ones b + count_by above rest) (same_above after unit next same) ∙ sym counted)
    (λ more. count_cons above next (placed unit rest) ∙ ap (λ count. ones (above next) + count) (above_placed after unit rest grow.1 (rw more at there)) ∙ sym counted)

-- keys that are there stay there
has_placed : (key : UnitKey) (unit : units.Unit) (list : List units.Unit) → has key list ≡ true → has key (placed unit list) ≡ true
has_placed key unit [] there = absurd (false≢true there)
has_placed key unit (next ∷ rest) there =
    where_placed (λ list. has key list ≡ true) unit next rest (λ less. or_right (is_eq (key_order key unit.key)) (has key (next ∷ rest)) there)
    (λ same. rw (alike_right key_total unit.key next.key key same) there)
    (λ more. ⊎_elim (or_left (is_eq (key_order key next.key)) (has key (placed unit rest)))
    (λ later. or_right (is_eq (key_order key next.key)) (has key (placed unit rest)) (has_placed key unit rest later))
    (or_cases (is_eq (key_order key next.key)) (has key rest) there))

abbrev pub AreThere : List units.Unit → List Write → Type 0
AreThere list writes = AllByRecursion (λ write. has write.key list ≡ true) writes

above_taken : (after : Option UnitKey) (list : List units.Unit) (top : ℕ) (writes : List Write) → KeysGrow list → AreThere list writes
    → count_by (is_above after) (units_after list top writes) ≡ count_by (is_above after) list
above_taken after list top [] grow all = refl
above_taken after list top (write ∷ writes) grow all =
    let unit : units.Unit = numbered (top + 1) write in
    let still : AreThere (placed unit list) writes =
    all_then (λ one. has one.key list ≡ true) (λ one. has one.key (placed unit list) ≡ true) writes (λ one. has_placed one.key unit list) all.1 in
    above_taken after (placed unit list) (top + 1) writes (grow_placed unit list grow) still ∙ above_placed after unit list grow all.0

pub ahead_taken : (after : Option UnitKey) (list : List units.Unit) (top : ℕ) (writes : List Write) → KeysGrow list → AreThere list writes → ahead after (units_after list top writes) ≡ ahead after list
ahead_taken after list top writes grow all =
    length-filter (is_above after) (units_after list top writes) ∙ above_taken after list top writes grow all ∙ sym (length-filter (is_above after) list)

-- ---- the writes of a sweep are of keys that are there

abbrev pub Here : List units.Unit → units.Unit → Type 0
Here list unit = has unit.key list ≡ true

pub all_here : (list : List units.Unit) → AllByRecursion (Here list) list
all_here list = recursion_from_All (Here list) list (All-is_member (eq_by_cmp_equiv unit_total) list)
