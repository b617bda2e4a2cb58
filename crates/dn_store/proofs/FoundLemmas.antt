-- Which unit is found under a key: of units in order, and after writes that of the key's write, or the unit from before.
use Rattle.std.proofs.Common.{◌≡◌, ℕ, ◌+◌, true, false, List, [], ◌∷◌, refl, ap, sym, subst, ◌∙◌, cond, Option, Some}
use Rattle.std.specs.List.{AllByRecursion}
use Rattle.std.specs.List.Sorted.{IsStrictlySortedBy}
use Rattle.std.specs.Ordering.{is_eq}
use Rattle.std.specs.Prelude.{IsSomeAnd}
use Rattle.dn_store.specs.declared.unit.Unit as units
use Rattle.dn_store.specs.declared.unit.UnitKey.{UnitKey}
use Rattle.dn_store.specs.declared.unit.Write.{Write}
use Rattle.dn_store.specs.Table.{AreWritten, IsOfWrite, KeysDiffer, KeysGrow, IsNotWritten, has_key, numbered, placed, units_after, unit_at}
use Rattle.dn_store.specs.Value.{key_order}
use Rattle.dn_store.proofs.ListLemmas.{all_both, found_passes}
use Rattle.dn_store.proofs.OrderLemmas.{IsAfter, apart_first, key_back, key_same, key_total}
use Rattle.dn_store.proofs.TakenLemmas.{where_placed}

-- ---- a unit in the list

abbrev pub IsFoundBy : UnitKey → List units.Unit → units.Unit → Type 0
IsFoundBy key list unit = is_eq (key_order unit.key key) ≡ true → unit_at key list ≡ Some unit

pub found_all : (key : UnitKey) (list : List units.Unit) → KeysGrow list → AllByRecursion (IsFoundBy key list) list
unfolding IsStrictlySortedBy
found_all key [] grow = tt
found_all key (unit ∷ list) grow = (
  (λ same. rw same refl),
  all_both (IsAfter unit.key) (IsFoundBy key list) (IsFoundBy key (unit ∷ list)) list (λ later less found same. rw (apart_first key unit.key later.key less same) (found same)) grow.0
      (found_all key list grow.1),
)

-- the unit that is found under a key has it
pub key_at : (key : UnitKey) (list : List units.Unit) (unit : units.Unit) → unit_at key list ≡ Some unit → is_eq (key_order unit.key key) ≡ true
key_at key list unit is = found_passes (has_key key) list unit is

-- ---- a unit that was put

pub put_found : (key : UnitKey) (unit : units.Unit) (list : List units.Unit) → is_eq (key_order unit.key key) ≡ true → unit_at key (placed unit list) ≡ Some unit
put_found key unit [] same = rw same refl
put_found key unit (next ∷ rest) same =
    where_placed (λ list. unit_at key list ≡ Some unit) unit next rest (λ less. rw same refl) (λ equal. rw same refl)
    (λ more. rw (apart_first key next.key unit.key (key_back unit.key next.key more) same) (put_found key unit rest same))

-- the other units
pub other_placed : (key : UnitKey) (unit : units.Unit) (list : List units.Unit) → is_eq (key_order unit.key key) ≡ false → unit_at key (placed unit list) ≡ unit_at key list
other_placed key unit [] apart = rw apart refl
other_placed key unit (next ∷ rest) apart =
    where_placed (λ list. unit_at key list ≡ unit_at key (next ∷ rest)) unit next rest (λ less. rw apart refl)
    (λ same. let e : is_eq (key_order next.key key) ≡ false = ap is_eq (sym (key_total.congr unit.key next.key key same)) ∙ apart in rw (apart, e) refl)
    (λ more. ap (cond (is_eq (key_order next.key key)) (Some next)) (other_placed key unit rest apart))

-- ---- after a batch

pub other_taken : (key : UnitKey) (list : List units.Unit) (top : ℕ) (batch : List Write) → IsNotWritten key batch → unit_at key (units_after list top batch) ≡ unit_at key list
other_taken key list top [] apart = refl
other_taken key list top (write ∷ batch) apart =
    other_taken key (placed (numbered (top + 1) write) list) (top + 1) batch apart.1
    ∙ other_placed key (numbered (top + 1) write) list (key_same.symm write.key key ∙ apart.0)

written_taken : (list : List units.Unit) (top : ℕ) (batch : List Write) → KeysDiffer batch → AreWritten batch (units_after list top batch)
written_taken list top [] differ = tt
written_taken list top (write ∷ batch) differ =
    let unit : units.Unit = numbered (top + 1) write in
    let e : unit_at write.key (units_after (placed unit list) (top + 1) batch) ≡ Some unit = other_taken write.key (placed unit list) (top + 1) batch differ.0 ∙ put_found write.key unit list (key_same.refl write.key) in
    (subst (λ (found : Option units.Unit). IsSomeAnd found (IsOfWrite write)) (sym e) (refl, refl, refl), written_taken (placed unit list) (top + 1) batch differ.1)

-- ---- the same, for lists as the calls saw them

pub written_of : (final start : List units.Unit) (top : ℕ) (seen batch : List Write) → final ≡ units_after start top seen → seen ≡ batch → KeysDiffer batch → AreWritten batch final
written_of final start top seen batch is same differ =
    let e : units_after start top batch ≡ final = sym (is ∙ ap (units_after start top) same) in
    subst (λ (list : List units.Unit). AreWritten batch list) e (written_taken start top batch differ)

pub others_of : (final start list : List units.Unit) (top : ℕ) (seen batch : List Write) → final ≡ units_after start top seen → seen ≡ batch → start ≡ list
    → (key : UnitKey) → IsNotWritten key batch → unit_at key final ≡ unit_at key list
others_of final start list top seen batch is same from key apart = ap (unit_at key) (is ∙ ap (units_after start top) same) ∙ other_taken key start top batch apart ∙ ap (unit_at key) from
