-- The order of keys, and of units by their keys.
use Rattle.std.proofs.Common.{◌≡◌, true, false, List, [], ◌∷◌, map, reverse, refl, ap, sym, ◌∙◌}
use Rattle.std.proofs.lemmas.Bool.{false≢true}
use Rattle.std.proofs.lemmas.Cmp.{eq_by_cmp_equiv, nat_cmp_total, lists_total, on_total}
use Rattle.std.specs.Cmp.{IsEquivalence, IsTotalOrder}
use Rattle.std.specs.List.{AllByRecursion, IsDistinct}
use Rattle.std.specs.List.Sorted.{IsStrictlySortedBy}
use Rattle.std.specs.Ordering.{eq_by_cmp, is_eq, is_lt, ordering_reverse}
use Rattle.std.specs.declared.cmp.Ordering.{Ordering}
use Rattle.std.specs.declared.cmp.Ordering.TheVariants.{Less, Equal, Greater}
use Rattle.dn_name.specs.Name.{Labels, lowered, order}
use Rattle.dn_store.specs.declared.unit.Unit as units
use Rattle.dn_store.specs.declared.unit.UnitKey.{UnitKey}
use Rattle.dn_store.specs.declared.unit.UnitKey.TheVariants.{Props, Node}
use Rattle.dn_store.specs.declared.unit.Write.{Write}
use Rattle.dn_store.specs.Table.{KeysDiffer, KeysGrow}
use Rattle.dn_store.specs.Value.{key_order}
use Rattle.dn_store.proofs.ListLemmas.{all_map, all_then}

name_total : IsTotalOrder order
name_total = on_total (λ (name : Labels). reverse (lowered name)) (lists_total (lists_total nat_cmp_total))

key_antisymm : (x y : UnitKey) → key_order x y ≡ ordering_reverse (key_order y x)
key_antisymm Props Props = refl
key_antisymm Props (Node name) = refl
key_antisymm (Node name) Props = refl
key_antisymm (Node left) (Node right) = name_total.antisymm left right

key_trans : (x y z : UnitKey) → key_order x y ≡ Less → key_order y z ≡ Less → key_order x z ≡ Less
key_trans Props Props z a b = absurd (cc)
key_trans Props (Node y) Props a b = absurd (cc)
key_trans Props (Node y) (Node z) a b = refl
key_trans (Node x) Props z a b = absurd (cc)
key_trans (Node x) (Node y) Props a b = absurd (cc)
key_trans (Node x) (Node y) (Node z) a b = name_total.trans x y z a b

key_congr : (x y z : UnitKey) → key_order x y ≡ Equal → key_order x z ≡ key_order y z
key_congr Props Props z a = refl
key_congr Props (Node y) z a = absurd (cc)
key_congr (Node x) Props z a = absurd (cc)
key_congr (Node x) (Node y) Props a = refl
key_congr (Node x) (Node y) (Node z) a = name_total.congr x y z a

pub key_total : IsTotalOrder key_order
key_total = record { antisymm = key_antisymm; trans = key_trans; congr = key_congr }

pub key_back : (x y : UnitKey) → key_order x y ≡ Greater → key_order y x ≡ Less
key_back x y is = key_antisymm y x ∙ ap ordering_reverse is

pub less_from : (o : Ordering) → is_lt o ≡ true → o ≡ Less
less_from Less is = refl
less_from Equal is = absurd (false≢true is)
less_from Greater is = absurd (false≢true is)

-- whether two keys are one
pub key_same : IsEquivalence (eq_by_cmp key_order)
key_same = eq_by_cmp_equiv key_total

-- the key of a later unit isn't that of the first
pub apart_first : (key first later : UnitKey) → key_order first later ≡ Less → is_eq (key_order later key) ≡ true → is_eq (key_order first key) ≡ false
apart_first key first later less same = key_same.symm first key ∙ sym (key_same.congr later key first same) ∙ key_same.symm later first ∙ ap is_eq less

-- ---- units by their keys

abbrev pub unit_order : units.Unit → units.Unit → Ordering
unit_order unit other = key_order unit.key other.key

pub unit_total : IsTotalOrder unit_order
unit_total = on_total (λ (unit : units.Unit). unit.key) key_total

abbrev pub IsAfter : UnitKey → units.Unit → Type 0
IsAfter key unit = key_order key unit.key ≡ Less

-- all units come after a key that comes before the first
pub all_after : (key : UnitKey) (next : units.Unit) (rest : List units.Unit) → key_order key next.key ≡ Less → KeysGrow (next ∷ rest) → AllByRecursion (IsAfter key) (next ∷ rest)
unfolding IsStrictlySortedBy
all_after key next rest less grow = (less, all_then (IsAfter next.key) (IsAfter key) rest (λ later. key_trans key next.key later.key less) grow.0)

-- and those behind the first after its own
pub rest_after : (key : UnitKey) (next : units.Unit) (rest : List units.Unit) → key_order key next.key ≡ Equal → KeysGrow (next ∷ rest) → AllByRecursion (IsAfter key) rest
unfolding IsStrictlySortedBy
rest_after key next rest same grow = all_then (IsAfter next.key) (IsAfter key) rest (λ later less. key_congr key next.key later.key same ∙ less) grow.0

-- units whose keys differ make writes whose keys differ
pub differ_map : (f : units.Unit → Write) → ((unit : units.Unit) → (f unit).key ≡ unit.key) → (list : List units.Unit) → IsDistinct (eq_by_cmp unit_order) list → KeysDiffer (map f list)
unfolding IsDistinct
differ_map f keeps [] apart = tt
differ_map f keeps (unit ∷ list) apart =
    let Apart : UnitKey → UnitKey → Type 0 = λ key other. is_eq (key_order key other) ≡ false in (
      all_map (λ other. Apart (f unit).key other.key) f list
          (all_then (λ later. Apart unit.key later.key) (λ later. Apart (f unit).key (f later).key) list (λ later is. rw (keeps unit, keeps later) is) apart.0),
      differ_map f keeps list apart.1,
    )
