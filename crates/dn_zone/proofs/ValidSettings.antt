-- Commands of aging leave the ids of a zone's properties in order.
use Rattle.std.proofs.Common.{◌≡◌, ◌<◌, Bool, true, true≢false, List, [], ◌∷◌, ◌++◌, filter, nat_lt, Option, None, Some, refl, sym, arith}
use Rattle.std.proofs.lemmas.Bool.{cond_both, lt-ltb, ltb-true}
use Rattle.std.specs.List.{AllByRecursion}
use Rattle.std.specs.Int.{w32, to_le_bytes}
use Rattle.dn_name.specs.Name.{Labels}
use Rattle.dn_property.specs.declared.property.Property.{Property}
use Rattle.dn_property.specs.Rules.{rules_of}
use Rattle.dn_store.specs.declared.unit.Unit as units
use Rattle.dn_store.specs.declared.unit.UnitKey.{UnitKey}
use Rattle.dn_store.specs.declared.unit.UnitKey.TheVariants as keys
use Rattle.dn_store.specs.declared.unit.UnitValue.{UnitValue}
use Rattle.dn_store.specs.declared.unit.UnitValue.TheVariants as values
use Rattle.dn_store.specs.Contents.{properties_in, properties_of, properties_of_unit}
use Rattle.dn_store.specs.Table.{unit_at}
use Rattle.dn_store.specs.Valid.{IsValidUnit}
use Rattle.dn_store.specs.Value.{ids_grow, unit_ok}
use Rattle.dn_store.proofs.CallerLemmas.{all_filter, all_passes, all_then, and_both, and_first, and_second, valid_at}
use Rattle.dn_update.specs.Writes.{Wanted}
use Rattle.dn_update.proofs.CallerLemmas.{IsAllowed}
use Rattle.dn_zone.specs.declared.settings.Setting.{Setting}
use Rattle.dn_zone.specs.Settings.{all_set, is_set, property, property_id, wanted_number, with_property, with_setting, with_settings}
use Rattle.dn_zone.specs.Zone.{settings_wanted}

-- ---- each id is below those of all later properties

abbrev Below : Property → Property → Type 0
Below item later = item.id < later.id

abbrev IdsGrow : List Property → Type 0
IdsGrow [] = Unit {0}
IdsGrow (item ∷ list) = AllByRecursion (Below item) list × IdsGrow list

grow_all : (list : List Property) → ids_grow list ≡ true → IdsGrow list
grow_all [] is = tt
grow_all (item ∷ []) is = (tt, tt)
grow_all (item ∷ next ∷ list) is =
    let later : IdsGrow (next ∷ list) = grow_all (next ∷ list) (and_second (nat_lt item.id next.id) (ids_grow (next ∷ list)) is) in
    let first : item.id < next.id = ltb-true item.id next.id (and_first (nat_lt item.id next.id) (ids_grow (next ∷ list)) is) in
    ((first, all_then (Below next) (Below item) list (λ other more. let above : next.id < other.id = more in omega arith) later.0), later)

all_grow : (list : List Property) → IdsGrow list → ids_grow list ≡ true
all_grow [] grow = refl
all_grow (item ∷ []) grow = refl
all_grow (item ∷ next ∷ list) grow =
    and_both (nat_lt item.id next.id) (ids_grow (next ∷ list)) (lt-ltb item.id next.id grow.0.0) (all_grow (next ∷ list) grow.1)

grow_filter : (test : Property → Bool) (list : List Property) → IdsGrow list → IdsGrow (filter test list)
grow_filter test [] grow = tt
grow_filter test (item ∷ list) grow =
    cond_both (test item) (item ∷ filter test list) (filter test list) IdsGrow
    (λ is. (all_filter (Below item) test list grow.0, grow_filter test list grow.1)) (λ is. grow_filter test list grow.1)

-- ---- a property in its place

all_around : (P : Property → Type 0) (front : List Property) (item : Property) (back : List Property) → AllByRecursion P front → P item → AllByRecursion P back
    → AllByRecursion P (front ++ item ∷ back)
all_around P [] item back all holds rest = (holds, rest)
all_around P (one ∷ front) item back all holds rest = (all.0, all_around P front item back all.1 holds rest)

grow_around : (front : List Property) (item : Property) (back : List Property) → IdsGrow front → AllByRecursion (λ one. one.id < item.id) front
    → AllByRecursion (Below item) back → IdsGrow back → IdsGrow (front ++ item ∷ back)
grow_around [] item back grow below above rest = (above, rest)
grow_around (one ∷ front) item back grow below above rest =
    let first : one.id < item.id = below.0 in (
      all_around (Below one) front item back grow.0 first
          (all_then (Below item) (Below one) back (λ other more. let behind : item.id < other.id = more in omega arith) above),
      grow_around front item back grow.1 below.1 above rest,
    )

placed_grow : (item : Property) (list : List Property) → IdsGrow list → IdsGrow (with_property item list)
unfolding with_property
placed_grow item list grow =
    let lower : Property → Bool = λ other. nat_lt other.id item.id in
    let higher : Property → Bool = λ other. nat_lt item.id other.id in
    grow_around (filter lower list) item (filter higher list) (grow_filter lower list grow)
    (all_then (λ one. lower one ≡ true) (λ one. one.id < item.id) (filter lower list) (λ one is. ltb-true one.id item.id is) (all_passes lower list))
    (all_then (λ one. higher one ≡ true) (Below item) (filter higher list) (λ one is. ltb-true item.id one.id is) (all_passes higher list))
    (grow_filter higher list grow)

-- ---- settings

set_grow : (setting : Setting) (list : List Property) → IdsGrow list → IdsGrow (with_setting setting list)
unfolding with_setting
set_grow setting list grow =
    let item : Property = property (property_id setting) (to_le_bytes w32 (wanted_number setting)) in
    cond_both (is_set (rules_of list) setting) list (with_property item list) IdsGrow (λ is. grow) (λ is. placed_grow item list grow)

all_set_grow : (settings : List Setting) (list : List Property) → IdsGrow list → IdsGrow (with_settings settings list)
unfolding with_settings
all_set_grow [] list grow = grow
all_set_grow (setting ∷ rest) list grow = all_set_grow rest (with_setting setting list) (set_grow setting list grow)

-- what settings want written is allowed
pub settings_allowed : (apex : Labels) (list : List Property) (settings : List Setting) → ids_grow list ≡ true
    → AllByRecursion (IsAllowed apex) (settings_wanted list settings)
unfolding settings_wanted
settings_allowed apex list settings grow =
    let wanted : Wanted = record { key = keys.Props; value = values.Props (with_settings settings list) } in
    cond_both (all_set (rules_of list) settings) [] (wanted ∷ []) (AllByRecursion (IsAllowed apex)) (λ is. tt)
    (λ is. ((all_grow (with_settings settings list) (all_set_grow settings list (grow_all list grow)), tt, tt), tt))

-- ---- the properties of a valid zone

value_grow : (apex : Labels) (key : UnitKey) (value : UnitValue) → unit_ok apex key value ≡ true → ids_grow (properties_in value) ≡ true
value_grow apex keys.Props (values.Props list) is = is
value_grow apex (keys.Node name) (values.Props list) is = absurd (true≢false (sym is))
value_grow apex key (values.Live rows) is = refl
value_grow apex key (values.Tombstone ticks) is = refl
value_grow apex key values.Gone is = refl

found_grow : (apex : Labels) (list : List units.Unit) (found : Option units.Unit) → unit_at keys.Props list ≡ found → AllByRecursion (IsValidUnit apex) list
    → ids_grow (properties_of_unit found) ≡ true
found_grow apex list None is valid = refl
found_grow apex list (Some unit) is valid = value_grow apex unit.key unit.value (valid_at apex keys.Props list unit valid is).allowed

pub properties_grow : (apex : Labels) (list : List units.Unit) → AllByRecursion (IsValidUnit apex) list → ids_grow (properties_of list) ≡ true
unfolding properties_of
properties_grow apex list valid = found_grow apex list (unit_at keys.Props list) refl valid
