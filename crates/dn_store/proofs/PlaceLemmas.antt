-- A unit's place among units in the order of keys: what is found there, and what is put there.
use Rattle.std.proofs.Common.{◌≡◌, ℕ, zero, suc, ◌+◌, ◌<◌, Bool, true, false, cond, List, [], ◌∷◌, find, length, set, refl, ap, sym, ◌∙◌, arith, Option, None, Some, ⊎_elim}
use Rattle.std.proofs.lemmas.Bool.{cases_Bool, false≢true}
use Rattle.std.specs.Prelude.{is_some, not, option_map, slice_get}
use Rattle.std.specs.List.{AllByRecursion, insert, position_or_len}
use Rattle.std.specs.List.Sorted.{IsStrictlySortedBy}
use Rattle.std.specs.Ordering.{is_eq, is_le, is_lt, match_ordering}
use Rattle.std.specs.declared.cmp.Ordering.{Ordering}
use Rattle.std.specs.declared.cmp.Ordering.TheVariants.{Less, Equal, Greater}
use Rattle.dn_pages.specs.Search.{IsCut}
use Rattle.dn_pages.proofs.CallerLemmas.{Rises, cut_place}
use Rattle.dn_store.specs.declared.unit.Unit as units
use Rattle.dn_store.specs.declared.unit.UnitKey.{UnitKey}
use Rattle.dn_store.specs.Places.{picked, place_among}
use Rattle.dn_store.specs.Table.{KeysGrow, has_key, placed, unit_above, unit_at}
use Rattle.dn_store.specs.Value.{key_order}
use Rattle.dn_store.proofs.OrderLemmas.{IsAfter, all_after, key_same, key_total, less_from, unit_order}

-- ---- where a search by halves ends

-- behind a unit that isn't below a key stand units above it
not_below : (x y z : UnitKey) (o : Ordering) → key_order x y ≡ o → key_order y z ≡ Less → is_le o ≡ true → key_order x z ≡ Less
not_below x y z Less is less le = key_total.trans x y z is less
not_below x y z Equal is less le = key_total.congr x y z is ∙ less
not_below x y z Greater is less le = absurd (false≢true le)

key_rises : (key : UnitKey) → Rises unit_order (λ unit. is_le (key_order key unit.key))
key_rises key unit later less passes = ap is_le (not_below key unit.key later.key (key_order key unit.key) refl less passes)

past_rises : (key : UnitKey) → Rises unit_order (λ unit. is_lt (key_order key unit.key))
past_rises key unit later less passes = ap is_lt (key_total.trans key unit.key later.key (less_from (key_order key unit.key) passes) less)

pub place_of_cut : (key : UnitKey) (list : List units.Unit) (at : ℕ) → KeysGrow list → IsCut (λ unit. not (is_le (key_order key unit.key))) list at → at ≡ place_among key list
place_of_cut key list at grow cut = cut_place unit_order (λ unit. is_le (key_order key unit.key)) (key_rises key) list at grow cut

-- ---- the unit at the place

-- the first that passes is found
find_place : {X : Type 0} (test : X → Bool) (list : List X) → find test list ≡ slice_get list (position_or_len test list)
find_place test [] = refl
find_place test (one ∷ list) =
    let e : 1 + position_or_len test list ≡ suc (position_or_len test list) = omega arith in
    ⊎_elim (λ is. rw is refl) (λ is. rw is (rw e (find_place test list))) (cases_Bool (test one))

pub above_at : (key : UnitKey) (list : List units.Unit) (at : ℕ) → KeysGrow list → IsCut (λ unit. not (is_lt (key_order key unit.key))) list at → slice_get list at ≡ unit_above (Some key) list
above_at key list at grow cut =
    let test : units.Unit → Bool = λ unit. is_lt (key_order key unit.key) in
    ap (slice_get list) (cut_place unit_order test (past_rises key) list at grow cut) ∙ sym (find_place test list)

pub none_after : (key : UnitKey) (list : List units.Unit) → AllByRecursion (IsAfter key) list → unit_at key list ≡ None
none_after key [] all = refl
none_after key (unit ∷ list) all = let e : has_key key unit ≡ false = key_same.symm unit.key key ∙ ap is_eq all.0 in rw e (none_after key list all.1)

found_place : (key : UnitKey) (list : List units.Unit) → KeysGrow list → unit_at key list ≡ picked key (slice_get list (place_among key list))
unfolding IsStrictlySortedBy
found_place key [] grow = refl
found_place key (unit ∷ list) grow =
    let e : 1 + place_among key list ≡ suc (place_among key list) = omega arith in
    let by_key : has_key key unit ≡ is_eq (key_order key unit.key) = key_same.symm unit.key key in
    let Goal : Ordering → Type 0 = λ o. cond (is_eq o) (Some unit) (unit_at key list) ≡ picked key (slice_get (unit ∷ list) (cond (not (is_le o)) (1 + place_among key list) 0)) in
    let all : (o : Ordering) → key_order key unit.key ≡ o → Goal o = elim [
      | Less ↦ λ is. let none : unit_at key list ≡ None = none_after key list ((all_after key unit list is grow).1) in rw (none, is) refl
      | Equal ↦ λ is. rw is refl
      | Greater ↦ λ is. rw e (found_place key list grow.1)
    ] in
    rw by_key (all (key_order key unit.key) refl)

pub found_at : (key : UnitKey) (list : List units.Unit) (at : ℕ) → KeysGrow list → IsCut (λ unit. not (is_le (key_order key unit.key))) list at → picked key (slice_get list at) ≡ unit_at key list
found_at key list at grow cut = ap (λ (place : ℕ). picked key (slice_get list place)) (place_of_cut key list at grow cut) ∙ sym (found_place key list grow)

-- ---- the unit that is put there

-- the unit in place of the one at a place, or before it
abbrev pub put_at : Bool → List units.Unit → ℕ → units.Unit → List units.Unit
put_at true list at unit = set list at unit
put_at false list at unit = insert list at unit

put_at-later : (b : Bool) (next : units.Unit) (rest : List units.Unit) (at : ℕ) (unit : units.Unit) → put_at b (next ∷ rest) (suc at) unit ≡ next ∷ put_at b rest at unit
put_at-later true next rest at unit = refl
put_at-later false next rest at unit = refl

placed_place : (unit : units.Unit) (list : List units.Unit) → placed unit list ≡ put_at (is_some (picked unit.key (slice_get list (place_among unit.key list)))) list (place_among unit.key list) unit
placed_place unit [] = refl
placed_place unit (next ∷ rest) =
    let place : ℕ = place_among unit.key rest in
    let e : 1 + place ≡ suc place = omega arith in
    let Goal : Ordering → Type 0 = λ o. match_ordering o (unit ∷ next ∷ rest) (unit ∷ rest) (next ∷ placed unit rest)
    ≡ put_at (is_some (picked unit.key (slice_get (next ∷ rest) (cond (not (is_le o)) (1 + place) 0)))) (next ∷ rest) (cond (not (is_le o)) (1 + place) 0) unit in
    let all : (o : Ordering) → key_order unit.key next.key ≡ o → Goal o = elim [
      | Less ↦ λ is. rw is refl
      | Equal ↦ λ is. rw is refl
      | Greater ↦ λ is. rw e (ap (λ (list : List units.Unit). next ∷ list) (placed_place unit rest) ∙ sym (put_at-later (is_some (picked unit.key (slice_get rest place))) next rest place unit))
    ] in
    all (key_order unit.key next.key) refl

-- whether the place's unit has the key is what a test says
pub placed_by : (unit : units.Unit) (list : List units.Unit) (test b : Bool) (at : ℕ) → at ≡ place_among unit.key list → test ≡ is_some (picked unit.key (slice_get list at)) → test ≡ b → placed unit list ≡ put_at b list at unit
placed_by unit list test b at is says t =
    placed_place unit list
    ∙ ap (λ (place : ℕ). put_at (is_some (picked unit.key (slice_get list place))) list place unit) (sym is)
    ∙ ap (λ (there : Bool). put_at there list at unit) (sym says ∙ t)

-- ---- a unit that is there

pub there_before : (key : UnitKey) (list : List units.Unit) (at : ℕ) → is_some (picked key (slice_get list at)) ≡ true → at < length list
there_before key [] at is = absurd (false≢true is)
there_before key (unit ∷ list) zero is = omega arith
there_before key (unit ∷ list) (suc at) is = let later : at < length list = there_before key list at is in omega (arith, later)

pub some_number : (found : Option units.Unit) → is_some (option_map (λ (unit : units.Unit). unit.usn) found) ≡ is_some found
some_number None = refl
some_number (Some unit) = refl
