-- Units in the order of their numbers: what stays as one is taken out and another put behind all.
use Rattle.std.proofs.Common.{◌≡◌, ◌≢◌, ℕ, zero, suc, ◌+◌, ◌<◌, ◌≤◌, Bool, true, false, cond, List, [], ◌∷◌, ◌++◌, drop, filter, length, map, refl, ap, sym, subst, ◌∙◌, arith, nat_lt, lt-ltb, Option, Some, None, ⊎_elim}
use Rattle.std.proofs.lemmas.Bool.{cases_Bool, false≢true, le-leb, leb-false, leb-true, ltb-true}
use Rattle.std.proofs.lemmas.Bool.Decides.{nat_tests}
use Rattle.std.specs.List.{AllByRecursion, position_or_len, remove}
use Rattle.std.specs.List.Sorted.{IsStrictlySortedBy}
use Rattle.std.specs.Ordering.{is_eq, nat_cmp}
use Rattle.std.specs.Prelude.{not, ◌==◌, if◌then◌else◌, nat_le, option_map, slice_get}
use Rattle.std.specs.declared.cmp.Ordering.TheVariants.{Less}
use Rattle.dn_pages.specs.Search.{IsCut}
use Rattle.dn_pages.proofs.CallerLemmas.{Rises, cut_place}
use Rattle.dn_store.specs.declared.unit.Unit as units
use Rattle.dn_store.specs.Numbers.{IsKept, Rising, has_number, without, without_at}
use Rattle.dn_store.specs.Run.{usn_order}
use Rattle.dn_store.specs.Table.{Differ, IsNumber, KeysGrow, by_number, has_key, placed, placed_by_number, unit_at}
use Rattle.dn_store.specs.Value.{key_order}
use Rattle.dn_store.proofs.ListLemmas.{all_filter, all_found, all_permuted, all_then, all_unmap, filter_all}
use Rattle.dn_store.proofs.NumberLemmas.{grow_by_number, sorted_permutes}
use Rattle.dn_store.proofs.OrderLemmas.{all_after, key_same}
use Rattle.dn_store.proofs.PlaceLemmas.{none_after}
use Rattle.dn_store.proofs.TakenLemmas.{IsSoundList, sound_placed, where_placed}

-- ---- numbers that rise

pub rising_paged : (list changes : List units.Unit) → Differ (map (λ unit. unit.usn) list) → changes ≡ by_number list → Rising changes
rising_paged list changes differ is = subst Rising (sym is) (grow_by_number list differ)

pub rising_kept : (list changes : List units.Unit) (top : ℕ) → IsKept list changes top → Rising changes
rising_kept list changes top kept = rising_paged list changes kept.differ kept.indexed

less_than : (x y : ℕ) → nat_cmp x y ≡ Less → x < y
less_than x y is = grind (arith, nat_tests, is)

usn_less : (unit later : units.Unit) → usn_order unit later ≡ Less → unit.usn < later.usn
usn_less unit later is = less_than unit.usn later.usn is

from_rises : (usn : ℕ) → Rises usn_order (λ unit. nat_le usn unit.usn)
from_rises usn unit later less passes =
    let a : unit.usn < later.usn = usn_less unit later less in
    let b : usn ≤ unit.usn = leb-true usn unit.usn passes in
    le-leb usn later.usn (omega (arith, a, b))

pub after_rises : (usn : ℕ) → Rises usn_order (λ unit. nat_lt usn unit.usn)
after_rises usn unit later less passes =
    let a : unit.usn < later.usn = usn_less unit later less in
    let b : usn < unit.usn = ltb-true usn unit.usn passes in
    lt-ltb usn later.usn (omega (arith, a, b))

-- ---- a unit that is taken out

apart_test : (m n : ℕ) → m ≢ n → not (m == n) ≡ true
apart_test m n apart = grind (arith, nat_tests)

same_test : (n : ℕ) → not (n == n) ≡ false
same_test n = grind (arith, nat_tests)

-- the unit at the place of its number taken out, if it is there
abbrev gone_from : ℕ → List units.Unit → ℕ → List units.Unit
gone_from usn list at = if has_number usn (slice_get list at) then remove list at else list

later_apart : (usn : ℕ) (unit : units.Unit) (list : List units.Unit) → usn ≤ unit.usn → AllByRecursion (λ later. usn_order unit later ≡ Less) list → AllByRecursion (λ later. not (later.usn == usn) ≡ true) list
later_apart usn unit list le all =
    all_then (λ later. usn_order unit later ≡ Less) (λ later. not (later.usn == usn) ≡ true) list
    (λ later less. let a : unit.usn < later.usn = usn_less unit later less in apart_test later.usn usn (λ e. absurd (omega (arith, a, e, le)))) all

over_one : (usn : ℕ) (unit : units.Unit) (list : List units.Unit) (at : ℕ) (b : Bool) → (if b then remove (unit ∷ list) (suc at) else unit ∷ list) ≡ unit ∷ (if b then remove list at else list)
over_one usn unit list at true = refl
over_one usn unit list at false = refl

here_one : (usn : ℕ) (unit : units.Unit) (list : List units.Unit) (b : Bool) → (unit.usn == usn) ≡ b → filter (λ later. not (later.usn == usn)) list ≡ list
    → cond (not b) (unit ∷ without usn list) (without usn list) ≡ (if b then list else unit ∷ list)
here_one usn unit list true is rest = rest
here_one usn unit list false is rest = ap (λ later. unit ∷ later) rest

without_place : (usn : ℕ) (list : List units.Unit) → Rising list → without usn list ≡ gone_from usn list (position_or_len (λ unit. nat_le usn unit.usn) list)
unfolding IsStrictlySortedBy
without_place usn [] rising = refl
without_place usn (unit ∷ list) rising =
    let place : ℕ = position_or_len (λ unit. nat_le usn unit.usn) list in
    let e : 1 + place ≡ suc place = omega arith in
    ⊎_elim
    (λ passes.
    let rest : without usn list ≡ list = filter_all (λ later. not (later.usn == usn)) list (later_apart usn unit list (leb-true usn unit.usn passes) rising.0) in
    rw passes (here_one usn unit list (unit.usn == usn) refl rest))
    (λ out.
    let less : unit.usn < usn = leb-false usn unit.usn out in
    let kept : not (unit.usn == usn) ≡ true = apart_test unit.usn usn (λ same. absurd (omega (arith, less, same))) in
    rw (out, e, kept) (ap (λ later. unit ∷ later) (without_place usn list rising.1) ∙ sym (over_one usn unit list place (has_number usn (slice_get list place)))))
    (cases_Bool (nat_le usn unit.usn))

pub without_at_cut : (usn : ℕ) (list : List units.Unit) (at : ℕ) → Rising list → IsCut (λ unit. not (nat_le usn unit.usn)) list at → gone_from usn list at ≡ without usn list
without_at_cut usn list at rising cut =
    ap (gone_from usn list) (cut_place usn_order (λ unit. nat_le usn unit.usn) (from_rises usn) list at rising cut) ∙ sym (without_place usn list rising)

pub number_before : (usn : ℕ) (list : List units.Unit) (at : ℕ) → has_number usn (slice_get list at) ≡ true → at < length list
number_before usn [] at is = absurd (false≢true is)
number_before usn (unit ∷ list) zero is = omega arith
number_before usn (unit ∷ list) (suc at) is = let later : at < length list = number_before usn list at is in omega (arith, later)

-- the same, for a test and an answer as a call saw them
pub taken_out : (usn : ℕ) (list new : List units.Unit) (at : ℕ) (found : Option units.Unit) (test b : Bool) → Rising list → IsCut (λ unit. not (nat_le usn unit.usn)) list at → found ≡ slice_get list at
    → test ≡ has_number usn found → test ≡ b → new ≡ (if b then remove list at else list) → new ≡ without usn list
taken_out usn list new at found test b rising cut there says is made =
    made ∙ ap (λ (t : Bool). if t then remove list at else list) (sym is ∙ says ∙ ap (has_number usn) there) ∙ without_at_cut usn list at rising cut

-- what stands behind the place are all that pass
pub drop_place : (usn : ℕ) (list : List units.Unit) → Rising list → drop (position_or_len (λ unit. nat_lt usn unit.usn) list) list ≡ filter (λ unit. nat_lt usn unit.usn) list
unfolding IsStrictlySortedBy
drop_place usn [] rising = refl
drop_place usn (unit ∷ list) rising =
    let test : units.Unit → Bool = λ one. nat_lt usn one.usn in
    let e : 1 + position_or_len test list ≡ suc (position_or_len test list) = omega arith in
    ⊎_elim
    (λ passes.
    let all : AllByRecursion (λ later. test later ≡ true) list = all_then (λ later. usn_order unit later ≡ Less) (λ later. test later ≡ true) list (λ later less. after_rises usn unit later less passes) rising.0 in
    rw passes (ap (λ later. unit ∷ later) (sym (filter_all test list all))))
    (λ out. rw out (rw e (drop_place usn list rising.1)))
    (cases_Bool (nat_lt usn unit.usn))

-- ---- the units by number, as one is put into its place

abbrev gone_at : Option units.Unit → List units.Unit → List units.Unit
gone_at None list = list
gone_at (Some old) list = without old.usn list

abbrev AllApart : ℕ → List units.Unit → Type 0
AllApart usn list = AllByRecursion (λ unit. unit.usn ≢ usn) list

abbrev AllUnder : ℕ → List units.Unit → Type 0
AllUnder usn list = AllByRecursion (λ unit. unit.usn < usn) list

all_sorted : (P : units.Unit → Type 0) (list : List units.Unit) → AllByRecursion P list → AllByRecursion P (by_number list)
all_sorted P list all = all_permuted P list (by_number list) (sorted_permutes list) all

placed_last : (unit : units.Unit) (list : List units.Unit) → AllUnder unit.usn list → placed_by_number unit list ≡ list ++ unit ∷ []
placed_last unit [] all = refl
placed_last unit (next ∷ list) all =
    let less : next.usn < unit.usn = all.0 in
    let e : nat_lt unit.usn next.usn ≡ false = grind (arith, nat_tests, less) in
    rw e (ap (λ (l : List units.Unit). next ∷ l) (placed_last unit list all.1))

under_one : (first last next : units.Unit) (list : List units.Unit) (b : Bool) → placed_by_number first (list ++ last ∷ []) ≡ placed_by_number first list ++ last ∷ []
    → cond b (first ∷ next ∷ (list ++ last ∷ [])) (next ∷ placed_by_number first (list ++ last ∷ [])) ≡ cond b (first ∷ next ∷ list) (next ∷ placed_by_number first list) ++ last ∷ []
under_one first last next list true is = refl
under_one first last next list false is = ap (λ (l : List units.Unit). next ∷ l) is

placed_under : (first last : units.Unit) (list : List units.Unit) → first.usn < last.usn → placed_by_number first (list ++ last ∷ []) ≡ placed_by_number first list ++ last ∷ []
placed_under first last [] less = let e : nat_lt first.usn last.usn ≡ true = lt-ltb first.usn last.usn less in rw e refl
placed_under first last (next ∷ list) less = under_one first last next list (nat_lt first.usn next.usn) (placed_under first last list less)

gone_none : (usn : ℕ) (list : List units.Unit) → AllApart usn list → without usn list ≡ list
gone_none usn list all = filter_all (λ unit. not (unit.usn == usn)) list (all_then (λ unit. unit.usn ≢ usn) (λ unit. not (unit.usn == usn) ≡ true) list (λ unit apart. apart_test unit.usn usn apart) all)

same_one : (unit next : units.Unit) (list : List units.Unit) (b : Bool) → next.usn ≢ unit.usn → AllApart unit.usn list → without unit.usn (placed_by_number unit list) ≡ list
    → without unit.usn (cond b (unit ∷ next ∷ list) (next ∷ placed_by_number unit list)) ≡ next ∷ list
same_one unit next list true apart all is = let e = same_test unit.usn in rw e (gone_none unit.usn (next ∷ list) (apart, all))
same_one unit next list false apart all is = let e = apart_test next.usn unit.usn apart in rw e (ap (λ (l : List units.Unit). next ∷ l) is)

gone_same : (unit : units.Unit) (list : List units.Unit) → AllApart unit.usn list → without unit.usn (placed_by_number unit list) ≡ list
gone_same unit [] all = let e = same_test unit.usn in rw e refl
gone_same unit (next ∷ list) all = same_one unit next list (nat_lt unit.usn next.usn) all.0 all.1 (gone_same unit list all.1)

-- ---- units in the order of their numbers

abbrev InOrder : List units.Unit → Type 0
InOrder list = IsStrictlySortedBy (λ unit other. nat_cmp unit.usn other.usn) list

placed_front : (unit : units.Unit) (list : List units.Unit) → AllByRecursion (λ later. unit.usn < later.usn) list → placed_by_number unit list ≡ unit ∷ list
placed_front unit [] all = refl
placed_front unit (next ∷ list) all = let e : nat_lt unit.usn next.usn ≡ true = lt-ltb unit.usn next.usn all.0 in rw e refl

above_first : (first : ℕ) (next : units.Unit) (list : List units.Unit) → first < next.usn → AllByRecursion (λ later. nat_cmp next.usn later.usn ≡ Less) list → AllByRecursion (λ later. first < later.usn) list
above_first first next list less all =
    all_then (λ later. nat_cmp next.usn later.usn ≡ Less) (λ later. first < later.usn) list (λ later is. let a : next.usn < later.usn = less_than next.usn later.usn is in omega (arith, a, less)) all

later_one : (usn : ℕ) (unit next : units.Unit) (list : List units.Unit) (t : Bool) → nat_lt unit.usn next.usn ≡ false → without usn (placed_by_number unit list) ≡ placed_by_number unit (without usn list)
    → cond t (next ∷ without usn (placed_by_number unit list)) (without usn (placed_by_number unit list)) ≡ placed_by_number unit (cond t (next ∷ without usn list) (without usn list))
later_one usn unit next list true is later = rw is (ap (λ (l : List units.Unit). next ∷ l) later)
later_one usn unit next list false is later = later

gone_one : (usn : ℕ) (unit next : units.Unit) (list : List units.Unit) (b : Bool) → nat_lt unit.usn next.usn ≡ b → unit.usn ≢ usn → AllByRecursion (λ later. nat_cmp next.usn later.usn ≡ Less) list
    → without usn (placed_by_number unit list) ≡ placed_by_number unit (without usn list)
    → without usn (cond b (unit ∷ next ∷ list) (next ∷ placed_by_number unit list)) ≡ placed_by_number unit (without usn (next ∷ list))
gone_one usn unit next list true is apart order later =
    let e = apart_test unit.usn usn apart in
    let less : unit.usn < next.usn = ltb-true unit.usn next.usn is in
    let all : AllByRecursion (λ later. unit.usn < later.usn) (next ∷ list) = (less, above_first unit.usn next list less order) in
    rw e (sym (placed_front unit (without usn (next ∷ list)) (all_filter (λ later. unit.usn < later.usn) (λ one. not (one.usn == usn)) (next ∷ list) all)))
gone_one usn unit next list false is apart order later = later_one usn unit next list (not (next.usn == usn)) is later

gone_other : (usn : ℕ) (unit : units.Unit) (list : List units.Unit) → unit.usn ≢ usn → InOrder list → without usn (placed_by_number unit list) ≡ placed_by_number unit (without usn list)
unfolding IsStrictlySortedBy
gone_other usn unit [] apart order = let e = apart_test unit.usn usn apart in rw e refl
gone_other usn unit (next ∷ list) apart order = gone_one usn unit next list (nat_lt unit.usn next.usn) refl apart order.0 (gone_other usn unit list apart order.1)

gone_later : (o : Option units.Unit) (next : units.Unit) (list : List units.Unit) → ((old : units.Unit) → o ≡ Some old → old.usn ≢ next.usn) → InOrder list → placed_by_number next (gone_at o list) ≡ gone_at o (placed_by_number next list)
gone_later None next list apart order = refl
gone_later (Some old) next list apart order = sym (gone_other old.usn next list (λ e. apart old refl (sym e)) order)

apart_units : (next : units.Unit) (rest : List units.Unit) → AllByRecursion (λ other. other ≢ next.usn) (map (λ unit. unit.usn) rest) → AllApart next.usn rest
apart_units next rest all = all_unmap (λ number. number ≢ next.usn) (λ (unit : units.Unit). unit.usn) rest all

-- the unit with the greatest number takes the place of the one of its key
pub numbering : (unit : units.Unit) (list : List units.Unit) → KeysGrow list → Differ (map (λ one. one.usn) list) → AllUnder unit.usn list → by_number (placed unit list) ≡ gone_at (unit_at unit.key list) (by_number list) ++ unit ∷ []
unfolding IsStrictlySortedBy
numbering unit [] grow differ under = refl
numbering unit (next ∷ rest) grow differ under =
    let Goal : List units.Unit → Type 0 = λ list. by_number list ≡ gone_at (unit_at unit.key (next ∷ rest)) (by_number (next ∷ rest)) ++ unit ∷ [] in
    let by_key : has_key unit.key next ≡ is_eq (key_order unit.key next.key) = key_same.symm next.key unit.key in
    where_placed Goal unit next rest
    (λ less.
    let none : unit_at unit.key (next ∷ rest) ≡ None = none_after unit.key (next ∷ rest) (all_after unit.key next rest less grow) in
    rw none (placed_last unit (by_number (next ∷ rest)) (all_sorted (λ one. one.usn < unit.usn) (next ∷ rest) under)))
    (λ same.
    let apart : AllApart next.usn (by_number rest) = all_sorted (λ one. one.usn ≢ next.usn) rest (apart_units next rest differ.0) in
    let here : has_key unit.key next ≡ true = by_key ∙ ap is_eq same in
    rw here (placed_last unit (by_number rest) (all_sorted (λ one. one.usn < unit.usn) rest under.1) ∙ ap (λ (l : List units.Unit). l ++ unit ∷ []) (sym (gone_same next (by_number rest) apart))))
    (λ more.
    let there : has_key unit.key next ≡ false = by_key ∙ ap is_eq more in
    rw there
    (ap (placed_by_number next) (numbering unit rest grow.1 differ.1 under.1) ∙ placed_under next unit (gone_at (unit_at unit.key rest) (by_number rest)) under.0
    ∙ ap (λ (l : List units.Unit). l ++ unit ∷ [])
    (gone_later (unit_at unit.key rest) next (by_number rest) (λ old found. all_found (λ one. one.usn ≢ next.usn) (has_key unit.key) rest old (apart_units next rest differ.0) found) (grow_by_number rest differ.1))))

-- ---- units kept beside units

gone_at_is : (o : Option units.Unit) (list : List units.Unit) → gone_at o list ≡ without_at (option_map (λ unit. unit.usn) o) list
gone_at_is None list = refl
gone_at_is (Some old) list = refl

pub kept_placed : (unit : units.Unit) (list new changes later : List units.Unit) (top : ℕ) → unit.usn ≡ top + 1 → new ≡ placed unit list
    → later ≡ without_at (option_map (λ one. one.usn) (unit_at unit.key list)) changes ++ unit ∷ [] → IsKept list changes top → IsKept new later (top + 1)
kept_placed unit list new changes later top is made moved kept =
    let sound : IsSoundList (placed unit list) (top + 1) = sound_placed top unit list is (record { ordered = kept.ordered; numbers = kept.numbers; differ = kept.differ }) in
    let under : AllUnder unit.usn list = all_then (λ one. IsNumber top one.usn) (λ one. one.usn < unit.usn) list (λ one number. let le : one.usn ≤ top = number.1 in omega (arith, le, is)) kept.numbers in
    subst (λ (l : List units.Unit). IsKept l later (top + 1)) (sym made)
    (record {
      ordered = sound.ordered;
      numbers = sound.numbers;
      differ = sound.differ;
      indexed =
          moved ∙ ap (λ (l : List units.Unit). without_at (option_map (λ one. one.usn) (unit_at unit.key list)) l ++ unit ∷ []) kept.indexed
          ∙ ap (λ (l : List units.Unit). l ++ unit ∷ []) (sym (gone_at_is (unit_at unit.key list) (by_number list)))
          ∙ sym (numbering unit list kept.ordered kept.differ under);
    })
