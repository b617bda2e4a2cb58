-- What stays of a list of units as writes are taken: the order of the keys, the numbers, and what holds of each unit.
use Rattle.std.proofs.Common.{◌≡◌, ◌≢◌, ℕ, suc, subst, ◌+◌, ◌<◌, ◌≤◌, true, false, List, [], ◌∷◌, length, drop, get_or, map, refl, ap, sym, ◌∙◌, arith, eqb, ⊎_elim}
use Rattle.std.proofs.lemmas.Bool.{eqb-true, false≢true, ne_eqb, or_cases}
use Rattle.std.proofs.lemmas.List.{drop_more, length-map}
use Rattle.std.proofs.lemmas.Map.Steps.{length-le_from_distinct_below}
use Rattle.std.specs.List.{AllByRecursion, IsDistinct, list_any}
use Rattle.std.specs.List.Sorted.{IsStrictlySortedBy}
use Rattle.std.specs.Ordering.{match_ordering}
use Rattle.std.specs.declared.cmp.Ordering.{Ordering}
use Rattle.std.specs.declared.cmp.Ordering.TheVariants.{Less, Equal, Greater}
use Rattle.dn_store.specs.declared.unit.Unit as units
use Rattle.dn_store.specs.declared.unit.Write.{Write}
use Rattle.dn_store.specs.Table.{Differ, IsNumber, KeysGrow, numbered, placed, units_after}
use Rattle.dn_store.specs.Value.{key_order}
use Rattle.dn_store.proofs.ListLemmas.{all_map, all_of, all_then, all_unmap}
use Rattle.dn_store.proofs.OrderLemmas.{IsAfter, all_after, key_back, rest_after}

-- units in the order of their keys, under different numbers from 1 to the change count
pub record IsSoundList (list : List units.Unit) (top : ℕ) : Type 0 where
  pub ordered : KeysGrow list
  pub numbers : AllByRecursion (λ unit. IsNumber top unit.usn) list
  pub differ : Differ (map (λ unit. unit.usn) list)

-- ---- a unit that is put into its place

pub by_order : {A : Type 0} (P : A → Type 0) (o : Ordering) (x y z : A) → (o ≡ Less → P x) → (o ≡ Equal → P y) → (o ≡ Greater → P z) → P (match_ordering o x y z)
by_order P Less x y z less same more = less refl
by_order P Equal x y z less same more = same refl
by_order P Greater x y z less same more = more refl

-- it stands before the first unit, or in its place, or behind it
pub where_placed : (P : List units.Unit → Type 0) (unit next : units.Unit) (rest : List units.Unit) → (key_order unit.key next.key ≡ Less → P (unit ∷ next ∷ rest))
    → (key_order unit.key next.key ≡ Equal → P (unit ∷ rest)) → (key_order unit.key next.key ≡ Greater → P (next ∷ placed unit rest)) → P (placed unit (next ∷ rest))
where_placed P unit next rest less same more = by_order P (key_order unit.key next.key) (unit ∷ next ∷ rest) (unit ∷ rest) (next ∷ placed unit rest) less same more

-- what holds of each unit
pub all_placed : (P : units.Unit → Type 0) (unit : units.Unit) (list : List units.Unit) → P unit → AllByRecursion P list → AllByRecursion P (placed unit list)
all_placed P unit [] holds all = (holds, tt)
all_placed P unit (next ∷ rest) holds all =
    where_placed (AllByRecursion P) unit next rest (λ less. (holds, all)) (λ same. (holds, all.1)) (λ more. (all.0, all_placed P unit rest holds all.1))

pub grow_placed : (unit : units.Unit) (list : List units.Unit) → KeysGrow list → KeysGrow (placed unit list)
unfolding IsStrictlySortedBy
grow_placed unit [] grow = (tt, tt)
grow_placed unit (next ∷ rest) grow =
    where_placed KeysGrow unit next rest (λ less. (all_after unit.key next rest less grow, grow)) (λ same. (rest_after unit.key next rest same grow, grow.1))
    (λ more. (all_placed (IsAfter next.key) unit rest (key_back unit.key next.key more) grow.0, grow_placed unit rest grow.1))

-- ---- numbers stay in range and differ

abbrev numbers_of : List units.Unit → List ℕ
numbers_of list = map (λ unit. unit.usn) list

differ_placed : (unit : units.Unit) (list : List units.Unit) → AllByRecursion (λ other. other ≢ unit.usn) (numbers_of list) → Differ (numbers_of list) → Differ (numbers_of (placed unit list))
differ_placed unit [] fresh differ = (tt, tt)
differ_placed unit (next ∷ rest) fresh differ =
    let Apart : ℕ → Type 0 = λ other. other ≢ next.usn in
    let usn : units.Unit → ℕ = λ one. one.usn in
    where_placed (λ list. Differ (numbers_of list)) unit next rest (λ less. (fresh, differ)) (λ same. (fresh.1, differ.1))
    (λ more. (
      all_map Apart usn (placed unit rest) (all_placed (λ other. Apart other.usn) unit rest (λ e. fresh.0 (sym e)) (all_unmap Apart usn rest differ.0)),
      differ_placed unit rest fresh.1 differ.1,
    ))

pub sound_placed : (top : ℕ) (unit : units.Unit) (list : List units.Unit) → unit.usn ≡ top + 1 → IsSoundList list top → IsSoundList (placed unit list) (top + 1)
sound_placed top unit list is sound =
    let Below : units.Unit → Type 0 = λ one. IsNumber top one.usn in
    let Within : units.Unit → Type 0 = λ one. IsNumber (top + 1) one.usn in
    let fresh : AllByRecursion (λ one. one.usn ≢ unit.usn) list = all_then Below (λ one. one.usn ≢ unit.usn) list (λ one number e. let le : one.usn ≤ top = number.1 in absurd (omega arith)) sound.numbers in
    record {
      ordered = grow_placed unit list sound.ordered;
      numbers = all_placed Within unit list (omega arith, omega arith) (all_then Below Within list (λ one number. (number.0, let le : one.usn ≤ top = number.1 in omega arith)) sound.numbers);
      differ = differ_placed unit list (all_map (λ other. other ≢ unit.usn) (λ one. one.usn) list fresh) sound.differ;
    }

-- ---- writes that are taken

-- what each write brings under any new number, and each unit from before has, each unit has after the writes
pub all_brought : (P : units.Unit → Type 0) (list : List units.Unit) (top : ℕ) (writes : List Write) → AllByRecursion (λ write. (number : ℕ) → top < number → P (numbered number write)) writes
    → AllByRecursion P list → AllByRecursion P (units_after list top writes)
all_brought P list top [] brings all = all
all_brought P list top (write ∷ writes) brings all =
    let later = all_then (λ one. (number : ℕ) → top < number → P (numbered number one)) (λ one. (number : ℕ) → top + 1 < number → P (numbered number one)) writes
    (λ one brought number above. brought number (omega arith)) brings.1 in
    all_brought P (placed (numbered (top + 1) write) list) (top + 1) writes later (all_placed P (numbered (top + 1) write) list (brings.0 (top + 1) (omega arith)) all)

pub all_taken : (P : units.Unit → Type 0) (list : List units.Unit) (top : ℕ) (writes : List Write) → ((unit : units.Unit) → top < unit.usn → P unit) → AllByRecursion P list
    → AllByRecursion P (units_after list top writes)
all_taken P list top writes new all =
    all_brought P list top writes (all_of (λ write. (number : ℕ) → top < number → P (numbered number write)) writes (λ write number. new (numbered number write))) all

-- order and numbers stay sound
pub sound_taken : (list : List units.Unit) (top : ℕ) (writes : List Write) → IsSoundList list top → IsSoundList (units_after list top writes) (top + length writes)
sound_taken list top [] sound = let e : top ≡ top + 0 = omega arith in subst (IsSoundList list) e sound
sound_taken list top (write ∷ writes) sound =
    let unit : units.Unit = numbered (top + 1) write in
    let e : (top + 1) + length writes ≡ top + suc (length writes) = omega arith in
    subst (IsSoundList (units_after (placed unit list) (top + 1) writes)) e (sound_taken (placed unit list) (top + 1) writes (sound_placed top unit list refl sound))

-- one write more is taken
pub taken_step : (old new : List units.Unit) (batch : List Write) (number at : ℕ) (unit : units.Unit) (write : Write) (final : List units.Unit) → new ≡ placed unit old → unit ≡ numbered (number + 1) write
    → write ≡ get_or batch at write → at < length batch → units_after old number (drop at batch) ≡ final → units_after new (number + 1) (drop (at + 1) batch) ≡ final
taken_step old new batch number at unit write final is one from lt later =
    let e : drop at batch ≡ write ∷ drop (at + 1) batch = drop_more batch at write lt ∙ ap (λ (w : Write). w ∷ drop (at + 1) batch) (sym from) in
    ap (λ (l : List units.Unit). units_after l (number + 1) (drop (at + 1) batch)) (is ∙ ap (λ (u : units.Unit). placed u old) one)
    ∙ ap (units_after old number) (sym e) ∙ later

-- ---- different numbers up to a bound are no more than the bound

distinct : (numbers : List ℕ) → Differ numbers → IsDistinct eqb numbers
unfolding IsDistinct
distinct [] differ = tt
distinct (number ∷ rest) differ =
    (all_then (λ other. other ≢ number) (λ other. eqb number other ≡ false) rest (λ other apart. ne_eqb number other (λ e. apart (sym e))) differ.0, distinct rest differ.1)

holds_of : (P : ℕ → Type 0) (numbers : List ℕ) (number : ℕ) → AllByRecursion P numbers → list_any (eqb number) numbers ≡ true → P number
holds_of P [] number all is = absurd (false≢true is)
holds_of P (other ∷ rest) number all is =
    ⊎_elim (λ e. subst P (sym (eqb-true number other e)) all.0) (holds_of P rest number all.1) (or_cases (eqb number other) (list_any (eqb number) rest) is)

-- There are at most as many units as changes: their numbers and 0 are different numbers below the next change.
pub length_bound : (list : List units.Unit) (top : ℕ) → AllByRecursion (λ unit. IsNumber top unit.usn) list → Differ (map (λ unit. unit.usn) list) → length list ≤ top
length_bound list top all differ =
    let Number : units.Unit → Type 0 = λ unit. IsNumber top unit.usn in
    let Low : ℕ → Type 0 = λ number. number < suc top in
    let apart : AllByRecursion (λ number. number ≢ 0) (numbers_of list) =
    all_map (λ number. number ≢ 0) (λ unit. unit.usn) list (all_then Number (λ unit. unit.usn ≢ 0) list (λ unit number e. let ge : 1 ≤ unit.usn = number.0 in absurd (omega arith)) all) in
    let low : AllByRecursion Low (0 ∷ numbers_of list) =
    (omega arith, all_map Low (λ unit. unit.usn) list (all_then Number (λ unit. Low unit.usn) list (λ unit number. let le : unit.usn ≤ top = number.1 in omega arith) all)) in
    let le : length (0 ∷ numbers_of list) ≤ suc top =
    length-le_from_distinct_below (0 ∷ numbers_of list) (suc top) (distinct (0 ∷ numbers_of list) (apart, differ)) (λ number is. holds_of Low (0 ∷ numbers_of list) number low is) in
    let e : length (numbers_of list) ≡ length list = length-map list (λ unit. unit.usn) in
    omega arith
