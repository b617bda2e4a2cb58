-- Where a search by halves ends: in a page and among pages, and in a list in order.
use Rattle.std.proofs.Common.{◌≡◌, ℕ, zero, suc, ◌+◌, ◌<◌, ◌≤◌, Bool, true, false, List, [], ◌∷◌, ◌++◌, drop, length, get_or, refl, ap, sym, subst, ◌∙◌, arith, inl, inr, ⊎_elim}
use Rattle.std.proofs.lemmas.Bool.{cases_Bool, cases_lt, false≢true}
use Rattle.std.proofs.lemmas.List.{drop_all, drop_more, length-append}
use Rattle.std.specs.List.{AllByRecursion, position_or_len}
use Rattle.std.specs.List.Sorted.{IsStrictlySortedBy}
use Rattle.std.specs.Prelude.{not}
use Rattle.std.specs.declared.cmp.Ordering.{Ordering}
use Rattle.std.specs.declared.cmp.Ordering.TheVariants.{Less}
use Rattle.dn_pages.specs.Pages.{ArePages, joined, count_before}
use Rattle.dn_pages.specs.Search.{IsCut, IsHome, starts_below}
use Rattle.dn_pages.proofs.JoinedLemmas.{before, behind, joined_split}

module _ {X : Type 0} where
  -- ---- pages of any length, none of them empty

  abbrev pub AreFilled : List (List X) → Type 0
  AreFilled pages = AllByRecursion (λ (page : List X). 1 ≤ length page) pages

  pub pages_filled : (pages : List (List X)) → ArePages pages → AreFilled pages
  pages_filled [] sized = tt
  pages_filled (page ∷ pages) sized = (sized.0.0, pages_filled pages sized.1)

  filled_at : (pages : List (List X)) (at : ℕ) → AreFilled pages → at < length pages → 1 ≤ length (get_or pages at [])
  filled_at [] at filled lt = absurd (omega arith)
  filled_at (page ∷ pages) zero filled lt = filled.0
  filled_at (page ∷ pages) (suc at) filled lt = filled_at pages at filled.1 (omega arith)

  -- ---- items of a front, and of a back

  item_back : (front back : List X) (at place : ℕ) (d : X) → at ≡ length front + place → get_or (front ++ back) at d ≡ get_or back place d
  item_back [] back at place d is = let e : at ≡ place = omega arith in ap (λ (k : ℕ). get_or back k d) e
  item_back (item ∷ front) back zero place d is = absurd (omega arith)
  item_back (item ∷ front) back (suc at) place d is = item_back front back at place d (omega arith)

  item_front : (front back : List X) (at : ℕ) (d : X) → at < length front → get_or (front ++ back) at d ≡ get_or front at d
  item_front [] back at d lt = absurd (omega arith)
  item_front (item ∷ front) back zero d lt = refl
  item_front (item ∷ front) back (suc at) d lt = item_front front back at d (omega arith)

  -- an item of the whole list, by its page
  item_of : (pages : List (List X)) (page at place : ℕ) (d : X) → page < length pages → at ≡ length (before pages page) + place → place < length (get_or pages page [])
      → get_or (joined pages) at d ≡ get_or (get_or pages page []) place d
  item_of pages page at place d lt is less =
      ap (λ (list : List X). get_or list at d) (joined_split pages page lt)
      ∙ item_back (before pages page) (get_or pages page [] ++ behind pages page) at place d is
      ∙ item_front (get_or pages page []) (behind pages page) place d less

  starts_by_first : (test : X → Bool) (page : List X) (d : X) → 1 ≤ length page → starts_below test page ≡ test (get_or page 0 d)
  starts_by_first test [] d le = absurd (omega arith)
  starts_by_first test (item ∷ page) d le = refl

  -- the first item behind a page
  first_behind : (pages : List (List X)) (page at : ℕ) (d : X) → AreFilled pages → page + 1 < length pages → at ≡ length (before pages page) + length (get_or pages page [])
      → get_or (joined pages) at d ≡ get_or (get_or pages (page + 1) []) 0 d
  first_behind pages page at d filled lt is =
      let next : List X = get_or pages (page + 1) [] in
      let more : behind pages page ≡ next ++ joined (drop ((page + 1) + 1) pages) = ap joined (drop_more pages (page + 1) [] lt) in
      ap (λ (list : List X). get_or list at d) (joined_split pages page (omega arith))
      ∙ item_back (before pages page) (get_or pages page [] ++ behind pages page) at (length (get_or pages page [])) d is
      ∙ item_back (get_or pages page []) (behind pages page) (length (get_or pages page [])) 0 d (omega arith)
      ∙ ap (λ (list : List X). get_or list 0 d) more
      ∙ item_front next (joined (drop ((page + 1) + 1) pages)) 0 d (let least : 1 ≤ length next = filled_at pages (page + 1) filled lt in omega arith)

  pub whole_length : (pages : List (List X)) (page : ℕ) → page < length pages → length (joined pages) ≡ (length (before pages page) + length (get_or pages page [])) + length (behind pages page)
  whole_length pages page lt =
      let whole = ap length (joined_split pages page lt) in
      let outer = length-append (before pages page) (get_or pages page [] ++ behind pages page) in
      let inner = length-append (get_or pages page []) (behind pages page) in
      omega (arith, whole, outer, inner)

  -- ---- a search among the pages and in one page

  cut_before : (test : X → Bool) (pages : List (List X)) (page at : ℕ) → AreFilled pages → IsHome test pages page → IsCut test (get_or pages page []) at
      → (last : ℕ) (d : X) → last + 1 ≡ length (before pages page) + at → test (get_or (joined pages) last d) ≡ true
  cut_before test pages zero zero filled home cut last d is = absurd (omega arith)
  cut_before test pages (suc page) zero filled home cut last d is =
      let least : 1 ≤ length (get_or pages (suc page) []) = filled_at pages (suc page) filled home.within in
      absurd (false≢true (sym (cut.behind d (omega (arith, least))) ∙ sym (starts_by_first test (get_or pages (suc page) []) d least) ∙ home.from (omega arith)))
  cut_before test pages page (suc at) filled home cut last d is =
      let inside : suc at ≤ length (get_or pages page []) = cut.within in
      ap test (item_of pages page last at d home.within (omega (arith, is)) (omega (arith, inside))) ∙ cut.before at d (omega arith)

  cut_behind : (test : X → Bool) (pages : List (List X)) (page at : ℕ) → AreFilled pages → IsHome test pages page → IsCut test (get_or pages page []) at
      → (d : X) → length (before pages page) + at < length (joined pages) → test (get_or (joined pages) (length (before pages page) + at) d) ≡ false
  cut_behind test pages page at filled home cut d less =
      let inside : at ≤ length (get_or pages page []) = cut.within in
      elim (cases_lt at (length (get_or pages page []))) [
        | inl here ↦ ap test (item_of pages page (length (before pages page) + at) at d home.within refl here) ∙ cut.behind d here
        | inr end ↦
            elim (cases_lt (page + 1) (length pages)) [
              | inl more ↦
                  let least : 1 ≤ length (get_or pages (page + 1) []) = filled_at pages (page + 1) filled more in
                  ap test (first_behind pages page (length (before pages page) + at) d filled more (omega (arith, inside, end)))
                  ∙ sym (starts_by_first test (get_or pages (page + 1) []) d least) ∙ home.before more
              | inr last ↦
                  let none : length (behind pages page) ≡ 0 = ap (λ (list : List (List X)). length (joined list)) (drop_all (page + 1) pages last) in
                  let whole = whole_length pages page home.within in
                  absurd (omega (arith, none, whole, less, end))
            ]
      ]

  pub cut_joined : (test : X → Bool) (pages : List (List X)) (page at : ℕ) → AreFilled pages → IsHome test pages page → IsCut test (get_or pages page []) at
      → IsCut test (joined pages) (count_before pages (record { page = page; at = at }))
  cut_joined test pages page at filled home cut =
      let inside : at ≤ length (get_or pages page []) = cut.within in
      let whole = whole_length pages page home.within in
      record { within = omega (arith, inside, whole); before = cut_before test pages page at filled home cut; behind = cut_behind test pages page at filled home cut }

  -- the same, for a page as a call saw it, and another name of the place
  pub cut_seen : (test : X → Bool) (pages : List (List X)) (page at found : ℕ) (seen : List X) → ArePages pages → IsHome test pages page → seen ≡ get_or pages page [] → IsCut test seen at
      → found ≡ count_before pages (record { page = page; at = at }) → IsCut test (joined pages) found
  cut_seen test pages page at found seen sized home is cut same =
      subst (IsCut test (joined pages)) (sym same) (cut_joined test pages page at (pages_filled pages sized) home (subst (λ (list : List X). IsCut test list at) is cut))

  -- ---- in a list in order

  -- one item passes the test, so all behind it do
  abbrev pub Rises : (X → X → Ordering) → (X → Bool) → Type 0
  Rises order test = (item later : X) → order item later ≡ Less → test item ≡ true → test later ≡ true

  later_at : (P : X → Type 0) (list : List X) (at : ℕ) (d : X) → at < length list → AllByRecursion P list → P (get_or list at d)
  later_at P [] at d lt all = absurd (omega arith)
  later_at P (item ∷ list) zero d lt all = all.0
  later_at P (item ∷ list) (suc at) d lt all = later_at P list at d (omega arith) all.1

  cut_rest : (test : X → Bool) (item : X) (list : List X) (at : ℕ) → IsCut test (item ∷ list) (suc at) → IsCut test list at
  cut_rest test item list at cut =
      let within : suc at ≤ suc (length list) = cut.within in
      record { within = omega (arith, within); before = λ last d is. cut.before (suc last) d (omega (arith, is)); behind = λ d lt. cut.behind d (omega (arith, lt)) }

  -- an item that passes stands before no place of a cut by those that don't
  passing_at : (order : X → X → Ordering) (test : X → Bool) → Rises order test → (item : X) (list : List X) (at : ℕ) → at ≤ length list → AllByRecursion (λ later. order item later ≡ Less) list → test item ≡ true
      → test (get_or (item ∷ list) at item) ≡ true
  passing_at order test rises item list zero le after passes = passes
  passing_at order test rises item list (suc at) le after passes = rises item (get_or list at item) (later_at (λ later. order item later ≡ Less) list at item (omega (arith, le)) after) passes

  -- the place of the first item that passes, or behind the last where none does
  pub cut_place : (order : X → X → Ordering) (test : X → Bool) → Rises order test → (list : List X) (at : ℕ) → IsStrictlySortedBy order list → IsCut (λ item. not (test item)) list at
      → at ≡ position_or_len test list
  unfolding IsStrictlySortedBy
  cut_place order test rises [] zero sorted cut = refl
  cut_place order test rises [] (suc at) sorted cut = let within : suc at ≤ 0 = cut.within in absurd (omega (arith, within))
  cut_place order test rises (item ∷ list) zero sorted cut = let fails : not (test item) ≡ false = cut.behind item (omega arith) in rw fails refl
  cut_place order test rises (item ∷ list) (suc at) sorted cut =
      let within : suc at ≤ suc (length list) = cut.within in
      ⊎_elim
      (λ passes. absurd (false≢true (sym (ap not (passing_at order test rises item list at (omega (arith, within)) sorted.0 passes)) ∙ cut.before at item (omega arith))))
      (λ out. let later : at ≡ position_or_len test list = cut_place order test rises list at sorted.1 (cut_rest (λ one. not (test one)) item list at cut) in rw out (omega (arith, later)))
      (cases_Bool (test item))
