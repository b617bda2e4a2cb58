-- Items in pages: what stays of the whole list as a page changes.
use Rattle.std.proofs.Common.{◌≡◌, ℕ, zero, suc, ◌+◌, ◌<◌, ◌≤◌, List, [], ◌∷◌, ◌++◌, length, get_or, set, take, drop, refl, ap, sym, subst, ◌-◌, ◌∙◌, arith, append_assoc, None, inl, inr}
use Rattle.std.proofs.lemmas.Bool.{cases_lt}
use Rattle.std.proofs.lemmas.List.{take_all, take-append-drop, length-append, length-drop, length-take}
use Rattle.std.specs.List.{insert, remove}
use Rattle.std.specs.Prelude.{min, slice_get}
use Rattle.dn_pages.specs.declared.mark.Spot.{Spot}
use Rattle.dn_pages.specs.Pages.{ArePages, IsPage, joined, count_before}
use Rattle.dn_pages.specs.Pages.{IsSettledSpot}

module _ {X : Type 0} where
  -- ---- pages around one page

  pub joined_append : (front back : List (List X)) → joined (front ++ back) ≡ joined front ++ joined back
  joined_append [] back = refl
  joined_append (page ∷ front) back = ap (λ l. page ++ l) (joined_append front back) ∙ sym (append_assoc page (joined front) (joined back))

  -- the items of the pages before a page, and of those behind it
  abbrev pub before : List (List X) → ℕ → List X
  before pages at = joined (take at pages)

  abbrev pub behind : List (List X) → ℕ → List X
  behind pages at = joined (drop (at + 1) pages)

  pub joined_split : (pages : List (List X)) (at : ℕ) → at < length pages → joined pages ≡ before pages at ++ (get_or pages at [] ++ behind pages at)
  joined_split [] at lt = absurd (omega arith)
  joined_split (page ∷ pages) zero lt = refl
  joined_split (page ∷ pages) (suc at) lt =
      let e : suc at + 1 ≡ suc (at + 1) = omega arith in
      rw e (ap (λ (list : List X). page ++ list) (joined_split pages at (omega arith)) ∙ sym (append_assoc page (before pages at) (get_or pages at [] ++ behind pages at)))

  pub page_at : (pages : List (List X)) (at : ℕ) → ArePages pages → at < length pages → IsPage (get_or pages at [])
  page_at [] at sized lt = absurd (omega arith)
  page_at (page ∷ pages) zero sized lt = sized.0
  page_at (page ∷ pages) (suc at) sized lt = page_at pages at sized.1 (omega arith)

  -- behind all pages there is none
  pub none_at : (pages : List (List X)) (at : ℕ) → length pages ≤ at → get_or pages at [] ≡ []
  none_at [] at le = refl
  none_at (page ∷ pages) zero le = absurd (omega arith)
  none_at (page ∷ pages) (suc at) le = none_at pages at (omega arith)

  -- ---- one page in the place of another, or two

  pub joined_set : (pages : List (List X)) (at : ℕ) (page : List X) → at < length pages → joined (set pages at page) ≡ before pages at ++ (page ++ behind pages at)
  joined_set [] at page lt = absurd (omega arith)
  joined_set (old ∷ pages) zero page lt = refl
  joined_set (old ∷ pages) (suc at) page lt =
      let e : suc at + 1 ≡ suc (at + 1) = omega arith in
      rw e (ap (λ (list : List X). old ++ list) (joined_set pages at page (omega arith)) ∙ sym (append_assoc old (before pages at) (page ++ behind pages at)))

  pub joined_two : (pages : List (List X)) (at : ℕ) (front back : List X) → at < length pages
      → joined (insert (set pages at front) (at + 1) back) ≡ before pages at ++ ((front ++ back) ++ behind pages at)
  joined_two [] at front back lt = absurd (omega arith)
  joined_two (old ∷ pages) zero front back lt = sym (append_assoc front back (joined pages))
  joined_two (old ∷ pages) (suc at) front back lt =
      let e : suc at + 1 ≡ suc (at + 1) = omega arith in
      rw e (ap (λ (list : List X). old ++ list) (joined_two pages at front back (omega arith)) ∙ sym (append_assoc old (before pages at) ((front ++ back) ++ behind pages at)))

  -- ---- a change of one item, which leaves the items before it alone

  abbrev pub StepsOver : (List X → ℕ → List X) → Type 0
  StepsOver change = (item : X) (list : List X) (at : ℕ) → change (item ∷ list) (suc at) ≡ item ∷ change list at

  pub in_back : (change : List X → ℕ → List X) → StepsOver change → (front back : List X) (at place : ℕ) → at ≡ length front + place → change (front ++ back) at ≡ front ++ change back place
  in_back change over [] back at place is = let e : at ≡ place = omega arith in ap (change back) e
  in_back change over (item ∷ front) back zero place is = absurd (omega arith)
  in_back change over (item ∷ front) back (suc at) place is = over item (front ++ back) at ∙ ap (λ list. item ∷ list) (in_back change over front back at place (omega arith))

  -- that change of a page is the same change of the whole list
  changed : (change : List X → ℕ → List X) → StepsOver change → (pages new : List (List X)) (place : Spot) (page : List X) → place.page < length pages
      → change (get_or pages place.page [] ++ behind pages place.page) place.at ≡ change (get_or pages place.page []) place.at ++ behind pages place.page
      → page ≡ change (get_or pages place.page []) place.at → new ≡ set pages place.page page → joined new ≡ change (joined pages) (count_before pages place)
  changed change over pages new place page lt within made is =
      let start : List X = before pages place.page in
      let rest : List X = get_or pages place.page [] ++ behind pages place.page in
      ap joined is ∙ joined_set pages place.page page lt
      ∙ ap (λ (list : List X). start ++ (list ++ behind pages place.page)) made
      ∙ ap (λ (list : List X). start ++ list) (sym within)
      ∙ sym (in_back change over start rest (count_before pages place) place.at refl)
      ∙ ap (λ (list : List X). change list (count_before pages place)) (sym (joined_split pages place.page lt))

  pub insert_front : (item : X) (front back : List X) (at : ℕ) → at ≤ length front → insert (front ++ back) at item ≡ insert front at item ++ back
  insert_front item [] back zero le = refl
  insert_front item [] back (suc at) le = absurd (omega arith)
  insert_front item (next ∷ front) back zero le = refl
  insert_front item (next ∷ front) back (suc at) le = ap (λ list. next ∷ list) (insert_front item front back at (omega arith))

  pub set_front : (item : X) (front back : List X) (at : ℕ) → at < length front → set (front ++ back) at item ≡ set front at item ++ back
  set_front item [] back at lt = absurd (omega arith)
  set_front item (next ∷ front) back zero lt = refl
  set_front item (next ∷ front) back (suc at) lt = ap (λ list. next ∷ list) (set_front item front back at (omega arith))

  pub remove_front : (front back : List X) (at : ℕ) → at < length front → remove (front ++ back) at ≡ remove front at ++ back
  remove_front [] back at lt = absurd (omega arith)
  remove_front (next ∷ front) back zero lt = refl
  remove_front (next ∷ front) back (suc at) lt = ap (λ list. next ∷ list) (remove_front front back at (omega arith))

  pub inserted : (pages new : List (List X)) (place : Spot) (page : List X) (item : X) → place.page < length pages → place.at ≤ length (get_or pages place.page [])
      → page ≡ insert (get_or pages place.page []) place.at item → new ≡ set pages place.page page → joined new ≡ insert (joined pages) (count_before pages place) item
  inserted pages new place page item lt le =
      changed (λ list at. insert list at item) (λ first list at. refl) pages new place page lt (insert_front item (get_or pages place.page []) (behind pages place.page) place.at le)

  pub put : (pages new : List (List X)) (place : Spot) (page : List X) (item : X) → place.page < length pages → place.at < length (get_or pages place.page [])
      → page ≡ set (get_or pages place.page []) place.at item → new ≡ set pages place.page page → joined new ≡ set (joined pages) (count_before pages place) item
  put pages new place page item lt less =
      changed (λ list at. set list at item) (λ first list at. refl) pages new place page lt (set_front item (get_or pages place.page []) (behind pages place.page) place.at less)

  pub removed : (pages new : List (List X)) (place : Spot) (page : List X) → place.page < length pages → place.at < length (get_or pages place.page [])
      → page ≡ remove (get_or pages place.page []) place.at → new ≡ set pages place.page page → joined new ≡ remove (joined pages) (count_before pages place)
  removed pages new place page lt less =
      changed remove (λ first list at. refl) pages new place page lt (remove_front (get_or pages place.page []) (behind pages place.page) place.at less)

  -- ---- a page more, a page less

  pub page_inserted : (pages new : List (List X)) (at : ℕ) (page : List X) (item : X) → page ≡ item ∷ [] → new ≡ insert pages at page → joined new ≡ insert (joined pages) (length (before pages at)) item
  page_inserted pages new at page item one is =
      let start : List X = before pages at in
      let rest : List X = joined (drop at pages) in
      let whole : joined pages ≡ start ++ rest = ap joined (sym (take-append-drop at pages)) ∙ joined_append (take at pages) (drop at pages) in
      ap joined is ∙ joined_append (take at pages) (page ∷ drop at pages)
      ∙ ap (λ (list : List X). start ++ (list ++ rest)) one
      ∙ sym (in_back (λ list place. insert list place item) (λ first list place. refl) start rest (length start) 0 (omega arith))
      ∙ ap (λ (list : List X). insert list (length start) item) (sym whole)

  pub only_one : (page : List X) (at : ℕ) → length page ≤ 1 → at < length page → remove page at ≡ []
  only_one [] at le lt = absurd (omega arith)
  only_one (item ∷ []) zero le lt = refl
  only_one (item ∷ []) (suc at) le lt = absurd (omega arith)
  only_one (item ∷ next ∷ page) at le lt = absurd (omega arith)

  pub page_removed : (pages new : List (List X)) (place : Spot) → place.page < length pages → length (get_or pages place.page []) ≤ 1 → place.at < length (get_or pages place.page [])
      → new ≡ take place.page pages ++ drop (place.page + 1) pages → joined new ≡ remove (joined pages) (count_before pages place)
  page_removed pages new place lt le less is =
      let page : List X = get_or pages place.page [] in
      let start : List X = before pages place.page in
      ap joined is ∙ joined_append (take place.page pages) (drop (place.page + 1) pages)
      ∙ ap (λ (list : List X). start ++ (list ++ behind pages place.page)) (sym (only_one page place.at le less))
      ∙ ap (λ (list : List X). start ++ list) (sym (remove_front page (behind pages place.page) place.at less))
      ∙ sym (in_back remove (λ first list at. refl) start (page ++ behind pages place.page) (count_before pages place) place.at refl)
      ∙ ap (λ (list : List X). remove list (count_before pages place)) (sym (joined_split pages place.page lt))

  pub page_split : (pages new : List (List X)) (at cut : ℕ) (front back : List X) → at < length pages → front ≡ take cut (get_or pages at []) → back ≡ drop cut (get_or pages at [])
      → new ≡ insert (set pages at front) (at + 1) back → joined new ≡ joined pages
  page_split pages new at cut front back lt first second is =
      let page : List X = get_or pages at [] in
      ap joined is ∙ joined_two pages at front back lt
      ∙ ap (λ (list : List X). before pages at ++ ((list ++ back) ++ behind pages at)) first
      ∙ ap (λ (list : List X). before pages at ++ ((take cut page ++ list) ++ behind pages at)) second
      ∙ ap (λ (list : List X). before pages at ++ (list ++ behind pages at)) (take-append-drop cut page)
      ∙ sym (joined_split pages at lt)

  -- ---- the item at a place, and the rest from it on

  pub before_next : (pages : List (List X)) (at : ℕ) → at < length pages → length (before pages (at + 1)) ≡ length (before pages at) + length (get_or pages at [])
  before_next [] at lt = absurd (omega arith)
  before_next (page ∷ pages) zero lt = length-append page [] ∙ omega arith
  before_next (page ∷ pages) (suc at) lt =
      let e : suc at + 1 ≡ suc (at + 1) = omega arith in
      let first : length (before (page ∷ pages) (suc (at + 1))) ≡ length page + length (before pages (at + 1)) = length-append page (before pages (at + 1)) in
      let second : length (before (page ∷ pages) (suc at)) ≡ length page + length (before pages at) = length-append page (before pages at) in
      let later : length (before pages (at + 1)) ≡ length (before pages at) + length (get_or pages at []) = before_next pages at (omega arith) in
      rw e (omega arith)

  get_back : (front back : List X) (at place : ℕ) → at ≡ length front + place → slice_get (front ++ back) at ≡ slice_get back place
  get_back [] back at place is = let e : at ≡ place = omega arith in ap (slice_get back) e
  get_back (item ∷ front) back zero place is = absurd (omega arith)
  get_back (item ∷ front) back (suc at) place is = get_back front back at place (omega arith)

  get_front : (front back : List X) (at : ℕ) → at < length front → slice_get (front ++ back) at ≡ slice_get front at
  get_front [] back at lt = absurd (omega arith)
  get_front (item ∷ front) back zero lt = refl
  get_front (item ∷ front) back (suc at) lt = get_front front back at (omega arith)

  pub item_there : (pages : List (List X)) (place : Spot) → place.page < length pages → place.at < length (get_or pages place.page []) → slice_get (joined pages) (count_before pages place) ≡ slice_get (get_or pages place.page []) place.at
  item_there pages place lt less =
      let page : List X = get_or pages place.page [] in
      ap (λ (list : List X). slice_get list (count_before pages place)) (joined_split pages place.page lt)
      ∙ get_back (before pages place.page) (page ++ behind pages place.page) (count_before pages place) place.at refl
      ∙ get_front page (behind pages place.page) place.at less

  -- ---- places

  pub there_within : (pages : List (List X)) (page at : ℕ) → at < length (get_or pages page []) → page < length pages
  there_within [] page at less = absurd (omega arith)
  there_within (first ∷ pages) zero at less = omega arith
  there_within (first ∷ pages) (suc page) at less = let later : page < length pages = there_within pages page at less in omega arith

  -- the end of a page is the start of the next
  pub next_same : (pages : List (List X)) (page at : ℕ) → page < length pages → at ≡ length (get_or pages page []) → count_before pages (record { page = page + 1; at = 0 }) ≡ count_before pages (record { page = page; at = at })
  next_same pages page at lt is = let e = before_next pages page lt in omega (arith, e, is)

  -- the end of the last page is behind all items
  pub end_rank : (pages : List (List X)) (page at : ℕ) → page + 1 ≡ length pages → at ≡ length (get_or pages page []) → count_before pages (record { page = page; at = at }) ≡ length (joined pages)
  end_rank pages page at last is =
      let e = before_next pages page (omega arith) in
      let whole : length (before pages (page + 1)) ≡ length (joined pages) = ap (λ (list : List (List X)). length (joined list)) (take_all (page + 1) pages (omega arith)) in
      omega (arith, e, whole, is)

  pub end_settled : (pages : List (List X)) (page at : ℕ) → page + 1 ≡ length pages → at ≡ length (get_or pages page []) → IsSettledSpot pages (record { page = page; at = at })
  end_settled pages page at last is less = let e = end_rank pages page at last is in absurd (omega (arith, e, less))

  get_past : (list : List X) (at : ℕ) → length list ≤ at → slice_get list at ≡ None
  get_past [] at le = refl
  get_past (item ∷ list) zero le = absurd (omega arith)
  get_past (item ∷ list) (suc at) le = get_past list at (omega arith)

  pub item_seen : (pages : List (List X)) (place : Spot) → place.page < length pages → IsSettledSpot pages place → slice_get (get_or pages place.page []) place.at ≡ slice_get (joined pages) (count_before pages place)
  item_seen pages place lt settled =
      let page : List X = get_or pages place.page [] in
      elim (cases_lt (count_before pages place) (length (joined pages))) [
        | inl less ↦ sym (item_there pages place lt (settled less))
        | inr over ↦
            let whole : length (joined pages) ≡ length (before pages place.page) + length (page ++ behind pages place.page) = ap length (joined_split pages place.page lt) ∙ length-append (before pages place.page) (page ++ behind pages place.page) in
            let parts : length (page ++ behind pages place.page) ≡ length page + length (behind pages place.page) = length-append page (behind pages place.page) in
            get_past page place.at (omega (arith, whole, parts, over)) ∙ sym (get_past (joined pages) (count_before pages place) over)
      ]

  pub none_past : (pages : List (List X)) (place : Spot) → length pages ≤ place.page → None ≡ slice_get (joined pages) (count_before pages place)
  none_past pages place past =
      let whole : length (before pages place.page) ≡ length (joined pages) = ap (λ (list : List (List X)). length (joined list)) (take_all place.page pages past) in
      sym (get_past (joined pages) (count_before pages place) (omega (arith, whole)))

  -- ---- a split page

  pub split_sized : (pages : List (List X)) (at : ℕ) (front back : List X) → at < length pages → IsPage front → IsPage back → ArePages pages → ArePages (insert (set pages at front) (at + 1) back)
  split_sized [] at front back lt first second sized = absurd (omega arith)
  split_sized (page ∷ pages) zero front back lt first second sized = (first, (second, sized.1))
  split_sized (page ∷ pages) (suc at) front back lt first second sized = let e : suc at + 1 ≡ suc (at + 1) = omega arith in rw e (sized.0, split_sized pages at front back (omega arith) first second sized.1)

  pub split_front : (pages : List (List X)) (at : ℕ) (front back : List X) → at < length pages → get_or (insert (set pages at front) (at + 1) back) at [] ≡ front
  split_front [] at front back lt = absurd (omega arith)
  split_front (page ∷ pages) zero front back lt = refl
  split_front (page ∷ pages) (suc at) front back lt = let e : suc at + 1 ≡ suc (at + 1) = omega arith in rw e (split_front pages at front back (omega arith))

  pub split_back : (pages : List (List X)) (at : ℕ) (front back : List X) → at < length pages → get_or (insert (set pages at front) (at + 1) back) (at + 1) [] ≡ back
  split_back [] at front back lt = absurd (omega arith)
  split_back (page ∷ pages) zero front back lt = refl
  split_back (page ∷ pages) (suc at) front back lt = let e : suc at + 1 ≡ suc (at + 1) = omega arith in rw e (split_back pages at front back (omega arith))

  -- the halves of a full page, in its place
  halves : (full cut : ℕ) (page seen front back : List X) → length page ≡ full → seen ≡ page → front ≡ take cut seen → back ≡ drop cut seen → cut + cut ≡ full → (length front ≡ cut) × (length back ≡ cut)
  halves full cut page seen front back whole is first second twice =
      let long : length seen ≡ full = ap length is ∙ whole in
      let before : length front ≡ min cut (length seen) = ap length first ∙ length-take cut seen in
      let behind : length back ≡ length seen - cut = ap length second ∙ length-drop cut seen in
      (omega (arith, long, before, twice), omega (arith, long, behind, twice))

  halves_long : (page front back : List X) → length page ≡ 64 → front ≡ take 32 page → back ≡ drop 32 page → (length front ≡ 32) × (length back ≡ 32)
  halves_long page front back whole first second = halves 64 32 page page front back whole refl first second (omega arith)

  -- a full page that is split leaves pages
  pub split_is : (pages new : List (List X)) (at : ℕ) (seen front back : List X) → at < length pages → length (get_or pages at []) ≡ 64 → seen ≡ get_or pages at [] → front ≡ take 32 seen → back ≡ drop 32 seen
      → new ≡ insert (set pages at front) (at + 1) back → ArePages pages → ArePages new
  split_is pages new at seen front back lt full is first second made sized =
      let long : (length front ≡ 32) × (length back ≡ 32) = halves_long seen front back (ap length is ∙ full) first second in
      let here : IsPage front = (let e = long.0 in omega (arith, e), let e = long.0 in omega (arith, e)) in
      let there : IsPage back = (let e = long.1 in omega (arith, e), let e = long.1 in omega (arith, e)) in
      subst (λ (row : List (List X)). ArePages row) (sym made) (split_sized pages at front back lt here there sized)

  pub split_long : (pages new : List (List X)) (at : ℕ) → length (get_or pages at []) ≡ 64 → get_or new at [] ≡ take 32 (get_or pages at []) → get_or new (at + 1) [] ≡ drop 32 (get_or pages at [])
      → (length (get_or new at []) ≡ 32) × (length (get_or new (at + 1) []) ≡ 32)
  split_long pages new at full front back = halves_long (get_or pages at []) (get_or new at []) (get_or new (at + 1) []) full front back

  pub half_next : (pages new : List (List X)) (place : Spot) (half : ℕ) → place.page < length new → length (get_or new place.page []) ≡ half → half < place.at → take place.page new ≡ take place.page pages → (at : ℕ) → at + half ≡ place.at
      → count_before new (record { page = place.page + 1; at = at }) ≡ count_before pages place
  half_next pages new place half lt front less is at rest =
      let e = before_next new place.page lt in
      let s : length (before new place.page) ≡ length (before pages place.page) = ap (λ (list : List (List X)). length (joined list)) is in
      omega (arith, e, s, front, rest)

  -- ---- at the end

  pub insert_end : (list : List X) (item : X) → insert list (length list) item ≡ list ++ item ∷ []
  insert_end [] item = refl
  insert_end (first ∷ list) item = ap (λ (rest : List X). first ∷ rest) (insert_end list item)

  pub joined_more : (pages : List (List X)) (at : ℕ) (d : List X) → at < length pages → length (joined (drop at pages)) ≡ length (get_or pages at d) + length (joined (drop (at + 1) pages))
  joined_more [] at d lt = absurd (omega arith)
  joined_more (page ∷ pages) zero d lt = length-append page (joined pages)
  joined_more (page ∷ pages) (suc at) d lt = let e : suc at + 1 ≡ suc (at + 1) = omega arith in rw e (joined_more pages at d (omega arith))

  pub first_there : (pages : List (List X)) → ArePages pages → 0 < length pages → slice_get (get_or pages 0 []) 0 ≡ slice_get (joined pages) 0
  first_there [] sized lt = absurd (omega arith)
  first_there (page ∷ pages) sized lt = let least : 1 ≤ length page = sized.0.0 in sym (get_front page (joined pages) 0 (omega (arith, least)))
