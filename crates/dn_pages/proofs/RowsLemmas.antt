-- Rows of pages: what stays of all items as one row changes.
use Rattle.std.proofs.Common.{◌≡◌, ℕ, zero, suc, ◌+◌, ◌<◌, ◌≤◌, false, List, [], ◌∷◌, ◌++◌, length, get_or, set, take, drop, nat_le, Result, Ok, Err, OnOk, refl, ap, sym, subst, ◌∙◌, arith, inl, inr}
use Rattle.std.proofs.lemmas.Bool.{cases_lt, leb-false, lt-leb}
use Rattle.std.proofs.lemmas.List.{get_or-drop, get_or-take, take_all, length-append}
use Rattle.std.proofs.lemmas.List.Edits.{length-remove}
use Rattle.std.specs.List.{insert, remove}
use Rattle.dn_pages.specs.declared.mark.Place.{Place}
use Rattle.dn_pages.specs.declared.mark.Spot.{Spot}
use Rattle.dn_pages.specs.Pages.{ArePages, AreRows, IsInside, IsItem, IsPage, IsThere, IsWithin, count_before, items, joined, rank, row_at, spot_of}
use Rattle.dn_pages.proofs.CutLemmas.{whole_length}
use Rattle.dn_pages.proofs.JoinedLemmas.{StepsOver, before, behind, in_back, insert_front, joined_append, joined_set, joined_split, none_at, only_one, page_at, page_inserted, remove_front, set_front, there_within}

-- What two clauses of one call that can fail give together, and what three give.
pub on_ok_two : {T E P Q R : Type 0} (result : Result T E) → (P → Q → R) → OnOk result P → OnOk result Q → OnOk result R
on_ok_two (Ok done) both first second = both first second
on_ok_two (Err refused) both first second = tt

pub on_ok_three : {T E P Q R S : Type 0} (result : Result T E) → (P → Q → R → S) → OnOk result P → OnOk result Q → OnOk result R → OnOk result S
on_ok_three (Ok done) all first second third = all first second third
on_ok_three (Err refused) all first second third = tt

module _ {X : Type 0} where
  -- ---- pages in front, and pages behind

  pub sized_front : (front back : List (List X)) → ArePages (front ++ back) → ArePages front
  sized_front [] back sized = tt
  sized_front (page ∷ front) back sized = (sized.0, sized_front front back sized.1)

  pub sized_back : (front back : List (List X)) → ArePages (front ++ back) → ArePages back
  sized_back [] back sized = sized
  sized_back (page ∷ front) back sized = sized_back front back sized.1

  sized_both : (front back : List (List X)) → ArePages front → ArePages back → ArePages (front ++ back)
  sized_both [] back first second = second
  sized_both (page ∷ front) back first second = (first.0, sized_both front back first.1 second)

  -- the pages of a row
  pub row_sized : (rows : List (List (List X))) (at : ℕ) → ArePages (joined rows) → ArePages (row_at rows at)
  row_sized [] at sized = tt
  row_sized (row ∷ rows) zero sized = sized_front row (joined rows) sized
  row_sized (row ∷ rows) (suc at) sized = row_sized rows at (sized_back row (joined rows) sized)

  -- the same, of a row as a call saw it
  pub seen_sized : (rows : List (List (List X))) (at : ℕ) (seen : List (List X)) → AreRows rows → seen ≡ row_at rows at → ArePages seen
  seen_sized rows at seen sized is = subst (λ (row : List (List X)). ArePages row) (sym is) (row_sized rows at sized.1)

  -- ---- where a spot stands among its pages' items

  pub count_there : (pages : List (List X)) (spot : Spot) → IsItem pages spot → count_before pages spot < length (joined pages)
  count_there pages spot there =
      let whole = whole_length pages spot.page (there_within pages spot.page spot.at there) in
      omega (arith, whole, there)

  -- behind all pages it is behind all items
  count_past : (pages : List (List X)) (spot : Spot) → length pages ≤ spot.page → IsWithin pages spot → count_before pages spot ≡ length (joined pages)
  count_past pages spot past within =
      let none : length (get_or pages spot.page []) ≡ 0 = ap length (none_at pages spot.page past) in
      let whole : length (before pages spot.page) ≡ length (joined pages) = ap (λ (list : List (List X)). length (joined list)) (take_all spot.page pages past) in
      omega (arith, none, whole, within)

  pub count_within : (pages : List (List X)) (spot : Spot) → IsWithin pages spot → count_before pages spot ≤ length (joined pages)
  count_within pages spot within =
      elim (cases_lt spot.page (length pages)) [
        | inl lt ↦ let whole = whole_length pages spot.page lt in omega (arith, whole, within)
        | inr past ↦ let end = count_past pages spot past within in omega (arith, end)
      ]

  -- ---- the items around one row

  items_split : (rows : List (List (List X))) (at : ℕ) → at < length rows → items rows ≡ items (take at rows) ++ (joined (row_at rows at) ++ items (drop (at + 1) rows))
  items_split rows at lt =
      ap joined (joined_split rows at lt) ∙ joined_append (before rows at) (row_at rows at ++ behind rows at)
      ∙ ap (λ (list : List X). items (take at rows) ++ list) (joined_append (row_at rows at) (behind rows at))

  items_set : (rows : List (List (List X))) (at : ℕ) (row : List (List X)) → at < length rows → items (set rows at row) ≡ items (take at rows) ++ (joined row ++ items (drop (at + 1) rows))
  items_set rows at row lt =
      ap joined (joined_set rows at row lt) ∙ joined_append (before rows at) (row ++ behind rows at)
      ∙ ap (λ (list : List X). items (take at rows) ++ list) (joined_append row (behind rows at))

  items_next : (rows : List (List (List X))) (at : ℕ) → at < length rows → length (items (take (at + 1) rows)) ≡ length (items (take at rows)) + length (joined (row_at rows at))
  items_next [] at lt = absurd (omega arith)
  items_next (row ∷ rows) zero lt = ap length (joined_append row []) ∙ length-append (joined row) [] ∙ omega arith
  items_next (row ∷ rows) (suc at) lt =
      let e : suc at + 1 ≡ suc (at + 1) = omega arith in
      let first = ap length (joined_append row (before rows (at + 1))) ∙ length-append (joined row) (items (take (at + 1) rows)) in
      let second = ap length (joined_append row (before rows at)) ∙ length-append (joined row) (items (take at rows)) in
      let later = items_next rows at (omega arith) in
      rw e (omega (arith, first, second, later))

  -- ---- a change of one item of a row

  row_changed : (change : List X → ℕ → List X) → StepsOver change → (rows new : List (List (List X))) (place : Place) (row : List (List X)) → place.row < length rows
      → change (joined (row_at rows place.row) ++ items (drop (place.row + 1) rows)) (count_before (row_at rows place.row) (spot_of place))
      ≡ change (joined (row_at rows place.row)) (count_before (row_at rows place.row) (spot_of place)) ++ items (drop (place.row + 1) rows)
      → joined row ≡ change (joined (row_at rows place.row)) (count_before (row_at rows place.row) (spot_of place)) → new ≡ set rows place.row row → items new ≡ change (items rows) (rank rows place)
  row_changed change over rows new place row lt within made is =
      let start : List X = items (take place.row rows) in
      let rest : List X = items (drop (place.row + 1) rows) in
      ap items is ∙ items_set rows place.row row lt
      ∙ ap (λ (list : List X). start ++ (list ++ rest)) made
      ∙ ap (λ (list : List X). start ++ list) (sym within)
      ∙ sym (in_back change over start (joined (row_at rows place.row) ++ rest) (rank rows place) (count_before (row_at rows place.row) (spot_of place)) refl)
      ∙ ap (λ (list : List X). change list (rank rows place)) (sym (items_split rows place.row lt))

  -- what a call made of the row that it saw, at the spot that it was given
  as_seen : (change : List X → ℕ → List X) (list : List X) (seen row : List (List X)) (given spot : Spot) → seen ≡ row → given ≡ spot → list ≡ change (joined seen) (count_before seen given) → list ≡ change (joined row) (count_before row spot)
  as_seen change list seen row given spot is same made =
      made ∙ ap (λ (pages : List (List X)). change (joined pages) (count_before pages given)) is ∙ ap (λ (at : Spot). change (joined row) (count_before row at)) same

  pub row_inserted : (rows new : List (List (List X))) (place : Place) (seen row : List (List X)) (given : Spot) (item : X) → place.row < length rows → IsInside rows place → seen ≡ row_at rows place.row → given ≡ spot_of place
      → joined row ≡ insert (joined seen) (count_before seen given) item → new ≡ set rows place.row row → items new ≡ insert (items rows) (rank rows place) item
  row_inserted rows new place seen row given item lt inside is same made =
      row_changed (λ list at. insert list at item) (λ first list at. refl) rows new place row lt
      (insert_front item (joined (row_at rows place.row)) (items (drop (place.row + 1) rows)) (count_before (row_at rows place.row) (spot_of place)) (count_within (row_at rows place.row) (spot_of place) inside))
      (as_seen (λ list at. insert list at item) (joined row) seen (row_at rows place.row) given (spot_of place) is same made)

  pub row_put : (rows new : List (List (List X))) (place : Place) (seen row : List (List X)) (given : Spot) (item : X) → place.row < length rows → IsThere rows place → seen ≡ row_at rows place.row → given ≡ spot_of place
      → joined row ≡ set (joined seen) (count_before seen given) item → new ≡ set rows place.row row → items new ≡ set (items rows) (rank rows place) item
  row_put rows new place seen row given item lt there is same made =
      row_changed (λ list at. set list at item) (λ first list at. refl) rows new place row lt
      (set_front item (joined (row_at rows place.row)) (items (drop (place.row + 1) rows)) (count_before (row_at rows place.row) (spot_of place)) (count_there (row_at rows place.row) (spot_of place) there))
      (as_seen (λ list at. set list at item) (joined row) seen (row_at rows place.row) given (spot_of place) is same made)

  pub row_less : (rows new : List (List (List X))) (place : Place) (seen row : List (List X)) (given : Spot) → place.row < length rows → IsThere rows place → seen ≡ row_at rows place.row → given ≡ spot_of place
      → joined row ≡ remove (joined seen) (count_before seen given) → new ≡ set rows place.row row → items new ≡ remove (items rows) (rank rows place)
  row_less rows new place seen row given lt there is same made =
      row_changed remove (λ first list at. refl) rows new place row lt
      (remove_front (joined (row_at rows place.row)) (items (drop (place.row + 1) rows)) (count_before (row_at rows place.row) (spot_of place)) (count_there (row_at rows place.row) (spot_of place) there))
      (as_seen remove (joined row) seen (row_at rows place.row) given (spot_of place) is same made)

  -- ---- rows stay rows

  sized_set : (pages : List (List X)) (at : ℕ) (page : List X) → IsPage page → ArePages pages → ArePages (set pages at page)
  sized_set [] at page is sized = sized
  sized_set (first ∷ pages) zero page is sized = (is, sized.1)
  sized_set (first ∷ pages) (suc at) page is sized = (sized.0, sized_set pages at page is sized.1)

  sized_without : (pages : List (List X)) (at : ℕ) → ArePages pages → ArePages (take at pages ++ drop (at + 1) pages)
  sized_without [] zero sized = tt
  sized_without [] (suc at) sized = let e : suc at + 1 ≡ suc (at + 1) = omega arith in rw e tt
  sized_without (first ∷ pages) zero sized = sized.1
  sized_without (first ∷ pages) (suc at) sized = let e : suc at + 1 ≡ suc (at + 1) = omega arith in rw e (sized.0, sized_without pages at sized.1)

module _ {X : Type 0} where
  around_sized : (rows : List (List (List X))) (at : ℕ) → at < length rows → ArePages (joined rows) → ArePages (before rows at) × ArePages (behind rows at)
  around_sized rows at lt sized =
      let parts : ArePages (before rows at ++ (row_at rows at ++ behind rows at)) = subst (λ (list : List (List X)). ArePages list) (joined_split rows at lt) sized in
      (sized_front (before rows at) (row_at rows at ++ behind rows at) parts, sized_back (row_at rows at) (behind rows at) (sized_back (before rows at) (row_at rows at ++ behind rows at) parts))

  pub rows_set : (rows new : List (List (List X))) (at : ℕ) (row : List (List X)) → at < length rows → AreRows rows → IsPage row → ArePages row → new ≡ set rows at row → AreRows new
  rows_set rows new at row lt sized most pages is =
      let around = around_sized rows at lt sized.1 in
      let all : ArePages (joined (set rows at row)) = subst (λ (list : List (List X)). ArePages list) (sym (joined_set rows at row lt)) (sized_both (before rows at) (row ++ behind rows at) around.0 (sized_both row (behind rows at) pages around.1)) in
      subst (λ (list : List (List (List X))). AreRows list) (sym is) (sized_set rows at row most sized.0, all)

  pub rows_without : (rows new : List (List (List X))) (at : ℕ) → at < length rows → AreRows rows → new ≡ take at rows ++ drop (at + 1) rows → AreRows new
  rows_without rows new at lt sized is =
      let around = around_sized rows at lt sized.1 in
      let all : ArePages (joined (take at rows ++ drop (at + 1) rows)) = subst (λ (list : List (List X)). ArePages list) (sym (joined_append (take at rows) (drop (at + 1) rows))) (sized_both (before rows at) (behind rows at) around.0 around.1) in
      subst (λ (list : List (List (List X))). AreRows list) (sym is) (sized_without rows at sized.0, all)

  row_there : (rows : List (List (List X))) (row page at : ℕ) → at < length (get_or (row_at rows row) page []) → row < length rows
  row_there [] row page at less = absurd (omega arith)
  row_there (first ∷ rows) zero page at less = omega arith
  row_there (first ∷ rows) (suc row) page at less = let later : row < length rows = row_there rows row page at less in omega arith

  pub place_there : (rows : List (List (List X))) (place : Place) → IsThere rows place → place.row < length rows
  place_there rows place there = row_there rows place.row place.page place.at there

  -- a row that has one page more at most, where there was room
  pub row_grown : (old row : List (List X)) → IsPage old → length old < 64 → length old ≤ length row → length row ≤ length old + 1 → IsPage row
  row_grown old row is room least most = let some = is.0 in (omega (arith, some, least), omega (arith, room, most))

  -- a row that has lost one of its items, of which there were two
  pub row_kept : (old row : List (List X)) (at : ℕ) → IsPage old → nat_le (length (joined old)) 1 ≡ false → at < length (joined old) → joined row ≡ remove (joined old) at → length row ≤ length old → IsPage row
  row_kept old [] at is more lt made fewer =
      let left = length-remove (joined old) at lt in
      let none : 0 ≡ length (remove (joined old) at) = ap length made in
      let two = leb-false (length (joined old)) 1 more in
      absurd (omega (arith, left, none, two))
  row_kept old (page ∷ row) at is more lt made fewer = let most = is.1 in (omega arith, omega (arith, most, fewer))

  pub rows_grown : (rows new : List (List (List X))) (at : ℕ) (seen row : List (List X)) → at < length rows → length (row_at rows at) < 64 → AreRows rows → seen ≡ row_at rows at → new ≡ set rows at row
      → ArePages row → length seen ≤ length row → length row ≤ length seen + 1 → AreRows new
  rows_grown rows new at seen row lt room sized is made pages least most =
      let same : length seen ≡ length (row_at rows at) = ap length is in
      rows_set rows new at row lt sized (row_grown (row_at rows at) row (page_at rows at sized.0 lt) room (omega (arith, same, least)) (omega (arith, same, most))) pages made

  pub rows_same : (rows new : List (List (List X))) (at : ℕ) (seen row : List (List X)) → at < length rows → AreRows rows → seen ≡ row_at rows at → new ≡ set rows at row → ArePages row → length row ≡ length seen → AreRows new
  rows_same rows new at seen row lt sized is made pages long =
      let same : length row ≡ length (row_at rows at) = long ∙ ap length is in
      let page = page_at rows at sized.0 lt in
      let least = page.0 in
      let most = page.1 in
      rows_set rows new at row lt sized (omega (arith, same, least), omega (arith, same, most)) pages made

  pub rows_kept : (rows new : List (List (List X))) (place : Place) (seen row : List (List X)) (given : Spot) → IsThere rows place → AreRows rows → seen ≡ row_at rows place.row → given ≡ spot_of place → new ≡ set rows place.row row
      → nat_le (length (joined seen)) 1 ≡ false → ArePages row → joined row ≡ remove (joined seen) (count_before seen given) → length row ≤ length seen → AreRows new
  rows_kept rows new place seen row given there sized is same made more pages left fewer =
      let old : List (List X) = row_at rows place.row in
      let lt : place.row < length rows = place_there rows place there in
      let long : length seen ≡ length old = ap length is in
      rows_set rows new place.row row lt sized
      (row_kept old row (count_before old (spot_of place)) (page_at rows place.row sized.0 lt) (ap (λ (list : List (List X)). nat_le (length (joined list)) 1) (sym is) ∙ more) (count_there old (spot_of place) there)
      (as_seen remove (joined row) seen old given (spot_of place) is same left) (omega (arith, long, fewer)))
      pages made

  -- ---- a row of one item, which goes with it

  pub row_gone : (rows new : List (List (List X))) (place : Place) → IsThere rows place → length (joined (row_at rows place.row)) ≤ 1 → new ≡ take place.row rows ++ drop (place.row + 1) rows
      → items new ≡ remove (items rows) (rank rows place)
  row_gone rows new place there one is =
      let start : List X = items (take place.row rows) in
      let rest : List X = items (drop (place.row + 1) rows) in
      let row : List (List X) = row_at rows place.row in
      let at : ℕ = count_before row (spot_of place) in
      let less : at < length (joined row) = count_there row (spot_of place) there in
      ap items is ∙ ap joined (joined_append (take place.row rows) (drop (place.row + 1) rows)) ∙ joined_append (before rows place.row) (behind rows place.row)
      ∙ ap (λ (list : List X). start ++ (list ++ rest)) (sym (only_one (joined row) at one less))
      ∙ ap (λ (list : List X). start ++ list) (sym (remove_front (joined row) rest at less))
      ∙ sym (in_back remove (λ first list at. refl) start (joined row ++ rest) (rank rows place) at refl)
      ∙ ap (λ (list : List X). remove list (rank rows place)) (sym (items_split rows place.row (place_there rows place there)))

  -- two pages hold two items
  pub many_items : (row : List (List X)) → ArePages row → 2 ≤ length row → false ≡ nat_le (length (joined row)) 1
  many_items [] sized two = absurd (omega arith)
  many_items (page ∷ []) sized two = absurd (omega arith)
  many_items (page ∷ next ∷ row) sized two =
      let first : 1 ≤ length page = sized.0.0 in
      let second : 1 ≤ length next = sized.1.0.0 in
      let outer = length-append page (next ++ joined row) in
      let inner = length-append next (joined row) in
      sym (lt-leb (length (joined (page ∷ next ∷ row))) 1 (omega (arith, first, second, outer, inner)))

  -- ---- a row more, of one page of one item, behind all

  pub row_pushed : (rows new : List (List (List X))) (end : ℕ) (page : List X) (item : X) → page ≡ item ∷ [] → end ≡ length rows → joined new ≡ insert (joined rows) (length (before rows end)) page
      → items new ≡ insert (items rows) (length (items rows)) item
  row_pushed rows new end page item one last made =
      let at : ℕ = length (before rows end) in
      let whole : at ≡ length (joined rows) = ap (λ (list : List (List (List X))). length (joined list)) (take_all end rows (omega (arith, last))) in
      page_inserted (joined rows) (joined new) at page item one made
      ∙ ap (λ (list : List (List X)). insert (items rows) (length (joined list)) item) (take_all at (joined rows) (omega (arith, whole)))

  -- ---- a full row, of which two were made: a place in the row in front, and one in the row behind

  take_none : (n : ℕ) → ◌≡◌ {A = List (List X)} (take n []) []
  take_none zero = refl
  take_none (suc n) = refl

  take_front : (list : List (List X)) (n m : ℕ) → n ≤ m → take n (take m list) ≡ take n list
  take_front list zero m le = refl
  take_front list (suc n) zero le = absurd (omega arith)
  take_front [] (suc n) (suc m) le = refl
  take_front (page ∷ list) (suc n) (suc m) le = ap (λ (rest : List (List X)). page ∷ rest) (take_front list n m (omega arith))

  take_past : (list : List (List X)) (n m k : ℕ) → k + m ≡ n → take n list ≡ take m list ++ take k (drop m list)
  take_past list n zero k is = let e : n ≡ k = omega arith in ap (λ (count : ℕ). take count list) e
  take_past list zero (suc m) k is = absurd (omega arith)
  take_past [] (suc n) (suc m) k is = sym (take_none k)
  take_past (page ∷ list) (suc n) (suc m) k is = ap (λ (rest : List (List X)). page ∷ rest) (take_past list n m k (omega arith))

  pub front_inside : (rows new : List (List (List X))) (place : Place) (half : ℕ) → place.page < half → row_at new place.row ≡ take half (row_at rows place.row) → IsInside rows place → IsInside new place
  front_inside rows new place half lt front inside =
      subst (λ (page : List X). place.at ≤ length page)
      (sym (ap (λ (row : List (List X)). get_or row place.page []) front ∙ get_or-take half (row_at rows place.row) place.page [] lt)) inside

  pub back_inside : (rows new : List (List (List X))) (place : Place) (half page : ℕ) → half + page ≡ place.page → row_at new (place.row + 1) ≡ drop half (row_at rows place.row) → IsInside rows place
      → IsInside new (record { row = place.row + 1; page = page; at = place.at })
  back_inside rows new place half page is back inside =
      subst (λ (list : List X). place.at ≤ length list)
      (sym (ap (λ (row : List (List X)). get_or row page []) back ∙ get_or-drop half (row_at rows place.row) page [] ∙ ap (λ (at : ℕ). get_or (row_at rows place.row) at []) is)) inside

  pub front_rank : (rows new : List (List (List X))) (place : Place) (half : ℕ) → place.page < half → row_at new place.row ≡ take half (row_at rows place.row) → take place.row new ≡ take place.row rows
      → rank new place ≡ rank rows place
  front_rank rows new place half lt front same =
      let old : List (List X) = row_at rows place.row in
      let row : take place.page (row_at new place.row) ≡ take place.page old = ap (take place.page) front ∙ take_front old place.page half (omega arith) in
      ap (λ (list : List (List (List X))). length (items list) + count_before (row_at new place.row) (spot_of place)) same
      ∙ ap (λ (list : List (List X)). length (items (take place.row rows)) + (length (joined list) + place.at)) row

  pub back_rank : (rows new : List (List (List X))) (place : Place) (half page : ℕ) → place.row < length new → half + page ≡ place.page → row_at new place.row ≡ take half (row_at rows place.row)
      → row_at new (place.row + 1) ≡ drop half (row_at rows place.row) → take place.row new ≡ take place.row rows → rank new (record { row = place.row + 1; page = page; at = place.at }) ≡ rank rows place
  back_rank rows new place half page lt is front back same =
      let old : List (List X) = row_at rows place.row in
      let next = items_next new place.row lt in
      let start : length (items (take place.row new)) ≡ length (items (take place.row rows)) = ap (λ (list : List (List (List X))). length (items list)) same in
      let first : length (joined (row_at new place.row)) ≡ length (joined (take half old)) = ap (λ (list : List (List X)). length (joined list)) front in
      let second : length (joined (take page (row_at new (place.row + 1)))) ≡ length (joined (take page (drop half old))) = ap (λ (list : List (List X)). length (joined (take page list))) back in
      let whole : length (joined (take place.page old)) ≡ length (joined (take half old)) + length (joined (take page (drop half old))) =
      ap (λ (list : List (List X)). length (joined list)) (take_past old place.page half page (omega (arith, is))) ∙ ap length (joined_append (take half old) (take page (drop half old))) ∙ length-append (joined (take half old)) (joined (take page (drop half old))) in
      omega (arith, next, start, first, second, whole)
