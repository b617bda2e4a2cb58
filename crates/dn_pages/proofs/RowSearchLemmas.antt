-- Searches among rows: each row's items are one page of a list of pages, of which what holds of pages is known.
use Rattle.std.proofs.Common.{◌≡◌, ℕ, zero, suc, ◌+◌, ◌<◌, ◌≤◌, Bool, true, false, List, [], ◌∷◌, ◌++◌, take, drop, length, map, get_or, refl, ap, sym, subst, ◌∙◌, arith, Option, Some, None, is_some, option_copied, inl, inr, Bor}
use Rattle.std.proofs.lemmas.Bool.{cases_lt, false≢true}
use Rattle.std.proofs.lemmas.List.{length-append, length-map, take-map, take_all}
use Rattle.std.proofs.lemmas.Option.{slice_get_past}
use Rattle.std.specs.Prelude.{slice_get}
use Rattle.dn_pages.specs.declared.mark.Place.{Place}
use Rattle.dn_pages.specs.declared.mark.Spot.{Spot}
use Rattle.dn_pages.specs.Pages.{ArePages, AreRows, IsSettled, IsSettledSpot, IsThere, IsWithin, count_before, items, joined, rank, row_at, spot_of}
use Rattle.dn_pages.specs.Search.{IsCut, IsHome, starts_below}
use Rattle.dn_pages.proofs.CutLemmas.{AreFilled, cut_joined, whole_length}
use Rattle.dn_pages.proofs.JoinedLemmas.{before, before_next, end_rank, item_seen, item_there, joined_append, page_at, there_within}
use Rattle.dn_pages.proofs.RowsLemmas.{count_there, count_within, row_sized, sized_back, sized_front}

module _ {X : Type 0} where
  -- ---- each row's items as a page

  abbrev pub flat : List (List (List X)) → List (List X)
  flat rows = map joined rows

  flat_items : (rows : List (List (List X))) → joined (flat rows) ≡ items rows
  flat_items [] = refl
  flat_items (row ∷ rows) = ap (λ (list : List X). joined row ++ list) (flat_items rows) ∙ sym (joined_append row (joined rows))

  flat_length : (rows : List (List (List X))) → length (flat rows) ≡ length rows
  flat_length rows = length-map rows joined

  flat_at : (rows : List (List (List X))) (at : ℕ) → get_or (flat rows) at [] ≡ joined (get_or rows at [])
  flat_at [] at = refl
  flat_at (row ∷ rows) zero = refl
  flat_at (row ∷ rows) (suc at) = flat_at rows at

  flat_before : (rows : List (List (List X))) (at : ℕ) → before (flat rows) at ≡ items (take at rows)
  flat_before rows at = ap joined (take-map joined at rows) ∙ flat_items (take at rows)

  -- how many items of its row stand before a place
  abbrev count_in : List (List (List X)) → Place → ℕ
  count_in rows place = count_before (row_at rows place.row) (spot_of place)

  abbrev flat_spot : List (List (List X)) → Place → Spot
  flat_spot rows place = record { page = place.row; at = count_in rows place }

  flat_rank : (rows : List (List (List X))) (place : Place) → count_before (flat rows) (flat_spot rows place) ≡ rank rows place
  flat_rank rows place = let e : length (before (flat rows) place.row) ≡ length (items (take place.row rows)) = ap length (flat_before rows place.row) in ap (λ (k : ℕ). k + count_in rows place) e

  -- ---- what is known of each row

  first_filled : (row : List (List X)) → 1 ≤ length row → ArePages row → 1 ≤ length (joined row)
  first_filled [] least sized = absurd (omega arith)
  first_filled (page ∷ row) least sized =
      let e : length (joined (page ∷ row)) ≡ length page + length (joined row) = length-append page (joined row) in
      let one : 1 ≤ length page = sized.0.0 in
      omega (arith, e, one)

  flat_filled : (rows : List (List (List X))) → ArePages rows → ArePages (joined rows) → AreFilled (flat rows)
  flat_filled [] sized pages = tt
  flat_filled (row ∷ rows) sized pages = (first_filled row sized.0.0 (sized_front row (joined rows) pages), flat_filled rows sized.1 (sized_back row (joined rows) pages))

  pub row_starts : (rows : List (List (List X))) (row : ℕ) → AreRows rows → row < length rows → 0 < length (get_or (row_at rows row) 0 [])
  row_starts rows row sized lt =
      let least : 1 ≤ length (row_at rows row) = (page_at rows row sized.0 lt).0 in
      let first : 1 ≤ length (get_or (row_at rows row) 0 []) = (page_at (row_at rows row) 0 (row_sized rows row sized.1) (omega (arith, least))).0 in
      omega (arith, first)

  -- an item's place in its page is small
  pub place_small : (rows : List (List (List X))) (place : Place) → AreRows rows → IsThere rows place → place.at < 64
  place_small rows place sized there =
      let row : List (List X) = row_at rows place.row in
      let page : place.page < length row = there_within row place.page place.at there in
      let lt : place.row < length rows = there_within rows place.row 0 (omega (arith, page)) in
      let most : length (get_or row place.page []) ≤ 64 = (page_at row place.page (row_sized rows place.row sized.1) page).1 in
      omega (arith, most, there)

  -- ---- counts and ranks

  rank_less : (rows : List (List (List X))) (place : Place) → place.row < length rows → count_in rows place < length (joined (row_at rows place.row)) → rank rows place < length (items rows)
  rank_less rows place lt less =
      let whole = whole_length (flat rows) place.row (let e = flat_length rows in omega (arith, e, lt)) in
      let here : length (get_or (flat rows) place.row []) ≡ length (joined (row_at rows place.row)) = ap length (flat_at rows place.row) in
      let all : length (joined (flat rows)) ≡ length (items rows) = ap length (flat_items rows) in
      let same = flat_rank rows place in
      omega (arith, whole, here, all, same, less)

  -- ---- behind a row's last item

  some_there : (list : List X) (at : ℕ) → at < length list → is_some (slice_get list at) ≡ true
  some_there [] at lt = absurd (omega arith)
  some_there (item ∷ list) zero lt = refl
  some_there (item ∷ list) (suc at) lt = some_there list at (omega arith)

  some_copied : (found : Option (Bor X)) → is_some (option_copied found) ≡ is_some found
  some_copied None = refl
  some_copied (Some item) = refl

  past_end : (found : Option (Bor X)) (list : List X) (at : ℕ) → option_copied found ≡ slice_get list at → is_some found ≡ false → length list ≤ at
  past_end found list at is none =
      elim (cases_lt at (length list)) [
        | inl less ↦ absurd (false≢true (sym none ∙ sym (some_copied found) ∙ ap is_some is ∙ some_there list at less))
        | inr past ↦ past
      ]

  -- no item was seen at the spot, so it is behind the last
  pub row_ended : (rows : List (List (List X))) (place : Place) (seen : List (List X)) (spot : Spot) (found : Option (Bor X)) → IsWithin (row_at rows place.row) (spot_of place) → seen ≡ row_at rows place.row → spot ≡ spot_of place
      → option_copied found ≡ slice_get (joined seen) (count_before seen spot) → is_some found ≡ false → count_before (row_at rows place.row) (spot_of place) ≡ length (joined (row_at rows place.row))
  row_ended rows place seen spot found inside is same there none =
      let row : List (List X) = row_at rows place.row in
      let read : option_copied found ≡ slice_get (joined row) (count_in rows place) = there ∙ ap (λ (list : List (List X)). slice_get (joined list) (count_before list spot)) is ∙ ap (λ (one : Spot). slice_get (joined row) (count_before row one)) same in
      let most : count_in rows place ≤ length (joined row) = count_within row (spot_of place) inside in
      let least : length (joined row) ≤ count_in rows place = past_end found (joined row) (count_in rows place) read none in
      omega (arith, most, least)

  -- a row's end is the start of the next row
  pub next_row : (rows : List (List (List X))) (place : Place) → place.row < length rows → count_before (row_at rows place.row) (spot_of place) ≡ length (joined (row_at rows place.row))
      → rank rows (record { row = place.row + 1; page = 0; at = 0 }) ≡ rank rows place
  next_row rows place lt ended =
      let more = before_next (flat rows) place.row (let e = flat_length rows in omega (arith, e, lt)) in
      let start : length (before (flat rows) place.row) ≡ length (items (take place.row rows)) = ap length (flat_before rows place.row) in
      let next : length (before (flat rows) (place.row + 1)) ≡ length (items (take (place.row + 1) rows)) = ap length (flat_before rows (place.row + 1)) in
      let here : length (get_or (flat rows) place.row []) ≡ length (joined (row_at rows place.row)) = ap length (flat_at rows place.row) in
      omega (arith, more, start, next, here, ended)

  -- the last row's end is behind all items
  pub last_row : (rows : List (List (List X))) (place : Place) → place.row + 1 ≡ length rows → count_before (row_at rows place.row) (spot_of place) ≡ length (joined (row_at rows place.row)) → rank rows place ≡ length (items rows)
  last_row rows place last ended =
      sym (flat_rank rows place)
      ∙ end_rank (flat rows) place.row (count_in rows place) (last ∙ sym (flat_length rows)) (ended ∙ sym (ap length (flat_at rows place.row)))
      ∙ ap length (flat_items rows)

  -- the same, for a row as a call saw it
  pub last_row_seen : (rows : List (List (List X))) (place : Place) (seen : List (List X)) → place.row + 1 ≡ length rows → seen ≡ row_at rows place.row → count_before seen (spot_of place) ≡ length (joined seen)
      → rank rows place ≡ length (items rows)
  last_row_seen rows place seen last is ended =
      last_row rows place last (subst (λ (row : List (List X)). count_before row (spot_of place) ≡ length (joined row)) is ended)

  -- ---- the item at a place

  pub spot_settled : (rows : List (List (List X))) (place : Place) (seen : List (List X)) (spot : Spot) → place.row < length rows → IsSettled rows place → seen ≡ row_at rows place.row → spot ≡ spot_of place → IsSettledSpot seen spot
  spot_settled rows place seen spot lt settled is same =
      let here : IsSettledSpot (row_at rows place.row) (spot_of place) = λ less. settled (rank_less rows place lt less) in
      let there : IsSettledSpot seen (spot_of place) = subst (λ (row : List (List X)). IsSettledSpot row (spot_of place)) (sym is) here in
      subst (λ (one : Spot). IsSettledSpot seen one) (sym same) there

  flat_settled : (rows : List (List (List X))) (place : Place) → IsSettled rows place → IsSettledSpot (flat rows) (flat_spot rows place)
  flat_settled rows place settled less =
      let same = flat_rank rows place in
      let all : length (joined (flat rows)) ≡ length (items rows) = ap length (flat_items rows) in
      let there : IsThere rows place = settled (omega (arith, same, all, less)) in
      let inside : count_in rows place < length (joined (row_at rows place.row)) = count_there (row_at rows place.row) (spot_of place) there in
      let here : length (get_or (flat rows) place.row []) ≡ length (joined (row_at rows place.row)) = ap length (flat_at rows place.row) in
      omega (arith, inside, here)

  pub item_found : (rows : List (List (List X))) (place : Place) (seen : List (List X)) (spot : Spot) → place.row < length rows → IsSettled rows place → seen ≡ row_at rows place.row → spot ≡ spot_of place
      → slice_get (joined seen) (count_before seen spot) ≡ slice_get (items rows) (rank rows place)
  item_found rows place seen spot lt settled is same =
      ap (λ (list : List (List X)). slice_get (joined list) (count_before list spot)) is
      ∙ ap (λ (one : Spot). slice_get (joined (row_at rows place.row)) (count_before (row_at rows place.row) one)) same
      ∙ ap (λ (list : List X). slice_get list (count_in rows place)) (sym (flat_at rows place.row))
      ∙ item_seen (flat rows) (flat_spot rows place) (let e = flat_length rows in omega (arith, e, lt)) (flat_settled rows place settled)
      ∙ ap (λ (list : List X). slice_get list (count_before (flat rows) (flat_spot rows place))) (flat_items rows)
      ∙ ap (slice_get (items rows)) (flat_rank rows place)

  pub none_found : (rows : List (List (List X))) (place : Place) → length rows ≤ place.row → None ≡ slice_get (items rows) (rank rows place)
  none_found rows place past =
      let all : length (items (take place.row rows)) ≡ length (items rows) = ap (λ (list : List (List (List X))). length (items list)) (take_all place.row rows past) in
      sym (slice_get_past (items rows) (rank rows place) (omega (arith, all)))

  pub first_found : (rows : List (List (List X))) → AreRows rows → 0 < length rows → slice_get (joined (get_or rows 0 [])) 0 ≡ slice_get (items rows) 0
  first_found [] sized lt = absurd (omega arith)
  first_found (row ∷ rows) sized lt =
      let least : 1 ≤ length (joined row) = (flat_filled (row ∷ rows) sized.0 sized.1).0 in
      sym (item_there (flat (row ∷ rows)) (record { page = 0; at = 0 }) (omega arith) (omega (arith, least))) ∙ ap (λ (list : List X). slice_get list 0) (flat_items (row ∷ rows))

  pub items_more : (rows : List (List (List X))) (at : ℕ) (d : List (List X)) → at < length rows → length (items (drop at rows)) ≡ length (joined (get_or rows at d)) + length (items (drop (at + 1) rows))
  items_more [] at d lt = absurd (omega arith)
  items_more (row ∷ rows) zero d lt = ap length (joined_append row (joined rows)) ∙ length-append (joined row) (items rows)
  items_more (row ∷ rows) (suc at) d lt = let e : suc at + 1 ≡ suc (at + 1) = omega arith in rw e (items_more rows at d (omega arith))

  -- ---- a search among rows

  starts_front : (test : X → Bool) (page rest : List X) → 1 ≤ length page → starts_below test (page ++ rest) ≡ starts_below test page
  starts_front test [] rest least = absurd (omega arith)
  starts_front test (item ∷ page) rest least = refl

  starts_flat : (test : X → Bool) (row : List (List X)) → ArePages row → starts_below test (joined row) ≡ starts_below (starts_below test) row
  starts_flat test [] sized = refl
  starts_flat test (page ∷ row) sized = starts_front test page (joined row) sized.0.0

  row_starts_flat : (test : X → Bool) (rows : List (List (List X))) (at : ℕ) → ArePages (joined rows) → at < length rows → starts_below test (get_or (flat rows) at []) ≡ starts_below (starts_below test) (get_or rows at [])
  row_starts_flat test rows at sized lt = ap (starts_below test) (flat_at rows at) ∙ starts_flat test (get_or rows at []) (row_sized rows at sized)

  flat_home : (test : X → Bool) (rows : List (List (List X))) (at : ℕ) → ArePages (joined rows) → IsHome (starts_below test) rows at → IsHome test (flat rows) at
  flat_home test rows at sized home =
      let e : length (flat rows) ≡ length rows = flat_length rows in
      let within : at < length rows = home.within in
      record {
        within = omega (arith, e, within);
        from = λ more. row_starts_flat test rows at sized within ∙ home.from more;
        before = λ more. let next : at + 1 < length rows = omega (arith, e, more) in row_starts_flat test rows (at + 1) sized next ∙ home.before next;
      }

  -- the cut in the row at which a search among the rows ends, under another name of the place
  pub place_cut : (test : X → Bool) (rows : List (List (List X))) (place : Place) (found : ℕ) (seen : List (List X)) → AreRows rows → IsHome (starts_below test) rows place.row → seen ≡ row_at rows place.row
      → IsCut test (joined seen) (count_before seen (spot_of place)) → found ≡ rank rows place → IsCut test (items rows) found
  place_cut test rows place found seen sized home is cut same =
      let row : IsCut test (joined (row_at rows place.row)) (count_in rows place) = subst (λ (list : List (List X)). IsCut test (joined list) (count_before list (spot_of place))) is cut in
      let here : IsCut test (get_or (flat rows) place.row []) (count_in rows place) = subst (λ (list : List X). IsCut test list (count_in rows place)) (sym (flat_at rows place.row)) row in
      let whole : IsCut test (joined (flat rows)) (count_before (flat rows) (flat_spot rows place)) =
      cut_joined test (flat rows) place.row (count_in rows place) (flat_filled rows sized.0 sized.1) (flat_home test rows place.row sized.1 home) here in
      let all : IsCut test (items rows) (count_before (flat rows) (flat_spot rows place)) = subst (λ (list : List X). IsCut test list (count_before (flat rows) (flat_spot rows place))) (flat_items rows) whole in
      subst (IsCut test (items rows)) (flat_rank rows place ∙ sym same) all
