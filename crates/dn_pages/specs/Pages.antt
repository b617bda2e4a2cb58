-- Rows of pages of items, one behind another.
use Rattle.std.specs.Prelude.{ℕ, ◌+◌, ◌<◌, ◌≤◌, List, [], ◌∷◌, ◌++◌, length, slice_index_or, take}
use Rattle.std.specs.List.{AllByRecursion}
use Rattle.dn_pages.specs.declared.mark.Place.{Place}
use Rattle.dn_pages.specs.declared.mark.Spot.{Spot}

-- the items of lists, one list after another
abbrev pub joined : {X : Type 0} → List (List X) → List X
joined [] = []
joined (page ∷ pages) = page ++ joined pages

-- the items of rows of pages, one page after another
abbrev pub items : {X : Type 0} → List (List (List X)) → List X
items rows = joined (joined rows)

-- the most items of a page, and the most pages of a row
abbrev pub page_most : ℕ
page_most = 64

-- 1 to 64 items
abbrev pub IsPage : {X : Type 0} → List X → Type 0
IsPage page = (1 ≤ length page) × (length page ≤ page_most)

abbrev pub ArePages : {X : Type 0} → List (List X) → Type 0
ArePages pages = AllByRecursion IsPage pages

-- rows of 1 to 64 pages, each page of 1 to 64 items
abbrev pub AreRows : {X : Type 0} → List (List (List X)) → Type 0
AreRows rows = ArePages rows × ArePages (joined rows)

-- ---- places in pages

-- how many items of the pages stand before a spot
abbrev pub count_before : {X : Type 0} → List (List X) → Spot → ℕ
count_before pages spot = length (joined (take spot.page pages)) + spot.at

-- the spot is one of the page's items, or behind its last; behind all pages it is the first of none
abbrev pub IsWithin : {X : Type 0} → List (List X) → Spot → Type 0
IsWithin pages spot = spot.at ≤ length (slice_index_or pages spot.page [])

-- the spot is that of an item
abbrev pub IsItem : {X : Type 0} → List (List X) → Spot → Type 0
IsItem pages spot = spot.at < length (slice_index_or pages spot.page [])

-- the spot of an item is in its own page, and no page's end
abbrev pub IsSettledSpot : {X : Type 0} → List (List X) → Spot → Type 0
IsSettledSpot pages spot = count_before pages spot < length (joined pages) → IsItem pages spot

-- ---- places in rows

-- the pages of a row; behind all rows there are none
abbrev pub row_at : {X : Type 0} → List (List (List X)) → ℕ → List (List X)
row_at rows row = slice_index_or rows row []

-- the spot of a place in its row
abbrev pub spot_of : Place → Spot
spot_of place = record { page = place.page; at = place.at }

-- how many items stand before a place: those of the rows before it, and those before it in its row
abbrev pub rank : {X : Type 0} → List (List (List X)) → Place → ℕ
rank rows place = length (items (take place.row rows)) + count_before (row_at rows place.row) (spot_of place)

-- the place is one of its page's items, or behind its last; behind all pages it is the first of none
abbrev pub IsInside : {X : Type 0} → List (List (List X)) → Place → Type 0
IsInside rows place = IsWithin (row_at rows place.row) (spot_of place)

-- the place is that of an item
abbrev pub IsThere : {X : Type 0} → List (List (List X)) → Place → Type 0
IsThere rows place = IsItem (row_at rows place.row) (spot_of place)

-- the place of an item is in its own page, and no page's end
abbrev pub IsSettled : {X : Type 0} → List (List (List X)) → Place → Type 0
IsSettled rows place = rank rows place < length (items rows) → IsThere rows place
