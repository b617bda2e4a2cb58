-- What a search by halves promises: the tests at its two ends.
use Rattle.std.specs.Prelude.{◌≡◌, ℕ, ◌+◌, ◌<◌, ◌≤◌, Bool, true, false, List, [], ◌∷◌, length, slice_index_or}

-- The item before the place passes the test, and the one at the place doesn't.
pub record IsCut {X : Type 0} (test : X → Bool) (list : List X) (at : ℕ) : Type 0 where
  pub within : at ≤ length list
  pub before : (last : ℕ) (d : X) → last + 1 ≡ at → test (slice_index_or list last d) ≡ true
  pub behind : (d : X) → at < length list → test (slice_index_or list at d) ≡ false

-- whether a page's first item passes the test
abbrev pub starts_below : {X : Type 0} → (X → Bool) → List X → Bool
starts_below test [] = false
starts_below test (item ∷ items) = test item

-- the page starts by an item that passes, where it isn't the first, and the next page by one that doesn't
pub record IsHome {X : Type 0} (test : X → Bool) (pages : List (List X)) (at : ℕ) : Type 0 where
  pub within : at < length pages
  pub from : 0 < at → starts_below test (slice_index_or pages at []) ≡ true
  pub before : at + 1 < length pages → starts_below test (slice_index_or pages (at + 1) []) ≡ false
