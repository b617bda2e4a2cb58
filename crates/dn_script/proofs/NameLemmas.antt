-- Names as the keys of a set, and as the list that contracts see.
use Rattle.std.proofs.Common.{◌≡◌, ℕ, Bool, true, false, true≢false, cond, List, [], ◌∷◌, ◌++◌, None, Some, map, length, nat_lt, not, ◌||◌, ◌+◌, suc, refl, ap}
use Rattle.std.specs.Prelude.{position}
use Rattle.std.specs.List.{list_any, position_or_len}

module _ {K : Type 0} (bytes : K → List ℕ) where
  -- the test of a key's bytes finds what the test of the bytes finds
  place_seen : (test : List ℕ → Bool) (keys : List K) → position_or_len (λ key. test (bytes key)) keys ≡ position_or_len test (map bytes keys)
  place_seen test [] = refl
  place_seen test (key ∷ keys) = ap (λ rest. cond (not (test (bytes key))) (1 + rest) 0) (place_seen test keys)

  length_seen : (keys : List K) → length keys ≡ length (map bytes keys)
  length_seen [] = refl
  length_seen (key ∷ keys) = ap suc (length_seen keys)

  pub position_seen : (test : List ℕ → Bool) (keys : List K) → position (λ key. test (bytes key)) keys ≡ position test (map bytes keys)
  position_seen test keys =
      λ i. cond (nat_lt (place_seen test keys i) (length_seen keys i)) (Some (place_seen test keys i)) None

  pub any_seen : (test : List ℕ → Bool) (keys : List K) → list_any (λ key. test (bytes key)) keys ≡ list_any test (map bytes keys)
  any_seen test [] = refl
  any_seen test (key ∷ keys) = ap (λ rest. test (bytes key) || rest) (any_seen test keys)

  pub map_behind : (keys more : List K) → map bytes (keys ++ more) ≡ map bytes keys ++ map bytes more
  map_behind [] more = refl
  map_behind (key ∷ keys) more = ap (λ rest. bytes key ∷ rest) (map_behind keys more)

  -- a key that isn't there goes behind the others
  pub put_behind : (there : Bool) (keys : List K) (key : K) → there ≡ false → map bytes (cond there keys (keys ++ key ∷ [])) ≡ map bytes keys ++ bytes key ∷ []
  put_behind true keys key is = absurd (true≢false is)
  put_behind false keys key is = map_behind keys (key ∷ [])
