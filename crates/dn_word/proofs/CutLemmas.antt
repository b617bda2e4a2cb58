-- No more bytes of a kind stand at a side of a text than it has.
use Rattle.std.proofs.Common.{◌≤◌, Bool, List, length}
use Rattle.std.proofs.lemmas.List.Sums.{prefix_len-le-length, suffix_len-le-length}
use Rattle.std.specs.List.{prefix_len, suffix_len}

pub front_within : {X : Type 0} (p : X → Bool) (xs : List X) → prefix_len p xs ≤ length xs
front_within p xs = prefix_len-le-length p xs

pub end_within : {X : Type 0} (p : X → Bool) (xs : List X) → suffix_len p xs ≤ length xs
end_within p xs = suffix_len-le-length p xs
