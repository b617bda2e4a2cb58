-- How a name on the wire is walked, label by label.
use Rattle.std.specs.Prelude.{◌≡◌, ℕ, zero, suc, Bool, ◌||◌, nat_eq, reverse, List, [], ◌∷◌, length, take, drop, nat_le, if◌then◌else◌, Option, None, Some}
use Rattle.std.specs.Ordering.{nat_cmp}
use Rattle.std.specs.declared.cmp.Ordering.{Ordering}
use Rattle.std.specs.Cmp.Lexicographic.{slice_cmp}
use lib.Pointwise.{pointwise}
use Rattle.dn_name.specs.Name.{Labels, IsName, wire_of}
use Rattle.dn_name.specs.Wire.{labels_in}

-- the first label at the front of the bytes, and the bytes behind it; none before a zero byte, or where the label is cut
abbrev pub first_label : List ℕ → Option (List ℕ × List ℕ)
first_label [] = None
first_label (zero ∷ bytes) = None
first_label (suc k ∷ bytes) = if nat_le (suc k) (length bytes) then Some (take (suc k) bytes, drop (suc k) bytes) else None

-- the same of a name
abbrev pub first_of : Labels → Option (List ℕ × List ℕ)
first_of [] = None
first_of (label ∷ name) = Some (label, wire_of name)

-- the bytes are a name on the wire
abbrev pub IsWhole : List ℕ → Type 0
IsWhole bytes = (bytes ≡ wire_of (labels_in 128 bytes)) × IsName (labels_in 128 bytes)

-- whether the second list of labels stands at the end of the first
abbrev pub ends_in : Labels → Labels → Bool
ends_in [] above = pointwise (pointwise nat_eq) [] above
ends_in (label ∷ name) above = pointwise (pointwise nat_eq) (label ∷ name) above || ends_in name above

-- the order of labels from the last to the first
abbrev pub order_of : Labels → Labels → Ordering
order_of left right = slice_cmp (slice_cmp nat_cmp) (reverse left) (reverse right)
