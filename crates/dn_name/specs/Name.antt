-- Domain names as lists of labels, from the first label to the one below the root (RFC 1035 2.3.4 and 3.1).
use Rattle.std.specs.Prelude.{◌≡◌, ℕ, ◌+◌, ◌≤◌, Bool, ◌&&◌, ◌||◌, nat_eq, nat_le, if◌then◌else◌, List, [], ◌∷◌, ◌++◌, length, map, reverse, Option, None, Some}
use Rattle.std.specs.List.{AllByRecursion, list_all}
use Rattle.std.specs.Ordering.{nat_cmp}
use Rattle.std.specs.declared.cmp.Ordering.{Ordering}
use Rattle.std.specs.Cmp.Lexicographic.{slice_cmp}
use lib.Pointwise.{pointwise}

-- A name: its labels, each a list of bytes, from the first to the one below the root. The root has none.
abbrev pub Labels : Type 0
Labels = List (List ℕ)

-- an ASCII letter in lower case, any other byte as it is (RFC 4343)
abbrev pub lower_byte : ℕ → ℕ
lower_byte byte = if nat_le 65 byte && nat_le byte 90 then byte + 32 else byte

abbrev pub lower_label : List ℕ → List ℕ
lower_label label = map lower_byte label

-- the name with its letters in lower case: names are equal where these are
abbrev pub lowered : Labels → Labels
lowered name = map lower_label name

-- how many bytes the name takes on the wire, with the zero byte that ends it
abbrev pub wire_len : Labels → ℕ
wire_len [] = 1
wire_len (label ∷ name) = length label + 1 + wire_len name

-- the bytes on the wire: each label after its length, and a zero byte
abbrev pub wire_of : Labels → List ℕ
wire_of [] = 0 ∷ []
wire_of (label ∷ name) = length label ∷ label ++ wire_of name

abbrev pub IsLabel : List ℕ → Type 0
IsLabel label = (1 ≤ length label) × (length label ≤ 63)

-- labels of 1 to 63 bytes, at most 255 bytes on the wire
abbrev pub IsName : Labels → Type 0
IsName name = AllByRecursion IsLabel name × (wire_len name ≤ 255)

abbrev pub is_label : List ℕ → Bool
is_label label = nat_le 1 (length label) && nat_le (length label) 63

abbrev pub is_name : Labels → Bool
is_name name = list_all is_label name && nat_le (wire_len name) 255

-- equal but for the case of letters
abbrev pub is_same : Labels → Labels → Bool
is_same left right = pointwise (pointwise nat_eq) (lowered left) (lowered right)

-- the name is the apex, or the name without its first label is under it
abbrev pub is_under : Labels → Labels → Bool
is_under [] apex = is_same [] apex
is_under (label ∷ name) apex = is_same (label ∷ name) apex || is_under name apex

-- the same as a relation: the apex's labels stand at the end of the name's
abbrev pub IsUnder : Labels → Labels → Type 0
IsUnder name apex = (front : Labels) × (lowered name ≡ front ++ lowered apex)

abbrev pub parent_of : Labels → Option Labels
parent_of [] = None
parent_of (label ∷ name) = Some name

-- The order of names: by their labels from the last to the first, in lower case, a label by its bytes, and the name
-- that ends sooner first (RFC 4034 6.1).
abbrev pub order : Labels → Labels → Ordering
order left right = slice_cmp (slice_cmp nat_cmp) (reverse (lowered left)) (reverse (lowered right))
