-- How a name stands in a stored value, as a counted name (MS-DNSP 2.2.2.2.2): how many bytes it takes on the wire, how many
-- labels it has, and its bytes on the wire without pointers.
use Rattle.std.specs.Prelude.{◌≡◌, ℕ, ◌+◌, List, ◌∷◌, ◌++◌, length, drop}
use Rattle.dn_name.specs.Name.{Labels, IsName, wire_len, wire_of}

-- the bytes of a counted name; in this project's profile the zero byte that ends the name is counted
abbrev pub counted_of : Labels → List ℕ
counted_of name = wire_len name ∷ (length name ∷ wire_of name)

-- the name stands at a place of the message as a counted name, and `next` is the place behind it
pub record Counted (message : List ℕ) (at : ℕ) (name : Labels) (next : ℕ) : Type 0 where
  pub named : IsName name
  pub rest : List ℕ
  pub stands : drop at message ≡ wire_len name ∷ (length name ∷ (wire_of name ++ rest))
  pub next_is : next ≡ at + 2 + wire_len name

-- what is said of a name's bytes and labels is so
abbrev pub AreCounts : Labels → ℕ → ℕ → Type 0
AreCounts name len count = (len ≡ wire_len name) × (count ≡ length name)
