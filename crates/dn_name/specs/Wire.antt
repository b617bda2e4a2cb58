-- A name as it is kept: its bytes on the wire in a buffer of 255, with zeros behind them.
use Rattle.std.specs.Prelude.{◌≡◌, ℕ, zero, suc, ◌-◌, ◌&&◌, nat_le, if◌then◌else◌, List, [], ◌∷◌, ◌++◌, length, take, drop, replicate, Option, None, Some, option_map, option_and_then}
use Rattle.std.proofs.Common.{sym}
use Rattle.dn_name.specs.declared.name.Name.TheInside.{Inside}
use Rattle.dn_name.specs.Name.{Labels, IsName, wire_of, wire_len}

-- the labels at the front of the bytes, up to the zero byte; none stands behind so many labels
abbrev pub labels_in : ℕ → List ℕ → Labels
labels_in zero bytes = []
labels_in (suc most) [] = []
labels_in (suc most) (zero ∷ bytes) = []
labels_in (suc most) (suc k ∷ bytes) = take (suc k) bytes ∷ labels_in most (drop (suc k) bytes)

-- the bytes of the name, and zeros up to 255 bytes
abbrev pub padded : Labels → List ℕ
padded name = wire_of name ++ replicate (255 - wire_len name) 0

pub record IsWire (n : Inside) : Type 0 where
  pub wire : n.wire ≡ padded (labels_in 128 n.wire)
  pub len : n.len ≡ wire_len (labels_in 128 n.wire)
  pub name : IsName (labels_in 128 n.wire)

-- the labels give the bytes back
pub wire_again : (n : Inside) → IsWire n → record { wire = padded (labels_in 128 n.wire); len = wire_len (labels_in 128 n.wire) } ≡ n
wire_again n is i = record { wire = sym is.wire i; len = sym is.len i }

abbrev pub then_label : List ℕ → Option (Labels × List ℕ) → Option (Labels × List ℕ)
then_label label rest = option_map (λ found. (label ∷ found.0, found.1)) rest

-- the labels at the front of the bytes up to a zero byte, each of 1 to 63 bytes and at most so many, and the bytes behind
abbrev pub labels_at : ℕ → List ℕ → Option (Labels × List ℕ)
labels_at zero bytes = None
labels_at (suc most) [] = None
labels_at (suc most) (zero ∷ bytes) = Some ([], bytes)
labels_at (suc most) (suc k ∷ bytes) =
    if nat_le (suc k) 63 && nat_le (suc k) (length bytes) then then_label (take (suc k) bytes) (labels_at most (drop (suc k) bytes)) else None

-- the name that is spelled without pointers at the front of the bytes, and the bytes behind it
abbrev pub plain_name : List ℕ → Option (Labels × List ℕ)
plain_name bytes = option_and_then (λ found. if nat_le (wire_len found.0) 255 then Some found else None) (labels_at 128 bytes)
