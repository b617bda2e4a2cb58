-- How a text is read label by label: what one byte of a label takes, and what the rest of a text completes.
use Rattle.std.specs.Prelude.{◌≡◌, ℕ, ◌+◌, ◌-◌, ◌*◌, ◌≤◌, ◌<◌, ◌&&◌, nat_eq, nat_le, if◌then◌else◌, List, [], ◌∷◌, ◌++◌, length, Option, None, Some, option_and_then}
use Rattle.dn_name.specs.Name.{Labels, wire_len, IsLabel}
use Rattle.dn_name.specs.Text.{Escape, Outside, Begun, OneDigit, TwoDigits, is_digit, symbols_from, labels_between, without_last_empty, name_if}

-- the byte of a label that a text spells at its front, and the text behind it; none for a dot
abbrev pub byte_in : Escape → List ℕ → Option (ℕ × List ℕ)
byte_in Outside [] = None
byte_in Begun [] = None
byte_in (OneDigit n) [] = None
byte_in (TwoDigits n) [] = None
byte_in Outside (b ∷ text) =
    if nat_eq b 46 then None
    else (if nat_eq b 92 then byte_in Begun text
    else (if nat_le 33 b && nat_le b 126 then Some (b, text) else None))
byte_in Begun (b ∷ text) =
    if is_digit b then byte_in (OneDigit (b - 48)) text
    else (if nat_le 32 b && nat_le b 126 then Some (b, text) else None)
byte_in (OneDigit n) (b ∷ text) =
    if is_digit b then byte_in (TwoDigits (10 * n + (b - 48))) text else None
byte_in (TwoDigits n) (b ∷ text) =
    if is_digit b && nat_le (10 * n + (b - 48)) 255 then Some (10 * n + (b - 48), text) else None

-- the labels with these bytes before the first of them
abbrev pub glued : List ℕ → Labels → Labels
glued bytes [] = bytes ∷ []
glued bytes (label ∷ labels) = (bytes ++ label) ∷ labels

-- the name that a text completes whose front spelled these labels and the first bytes of another
unfoldable pub completed : Labels → List ℕ → List ℕ → Option Labels
completed done label text =
    option_and_then (λ symbols. name_if (without_last_empty (done ++ glued label (labels_between symbols)))) (symbols_from Outside text)

-- a text whose front spells these bytes of a label, and what stands behind them
pub record IsPart (text label rest : List ℕ) : Type 0 where
  pub most : length label ≤ 63
  pub less : length rest ≤ length text
  pub some : 1 ≤ length text → 1 ≤ length label + length rest
  pub same : (done : Labels) → completed done [] text ≡ completed done label rest

-- a text whose front spells the label, and what stands behind the label's dot
pub record IsRead (room : ℕ) (text label rest : List ℕ) : Type 0 where
  pub sized : IsLabel label
  pub fits : length label + 1 ≤ room
  pub less : length rest < length text
  pub same : (done : Labels) → completed done [] text ≡ completed (done ++ (label ∷ [])) [] rest

-- a text that completes no name
abbrev pub IsHopeless : List ℕ → Type 0
IsHopeless text = (done : Labels) → completed done [] text ≡ None

-- a text that completes no name behind labels that leave so much room
abbrev pub IsUnread : ℕ → List ℕ → Type 0
IsUnread room text = (done : Labels) → 255 ≤ wire_len done + room → completed done [] text ≡ None
