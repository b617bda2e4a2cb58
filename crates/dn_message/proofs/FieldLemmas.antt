-- What stands at a place stands there once.
use Rattle.std.proofs.Common.{◌≡◌, ℕ, ◌+◌, ◌/◌, ◌%◌, ◌<◌, List, ◌++◌, length, drop, refl, sym, ap, ap₂, ◌∙◌, arith, take_at, take}
use Rattle.dn_rdata.specs.Laid.{Stands}
use Rattle.dn_message.specs.Fields.{two_bytes}
use Rattle.dn_message.specs.Reading.{IsTypeAndClass}
pub use Rattle.dn_message.specs.Decisions.Standing.{any_laid, any_stands, six_stand, stands}

-- two numbers with equal bytes are equal
pub two_once : (left right : ℕ) → left / 256 ≡ right / 256 → left % 256 ≡ right % 256 → left ≡ right
two_once left right high low = omega arith

pub four_once : (left right : ℕ) → left / 65536 / 256 ≡ right / 65536 / 256 → left / 65536 % 256 ≡ right / 65536 % 256
    → left % 65536 / 256 ≡ right % 65536 / 256 → left % 65536 % 256 ≡ right % 65536 % 256 → left ≡ right
four_once left right a b c d = omega arith

-- two fronts of one list with one length are equal
pub same_front : (left right more rest : List ℕ) → length left ≡ length right → left ++ more ≡ right ++ rest → left ≡ right
same_front left right more rest count same = sym (take_at left more (length left) refl) ∙ ap (take (length left)) same ∙ take_at right rest (length left) (sym count)

-- ---- one number

pub number_found : (message : List ℕ) (at number : ℕ) (back : List ℕ) → drop at message ≡ two_bytes number ++ back
    → Stands message at (two_bytes number) (at + 2) × ((other : ℕ) → Stands message at (two_bytes other) (at + 2) → other ≡ number)
number_found message at number back e = (
  stands message at (at + 2) (two_bytes number) back e refl,
  λ other is.
      let same : two_bytes other ++ drop (at + 2) message ≡ two_bytes number ++ back = sym is.bytes ∙ e in
      two_once other number (cc) (cc),
)

pub no_number : (message : List ℕ) (at : ℕ) → length (drop at message) < 2 → (other : ℕ) → Stands message at (two_bytes other) (at + 2) → ⊥
no_number message at short other is = omega (arith, ap length is.bytes)

-- ---- type and class

pub kind_found : (message : List ℕ) (at : ℕ) (found : ℕ × ℕ) (back : List ℕ) → drop at message ≡ (two_bytes found.0 ++ two_bytes found.1) ++ back
    → IsTypeAndClass message at found × ((other : ℕ × ℕ) → IsTypeAndClass message at other → other ≡ found)
kind_found message at found back e = (
  stands message at (at + 4) (two_bytes found.0 ++ two_bytes found.1) back e refl,
  λ other is.
      let same : (two_bytes other.0 ++ two_bytes other.1) ++ drop (at + 4) message ≡ (two_bytes found.0 ++ two_bytes found.1) ++ back = sym is.bytes ∙ e in
      ap₂ (λ (x y : ℕ). (x, y)) (two_once other.0 found.0 (cc) (cc)) (two_once other.1 found.1 (cc) (cc)),
)

pub no_kind : (message : List ℕ) (at : ℕ) → length (drop at message) < 4 → (other : ℕ × ℕ) → IsTypeAndClass message at other → ⊥
no_kind message at short other is = omega (arith, ap length is.bytes)
