-- How a name is spelled in a message whose names may share their ends by pointers (RFC 1035 4.1.4): relations on the
-- whole message, by what its bytes say.
use Rattle.std.specs.Prelude.{◌≡◌, ℕ, ◌+◌, ◌-◌, ◌*◌, ◌≤◌, ◌<◌, List, [], ◌∷◌, ◌++◌, length, drop, Some}
use Rattle.dn_name.specs.Name.{Labels, IsLabel, IsName, wire_len, wire_of}
use Rattle.dn_name.specs.Wire.{plain_name}

-- the place that the two bytes of a pointer name: their lower 14 bits
abbrev pub target : ℕ → ℕ → ℕ
target high low = 256 * (high - 192) + low

-- A segment is a run of labels that stand one behind the other, up to a zero byte or a pointer. `Segment message start at
-- labels next`: behind the place `at` of the segment that begins at `start`, these labels are spelled, those that its
-- pointer leads to among them, and `next` is the place behind the segment. A pointer leads before its segment's start.
pub data Segment (message : List ℕ) : ℕ → ℕ → Labels → ℕ → Type 0 where
  Ends : {start at : ℕ} (rest : List ℕ) → drop at message ≡ 0 ∷ rest → Segment message start at [] (at + 1)
  Goes : {start at next : ℕ} {labels : Labels} (label rest : List ℕ) → IsLabel label → drop at message ≡ (length label ∷ label) ++ rest
      → Segment message start (at + 1 + length label) labels next → Segment message start at (label ∷ labels) next
  Leads : {start at elsewhere : ℕ} {labels : Labels} (high low : ℕ) (rest : List ℕ) → 192 ≤ high → drop at message ≡ high ∷ (low ∷ rest)
      → target high low < start → Segment message (target high low) (target high low) labels elsewhere → Segment message start at labels (at + 2)

-- the name is spelled at a place of the message, and `next` is the place behind it
abbrev pub Spelled : List ℕ → ℕ → Labels → ℕ → Type 0
Spelled message at name next = IsName name × Segment message at at name next

-- a name is spelled at a place once: one name, and one place behind it
abbrev pub IsSpelledOnce : Type 0
IsSpelledOnce = (message : List ℕ) (at next after : ℕ) (name other : Labels) → Spelled message at name next → Spelled message at other after
    → (name ≡ other) × (next ≡ after)

-- where the segments begin that the pointers lead to, one behind the other
abbrev pub starts_behind : {message : List ℕ} {start at next : ℕ} {labels : Labels} → Segment message start at labels next → List ℕ
starts_behind (Ends rest is) = []
starts_behind (Goes label rest sized is more) = starts_behind more
starts_behind (Leads high low rest marked is below more) = target high low ∷ starts_behind more

-- each place lies before the one in front of it
abbrev pub Falls : ℕ → List ℕ → Type 0
Falls start [] = Unit {0}
Falls start (place ∷ places) = (place < start) × Falls place places

-- the pointers of a name lead ever further to the front, so there are no more of them than places before the name
abbrev pub PointersFall : Type 0
PointersFall = (message : List ℕ) (at next : ℕ) (labels : Labels) (segment : Segment message at at labels next)
    → Falls at (starts_behind segment) × (length (starts_behind segment) ≤ at)

-- a name's bytes without pointers spell it wherever they stand, whatever stands before and behind them
abbrev pub WireIsSpelled : Type 0
WireIsSpelled = (message : List ℕ) (at : ℕ) (name : Labels) (rest : List ℕ) → IsName name → drop at message ≡ wire_of name ++ rest
    → Spelled message at name (at + wire_len name)

-- what the reader of names without pointers finds at a place is spelled there
abbrev pub PlainIsSpelled : Type 0
PlainIsSpelled = (message : List ℕ) (at : ℕ) (name : Labels) (rest : List ℕ) → plain_name (drop at message) ≡ Some (name, rest)
    → Spelled message at name (at + wire_len name)
