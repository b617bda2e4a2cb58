-- What the steps of a write and of a reader of lines do.
use Rattle.std.specs.Prelude.{◌≡◌, ℕ, ◌+◌, ◌^◌, ◌<◌, Bool, true, false, ◌||◌, ◌==◌, nat_lt, slice_index, List, ◌++◌, [], ◌∷◌, length, Option, None, Some, Result, Ok, Err}
use Rattle.std.specs.Io.KnownBytes.{Appends, Consumes}
use Rattle.dn_io.specs.declared.line.Line.{Line}
use Rattle.dn_io.specs.declared.line.Line.TheVariants.{Text, End}
use Rattle.dn_io.specs.declared.line.LineError.{LineError}
use Rattle.dn_io.specs.declared.line.LineError.TheVariants.{ReadFault, TooLong, OutOfMemory}
use Rattle.dn_io.specs.Lines.{RawLine, lines_of, text_of, size_of, is_overlong}

-- what is told has grown by the bytes before the rest
pub record Appended (before now : Option (List ℕ)) (bytes rest : List ℕ) : Type 0 where
  pub front : List ℕ
  pub split : bytes ≡ front ++ rest
  pub grown : Appends before now front

-- what is held has grown by what was read
pub record Fills (old new : List ℕ) (before now : Option (List ℕ)) : Type 0 where
  pub read : List ℕ
  pub grown : new ≡ old ++ read
  pub taken : Consumes before now read

-- no line feed stands among the first n bytes
abbrev pub FeedFree : List ℕ → ℕ → Type 0
FeedFree bytes n = (k : ℕ) → k < n → (slice_index bytes k == 10) ≡ false

-- the first line feed
pub record FeedAt (bytes : List ℕ) (at : ℕ) : Type 0 where
  pub within : at < length bytes
  pub feed : (slice_index bytes at == 10) ≡ true
  pub free : FeedFree bytes at

-- a line of so many bytes, which takes so many of the input, is over-long
abbrev pub overlong : ℕ → ℕ → ℕ → Bool
overlong before bytes size = nat_lt 200000 bytes || nat_lt (2 ^ 30) (before + size)

-- what is held begins with this line, whatever follows
pub record TakesLine (old : List ℕ) (taken : ℕ) (text new : List ℕ) (now : ℕ) : Type 0 where
  pub line : RawLine
  pub lines : (rest : List ℕ) → lines_of (old ++ rest) ≡ line ∷ lines_of (new ++ rest)
  pub fits : is_overlong taken line ≡ false
  pub text_is : text ≡ text_of line
  pub taken_is : now ≡ taken + size_of line

-- what is held is no whole line, and not yet too long for one
pub record TakesNone (old : List ℕ) (taken : ℕ) (new : List ℕ) (now : ℕ) : Type 0 where
  pub held : new ≡ old
  pub taken_is : now ≡ taken
  pub free : FeedFree old (length old)
  pub fits : 0 < length old → overlong taken (length old) (length old) ≡ false

-- what is held begins with an over-long line, whatever follows
abbrev pub IsTooLong : List ℕ → ℕ → Type 0
IsTooLong old taken = (rest : List ℕ) → (line : RawLine) × (lines : List RawLine) × (lines_of (old ++ rest) ≡ line ∷ lines) × (is_overlong taken line ≡ true)

-- a line is cut off the front of what is held
abbrev pub Cuts : List ℕ → ℕ → Result (List ℕ) LineError → List ℕ → ℕ → Type 0
Cuts old taken (Ok text) new now = TakesLine old taken text new now
Cuts old taken (Err TooLong) new now = IsTooLong old taken
Cuts old taken (Err OutOfMemory) new now = (new ≡ old) × (now ≡ taken)
Cuts old taken (Err ReadFault) new now = ⊥

-- a line is taken off the front of what is held, where it has one
abbrev pub Takes : List ℕ → ℕ → Result (Option (List ℕ)) LineError → List ℕ → ℕ → Type 0
Takes old taken (Ok (Some text)) new now = TakesLine old taken text new now
Takes old taken (Ok None) new now = TakesNone old taken new now
Takes old taken (Err TooLong) new now = IsTooLong old taken
Takes old taken (Err OutOfMemory) new now = (new ≡ old) × (now ≡ taken)
Takes old taken (Err ReadFault) new now = ⊥

-- the last line of an input
pub record TakesLast (old : List ℕ) (taken : ℕ) (text new : List ℕ) (now : ℕ) : Type 0 where
  pub line : RawLine
  pub lines : lines_of old ≡ line ∷ []
  pub held : new ≡ []
  pub fits : is_overlong taken line ≡ false
  pub text_is : text ≡ text_of line
  pub taken_is : now ≡ taken + size_of line

-- what is held is all that there is
abbrev pub EndsWith : List ℕ → ℕ → Result Line LineError → List ℕ → ℕ → Type 0
EndsWith old taken (Ok End) new now = (old ≡ []) × (new ≡ []) × (now ≡ taken)
EndsWith old taken (Ok (Text text)) new now = TakesLast old taken text new now
EndsWith old taken (Err OutOfMemory) new now = (new ≡ old) × (now ≡ taken)
EndsWith old taken (Err TooLong) new now = ⊥
EndsWith old taken (Err ReadFault) new now = ⊥
