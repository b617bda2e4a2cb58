-- The lines of an input, and what one call of a reader of lines does.
use Rattle.std.specs.Prelude.{◌≡◌, ℕ, ◌+◌, ◌<◌, ◌≤◌, ◌^◌, min, Bool, true, false, ◌||◌, if◌then◌else◌, ◌==◌, nat_lt, List, [], ◌∷◌, ◌++◌, length, Option, None, Some, ⊤, MatchOption, Result, Ok, Err}
use Rattle.dn_io.specs.declared.line.Line.{Line}
use Rattle.dn_io.specs.declared.line.Line.TheVariants.{Text, End}
use Rattle.dn_io.specs.declared.line.LineError.{LineError}
use Rattle.dn_io.specs.declared.line.LineError.TheVariants as faults

-- a line as it stands in the input: its bytes, and whether a line feed ends it
pub record RawLine : Type 0 where
  pub bytes : List ℕ
  pub ended : Bool

-- the line with one byte more at its front
abbrev pub longer : ℕ → List RawLine → List RawLine
longer byte [] = record { bytes = byte ∷ []; ended = false } ∷ []
longer byte (line ∷ lines) = record { bytes = byte ∷ line.bytes; ended = line.ended } ∷ lines

-- The lines of an input. A line feed (10) ends a line; what stands behind the last one is a line where it isn't empty.
abbrev pub lines_of : List ℕ → List RawLine
lines_of [] = []
lines_of (byte ∷ bytes) = if byte == 10 then record { bytes = []; ended = true } ∷ lines_of bytes else longer byte (lines_of bytes)

-- one carriage return (13) at the end of the bytes is left out
abbrev pub without_return : List ℕ → List ℕ
without_return [] = []
without_return (byte ∷ []) = if byte == 13 then [] else byte ∷ []
without_return (byte ∷ next ∷ bytes) = byte ∷ without_return (next ∷ bytes)

-- the text of a line: a carriage return belongs to the line feed behind it
abbrev pub text_of : RawLine → List ℕ
text_of line = if line.ended then without_return line.bytes else line.bytes

-- how many bytes of the input a line takes, its line feed included
abbrev pub size_of : RawLine → ℕ
size_of line = if line.ended then length line.bytes + 1 else length line.bytes

-- A line is over-long where it has more than 200,000 bytes before its line feed, or reaches past byte 2^30 of the
-- input, of which so many bytes stand before it.
abbrev pub is_overlong : ℕ → RawLine → Bool
is_overlong before line = nat_lt 200000 (length line.bytes) || nat_lt (2 ^ 30) (before + size_of line)

-- what a buffer of lines holds, how many bytes of lines were taken through it, and the error that it keeps
pub record Held : Type 0 where
  pub bytes : List ℕ
  pub taken : ℕ
  pub kept : Option LineError

-- Nothing is lost: what was read stands behind what was held, and no line was taken.
abbrev pub HoldsAll : Held → List ℕ → Held → List ℕ → Type 0
HoldsAll old before new now = (read : List ℕ) × (new.bytes ≡ old.bytes ++ read) × (before ≡ read ++ now) × (new.taken ≡ old.taken)

-- A call that found no kept error gave this, where the source had `before` left and then `now`.
abbrev pub ReadsLine : Held → List ℕ → Result Line LineError → Held → List ℕ → Type 0
ReadsLine old before (Ok End) new now = (old.bytes ++ before ≡ []) × (new ≡ old) × (now ≡ [])
ReadsLine old before (Ok (Text text)) new now =
    (line : RawLine)
    × (lines_of (old.bytes ++ before) ≡ line ∷ lines_of (new.bytes ++ now))
    × (is_overlong old.taken line ≡ false)
    × (text ≡ text_of line)
    × (new.taken ≡ old.taken + size_of line)
    × (new.kept ≡ None)
ReadsLine old before (Err faults.TooLong) new now =
    (line : RawLine) × (lines : List RawLine) × (lines_of (old.bytes ++ before) ≡ line ∷ lines) × (is_overlong old.taken line ≡ true)
ReadsLine old before (Err faults.ReadFault) new now = HoldsAll old before new now
ReadsLine old before (Err faults.OutOfMemory) new now = HoldsAll old before new now

-- the source's count of faults behind a call that reads: one more at a read fault, up to the count's end, and else as it was
abbrev pub read_faults_after : {T : Type 0} → ℕ → Result T LineError → ℕ
read_faults_after before (Ok value) = before
read_faults_after before (Err faults.TooLong) = before
read_faults_after before (Err faults.OutOfMemory) = before
read_faults_after before (Err faults.ReadFault) = min (before + 1) (2 ^ 63)

-- an error is kept from then on, and no answer but an error leaves one
abbrev pub KeepsError : Result Line LineError → Held → Type 0
KeepsError (Ok line) new = new.kept ≡ None
KeepsError (Err error) new = new.kept ≡ Some error

-- a kept error is the answer, and the buffer stays as it was
abbrev pub AnswersKept : Held → Result Line LineError → Held → Type 0
AnswersKept old result new = MatchOption old.kept ⊤ (λ error. (result ≡ Err error) × (new ≡ old))

-- A line takes at least a byte of the input, and doesn't reach past byte 2^30.
abbrev pub Advances : Line → ℕ → ℕ → Type 0
Advances End before now = ⊤
Advances (Text text) before now = (before < now) × (now ≤ 2 ^ 30)
