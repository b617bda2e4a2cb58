-- What lines give one after another: all of their outputs, and how they end.
pub mod Turns
use Rattle.std.specs.Prelude.{◌≡◌, ℕ, ◌+◌, ◌⊎◌, true, false, List, [], ◌∷◌, ◌++◌, Option, None, Some}
use Rattle.std.specs.Io.KnownBytes.{Appends}
use Rattle.dn_io.specs.declared.status.Status.{Status}
use Rattle.dn_io.specs.declared.status.Status.TheVariants.{Done, BadLine, Usage, ReadFault, WriteFault, OutOfMemory, TooLong, LinkFault}
use Rattle.dn_io.specs.Lines.{RawLine, is_overlong, lines_of, size_of, text_of}
use Rattle.dn_io.specs.Outside.{AppendsFront}

-- how the lines of an input end: each was valid, or this line is the first that isn't, or a line is over-long
pub data Ending : Type 0 where
  AtEnd : Ending
  Bad : ℕ → Ending
  Long : Ending

-- what the text of a line gives in a state: the state behind it and its output, or None where the line isn't valid
abbrev pub GivesIn : Type 0 → Type 1
GivesIn State = State → List ℕ → Option (State × List ℕ) → Type 0

-- Lines, of which the first is run in this state, and has this number and so many bytes of the input before it, give this text
-- and end so.
abbrev pub IsSaid : {State : Type 0} → GivesIn State → State → ℕ → ℕ → List RawLine → List ℕ → Ending → Type 0
IsSaid Line state number before [] text ending = (text ≡ []) × (ending ≡ AtEnd)
IsSaid {State} Line state number before (line ∷ rest) text ending =
    ((is_overlong before line ≡ true) × (text ≡ []) × (ending ≡ Long))
    ⊎ (((is_overlong before line ≡ false) × Line state (text_of line) None × (text ≡ []) × (ending ≡ Bad number))
    ⊎ ((is_overlong before line ≡ false)
    × (after : State) × (output : List ℕ) × (more : List ℕ) × Line state (text_of line) (Some (after, output)) × (text ≡ output ++ more)
    × IsSaid Line after (number + 1) (before + size_of line) rest more ending))

-- The lines are known to the end that the status tells, and what they give was written.
abbrev pub IsWritten : {State : Type 0} → GivesIn State → State → ℕ → ℕ → List RawLine → Ending → Option (List ℕ) → Option (List ℕ) → Type 0
IsWritten Line state number at lines ending before now = (text : List ℕ) × IsSaid Line state number at lines text ending × Appends before now text

-- a front of what a front of the lines gives was written
abbrev pub IsFrontWritten : {State : Type 0} → GivesIn State → State → ℕ → ℕ → List RawLine → Option (List ℕ) → Option (List ℕ) → Type 0
IsFrontWritten Line state number at lines before now =
    (front : List RawLine) × (back : List RawLine) × (text : List ℕ)
    × (lines ≡ front ++ back) × IsSaid Line state number at front text AtEnd × AppendsFront before now text

-- A run over the lines with this status wrote this. Here `left` is what is left of the input, and `before` and `now` are what was
-- written, where the sink tells it.
abbrev pub EndedFrom : {State : Type 0} → GivesIn State → State → ℕ → ℕ → List RawLine → Status → List ℕ → Option (List ℕ) → Option (List ℕ) → Type 0
EndedFrom Line state number at lines Done left before now = (left ≡ []) × IsWritten Line state number at lines AtEnd before now
EndedFrom Line state number at lines (BadLine bad) left before now = IsWritten Line state number at lines (Bad bad) before now
EndedFrom Line state number at lines TooLong left before now = IsWritten Line state number at lines Long before now
EndedFrom Line state number at lines ReadFault left before now = IsFrontWritten Line state number at lines before now
EndedFrom Line state number at lines WriteFault left before now = IsFrontWritten Line state number at lines before now
EndedFrom Line state number at lines OutOfMemory left before now = IsFrontWritten Line state number at lines before now
EndedFrom Line state number at lines Usage left before now = ⊥
EndedFrom Line state number at lines LinkFault left before now = ⊥

-- ---- lines of which each gives its output by itself

-- what the text of such a line gives: its output, or None where the line isn't valid
abbrev pub Gives : Type 1
Gives = List ℕ → Option (List ℕ) → Type 0

abbrev pub by_itself : Gives → GivesIn (Unit {0})
by_itself Line state text None = Line text None
by_itself Line state text (Some (after, output)) = Line text (Some output)

-- a whole text gives this text and ends so
abbrev pub Says : Gives → List ℕ → List ℕ → Ending → Type 0
Says Line bytes text ending = IsSaid (by_itself Line) tt 1 0 (lines_of bytes) text ending

-- a run over the whole input
abbrev pub EndedLines : Gives → List ℕ → Status → List ℕ → Option (List ℕ) → Option (List ℕ) → Type 0
EndedLines Line bytes status left before now = EndedFrom (by_itself Line) tt 1 0 (lines_of bytes) status left before now

-- what a whole text gives is one text with one end
abbrev pub IsSaidOnce : Gives → Type 0
IsSaidOnce Line = (bytes text other : List ℕ) (ending another : Ending) → Says Line bytes text ending → Says Line bytes other another → (text ≡ other) × (ending ≡ another)
