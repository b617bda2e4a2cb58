-- What a command tells of a line, and what one turn of a run does to the lines that are left.
use Rattle.std.specs.Prelude.{◌≡◌, ℕ, ◌^◌, ◌<◌, ◌≤◌, ⊤, Bool, true, false, List, ◌++◌, Option, None, Some, Result, Ok, Err}
use Rattle.std.specs.Io.KnownBytes.{Appends}
use Rattle.dn_io.specs.declared.line.LineError.{LineError}
use Rattle.dn_io.specs.declared.line.LineError.TheVariants as errors
use Rattle.dn_io.specs.declared.status.Status.{Status}
use Rattle.dn_io.specs.declared.status.Status.TheVariants.{Done, BadLine, Usage, ReadFault, WriteFault, OutOfMemory, TooLong, LinkFault}
use Rattle.dn_io.specs.Lines.{Held, lines_of}
use Rattle.dn_io.specs.Outside.{AppendsFront}
use Rattle.dn_lines.specs.declared.bad.Bad.{Bad}
use Rattle.dn_lines.specs.declared.bad.Bad.TheVariants as bad
use Rattle.dn_lines.specs.Said.{EndedFrom, GivesIn}

-- what there is to give for the text of a line
abbrev pub LineGiven : Type 0 → Type 1
LineGiven State = Option (State × List ℕ) → Type 0

-- The output and the state behind it are what there is to give, unless memory ran out.
abbrev pub Answers : {State : Type 0} → LineGiven State → Result (List ℕ) Bad → State → Type 0
Answers There (Ok output) after = There (Some (after, output))
Answers There (Err bad.Line) after = There None
Answers There (Err bad.Memory) after = ⊤

-- why a text gave no output, or it wasn't written
abbrev pub Stops : {State : Type 0} → Status → ℕ → LineGiven State → Option (List ℕ) → Option (List ℕ) → Type 0
Stops (BadLine at) number There before now = (at ≡ number) × There None × (now ≡ before)
Stops {State} WriteFault number There before now = (after : State) × (output : List ℕ) × There (Some (after, output)) × AppendsFront before now output
Stops OutOfMemory number There before now = now ≡ before
Stops Done number There before now = ⊥
Stops Usage number There before now = ⊥
Stops ReadFault number There before now = ⊥
Stops TooLong number There before now = ⊥
Stops LinkFault number There before now = ⊥

-- one text of a line gives its output, which is written
abbrev pub GivesText : {State : Type 0} → Result (Unit {0}) Status → ℕ → LineGiven State → State → Option (List ℕ) → Option (List ℕ) → Type 0
GivesText (Ok done) number There after before now = (output : List ℕ) × There (Some (after, output)) × Appends before now output
GivesText (Err status) number There after before now = Stops status number There before now

-- ---- one turn

abbrev pub status_of : LineError → Status
status_of errors.ReadFault = ReadFault
status_of errors.TooLong = TooLong
status_of errors.OutOfMemory = OutOfMemory

-- the status of a run that ends so
abbrev pub last_status : Result (Unit {0}) Status → Status
last_status (Ok done) = Done
last_status (Err status) = status

-- how a run over lines ends: its status, what is left of the input, and what the sink holds before it and now
abbrev pub RunEnds : Type 1
RunEnds = Status → List ℕ → Option (List ℕ) → Option (List ℕ) → Type 0

-- the run over what is ahead: what the buffer of lines holds, and then what is left of the input
abbrev pub EndedAhead : {State : Type 0} → GivesIn State → State → ℕ → Held → List ℕ → RunEnds
EndedAhead Line state number held ahead = EndedFrom Line state number held.taken (lines_of (held.bytes ++ ahead))

-- However the run over the rest ends, the whole of it ends.
abbrev pub GoesOn : RunEnds → Option (List ℕ) → RunEnds → Option (List ℕ) → Type 0
GoesOn Whole before Rest now =
    (status : Status) (left : List ℕ) (last : Option (List ℕ)) → Rest status left now last → Whole status left before last

-- one turn: a line gave its output, the input has ended, or the run ends with a status
abbrev pub Turns : Result Bool Status → RunEnds → RunEnds → List ℕ → Option (List ℕ) → Option (List ℕ) → Type 0
Turns (Ok true) Whole Rest left before now = GoesOn Whole before Rest now
Turns (Ok false) Whole Rest left before now = Whole Done left before now
Turns (Err status) Whole Rest left before now = Whole status left before now

-- A line takes at least a byte of the input, and ends at most at byte 2^30; no error is kept.
abbrev pub Advanced : Bool → Held → Held → Type 0
Advanced true old new = (old.taken < new.taken) × (new.taken ≤ 2 ^ 30) × (new.kept ≡ None)
Advanced false old new = ⊤
