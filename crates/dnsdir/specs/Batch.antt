-- How a run of the program ends.
use Rattle.std.specs.Prelude.{◌≡◌, ◌⊎◌, ℕ, Bool, true, false, List, Option}
use Rattle.dn_io.specs.declared.status.Status.{Status}
use Rattle.dn_io.specs.declared.status.Status.TheVariants.{Done, OutOfMemory}
use Rattle.dn_script.specs.Play.{Ended, play}
use Rattle.dn_lines.specs.Said.{AtEnd}
use Rattle.dn_lines.specs.Said.{EndedLines, Says}
use Rattle.dn_lines.specs.Values.{IsPacked, IsShown}
use Rattle.dn_command.specs.declared.command.Command.{Command}
use Rattle.dn_command.specs.declared.command.Command.TheVariants.{Show, Pack, Replay, Generate, Serve, Usage}

-- the commands that `batch` does
abbrev pub is_batch : Command → Bool
is_batch Replay = true
is_batch Show = true
is_batch Pack = true
is_batch (Generate count) = false
is_batch (Serve at sync) = false
is_batch Usage = false

-- What was written by a command, and how it ended, by what was read.
abbrev pub EndedAs : Command → List ℕ → Status → List ℕ → Option (List ℕ) → Option (List ℕ) → Type 0
EndedAs Replay input status left before now = Ended (play input) status left before now
EndedAs Show input status left before now = EndedLines IsShown input status left before now
EndedAs Pack input status left before now = EndedLines IsPacked input status left before now
EndedAs (Generate count) input status left before now = Unit {0}
EndedAs (Serve at sync) input status left before now = Unit {0}
EndedAs Usage input status left before now = Unit {0}

-- each line of the input of a command is valid, and none over-long
abbrev pub IsValid : Command → List ℕ → Type 0
IsValid Replay input = (play input).ending ≡ AtEnd
IsValid Show input = (text : List ℕ) × Says IsShown input text AtEnd
IsValid Pack input = (text : List ℕ) × Says IsPacked input text AtEnd
IsValid (Generate count) input = ⊥
IsValid (Serve at sync) input = ⊥
IsValid Usage input = ⊥

abbrev pub IsDoneOrWant : Status → Type 0
IsDoneOrWant status = (status ≡ Done) ⊎ (status ≡ OutOfMemory)
