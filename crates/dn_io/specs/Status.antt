-- The exit codes.
use Rattle.std.specs.Prelude.{ℕ}
use Rattle.dn_io.specs.declared.status.Status.{Status}
use Rattle.dn_io.specs.declared.status.Status.TheVariants.{Done, BadLine, Usage, ReadFault, WriteFault, OutOfMemory, TooLong, LinkFault}

abbrev pub code_of : Status → ℕ
code_of Done = 0
code_of (BadLine number) = 1
code_of Usage = 2
code_of ReadFault = 3
code_of WriteFault = 4
code_of OutOfMemory = 5
code_of TooLong = 6
code_of LinkFault = 8
