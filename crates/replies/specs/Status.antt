-- The exit codes.
use Rattle.std.specs.Prelude.{ℕ}
use Rattle.replies.specs.declared.status.Status.{Status}
use Rattle.replies.specs.declared.status.Status.TheVariants.{Done, Trap, Usage, Malformed, Invalid, BadScript, ReadFault, WriteFault, OutOfMemory, Limit, Running, BadText, BadTrace}

abbrev pub code_of : Status → ℕ
code_of Done = 0
code_of Trap = 1
code_of Usage = 2
code_of Malformed = 3
code_of Invalid = 4
code_of BadScript = 5
code_of ReadFault = 6
code_of WriteFault = 7
code_of OutOfMemory = 8
code_of Limit = 9
code_of Running = 10
code_of BadText = 12
code_of BadTrace = 13
