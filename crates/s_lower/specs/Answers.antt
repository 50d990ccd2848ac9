-- What `lower` answers.
use Rattle.std.specs.Prelude.{◌≡◌, ◌<◌, ◌≤◌, Result, Ok, Err}
use Rattle.w_syntax.specs.declared.module.Module.{Module}
use Rattle.s_syntax.specs.declared.script.Script.{Script}
use Rattle.s_check.specs.Size.{Size, size_limit}
use Rattle.s_code.specs.Lowered.{lowered}
use Rattle.s_lower.specs.declared.fault.LowerFault.{LowerFault}
use Rattle.s_lower.specs.declared.fault.LowerFault.TheVariants.{TooLarge, OutOfMemory}

-- the module of the script where its size is within the limit; too large just where it is greater; want of memory may come of any other
abbrev pub Answers : Script → Result Module LowerFault → Type 0
Answers p (Ok m) = (Size p ≤ size_limit) × (m ≡ lowered p)
Answers p (Err TooLarge) = size_limit < Size p
Answers p (Err OutOfMemory) = Size p ≤ size_limit
