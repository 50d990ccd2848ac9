-- How a run ends, as text.
use Rattle.std.specs.Prelude.{ℕ, List, [], ◌∷◌, ◌++◌, codes, decimal}
use Rattle.w_reduce.specs.declared.limit.RunLimit.{RunLimit}
use Rattle.w_reduce.specs.declared.limit.RunLimit.TheVariants.{Frames, Handles, Conts}
use Rattle.w_reduce.specs.declared.trap.Trap.{Trap}
use Rattle.w_reduce.specs.declared.trap.Trap.TheVariants as trap
use Rattle.w_trace.specs.declared.trace.Ending.{Ending}
use Rattle.w_trace.specs.declared.trace.Ending.TheVariants as ending

-- a trap, without its tag
abbrev pub trap_name : Trap → List ℕ
trap_name trap.Unreachable = codes "trap unreachable"
trap_name trap.DivideByZero = codes "trap divide by zero"
trap_name trap.IntegerOverflow = codes "trap integer overflow"
trap_name trap.MemoryOutOfBounds = codes "trap memory out of bounds"
trap_name trap.TableOutOfBounds = codes "trap table out of bounds"
trap_name trap.UndefinedElement = codes "trap undefined element"
trap_name trap.NullElement = codes "trap null element"
trap_name trap.CallTypeMismatch = codes "trap call type mismatch"
trap_name trap.NullReference = codes "trap null reference"
trap_name trap.ConsumedContinuation = codes "trap consumed continuation"
trap_name (trap.Unhandled x) = codes "trap unhandled"

-- the index of a tag that nothing handles, behind a space
abbrev pub trap_tag : Trap → List ℕ
trap_tag (trap.Unhandled x) = 32 ∷ decimal x
trap_tag t = []

abbrev pub trap_text : Trap → List ℕ
trap_text t = trap_name t ++ trap_tag t

abbrev pub run_limit_text : RunLimit → List ℕ
run_limit_text Frames = codes "limit frames"
run_limit_text Handles = codes "limit handles"
run_limit_text Conts = codes "limit conts"

abbrev pub ending_text : Ending → List ℕ
ending_text ending.Ended = codes "ended"
ending_text (ending.Trapped t) = trap_text t
ending_text (ending.Limit name) = run_limit_text name
ending_text ending.Running = codes "running"
