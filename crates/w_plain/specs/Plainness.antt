-- Instructions that switch no stacks: plain ones; those of them that call a function; and those that may take memory.
use Rattle.std.specs.Prelude.{◌≡◌, Bool, true, false, Option, Some, ⊤}
use Rattle.w_syntax.specs.declared.instructions.Instr.{Instr}
use Rattle.w_syntax.specs.declared.instructions.Instr.TheVariants as flat
use Rattle.w_syntax.specs.declared.module.Module.{Module}
use Rattle.w_segment.specs.declared.entry.Stage.{Stage}
use Rattle.w_segment.specs.declared.entry.Stage.TheVariants.{Fresh, Body, Branch, Values}
use Rattle.w_segment.specs.Shape.{Shape}
use Rattle.w_reduce.specs.Apart.{is_switching}
use Rattle.w_reduce.specs.Entering.{is_call}
use Rattle.w_reduce.specs.Room.{takes_memory}
use Rattle.w_stands.specs.Code.{instr_of}

-- whether the instruction at a place switches stacks
abbrev pub switches_at : Option Instr → Bool
switches_at (Some (flat.Plain o)) = is_switching o
switches_at i = false

-- whether it may take memory
abbrev pub takes_at : Option Instr → Bool
takes_at (Some (flat.Plain o)) = takes_memory o
takes_at i = false

-- whether it calls a function
abbrev pub calls_at : Option Instr → Bool
calls_at (Some (flat.Plain o)) = is_call o
calls_at i = false

-- what comes next where the stack stands may take memory: such an instruction, or the function that a fresh segment invokes
abbrev pub MayTakeAt : Stage → Option Instr → Type 0
MayTakeAt Fresh i = ⊤
MayTakeAt Body i = takes_at i ≡ true
MayTakeAt (Branch l) i = ⊥
MayTakeAt Values i = ⊥

abbrev pub MayTake : Module → Shape → Type 0
MayTake m s = MayTakeAt s.stage (instr_of m s.func s.place)
