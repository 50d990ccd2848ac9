-- Where a sequence is left: at a mark, or behind the last instruction.
use Rattle.std.specs.Prelude.{◌≡◌, Option, Some, None, ⊤}
use Rattle.w_syntax.specs.declared.instructions.Instr.{Instr}
use Rattle.w_syntax.specs.declared.instructions.Instr.TheVariants as flat
use Rattle.w_syntax.specs.declared.module.Module.{Module}
use Rattle.w_segment.specs.declared.entry.Stage.TheVariants.{Body}
use Rattle.w_segment.specs.Shape.{Shape}
use Rattle.w_tables.specs.Store as instances
use Rattle.w_reduce.specs.Terms.{Rest, Context}
use Rattle.w_reduce.specs.Program.{Program}
use Rattle.w_stands.specs.Code.{instr_of, IsMark}
use Rattle.w_stands.specs.Steps.{Outside, Configured}

-- some configuration, with some store, in which the stack stands where a sequence ends, and to which a rule applies
pub record ExitsAlone (m : Module) (s : Shape) : Type 0 where
  pub here : IsMark (instr_of m s.func s.place)
  pub stage : s.stage ≡ Body
  pub u : instances.Store
  pub p : Program
  pub o : Outside
  pub e : Context
  pub r : Rest
  pub at : Configured m u s p o e r

-- an end, or nothing
abbrev pub IsEnd : Option Instr → Type 0
IsEnd None = ⊤
IsEnd (Some flat.End) = ⊤
IsEnd (Some flat.Else) = ⊥
IsEnd (Some (flat.Plain o)) = ⊥
IsEnd (Some (flat.Block k b z)) = ⊥
IsEnd (Some (flat.If b y z)) = ⊥
