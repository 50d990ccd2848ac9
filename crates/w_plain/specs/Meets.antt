-- Where a stack stands, by what stands at its place.
use Rattle.std.specs.Prelude.{◌≡◌, Option}
use Rattle.w_syntax.specs.declared.instructions.Instr.{Instr}
use Rattle.w_syntax.specs.declared.module.Module.{Module}
use Rattle.w_segment.specs.declared.entry.Stage.TheVariants.{Body}
use Rattle.w_segment.specs.Shape.{Shape}
use Rattle.w_tables.specs.Store as instances
use Rattle.w_reduce.specs.Terms.{Rest, Context}
use Rattle.w_reduce.specs.Program.{Program}
use Rattle.w_stands.specs.Code.{instr_of}
use Rattle.w_stands.specs.Steps.{Outside, Configured}

-- some configuration in which the stack stands in a body, at a place of which this holds, and to which a rule applies
pub record Meets (P : Option Instr → Type 0) (m : Module) (u : instances.Store) (s : Shape) : Type 0 where
  pub here : P (instr_of m s.func s.place)
  pub stage : s.stage ≡ Body
  pub p : Program
  pub o : Outside
  pub e : Context
  pub r : Rest
  pub at : Configured m u s p o e r

-- some configuration in which the stack stands, and to which a rule applies
pub record Applies (m : Module) (u : instances.Store) (s : Shape) : Type 0 where
  pub p : Program
  pub o : Outside
  pub e : Context
  pub r : Rest
  pub at : Configured m u s p o e r
