-- The branch that a caught suspend leaves in front of the code behind its resume (stack-switching explainer, suspend).
use Rattle.std.specs.Prelude.{◌≡◌, ℕ}
use Rattle.w_syntax.specs.declared.module.Module.{Module}
use Rattle.w_segment.specs.declared.entry.Stage.TheVariants.{Branch}
use Rattle.w_segment.specs.Shape.{Shape}
use Rattle.w_tables.specs.Store as instances
use Rattle.w_reduce.specs.Terms.{Rest, Context}
use Rattle.w_reduce.specs.Program.{Program}
use Rattle.w_stands.specs.Steps.{Outside, Configured}

-- some configuration in which the stack stands at such a branch, and to which a rule applies
pub record BranchLeft (l : ℕ) (m : Module) (s : Shape) : Type 0 where
  pub stage : s.stage ≡ Branch l
  pub u : instances.Store
  pub p : Program
  pub o : Outside
  pub e : Context
  pub r : Rest
  pub at : Configured m u s p o e r
