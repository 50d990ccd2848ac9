-- The instructions that select one of two operands.
use Rattle.std.specs.Prelude.{⊤}
use Rattle.w_syntax.specs.declared.instructions.ParametricOp.{ParametricOp}
use Rattle.w_syntax.specs.declared.instructions.ParametricOp.TheVariants as parametric

abbrev pub IsSelect : ParametricOp → Type 0
IsSelect parametric.Drop = ⊥
IsSelect parametric.Select = ⊤
IsSelect (parametric.SelectOf ts) = ⊤
