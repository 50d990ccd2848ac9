use Rattle.std.proofs.Common.{refl}
use Rattle.w_syntax.specs.declared.instructions.Op.TheVariants as op
use Rattle.w_syntax.specs.declared.instructions.ControlOp.TheVariants as control
use Rattle.w_syntax.specs.declared.instructions.ParametricOp.TheVariants as parametric
use Rattle.w_code.proofs.CommonTokens.{bare_drop, bare_nop, bare_return, bare_select, bare_unreachable}
use Rattle.w_code.proofs.common.bare_of.Goals as goal

pub returns-in-0 : goal.returns-in-0
returns-in-0 c = (op.Control control.Unreachable, refl, rw c.in-0.is bare_unreachable)

pub returns-in-1 : goal.returns-in-1
returns-in-1 c = (op.Control control.Nop, refl, rw c.in-1.is bare_nop)

pub returns-in-15 : goal.returns-in-15
returns-in-15 c = (op.Control control.Return, refl, rw c.in-15.is bare_return)

pub returns-in-26 : goal.returns-in-26
returns-in-26 c = (op.Parametric parametric.Drop, refl, rw c.in-26.is bare_drop)

pub returns-in-27 : goal.returns-in-27
returns-in-27 c = (op.Parametric parametric.Select, refl, rw c.in-27.is bare_select)
