use Rattle.std.proofs.Common.{◌-◌}
use Rattle.w_syntax.specs.Code.{Code}
use Rattle.s_code.specs.Expressions.{set_parameters}
use Rattle.s_code.specs.Writes.{Writes}
use Rattle.s_code.proofs.expression.write_set_parameters.Given as goal

abbrev pub invariant-loop-behind : goal.invariant-loop-behind
invariant-loop-behind l = (c : Code) → Writes l.fn.out.items (set_parameters l.count c) l.out.items (set_parameters (l.count - l.behind) c)
