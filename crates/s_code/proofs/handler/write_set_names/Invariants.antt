use Rattle.std.proofs.Common.{◌-◌, take, length}
use Rattle.w_syntax.specs.Code.{Code}
use Rattle.s_code.specs.Handlers.{set_names}
use Rattle.s_code.specs.Writes.{Writes}
use Rattle.s_code.proofs.handler.write_set_names.Given as goal

abbrev pub invariant-loop-behind : goal.invariant-loop-behind
invariant-loop-behind l = (c : Code) → Writes l.fn.out.items (set_names l.layout l.names c) l.out.items (set_names l.layout (take (length l.names - l.behind) l.names) c)
