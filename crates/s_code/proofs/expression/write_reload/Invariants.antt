use Rattle.std.proofs.Common.{◌+◌, ◌≤◌, drop}
use Rattle.w_syntax.specs.Code.{Code}
use Rattle.s_syntax.specs.ExprTree.{exprs}
use Rattle.s_check.specs.Size.{exprs_size}
use Rattle.s_code.specs.Expressions.{reload}
use Rattle.s_code.specs.Writes.{Writes}
use Rattle.s_index.specs.Limits.{number_limit}
use Rattle.s_code.proofs.expression.write_reload.Given as goal

abbrev pub invariant-loop-item : goal.invariant-loop-item
invariant-loop-item l = record {
  writes : (c : Code) → Writes l.fn.out.items (reload l.layout l.fn.used (exprs l.items) c) l.out.items (reload l.layout l.next (exprs (drop l.item-index l.items)) c);
  room : l.layout.temporaries + l.next + exprs_size (exprs (drop l.item-index l.items)) ≤ number_limit;
}
