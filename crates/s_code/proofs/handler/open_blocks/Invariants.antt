use Rattle.std.proofs.Common.{◌≡◌, ◌-◌, ◌++◌, drop, length}
use Rattle.s_code.specs.Clauses.{opens, placed_all}
use Rattle.s_code.proofs.handler.open_blocks.Given as goal

abbrev pub invariant-loop-behind : goal.invariant-loop-behind
invariant-loop-behind l = l.out.items ≡ l.fn.out.items ++ opens l.program (placed_all (drop (length l.all - l.behind) l.all))
