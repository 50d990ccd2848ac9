use Rattle.std.proofs.Common.{◌≡◌, ◌++◌, drop}
use Rattle.s_code.specs.Clauses.{closes, placed_all}
use Rattle.s_code.proofs.handler.close_blocks.Given as goal

abbrev pub invariant-loop-index : goal.invariant-loop-index
invariant-loop-index l = l.out.items ++ closes l.program (placed_all (drop l.index l.all)) ≡ l.fn.out.items ++ closes l.program (placed_all l.all)
