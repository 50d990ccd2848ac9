use Rattle.std.proofs.Common.{◌≡◌, ◌+◌, ◌*◌, ◌++◌, drop}
use Rattle.s_syntax.specs.BlockOf.{block_of, statement_of}
use Rattle.s_syntax.specs.BlockTree.{depth, depth_within}
use Rattle.s_code.specs.Places.{binds_in}
use Rattle.s_lower.specs.Views.{bounds_of}
use Rattle.s_lower.proofs.names.+lets.Given as goal

abbrev pub decreases-push_lets : goal.decreases-push_lets
decreases-push_lets l = depth l.block.now * 2 + 1

abbrev pub decreases-push_lets_of : goal.decreases-push_lets_of
decreases-push_lets_of l = depth_within (statement_of l.statement.now) * 2

abbrev pub invariant-push_lets-loop-statement : goal.invariant-push_lets-loop-statement
invariant-push_lets-loop-statement l = record {
  adds : bounds_of l.names.items ++ binds_in l.program (block_of (drop l.statement-index l.statement-items)) ≡ bounds_of l.fn.names.items ++ binds_in l.program l.block;
  seen : block_of l.statement-items ≡ l.block;
}
