use Rattle.std.proofs.Common.{◌≡◌, ◌+◌, ◌*◌, ◌++◌, drop}
use Rattle.s_syntax.specs.BlockOf.{block_of, statement_of}
use Rattle.s_syntax.specs.BlockTree.{depth, depth_within}
use Rattle.s_index.specs.Handled.{handled_in_block}
use Rattle.s_index.specs.Views.{names_of}
use Rattle.s_index.proofs.handled.+statements.Given as goal

abbrev pub decreases-push_in_block : goal.decreases-push_in_block
decreases-push_in_block l = depth l.block.now * 2 + 1

abbrev pub decreases-push_in_statement : goal.decreases-push_in_statement
decreases-push_in_statement l = depth_within (statement_of l.statement.now) * 2

abbrev pub invariant-push_in_block-loop-statement : goal.invariant-push_in_block-loop-statement
invariant-push_in_block-loop-statement l = record {
  adds : names_of l.names.items ++ handled_in_block (block_of (drop l.statement-index l.statement-items)) ≡ names_of l.fn.names.items ++ handled_in_block l.fn.block;
  seen : block_of l.statement-items ≡ l.fn.block;
}
