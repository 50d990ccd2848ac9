use Rattle.std.proofs.Common.{◌≡◌, ◌+◌, ◌*◌, drop}
use Rattle.s_syntax.specs.BlockOf.{block_of, statement_of}
use Rattle.s_syntax.specs.BlockTree.{depth, depth_within}
use Rattle.s_check.specs.Size.{block_size}
use Rattle.s_size.specs.Left.{left_after}
use Rattle.s_size.proofs.statement.+statements.Given as goal

abbrev pub decreases-after_block : goal.decreases-after_block
decreases-after_block l = depth l.block.now * 2 + 1

abbrev pub decreases-after_statement : goal.decreases-after_statement
decreases-after_statement l = depth_within (statement_of l.statement.now) * 2

abbrev pub invariant-after_block-loop-statement : goal.invariant-after_block-loop-statement
invariant-after_block-loop-statement l = record {
  leaves : left_after (block_size (block_of (drop l.statement-index l.statement-items))) l.left ≡ left_after (block_size l.block) l.fn.budget;
  seen : block_of l.statement-items ≡ l.block;
}
