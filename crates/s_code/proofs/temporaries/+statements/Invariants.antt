use Rattle.std.proofs.Common.{◌≡◌, ◌+◌, ◌*◌, ◌≤◌, drop}
use Rattle.std.specs.Prelude.{max}
use Rattle.s_syntax.specs.BlockOf.{block_of, statement_of}
use Rattle.s_syntax.specs.BlockTree.{depth, depth_within}
use Rattle.s_check.specs.Size.{block_size}
use Rattle.s_code.specs.Temporaries.{high_block}
use Rattle.s_index.specs.Limits.{number_limit}
use Rattle.s_code.proofs.temporaries.+statements.Given as goal

abbrev pub decreases-high_in_block : goal.decreases-high_in_block
decreases-high_in_block l = depth l.block.now * 2 + 1

abbrev pub decreases-high_statement : goal.decreases-high_statement
decreases-high_statement l = depth_within (statement_of l.statement.now) * 2

abbrev pub invariant-high_in_block-loop-statement : goal.invariant-high_in_block-loop-statement
invariant-high_in_block-loop-statement l = record {
  most : max l.most (high_block (block_of (drop l.statement-index l.statement-items))) ≡ high_block l.block;
  seen : block_of l.statement-items ≡ l.block;
  room : block_size (block_of (drop l.statement-index l.statement-items)) ≤ number_limit;
}
