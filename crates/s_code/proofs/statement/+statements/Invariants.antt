use Rattle.std.proofs.Common.{◌≡◌, ◌+◌, ◌*◌, ◌≤◌, drop}
use Rattle.std.specs.Prelude.{max}
use Rattle.w_syntax.specs.Code.{Code}
use Rattle.s_syntax.specs.BlockOf.{block_of, statement_of}
use Rattle.s_syntax.specs.BlockTree.{depth, depth_within}
use Rattle.s_check.specs.Size.{block_size}
use Rattle.s_code.specs.Statements as code
use Rattle.s_code.specs.Writes.{Writes}
use Rattle.s_index.specs.Limits.{number_limit}
use Rattle.s_code.proofs.statement.+statements.Given as goal

abbrev pub decreases-write_block : goal.decreases-write_block
decreases-write_block l = depth l.block.now * 4 + 3

abbrev pub decreases-write_statement : goal.decreases-write_statement
decreases-write_statement l = depth_within (statement_of l.statement.now) * 4 + 2

abbrev pub decreases-write_if : goal.decreases-write_if
decreases-write_if l = max (depth l.then_block.now + 1) (depth l.else_block.now + 1) * 4 + 1

abbrev pub decreases-write_while : goal.decreases-write_while
decreases-write_while l = (depth l.body.now + 1) * 4 + 1

abbrev pub invariant-write_block-loop-statement : goal.invariant-write_block-loop-statement
invariant-write_block-loop-statement l = record {
  writes : (c : Code) → Writes l.fn.out.items (code.block l.program l.layout l.labels l.block c) l.out.items (code.block l.program l.layout l.labels (block_of (drop l.statement-index l.statement-items)) c);
  seen : block_of l.statement-items ≡ l.block;
  room : l.layout.temporaries + l.labels + block_size (block_of (drop l.statement-index l.statement-items)) ≤ number_limit;
}
