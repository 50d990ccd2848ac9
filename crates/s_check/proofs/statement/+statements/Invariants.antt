use Rattle.std.proofs.Common.{◌≡◌, ◌+◌, ◌*◌, drop, take, length}
use Rattle.s_syntax.specs.BlockOf.{block_of, statement_of}
use Rattle.s_syntax.specs.BlockTree.{depth, depth_within}
use Rattle.s_check.specs.Least.{least_of}
use Rattle.s_check.specs.Rules.{in_block}
use Rattle.s_check.proofs.statement.+statements.Given as goal

abbrev pub decreases-in_block : goal.decreases-in_block
decreases-in_block l = depth l.block.now * 4 + 3

abbrev pub decreases-in_statements : goal.decreases-in_statements
decreases-in_statements l = depth (block_of l.statements.now) * 4 + 2

abbrev pub decreases-in_blocks : goal.decreases-in_blocks
decreases-in_blocks l = depth_within (statement_of l.statement.now) * 4 + 1

abbrev pub invariant-in_statements-loop-statement : goal.invariant-in_statements-loop-statement
invariant-in_statements-loop-statement l = record {
  goes : least_of l.least (in_block l.declarations l.scope (block_of (drop l.statement-index l.statements))) ≡ least_of l.fn.least (in_block l.declarations l.fn.scope (block_of l.statements));
  kept : take (length l.fn.scope) l.scope ≡ l.fn.scope;
}
