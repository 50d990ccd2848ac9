-- Each block within a block is less deep.
use Rattle.std.specs.Prelude.{◌≤◌, max, List, [], ◌∷◌}
use Rattle.std.proofs.Common.{arith}
use denote.Param.Weighed.{most}
use Rattle.s_syntax.specs.declared.statement.Statement.{Statement}
use Rattle.s_syntax.specs.declared.statement.Statement.TheVariants as statement
use Rattle.s_syntax.specs.declared.statement.Block.TheDeep.{deep-Statement}
use Rattle.s_syntax.specs.BlockTree.{depth, depth_within}
use Rattle.s_syntax.specs.BlockOf.{statement_of, block_of}

statement_falls : (s : Statement) → deep-Statement s ≤ depth_within (statement_of s)
statement_falls (statement.Evaluate u e) = omega arith
statement_falls (statement.If c a b) = omega arith
statement_falls (statement.While c b) = omega arith
statement_falls statement.Fail = omega arith
statement_falls (statement.Spawn t f) = omega arith

pub block_falls : (ss : List Statement) → max (most deep-Statement ss) 0 ≤ depth (block_of ss)
block_falls [] = omega arith
block_falls (s ∷ ss) = omega (arith, statement_falls s, block_falls ss)
