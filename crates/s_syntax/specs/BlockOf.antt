-- The tree of statements.
use Rattle.std.specs.Prelude.{List, [], ◌∷◌}
use Rattle.s_syntax.specs.declared.statement.Statement.{Statement}
use Rattle.s_syntax.specs.declared.statement.Statement.TheVariants as statement
use Rattle.s_syntax.specs.BlockTree.{StatementTree, BlockTree, Evaluate, If, While, Fail, Spawn, Done, ◌⨟◌}

abbrev pub statement_of : Statement → StatementTree
statement_of (statement.Evaluate u e) = Evaluate u e
statement_of (statement.If c a b) = If c a b
statement_of (statement.While c b) = While c b
statement_of statement.Fail = Fail
statement_of (statement.Spawn t f) = Spawn t f

abbrev pub block_of : List Statement → BlockTree
block_of [] = Done
block_of (s ∷ ss) = statement_of s ⨟ block_of ss
