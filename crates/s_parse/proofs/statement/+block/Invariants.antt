use Rattle.std.proofs.Common.{◌+◌, ◌-◌, ◌*◌, length}
use Rattle.s_syntax.specs.BlockOf.{statement_of}
use Rattle.s_syntax.specs.declared.token.Kind.TheVariants as kind
use Rattle.s_grammar.specs.Kinds.{other_than, is}
use Rattle.s_expr.proofs.Loops.{Ahead, viewed}
use Rattle.s_parse.specs.Items.{statement}
use Rattle.s_parse.proofs.statement.+block.Given as goal

abbrev pub decreases-block_at : goal.decreases-block_at
decreases-block_at l = l.nest * 8 + 1

abbrev pub decreases-if_at : goal.decreases-if_at
decreases-if_at l = l.nest * 8 + 3

abbrev pub decreases-branches_at : goal.decreases-branches_at
decreases-branches_at l = l.nest * 8 + 2

abbrev pub decreases-while_at : goal.decreases-while_at
decreases-while_at l = l.nest * 8 + 2

abbrev pub decreases-statement_at : goal.decreases-statement_at
decreases-statement_at l = l.nest * 8 + 4

abbrev pub decreases-statements_at : goal.decreases-statements_at
decreases-statements_at l = l.nest * 8 + 5

abbrev pub invariant-statements_at-items : goal.invariant-statements_at-items
invariant-statements_at-items l = Ahead (other_than (is kind.CloseBrace)) (statement l.source.bytes.now l.nest) l.source.tokens.now l.start (viewed statement_of l.items.items) l.at

abbrev pub decreases-statements_at-items : goal.decreases-statements_at-items
decreases-statements_at-items l = length l.source.tokens.now - l.at
