use Rattle.std.proofs.Common.{◌+◌, ◌-◌, ◌*◌, length}
use Rattle.s_grammar.specs.Reads.{expr}
use Rattle.s_expr.specs.Levels.{rank, operators, operand}
use Rattle.s_expr.proofs.ListsWithCommas.{ListedAhead}
use Rattle.s_expr.proofs.Loops.{Ahead}
use Rattle.s_expr.proofs.expression.+expr.Given as goal

abbrev pub decreases-arguments_at : goal.decreases-arguments_at
decreases-arguments_at l = l.nest * 64 + 16

abbrev pub decreases-comparison_at : goal.decreases-comparison_at
decreases-comparison_at l = l.nest * 64 + 31

abbrev pub decreases-do_at : goal.decreases-do_at
decreases-do_at l = l.nest * 64 + 17

abbrev pub decreases-expr_at : goal.decreases-expr_at
decreases-expr_at l = l.nest * 64 + 41

abbrev pub decreases-comma_item_at : goal.decreases-comma_item_at
decreases-comma_item_at l = l.nest * 64 + 42

abbrev pub decreases-graded_at : goal.decreases-graded_at
decreases-graded_at l = l.nest * 64 + 20 + 4 * rank l.level

abbrev pub decreases-group_at : goal.decreases-group_at
decreases-group_at l = l.nest * 64 + 17

abbrev pub decreases-handle_at : goal.decreases-handle_at
decreases-handle_at l = l.nest * 64 + 17

abbrev pub decreases-listed_at : goal.decreases-listed_at
decreases-listed_at l = l.nest * 64 + 43

abbrev pub decreases-name_or_call_at : goal.decreases-name_or_call_at
decreases-name_or_call_at l = l.nest * 64 + 17

abbrev pub decreases-operand_at : goal.decreases-operand_at
decreases-operand_at l = l.nest * 64 + 17 + 4 * rank l.level

abbrev pub decreases-operands_at : goal.decreases-operands_at
decreases-operands_at l = l.nest * 64 + 18 + 4 * rank l.level

abbrev pub decreases-parenthesized_at : goal.decreases-parenthesized_at
decreases-parenthesized_at l = l.nest * 64 + 16

abbrev pub decreases-primary_at : goal.decreases-primary_at
decreases-primary_at l = l.nest * 64 + 18

abbrev pub decreases-resume_at : goal.decreases-resume_at
decreases-resume_at l = l.nest * 64 + 17

abbrev pub decreases-run_at : goal.decreases-run_at
decreases-run_at l = l.nest * 64 + 19 + 4 * rank l.level

abbrev pub decreases-unary_at : goal.decreases-unary_at
decreases-unary_at l = l.nest * 64 + 19

abbrev pub invariant-operands_at-items : goal.invariant-operands_at-items
invariant-operands_at-items l = Ahead (operators l.level) (operand l.source.bytes.now l.nest l.level) l.source.tokens.now l.start l.items.items l.at

abbrev pub decreases-operands_at-items : goal.decreases-operands_at-items
decreases-operands_at-items l = length l.source.tokens.now - l.at

abbrev pub invariant-listed_at-items : goal.invariant-listed_at-items
invariant-listed_at-items l = ListedAhead (expr l.source.bytes.now l.nest) l.source.tokens.now l.start l.items.items l.at

abbrev pub decreases-listed_at-items : goal.decreases-listed_at-items
decreases-listed_at-items l = length l.source.tokens.now - l.at
