use Rattle.w_rows.proofs.WordedOperands.{alone_worded}
use Rattle.w_rows.proofs.operand.Operand.alone.Goals as goal

pub returns-clause-worded : goal.returns-clause-worded
returns-clause-worded c = λ es. alone_worded es (record { word = c.given_alone.result; index = c.index.result }) c.args.kind c.given_alone.ensures c.index.ensures
