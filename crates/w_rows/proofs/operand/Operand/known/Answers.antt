use Rattle.w_rows.proofs.WordedOperands.{given_at, given_worded}
use Rattle.w_rows.proofs.operand.Operand.known.Goals as goal

pub returns-clause-known : goal.returns-clause-known
returns-clause-known c = given_at c.args.classes.now (record { word = c.word_of.result; index = c.index.result }) c.args.kind c.word_of.ensures c.index.ensures

pub returns-clause-worded : goal.returns-clause-worded
returns-clause-worded c = given_worded c.args.classes.now (record { word = c.word_of.result; index = c.index.result }) c.args.kind c.word_of.ensures c.index.ensures
