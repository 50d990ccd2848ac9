use Rattle.s_lower.proofs.Lengths.{clause_within}
use Rattle.s_lower.proofs.names.push_clause_names.Goals as goal

pub returns-in_err-push_numbers-clause-few : goal.returns-in_err-push_numbers-clause-few
returns-in_err-push_numbers-clause-few c = clause_within c.args.program.now c.args.handler.now c.args.clause.now

pub returns-in_err-push-clause-few : goal.returns-in_err-push-clause-few
returns-in_err-push-clause-few c = clause_within c.args.program.now c.args.handler.now c.args.clause.now

pub returns-clause-few : goal.returns-clause-few
returns-clause-few c = clause_within c.args.program.now c.args.handler.now c.args.clause.now
