use Rattle.s_lower.proofs.Lengths.{return_within}
use Rattle.s_lower.proofs.names.push_return_names.Goals as goal

pub returns-in_err-push-clause-few : goal.returns-in_err-push-clause-few
returns-in_err-push-clause-few c = return_within c.args.program.now c.args.handler.now

pub returns-clause-few : goal.returns-clause-few
returns-clause-few c = return_within c.args.program.now c.args.handler.now
