use Rattle.w_items.proofs.Faults.{only_ok, only_limit, only_item}
use Rattle.w_valid.proofs.gradual.Gradual.finish.Goals as goal

pub returns-clause-only_ok : goal.returns-clause-only_ok
returns-clause-only_ok c = λ w v. only_ok c.args.candidate c.in-Err.fault w v c.in-Err.ensures.err

pub returns-clause-only_limit : goal.returns-clause-only_limit
returns-clause-only_limit c = λ name p. only_limit c.args.candidate c.in-Err.fault name p c.in-Err.ensures.err

pub returns-clause-only_item : goal.returns-clause-only_item
returns-clause-only_item c = λ x w p. only_item c.args.candidate c.in-Err.fault x w p c.in-Err.ensures.err
