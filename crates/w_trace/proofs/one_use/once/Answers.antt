use Rattle.w_trace.proofs.OneAnswer.{only_ok, only_err}
use Rattle.w_trace.proofs.one_use.once.Goals as goal

pub returns-clause-only_ok : goal.returns-clause-only_ok
returns-clause-only_ok c = only_ok c.args.events.now c.count_uses.result c.count_uses.ensures.err

pub returns-clause-only_err : goal.returns-clause-only_err
returns-clause-only_err c = only_err c.args.events.now c.count_uses.result c.count_uses.ensures.ok c.count_uses.ensures.err
