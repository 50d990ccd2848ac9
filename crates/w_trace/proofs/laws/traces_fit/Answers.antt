use Rattle.w_trace.proofs.Fitting.{traces_fit}
use Rattle.w_trace.proofs.laws.traces_fit.Goals as goal

pub returns : goal.returns
returns c = traces_fit c.starts_are_typed.ensures c.runs_are_typed.ensures c.plain_reductions_go_apart.ensures c.only_switches_are_unhandled.ensures
