use Rattle.w_inst.proofs.InOrder.{DatasStarted}
use Rattle.w_inst.proofs.starting.start_datas.Given as goal

-- those so far are started
abbrev pub invariant-loop-index : goal.invariant-loop-index
invariant-loop-index l = DatasStarted l.program l.datas l.first l.globals l.functions l.fn.store l.store l.index
