use Rattle.w_inst.proofs.InOrder.{ElementsStarted}
use Rattle.w_inst.proofs.starting.start_elements.Given as goal

-- those so far are started
abbrev pub invariant-loop-index : goal.invariant-loop-index
invariant-loop-index l = ElementsStarted l.program l.elements l.first l.globals l.functions l.fn.store l.store l.index
