use Rattle.std.proofs.Common.{drop}
use Rattle.w_inst.proofs.FoundValues.{GlobalsFound}
use Rattle.w_inst.proofs.values.global_values.Given as goal

-- those so far are found
abbrev pub invariant-loop-global : goal.invariant-loop-global
invariant-loop-global l = GlobalsFound l.functions l.program.globals l.values.items (drop l.global-index l.global-items)
