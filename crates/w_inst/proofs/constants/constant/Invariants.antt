use Rattle.std.proofs.Common.{drop}
use Rattle.w_inst.proofs.ConstantCode.{Evaluates, code_in}
use Rattle.w_inst.proofs.constants.constant.Given as goal

-- those so far were evaluated
abbrev pub invariant-loop-packed : goal.invariant-loop-packed
invariant-loop-packed l = Evaluates l.globals l.functions l.code l.operands.items (code_in (drop l.packed-index l.packed-items))
