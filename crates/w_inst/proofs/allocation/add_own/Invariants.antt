use Rattle.std.proofs.Common.{◌≡◌}
use Rattle.w_reduce.specs.Start.{own}
use Rattle.w_stands.specs.Values.{store_of}
use Rattle.w_inst.specs.Adding.{with_functions}
use Rattle.w_inst.proofs.allocation.add_own.Given as goal

-- those so far are added
abbrev pub invariant-loop-index : goal.invariant-loop-index
invariant-loop-index l = store_of l.store ≡ with_functions (store_of l.fn.store) (own l.index)
