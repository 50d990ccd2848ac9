use Rattle.std.proofs.Common.{◌≡◌, drop, map}
use Rattle.w_reduce.specs.Values.{val}
use Rattle.w_stands.specs.Values.{store_of}
use Rattle.w_inst.specs.Adding.{with_globals}
use Rattle.w_inst.proofs.values.add_globals.Given as goal

-- those so far are added
abbrev pub invariant-loop-value : goal.invariant-loop-value
invariant-loop-value l = with_globals (store_of l.store) (map val (drop l.value-index l.values)) ≡ with_globals (store_of l.fn.store) (map val l.values)
