use Rattle.std.proofs.Common.{◌≡◌, drop, map}
use Rattle.w_memory.specs.Memory.{fresh}
use Rattle.w_syntax.specs.declared.module.Limits.{Limits}
use Rattle.w_stands.specs.Values.{store_of}
use Rattle.w_inst.specs.Adding.{with_memories}
use Rattle.w_inst.proofs.allocation.add_memories.Given as goal

-- those so far are added
abbrev pub invariant-loop-limits : goal.invariant-loop-limits
invariant-loop-limits l = with_memories (store_of l.store) (map (λ (m : Limits). fresh m.min m.max) (drop l.limits-index l.limits-items)) ≡ with_memories (store_of l.fn.store) (map (λ (m : Limits). fresh m.min m.max) l.limits-items)
