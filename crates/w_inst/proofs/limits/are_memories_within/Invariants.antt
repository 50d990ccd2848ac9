use Rattle.std.proofs.Common.{◌≡◌, drop}
use Rattle.std.specs.Prelude.{map}
use Rattle.w_memory.specs.Memory.{page_limit}
use Rattle.w_syntax.specs.declared.module.Limits.{Limits}
use Rattle.w_reduce.specs.Start.{none_above}
use Rattle.w_inst.proofs.limits.are_memories_within.Given as goal

-- none so far is above
abbrev pub invariant-loop-limits : goal.invariant-loop-limits
invariant-loop-limits l = none_above page_limit (map (λ (l : Limits). l.min) (drop l.limits-index l.memories)) ≡ none_above page_limit (map (λ (l : Limits). l.min) l.memories)
