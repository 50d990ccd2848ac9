use Rattle.std.proofs.Common.{◌≡◌, ◌++◌, ◌+◌, ℕ, map, take}
use Rattle.w_placing.proofs.definitions.append_functions.Given as goal

abbrev pub invariant-loop-index : goal.invariant-loop-index
invariant-loop-index l = l.all.items ≡ l.fn.all.items ++ map (λ (x : ℕ). l.n + x) (take l.index-index l.functions)
