use Rattle.std.proofs.Common.{◌≡◌, ◌++◌, map, ℕ, ◌+◌}
use Rattle.w_resolve.proofs.items.append_function_types.Given as goal

abbrev pub invariant-loop-index : goal.invariant-loop-index
invariant-loop-index l = l.all.items ≡ l.fn.all.items ++ map (λ (x : ℕ). l.instance.types + x) l.yielded
