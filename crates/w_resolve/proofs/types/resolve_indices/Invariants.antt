use Rattle.std.proofs.Common.{◌≡◌, ◌+◌, ℕ}
use Rattle.w_resolve.proofs.InPlace.{changed}
use Rattle.w_resolve.proofs.types.resolve_indices.Given as goal

abbrev pub invariant-loop-index : goal.invariant-loop-index
invariant-loop-index l = l.index-items ≡ changed (λ (x : ℕ). l.n + x) l.index-index l.initial.index-items
