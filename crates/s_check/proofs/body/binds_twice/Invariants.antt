use Rattle.std.proofs.Common.{◌≡◌, ◌++◌, drop, map}
use Rattle.s_check.specs.Scopes.{Bound}
use Rattle.s_check.specs.Views.{names_of, scope_of}
use Rattle.s_check.proofs.body.binds_twice.Given as goal

abbrev pub invariant-loop-binding : goal.invariant-loop-binding
invariant-loop-binding l = names_of l.names.items ++ map (λ (b : Bound). b.name) (scope_of (drop l.binding-index l.bound)) ≡ map (λ (b : Bound). b.name) (scope_of l.bound)
