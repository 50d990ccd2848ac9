use Rattle.std.proofs.Common.{◌≡◌, [], drop}
use Rattle.s_check.specs.Scopes.{bind_all}
use Rattle.s_check.specs.Views.{scope_of}
use Rattle.s_check.proofs.body.bind_all.Given as goal

abbrev pub invariant-loop-binding : goal.invariant-loop-binding
invariant-loop-binding l = bind_all (scope_of (drop l.binding-index l.bound)) l.scope ≡ bind_all (scope_of l.bound) []
