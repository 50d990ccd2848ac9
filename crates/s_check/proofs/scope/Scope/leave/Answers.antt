use Rattle.std.proofs.Common.{take, ap, ◌∙◌}
use Rattle.s_check.specs.Scopes.{Scope}
use Rattle.s_check.specs.Views.{scope_of}
use Rattle.s_check.proofs.Names.{scope_front}
use Rattle.s_check.proofs.scope.Scope.leave.Goals as goal

pub returns : goal.returns
returns c = record { value = ap scope_of c.truncate.ensures.items ∙ scope_front c.args.count c.self.inside.bound.items ∙ ap (λ (s : Scope). take c.args.count s) c.self.view_is }
