use Rattle.std.proofs.Common.{ap}
use Rattle.s_syntax.specs.declared.script.VariableType.{VariableType}
use Rattle.s_check.specs.Scopes.{Bound, parameter}
use Rattle.s_lower.proofs.NamesBehindOthers.{pushed}
use Rattle.s_lower.proofs.names.parameters.Goals as goal

pub loop-parameter-preserved : goal.loop-parameter-preserved
loop-parameter-preserved c =
    pushed parameter c.args.all.now c.loop-parameter.parameter-index c.parameter-item.result c.loop-parameter.names.items c.push.new.self.items _ _ c.loop-parameter-test.true c.parameter-item.is c.in_ok-push.ensures.items
    (ap (λ (t : VariableType). let b : Bound = record { name = c.parameter-item.result.name; ty = t } in b) c.type_of.ensures.value) c.loop-parameter.invariant
