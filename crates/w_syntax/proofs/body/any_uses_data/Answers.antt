use Rattle.std.proofs.Common.{refl, sym, ◌∙◌}
use Rattle.w_syntax.specs.DataUses.{uses_data}
use Rattle.w_syntax.specs.Module.{any_uses_data}
use Rattle.w_syntax.proofs.FunctionsName.{name_step, no_name}
use Rattle.w_syntax.proofs.SomeOf.{one_has, others_have, none_has}
use Rattle.w_syntax.proofs.body.any_uses_data.Goals as goal

pub loop-function-init : goal.loop-function-init
loop-function-init c = refl

pub returns-then-uses_data : goal.returns-then-uses_data
returns-then-uses_data c =
    sym (one_has any_uses_data (λ f. uses_data f.body) name_step c.args.functions.now c.loop-function.function-index c.function-item.result c.loop-function-test.true c.function-item.is (sym c.uses_data.ensures ∙ c.if-uses_data.true)) ∙ c.loop-function.invariant

pub loop-function-preserved : goal.loop-function-preserved
loop-function-preserved c =
    sym (others_have any_uses_data (λ f. uses_data f.body) name_step c.args.functions.now c.loop-function.function-index c.function-item.result c.loop-function-test.true c.function-item.is (sym c.uses_data.ensures ∙ c.if-uses_data.false)) ∙ c.loop-function.invariant

pub returns : goal.returns
returns c = sym (none_has any_uses_data no_name c.args.functions.now c.loop-function.function-index c.loop-function-test.false) ∙ c.loop-function.invariant
