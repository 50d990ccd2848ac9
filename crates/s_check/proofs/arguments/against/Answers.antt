use Rattle.std.proofs.Common.{◌∙◌, not, sym, ap}
use Rattle.s_check.specs.declared.rule.Rule.TheVariants as rule
use Rattle.s_check.specs.Least.{least_of}
use Rattle.s_check.specs.Rules.{when}
use Rattle.s_check.proofs.ArgumentCounts.{against_as_many, against_others}
use Rattle.s_check.proofs.arguments.against.Goals as goal

pub returns-then-arguments-parameters : goal.returns-then-arguments-parameters
returns-then-arguments-parameters c = record {
  value =
      c.broken_where.ensures.value
      ∙ ap (λ b. least_of c.args.least (when (not b) rule.ArgumentOfOtherType)) c.all_suit.ensures.value
      ∙ ap (least_of c.args.least) (sym (against_as_many c.args.declarations.now c.args.scope.now c.args.parameters.now c.args.arguments.now c.if-arguments-parameters.true));
}

pub returns-else-arguments-parameters : goal.returns-else-arguments-parameters
returns-else-arguments-parameters c = record {
  value = c.broken.ensures.value ∙ ap (least_of c.args.least) (sym (against_others c.args.declarations.now c.args.scope.now c.args.parameters.now c.args.arguments.now c.if-arguments-parameters.false));
}
