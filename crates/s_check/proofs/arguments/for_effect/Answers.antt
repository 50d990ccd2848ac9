use Rattle.std.proofs.Common.{ℕ, Option, not, nat_eq, sym, ap, ◌∙◌}
use Rattle.s_syntax.specs.ExprTree.{exprs}
use Rattle.s_check.specs.declared.rule.Rule.TheVariants as rule
use Rattle.s_check.specs.Least.{least_of}
use Rattle.s_check.specs.Rules.{when, for_effect}
use Rattle.s_check.proofs.ArgumentCounts.{count_exprs}
use Rattle.s_check.proofs.arguments.for_effect.Goals as goal

pub returns-in-Some : goal.returns-in-Some
returns-in-Some c = record { value = c.broken_where.ensures.value ∙ ap (λ (n : ℕ). least_of c.args.least (when (not (nat_eq n c.in-Some.number)) rule.OtherNumberOfArguments)) (sym (count_exprs c.args.arguments.now)) ∙ ap (λ (o : Option ℕ). least_of c.args.least (for_effect o (exprs c.args.arguments.now))) (sym c.in-Some.is) }
