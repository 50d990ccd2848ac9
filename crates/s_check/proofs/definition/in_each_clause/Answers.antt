use Rattle.std.proofs.Common.{◌∙◌, ◌∷◌, ap, Option, ℕ}
use Rattle.s_check.specs.Least.{least_of}
use Rattle.s_check.specs.Rules.{in_head}
use Rattle.s_check.proofs.Clauses.{clause_more}
use Rattle.s_check.proofs.definition.in_each_clause.Goals as goal

pub loop-clause-preserved : goal.loop-clause-preserved
loop-clause-preserved c =
    let clause = c.clause-item.result in
    let seen = c.loop-clause.invariant.seen in
    let again = c.in_ok-is_again.ensures.value seen c.loop-clause.invariant.has in
    record {
      seen = clause.effect ∷ seen;
      has = c.in_ok-is_again.ensures.more seen c.loop-clause.invariant.has;
      rest =
          clause_more c.args.declarations.now c.args.name.now c.args.handler.now c.as_slice-clause-items.result.now c.loop-clause.clause-index clause seen c.loop-clause.least c.in_head-least.result c.in_ok-least.least _ c.loop-clause-test.true c.clause-item.is
          (c.in_head-least.ensures.value seen again ∙ ap (λ (e : Option ℕ). least_of c.loop-clause.least (in_head e seen clause)) c.effect.ensures.value) c.in_ok-least.ensures.value c.loop-clause.invariant.rest;
    }
