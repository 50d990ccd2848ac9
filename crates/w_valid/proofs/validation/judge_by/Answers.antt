use Rattle.std.proofs.Common.{List, subst}
use Rattle.w_types.specs.declared.types.RecGroup.{RecGroup}
use Rattle.w_canon.specs.IsClassesOf.{IsClassesOf}
use Rattle.w_valid.proofs.Judgements.{are_facts}
use Rattle.w_valid.proofs.validation.judge_by.Goals as goal

pub returns-clause-facts : goal.returns-clause-facts
returns-clause-facts c =
    are_facts c.args.candidate.now _ c.in_ok-judge_items.ensures.measured c.requires.tables.declared
    (subst (λ (groups : List RecGroup). IsClassesOf groups c.into_classes.result) c.requires.tables.types c.into_classes.ensures)
