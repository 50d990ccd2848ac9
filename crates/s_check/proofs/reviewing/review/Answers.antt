use Rattle.std.proofs.Common.{◌∙◌, List, sym, ap}
use Rattle.s_syntax.specs.declared.script.Declaration.{Declaration}
use Rattle.s_check.specs.Least.{first_broken}
use Rattle.s_check.specs.Rules.{broken_rules}
use Rattle.s_check.proofs.Firsts.{good, broken, good_alone, refused_alone}
use Rattle.s_check.proofs.reviewing.review.Goals as goal

pub make-requires : goal.make-requires
make-requires c = record { good = good c.args.script (ap (λ (ds : List Declaration). first_broken 0 (broken_rules ds)) (sym c.as_slice.ensures) ∙ sym c.in_ok-declaration.ensures.value ∙ c.in-None.is) }

pub returns-in-Some-clause-err : goal.returns-in-Some-clause-err
returns-in-Some-clause-err c other =
    broken c.args.script c.in-Some.declaration c.in-Some.rule (ap (λ (ds : List Declaration). first_broken 0 (broken_rules ds)) (sym c.as_slice.ensures) ∙ sym c.in_ok-declaration.ensures.value ∙ c.in-Some.is)

pub returns-in-Some-clause-only : goal.returns-in-Some-clause-only
returns-in-Some-clause-only c =
    refused_alone c.args.script c.in-Some.declaration c.in-Some.rule (ap (λ (ds : List Declaration). first_broken 0 (broken_rules ds)) (sym c.as_slice.ensures) ∙ sym c.in_ok-declaration.ensures.value ∙ c.in-Some.is)

pub returns-in-None-clause-ok : goal.returns-in-None-clause-ok
returns-in-None-clause-ok c =
    (c.make.ensures.value, good c.args.script (ap (λ (ds : List Declaration). first_broken 0 (broken_rules ds)) (sym c.as_slice.ensures) ∙ sym c.in_ok-declaration.ensures.value ∙ c.in-None.is))

pub returns-in-None-clause-only : goal.returns-in-None-clause-only
returns-in-None-clause-only c =
    good_alone c.args.script c.make.result c.make.ensures.value (ap (λ (ds : List Declaration). first_broken 0 (broken_rules ds)) (sym c.as_slice.ensures) ∙ sym c.in_ok-declaration.ensures.value ∙ c.in-None.is)
