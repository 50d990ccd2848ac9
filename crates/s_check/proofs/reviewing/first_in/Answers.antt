use Rattle.std.proofs.Common.{◌∙◌, ◌∷◌, List, None, sym, ap}
use Rattle.s_syntax.specs.declared.script.Declaration.{Declaration}
use Rattle.s_check.specs.Least.{least_of}
use Rattle.s_check.specs.Rules.{in_declaration}
use Rattle.s_check.proofs.Clauses.{declaration_found, declaration_more, nothing}
use Rattle.s_check.proofs.reviewing.first_in.Goals as goal

pub returns-in-Some : goal.returns-in-Some
returns-in-Some c =
    let d = c.index-all-index.result in
    let seen = c.loop-index.invariant.seen in
    let again = c.in_ok-is_again.ensures.value seen c.loop-index.invariant.has in
    record {
      value =
          declaration_found c.args.all.now c.loop-index.index d seen c.loop-index-test.true c.index-all-index.is c.in-Some.rule _
          (ap (λ (ds : List Declaration). least_of None (in_declaration ds seen d)) (sym c.requires.all) ∙ sym (c.in_ok-rule.ensures.value seen again) ∙ c.in-Some.is) c.loop-index.invariant.rest;
    }

pub loop-index-preserved : goal.loop-index-preserved
loop-index-preserved c =
    let d = c.index-all-index.result in
    let seen = c.loop-index.invariant.seen in
    let again = c.in_ok-is_again.ensures.value seen c.loop-index.invariant.has in
    record {
      seen = d.name ∷ seen;
      has = c.in_ok-is_again.ensures.more seen c.loop-index.invariant.has;
      rest =
          declaration_more c.args.all.now c.loop-index.index d seen c.loop-index-test.true c.index-all-index.is _
          (ap (λ (ds : List Declaration). least_of None (in_declaration ds seen d)) (sym c.requires.all) ∙ sym (c.in_ok-rule.ensures.value seen again) ∙ nothing c.in_ok-rule.field-0 c.in_default.not-Some) c.loop-index.invariant.rest;
    }
