use Rattle.std.proofs.Common.{drop}
use Rattle.std.proofs.lemmas.Result.{err_from_is_err_and}
use Rattle.s_syntax.specs.declared.token.Kind.TheVariants as kind
use Rattle.s_grammar.specs.Reading.{inside}
use Rattle.s_grammar.specs.Reads.{in_parentheses, key, listed}
use Rattle.s_expr.proofs.BetweenBrackets.{passed_on, stop_as, enclosed_shut, enclosed_deep, enclosed_inner, enclosed_open, enclosed_got}
use Rattle.s_parse.proofs.listed.list_at.Goals as goal

pub returns-in_err-inside : goal.returns-in_err-inside
returns-in_err-inside g c =
    let a = c.args in
    let r = g.T.Item.reading a.source.now.bytes.now in
    record {
      reads = passed_on (λ x. x) (in_parentheses (inside (λ _. listed r) a.nest)) a.source.now.tokens.now a.at c.from_residual.result _ (err_from_is_err_and c.from_residual.result c.from_residual.ensures.1)
          (stop_as (key kind.OpenParenthesis) (in_parentheses (inside (λ _. listed r) a.nest)) a.source.now.tokens.now a.at a.at (λ w rest e. enclosed_shut kind.OpenParenthesis kind.CloseParenthesis (λ _. listed r) a.nest (drop a.at a.source.now.tokens.now) rest w e) _ c.in_err-inside.ensures.reads);
    }

pub returns-then-nest-eq0 : goal.returns-then-nest-eq0
returns-then-nest-eq0 g c =
    let a = c.args in
    let r = g.T.Item.reading a.source.now.bytes.now in
    record { reads = (enclosed_deep kind.OpenParenthesis kind.CloseParenthesis (λ _. listed r) a.nest (drop a.at a.source.now.tokens.now) _ _ c.in_ok-inside.ensures.reads.0 c.if-nest-eq0.true, c.requires.within) }

pub returns-in_err-items : goal.returns-in_err-items
returns-in_err-items g c =
    let a = c.args in
    let r = g.T.Item.reading a.source.now.bytes.now in
    record {
      reads = passed_on (λ x. x) (in_parentheses (inside (λ _. listed r) a.nest)) a.source.now.tokens.now a.at c.from_residual-in_err-items.result _ (err_from_is_err_and c.from_residual-in_err-items.result c.from_residual-in_err-items.ensures.1)
          (stop_as (listed r) (in_parentheses (inside (λ _. listed r) a.nest)) a.source.now.tokens.now c.in_ok-inside.inside a.at (λ w rest e. enclosed_inner kind.OpenParenthesis kind.CloseParenthesis (λ _. listed r) a.nest (drop a.at a.source.now.tokens.now) _ rest _ w c.in_ok-inside.ensures.reads.0 c.if-nest-eq0.false e) _ c.in_err-items.ensures.reads);
    }

pub returns-in_err-end : goal.returns-in_err-end
returns-in_err-end g c =
    let a = c.args in
    let r = g.T.Item.reading a.source.now.bytes.now in
    record {
      reads = passed_on (λ x. x) (in_parentheses (inside (λ _. listed r) a.nest)) a.source.now.tokens.now a.at c.from_residual-in_err-end.result _ (err_from_is_err_and c.from_residual-in_err-end.result c.from_residual-in_err-end.ensures.1)
          (stop_as (key kind.CloseParenthesis) (in_parentheses (inside (λ _. listed r) a.nest)) a.source.now.tokens.now c.in_ok-items.end a.at (λ w rest e. enclosed_open kind.OpenParenthesis kind.CloseParenthesis (λ _. listed r) a.nest (drop a.at a.source.now.tokens.now) _ _ rest _ _ w c.in_ok-inside.ensures.reads.0 c.if-nest-eq0.false c.in_ok-items.ensures.reads.0 e) _ c.in_err-end.ensures.reads);
    }

pub returns : goal.returns
returns g c =
    let a = c.args in
    let r = g.T.Item.reading a.source.now.bytes.now in
    record { reads = (enclosed_got kind.OpenParenthesis kind.CloseParenthesis (λ _. listed r) a.nest (drop a.at a.source.now.tokens.now) _ _ _ _ _ _ c.in_ok-inside.ensures.reads.0 c.if-nest-eq0.false c.in_ok-items.ensures.reads.0 c.in_ok-end.ensures.reads.0, c.in_ok-end.ensures.reads.1) }
