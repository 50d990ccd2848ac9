use Rattle.std.proofs.Common.{◌-◌, drop}
use Rattle.std.proofs.lemmas.Result.{err_from_is_err_and}
use Rattle.s_syntax.specs.declared.token.Kind.TheVariants as kind
use Rattle.s_grammar.specs.Reads.{key, clauses}
use Rattle.s_expr.proofs.BetweenBrackets.{passed_on, stop_as, enclosed_shut, enclosed_deep, enclosed_inner, enclosed_open, enclosed_got}
use Rattle.s_parse.specs.Items.{braced_clauses}
use Rattle.s_parse.proofs.handler.braced_clauses_at.Goals as goal

pub returns-in_err-inside : goal.returns-in_err-inside
unfolding braced_clauses
returns-in_err-inside c =
    let a = c.args in
    record {
      reads = passed_on (λ x. x) (braced_clauses a.source.now.bytes.now a.nest) a.source.now.tokens.now a.at c.from_residual.result _ (err_from_is_err_and c.from_residual.result c.from_residual.ensures.1)
          (stop_as (key kind.OpenBrace) (braced_clauses a.source.now.bytes.now a.nest) a.source.now.tokens.now a.at a.at (λ w rest e. enclosed_shut kind.OpenBrace kind.CloseBrace (clauses a.source.now.bytes.now) a.nest (drop a.at a.source.now.tokens.now) rest w e) _ c.in_err-inside.ensures.reads);
    }

pub returns-then-nest-eq0 : goal.returns-then-nest-eq0
unfolding braced_clauses
returns-then-nest-eq0 c =
    let a = c.args in
    record { reads = (enclosed_deep kind.OpenBrace kind.CloseBrace (clauses a.source.now.bytes.now) a.nest (drop a.at a.source.now.tokens.now) _ _ c.in_ok-inside.ensures.reads.0 c.if-nest-eq0.true, c.requires.within) }

pub returns-in_err-value : goal.returns-in_err-value
unfolding braced_clauses
returns-in_err-value c =
    let a = c.args in
    record {
      reads = passed_on (λ x. x) (braced_clauses a.source.now.bytes.now a.nest) a.source.now.tokens.now a.at c.from_residual-in_err-value.result _ (err_from_is_err_and c.from_residual-in_err-value.result c.from_residual-in_err-value.ensures.1)
          (stop_as (clauses a.source.now.bytes.now (a.nest - 1)) (braced_clauses a.source.now.bytes.now a.nest) a.source.now.tokens.now c.in_ok-inside.inside a.at (λ w rest e. enclosed_inner kind.OpenBrace kind.CloseBrace (clauses a.source.now.bytes.now) a.nest (drop a.at a.source.now.tokens.now) _ rest _ w c.in_ok-inside.ensures.reads.0 c.if-nest-eq0.false e) _ c.in_err-value.ensures.reads);
    }

pub returns-in_err-end : goal.returns-in_err-end
unfolding braced_clauses
returns-in_err-end c =
    let a = c.args in
    record {
      reads = passed_on (λ x. x) (braced_clauses a.source.now.bytes.now a.nest) a.source.now.tokens.now a.at c.from_residual-in_err-end.result _ (err_from_is_err_and c.from_residual-in_err-end.result c.from_residual-in_err-end.ensures.1)
          (stop_as (key kind.CloseBrace) (braced_clauses a.source.now.bytes.now a.nest) a.source.now.tokens.now c.in_ok-value.end a.at (λ w rest e. enclosed_open kind.OpenBrace kind.CloseBrace (clauses a.source.now.bytes.now) a.nest (drop a.at a.source.now.tokens.now) _ _ rest _ _ w c.in_ok-inside.ensures.reads.0 c.if-nest-eq0.false c.in_ok-value.ensures.reads.0 e) _ c.in_err-end.ensures.reads);
    }

pub returns : goal.returns
unfolding braced_clauses
returns c =
    let a = c.args in
    record { reads = (enclosed_got kind.OpenBrace kind.CloseBrace (clauses a.source.now.bytes.now) a.nest (drop a.at a.source.now.tokens.now) _ _ _ _ _ _ c.in_ok-inside.ensures.reads.0 c.if-nest-eq0.false c.in_ok-value.ensures.reads.0 c.in_ok-end.ensures.reads.0, c.in_ok-end.ensures.reads.1) }
