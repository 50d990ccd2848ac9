use Rattle.std.proofs.Common.{◌≡◌, ◌-◌, ◌≤◌, true, false, List, [], ◌∷◌, ◌++◌, length, drop, sym, ap, subst, ◌∙◌, arith, rules}
use Rattle.std.proofs.lemmas.Result.{err_from_is_err_and}
use Rattle.s_syntax.specs.ExprTree.{ExprTree}
use Rattle.s_syntax.specs.declared.operators.BinaryOperator.{BinaryOperator}
use Rattle.s_syntax.specs.declared.token.Kind.TheVariants as kind
use Rattle.s_grammar.specs.Kinds.{kind_of, is}
use Rattle.s_grammar.specs.Reading.{Got}
use Rattle.s_grammar.specs.Reads.{key, expr, parenthesized_expr, listed, led}
use Rattle.s_expr.specs.Levels.{operands, operators, operand, arguments}
use Rattle.s_expr.proofs.BetweenBrackets.{passed_on, stop_as, enclosed_shut, enclosed_deep, enclosed_inner, enclosed_open, enclosed_got}
use Rattle.s_expr.proofs.ListsWithCommas.{listed_empty, listed_first, listed_starts, listed_stops, listed_goes_on, listed_got}
use Rattle.s_expr.proofs.Loops.{loop_stops, further, Ahead, loop_goes_on, loop_ends}
use Rattle.s_expr.proofs.ItemsTakeTokens.{operand_shrinks, comma_shrinks}
use Rattle.s_expr.proofs.expression.+expr.Goals as goal

pub operands_at-returns-in_err-item : goal.operands_at-returns-in_err-item
unfolding operands
operands_at-returns-in_err-item t c =
    let a = c.args in
    let g : operators a.level (kind_of (drop c.items.at a.source.now.tokens.now)) ≡ true = search rules in
    record {
      reads = passed_on (λ v. v.items) (operands a.source.now.bytes.now a.nest a.level) a.source.now.tokens.now a.start c.from_residual.result _ (err_from_is_err_and c.from_residual.result c.from_residual.ensures.1)
          (stop_as (operand a.source.now.bytes.now a.nest a.level) (operands a.source.now.bytes.now a.nest a.level) a.source.now.tokens.now c.items.at a.start
          (λ w rest e. loop_stops (operators a.level) (operand a.source.now.bytes.now a.nest a.level) (operand_shrinks a.source.now.bytes.now a.nest a.level) a.source.now.tokens.now a.start c.items.items.items c.items.at c.items.invariant g w rest e)
          _ c.in_err-item.ensures.reads);
    }

pub operands_at-items-smaller : goal.operands_at-items-smaller
operands_at-items-smaller t c =
    let a = c.args in
    let f = further (operand a.source.now.bytes.now a.nest a.level) (operand_shrinks a.source.now.bytes.now a.nest a.level) a.source.now.tokens.now c.items.at c.in_ok-item.next c.in_ok-item.item c.in_ok-item.ensures.reads.0 c.items.invariant.fits c.in_ok-item.ensures.reads.1 in
    let l : c.in_ok-item.next ≤ length a.source.now.tokens.now = c.in_ok-item.ensures.reads.1 in
    omega (arith, f, l)

pub operands_at-items-preserved : goal.operands_at-items-preserved
operands_at-items-preserved t c =
    let a = c.args in
    let g : operators a.level (kind_of (drop c.items.at a.source.now.tokens.now)) ≡ true = search rules in
    subst (λ (xs : List (BinaryOperator × ExprTree)). Ahead (operators a.level) (operand a.source.now.bytes.now a.nest a.level) a.source.now.tokens.now a.start xs c.in_ok-item.next) (sym c.in_ok-push.ensures.items)
    (loop_goes_on (operators a.level) (operand a.source.now.bytes.now a.nest a.level) (operand_shrinks a.source.now.bytes.now a.nest a.level) a.source.now.tokens.now a.start c.items.items.items c.items.at c.items.invariant g c.in_ok-item.item c.in_ok-item.next c.in_ok-item.ensures.reads.0 c.in_ok-item.ensures.reads.1)

pub operands_at-returns : goal.operands_at-returns
unfolding operands
operands_at-returns t c =
    let a = c.args in
    let g : operators a.level (kind_of (drop c.items.at a.source.now.tokens.now)) ≡ false = search rules in
    record { reads = (loop_ends (operators a.level) (operand a.source.now.bytes.now a.nest a.level) a.source.now.tokens.now a.start c.items.items.items c.items.at c.items.invariant g, c.items.invariant.fits) }

pub parenthesized_at-returns-in_err-inside : goal.parenthesized_at-returns-in_err-inside
unfolding parenthesized_expr
parenthesized_at-returns-in_err-inside t c =
    let a = c.args in
    record {
      reads = passed_on (λ x. x) (parenthesized_expr a.source.now.bytes.now a.nest) a.source.now.tokens.now a.at c.from_residual.result _ (err_from_is_err_and c.from_residual.result c.from_residual.ensures.1)
          (stop_as (key kind.OpenParenthesis) (parenthesized_expr a.source.now.bytes.now a.nest) a.source.now.tokens.now a.at a.at (λ w rest e. enclosed_shut kind.OpenParenthesis kind.CloseParenthesis (expr a.source.now.bytes.now) a.nest (drop a.at a.source.now.tokens.now) rest w e) _ c.in_err-inside.ensures.reads);
    }

pub parenthesized_at-returns-then-nest-eq0 : goal.parenthesized_at-returns-then-nest-eq0
unfolding parenthesized_expr
parenthesized_at-returns-then-nest-eq0 t c =
    let a = c.args in
    record { reads = (enclosed_deep kind.OpenParenthesis kind.CloseParenthesis (expr a.source.now.bytes.now) a.nest (drop a.at a.source.now.tokens.now) _ _ c.in_ok-inside.ensures.reads.0 c.if-nest-eq0.true, c.requires.within) }

pub parenthesized_at-returns-in_err-value : goal.parenthesized_at-returns-in_err-value
unfolding parenthesized_expr
parenthesized_at-returns-in_err-value t c =
    let a = c.args in
    record {
      reads = passed_on (λ x. x) (parenthesized_expr a.source.now.bytes.now a.nest) a.source.now.tokens.now a.at c.from_residual-in_err-value.result _ (err_from_is_err_and c.from_residual-in_err-value.result c.from_residual-in_err-value.ensures.1)
          (stop_as (expr a.source.now.bytes.now (a.nest - 1)) (parenthesized_expr a.source.now.bytes.now a.nest) a.source.now.tokens.now c.in_ok-inside.inside a.at (λ w rest e. enclosed_inner kind.OpenParenthesis kind.CloseParenthesis (expr a.source.now.bytes.now) a.nest (drop a.at a.source.now.tokens.now) _ rest _ w c.in_ok-inside.ensures.reads.0 c.if-nest-eq0.false e) _ c.in_err-value.ensures.reads);
    }

pub parenthesized_at-returns-in_err-end : goal.parenthesized_at-returns-in_err-end
unfolding parenthesized_expr
parenthesized_at-returns-in_err-end t c =
    let a = c.args in
    record {
      reads = passed_on (λ x. x) (parenthesized_expr a.source.now.bytes.now a.nest) a.source.now.tokens.now a.at c.from_residual-in_err-end.result _ (err_from_is_err_and c.from_residual-in_err-end.result c.from_residual-in_err-end.ensures.1)
          (stop_as (key kind.CloseParenthesis) (parenthesized_expr a.source.now.bytes.now a.nest) a.source.now.tokens.now c.in_ok-value.end a.at (λ w rest e. enclosed_open kind.OpenParenthesis kind.CloseParenthesis (expr a.source.now.bytes.now) a.nest (drop a.at a.source.now.tokens.now) _ _ rest _ _ w c.in_ok-inside.ensures.reads.0 c.if-nest-eq0.false c.in_ok-value.ensures.reads.0 e) _ c.in_err-end.ensures.reads);
    }

pub parenthesized_at-returns : goal.parenthesized_at-returns
unfolding parenthesized_expr
parenthesized_at-returns t c =
    let a = c.args in
    record { reads = (enclosed_got kind.OpenParenthesis kind.CloseParenthesis (expr a.source.now.bytes.now) a.nest (drop a.at a.source.now.tokens.now) _ _ _ _ _ _ c.in_ok-inside.ensures.reads.0 c.if-nest-eq0.false c.in_ok-value.ensures.reads.0 c.in_ok-end.ensures.reads.0, c.in_ok-end.ensures.reads.1) }

pub arguments_at-returns-in_err-inside : goal.arguments_at-returns-in_err-inside
unfolding arguments
arguments_at-returns-in_err-inside t c =
    let a = c.args in
    record {
      reads = passed_on (λ v. v.items) (arguments a.source.now.bytes.now a.nest) a.source.now.tokens.now a.at c.from_residual.result _ (err_from_is_err_and c.from_residual.result c.from_residual.ensures.1)
          (stop_as (key kind.OpenParenthesis) (arguments a.source.now.bytes.now a.nest) a.source.now.tokens.now a.at a.at (λ w rest e. enclosed_shut kind.OpenParenthesis kind.CloseParenthesis (λ j. listed (expr a.source.now.bytes.now j)) a.nest (drop a.at a.source.now.tokens.now) rest w e) _ c.in_err-inside.ensures.reads);
    }

pub arguments_at-returns-then-nest-eq0 : goal.arguments_at-returns-then-nest-eq0
unfolding arguments
arguments_at-returns-then-nest-eq0 t c =
    let a = c.args in
    record { reads = (enclosed_deep kind.OpenParenthesis kind.CloseParenthesis (λ j. listed (expr a.source.now.bytes.now j)) a.nest (drop a.at a.source.now.tokens.now) _ _ c.in_ok-inside.ensures.reads.0 c.if-nest-eq0.true, c.requires.within) }

pub arguments_at-returns-in_err-items : goal.arguments_at-returns-in_err-items
unfolding arguments
arguments_at-returns-in_err-items t c =
    let a = c.args in
    record {
      reads = passed_on (λ v. v.items) (arguments a.source.now.bytes.now a.nest) a.source.now.tokens.now a.at c.from_residual-in_err-items.result _ (err_from_is_err_and c.from_residual-in_err-items.result c.from_residual-in_err-items.ensures.1)
          (stop_as (listed (expr a.source.now.bytes.now (a.nest - 1))) (arguments a.source.now.bytes.now a.nest) a.source.now.tokens.now c.in_ok-inside.inside a.at (λ w rest e. enclosed_inner kind.OpenParenthesis kind.CloseParenthesis (λ j. listed (expr a.source.now.bytes.now j)) a.nest (drop a.at a.source.now.tokens.now) _ rest _ w c.in_ok-inside.ensures.reads.0 c.if-nest-eq0.false e) _ c.in_err-items.ensures.reads);
    }

pub arguments_at-returns-in_err-end : goal.arguments_at-returns-in_err-end
unfolding arguments
arguments_at-returns-in_err-end t c =
    let a = c.args in
    record {
      reads = passed_on (λ v. v.items) (arguments a.source.now.bytes.now a.nest) a.source.now.tokens.now a.at c.from_residual-in_err-end.result _ (err_from_is_err_and c.from_residual-in_err-end.result c.from_residual-in_err-end.ensures.1)
          (stop_as (key kind.CloseParenthesis) (arguments a.source.now.bytes.now a.nest) a.source.now.tokens.now c.in_ok-items.end a.at (λ w rest e. enclosed_open kind.OpenParenthesis kind.CloseParenthesis (λ j. listed (expr a.source.now.bytes.now j)) a.nest (drop a.at a.source.now.tokens.now) _ _ rest _ _ w c.in_ok-inside.ensures.reads.0 c.if-nest-eq0.false c.in_ok-items.ensures.reads.0 e) _ c.in_err-end.ensures.reads);
    }

pub arguments_at-returns : goal.arguments_at-returns
unfolding arguments
arguments_at-returns t c =
    let a = c.args in
    record { reads = (enclosed_got kind.OpenParenthesis kind.CloseParenthesis (λ j. listed (expr a.source.now.bytes.now j)) a.nest (drop a.at a.source.now.tokens.now) _ _ _ _ _ _ c.in_ok-inside.ensures.reads.0 c.if-nest-eq0.false c.in_ok-items.ensures.reads.0 c.in_ok-end.ensures.reads.0, c.in_ok-end.ensures.reads.1) }

pub listed_at-returns-then-is_kind : goal.listed_at-returns-then-is_kind
listed_at-returns-then-is_kind t c =
    let a = c.args in
    let g : is kind.CloseParenthesis (kind_of (drop a.start a.source.now.tokens.now)) ≡ true = search rules in
    record { reads = (listed_empty (expr a.source.now.bytes.now a.nest) (drop a.start a.source.now.tokens.now) g ∙ ap (λ (l : List ExprTree). Got l (drop a.start a.source.now.tokens.now)) (sym c.new-items.ensures.items), c.requires.within) }

pub listed_at-returns-in_err-first : goal.listed_at-returns-in_err-first
listed_at-returns-in_err-first t c =
    let a = c.args in
    let g : is kind.CloseParenthesis (kind_of (drop a.start a.source.now.tokens.now)) ≡ false = search rules in
    record {
      reads = passed_on (λ v. v.items) (listed (expr a.source.now.bytes.now a.nest)) a.source.now.tokens.now a.start c.from_residual.result _ (err_from_is_err_and c.from_residual.result c.from_residual.ensures.1)
          (stop_as (expr a.source.now.bytes.now a.nest) (listed (expr a.source.now.bytes.now a.nest)) a.source.now.tokens.now a.start a.start (λ w rest e. listed_first (expr a.source.now.bytes.now a.nest) (drop a.start a.source.now.tokens.now) rest w g e) _ c.in_err-first.ensures.reads);
    }

pub listed_at-items-init : goal.listed_at-items-init
listed_at-items-init t c =
    let a = c.args in
    let g : is kind.CloseParenthesis (kind_of (drop a.start a.source.now.tokens.now)) ≡ false = search rules in
    listed_starts (expr a.source.now.bytes.now a.nest) a.source.now.tokens.now a.start c.push.new.self.items c.in_ok-first.first c.in_ok-first.at g c.in_ok-first.ensures.reads.0 c.in_ok-first.ensures.reads.1
    (c.in_ok-push.ensures.items ∙ ap (λ (l : List ExprTree). l ++ c.in_ok-first.first ∷ []) c.new-items.ensures.items)

pub listed_at-returns-in_err-item : goal.listed_at-returns-in_err-item
listed_at-returns-in_err-item t c =
    let a = c.args in
    let g : is kind.Comma (kind_of (drop c.items.at a.source.now.tokens.now)) ≡ true = search rules in
    record {
      reads = passed_on (λ v. v.items) (listed (expr a.source.now.bytes.now a.nest)) a.source.now.tokens.now a.start c.from_residual-in_err-item.result _ (err_from_is_err_and c.from_residual-in_err-item.result c.from_residual-in_err-item.ensures.1)
          (stop_as (led kind.Comma (expr a.source.now.bytes.now a.nest)) (listed (expr a.source.now.bytes.now a.nest)) a.source.now.tokens.now c.items.at a.start (λ w rest e. listed_stops (expr a.source.now.bytes.now a.nest) (comma_shrinks a.source.now.bytes.now a.nest) a.source.now.tokens.now a.start c.items.items.items c.items.at c.items.invariant g w rest e) _ c.in_err-item.ensures.reads);
    }

pub listed_at-items-smaller : goal.listed_at-items-smaller
listed_at-items-smaller t c =
    let a = c.args in
    let f = further (led kind.Comma (expr a.source.now.bytes.now a.nest)) (comma_shrinks a.source.now.bytes.now a.nest) a.source.now.tokens.now c.items.at c.in_ok-item.next c.in_ok-item.item c.in_ok-item.ensures.reads.0 c.items.invariant.ahead.fits c.in_ok-item.ensures.reads.1 in
    let l : c.in_ok-item.next ≤ length a.source.now.tokens.now = c.in_ok-item.ensures.reads.1 in
    omega (arith, f, l)

pub listed_at-items-preserved : goal.listed_at-items-preserved
listed_at-items-preserved t c =
    let a = c.args in
    let g : is kind.Comma (kind_of (drop c.items.at a.source.now.tokens.now)) ≡ true = search rules in
    listed_goes_on (expr a.source.now.bytes.now a.nest) (comma_shrinks a.source.now.bytes.now a.nest) a.source.now.tokens.now a.start c.items.items.items c.items.at c.items.invariant g c.in_ok-item.item c.in_ok-item.next c.in_ok-item.ensures.reads.0 c.in_ok-item.ensures.reads.1 c.push-in-items.new.self.items c.in_ok-push-2.ensures.items

pub listed_at-returns : goal.listed_at-returns
listed_at-returns t c =
    let a = c.args in
    let g : is kind.Comma (kind_of (drop c.items.at a.source.now.tokens.now)) ≡ false = search rules in
    record { reads = (listed_got (expr a.source.now.bytes.now a.nest) a.source.now.tokens.now a.start c.items.items.items c.items.at c.items.invariant g, c.items.invariant.ahead.fits) }
