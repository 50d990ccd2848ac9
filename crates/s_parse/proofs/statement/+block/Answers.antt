use Rattle.std.proofs.Common.{◌≡◌, ◌-◌, ◌≤◌, true, false, List, [], ◌∷◌, ◌++◌, length, drop, sym, ap, subst, ◌∙◌, arith, rules}
use Rattle.std.proofs.lemmas.Result.{err_from_is_err_and}
use Rattle.s_syntax.specs.BlockOf.{statement_of}
use Rattle.s_syntax.specs.BlockTree.{StatementTree, BlockTree}
use Rattle.s_syntax.specs.declared.token.Kind.TheVariants as kind
use Rattle.s_grammar.specs.Kinds.{is, kind_of, other_than}
use Rattle.s_grammar.specs.Parts.{block_tree}
use Rattle.s_grammar.specs.Reading.{Refused, many, Got}
use Rattle.s_grammar.specs.Reads.{block, key}
use Rattle.s_grammar.proofs.Images.{image_refused, image_got}
use Rattle.s_expr.proofs.BetweenBrackets.{passed_on, stop_as, enclosed_shut, enclosed_deep, enclosed_inner, enclosed_open, enclosed_got}
use Rattle.s_expr.proofs.ListsWithCommas.{negated, turned}
use Rattle.s_expr.proofs.Loops.{loop_stops, viewed, further, viewed_more, Ahead, loop_goes_on, loop_ends}
use Rattle.s_parse.specs.Items.{statements, statement}
use Rattle.s_parse.proofs.Blocks.{by_braces, by_items, block_seen}
use Rattle.s_parse.proofs.ItemsTakeTokens.{statement_shrinks}
use Rattle.s_parse.proofs.statement.+block.Goals as goal

pub block_at-returns-in_err-inside : goal.block_at-returns-in_err-inside
block_at-returns-in_err-inside t c =
    let a = c.args in
    record {
      reads = passed_on (λ x. x) (block a.source.now.bytes.now a.nest) a.source.now.tokens.now a.at c.from_residual.result _ (err_from_is_err_and c.from_residual.result c.from_residual.ensures.1)
          (stop_as (key kind.OpenBrace) (block a.source.now.bytes.now a.nest) a.source.now.tokens.now a.at a.at (λ w rest e. by_braces a.source.now.bytes.now a.nest (drop a.at a.source.now.tokens.now) (Refused w rest) (enclosed_shut kind.OpenBrace kind.CloseBrace (statements a.source.now.bytes.now) a.nest (drop a.at a.source.now.tokens.now) rest w e)) _ c.in_err-inside.ensures.reads);
    }

pub block_at-returns-then-nest-eq0 : goal.block_at-returns-then-nest-eq0
block_at-returns-then-nest-eq0 t c =
    let a = c.args in
    record { reads = (by_braces a.source.now.bytes.now a.nest (drop a.at a.source.now.tokens.now) _ (enclosed_deep kind.OpenBrace kind.CloseBrace (statements a.source.now.bytes.now) a.nest (drop a.at a.source.now.tokens.now) _ _ c.in_ok-inside.ensures.reads.0 c.if-nest-eq0.true), c.requires.within) }

pub block_at-returns-in_err-value : goal.block_at-returns-in_err-value
block_at-returns-in_err-value t c =
    let a = c.args in
    record {
      reads = passed_on (λ x. x) (block a.source.now.bytes.now a.nest) a.source.now.tokens.now a.at c.from_residual-in_err-value.result _ (err_from_is_err_and c.from_residual-in_err-value.result c.from_residual-in_err-value.ensures.1)
          (stop_as (statements a.source.now.bytes.now (a.nest - 1)) (block a.source.now.bytes.now a.nest) a.source.now.tokens.now c.in_ok-inside.inside a.at (λ w rest e. by_braces a.source.now.bytes.now a.nest (drop a.at a.source.now.tokens.now) (Refused w rest) (enclosed_inner kind.OpenBrace kind.CloseBrace (statements a.source.now.bytes.now) a.nest (drop a.at a.source.now.tokens.now) _ rest _ w c.in_ok-inside.ensures.reads.0 c.if-nest-eq0.false e)) _ c.in_err-value.ensures.reads);
    }

pub block_at-returns-in_err-end : goal.block_at-returns-in_err-end
block_at-returns-in_err-end t c =
    let a = c.args in
    record {
      reads = passed_on (λ x. x) (block a.source.now.bytes.now a.nest) a.source.now.tokens.now a.at c.from_residual-in_err-end.result _ (err_from_is_err_and c.from_residual-in_err-end.result c.from_residual-in_err-end.ensures.1)
          (stop_as (key kind.CloseBrace) (block a.source.now.bytes.now a.nest) a.source.now.tokens.now c.in_ok-value.end a.at (λ w rest e. by_braces a.source.now.bytes.now a.nest (drop a.at a.source.now.tokens.now) (Refused w rest) (enclosed_open kind.OpenBrace kind.CloseBrace (statements a.source.now.bytes.now) a.nest (drop a.at a.source.now.tokens.now) _ _ rest _ _ w c.in_ok-inside.ensures.reads.0 c.if-nest-eq0.false c.in_ok-value.ensures.reads.0 e)) _ c.in_err-end.ensures.reads);
    }

pub block_at-returns : goal.block_at-returns
block_at-returns t c =
    let a = c.args in
    record { reads = (by_braces a.source.now.bytes.now a.nest (drop a.at a.source.now.tokens.now) _ (enclosed_got kind.OpenBrace kind.CloseBrace (statements a.source.now.bytes.now) a.nest (drop a.at a.source.now.tokens.now) _ _ _ _ _ _ c.in_ok-inside.ensures.reads.0 c.if-nest-eq0.false c.in_ok-value.ensures.reads.0 c.in_ok-end.ensures.reads.0), c.in_ok-end.ensures.reads.1) }

pub statements_at-returns-in_err-item : goal.statements_at-returns-in_err-item
statements_at-returns-in_err-item t c =
    let a = c.args in
    let k : is kind.CloseBrace (kind_of (drop c.items.at a.source.now.tokens.now)) ≡ false = search rules in
    let g = negated (is kind.CloseBrace (kind_of (drop c.items.at a.source.now.tokens.now))) k in
    record {
      reads = passed_on (λ x. x) (statements a.source.now.bytes.now a.nest) a.source.now.tokens.now a.start c.from_residual.result _ (err_from_is_err_and c.from_residual.result c.from_residual.ensures.1)
          (stop_as (statement a.source.now.bytes.now a.nest) (statements a.source.now.bytes.now a.nest) a.source.now.tokens.now c.items.at a.start
          (λ w rest e. by_items a.source.now.bytes.now a.nest (drop a.start a.source.now.tokens.now) (Refused w rest) (image_refused block_tree (many (other_than (is kind.CloseBrace)) (statement a.source.now.bytes.now a.nest)) (drop a.start a.source.now.tokens.now) rest w (loop_stops (other_than (is kind.CloseBrace)) (statement a.source.now.bytes.now a.nest) (statement_shrinks a.source.now.bytes.now a.nest) a.source.now.tokens.now a.start (viewed statement_of c.items.items.items) c.items.at c.items.invariant g w rest e)))
          _ c.in_err-item.ensures.reads);
    }

pub statements_at-items-smaller : goal.statements_at-items-smaller
statements_at-items-smaller t c =
    let a = c.args in
    let f = further (statement a.source.now.bytes.now a.nest) (statement_shrinks a.source.now.bytes.now a.nest) a.source.now.tokens.now c.items.at c.in_ok-item.next (statement_of c.in_ok-item.item) c.in_ok-item.ensures.reads.0 c.items.invariant.fits c.in_ok-item.ensures.reads.1 in
    let l : c.in_ok-item.next ≤ length a.source.now.tokens.now = c.in_ok-item.ensures.reads.1 in
    omega (arith, f, l)

pub statements_at-items-preserved : goal.statements_at-items-preserved
statements_at-items-preserved t c =
    let a = c.args in
    let k : is kind.CloseBrace (kind_of (drop c.items.at a.source.now.tokens.now)) ≡ false = search rules in
    let g = negated (is kind.CloseBrace (kind_of (drop c.items.at a.source.now.tokens.now))) k in
    let e : viewed statement_of c.push.new.self.items ≡ viewed statement_of c.items.items.items ++ statement_of c.in_ok-item.item ∷ [] = ap (viewed statement_of) c.in_ok-push.ensures.items ∙ viewed_more statement_of c.items.items.items c.in_ok-item.item in
    subst (λ (xs : List StatementTree). Ahead (other_than (is kind.CloseBrace)) (statement a.source.now.bytes.now a.nest) a.source.now.tokens.now a.start xs c.in_ok-item.next) (sym e)
    (loop_goes_on (other_than (is kind.CloseBrace)) (statement a.source.now.bytes.now a.nest) (statement_shrinks a.source.now.bytes.now a.nest) a.source.now.tokens.now a.start (viewed statement_of c.items.items.items) c.items.at c.items.invariant g (statement_of c.in_ok-item.item) c.in_ok-item.next c.in_ok-item.ensures.reads.0 c.in_ok-item.ensures.reads.1)

pub statements_at-returns : goal.statements_at-returns
statements_at-returns t c =
    let a = c.args in
    let k : is kind.CloseBrace (kind_of (drop c.items.at a.source.now.tokens.now)) ≡ true = search rules in
    let g = turned (is kind.CloseBrace (kind_of (drop c.items.at a.source.now.tokens.now))) k in
    let xs = viewed statement_of c.items.items.items in
    let m = loop_ends (other_than (is kind.CloseBrace)) (statement a.source.now.bytes.now a.nest) a.source.now.tokens.now a.start xs c.items.at c.items.invariant g in
    let i = image_got block_tree (many (other_than (is kind.CloseBrace)) (statement a.source.now.bytes.now a.nest)) (drop a.start a.source.now.tokens.now) (drop c.items.at a.source.now.tokens.now) xs m in
    let r : block_tree xs ≡ c.new.result = block_seen c.items.items.items ∙ sym c.new.ensures.value in
    record { reads = (by_items a.source.now.bytes.now a.nest (drop a.start a.source.now.tokens.now) _ i ∙ ap (λ (b : BlockTree). Got b (drop c.items.at a.source.now.tokens.now)) r, c.items.invariant.fits) }
