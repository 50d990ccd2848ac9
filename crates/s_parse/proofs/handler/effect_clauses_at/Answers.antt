use Rattle.std.proofs.Common.{◌≡◌, ◌≤◌, true, false, List, length, drop, sym, subst, arith, rules}
use Rattle.std.proofs.lemmas.Result.{err_from_is_err_and}
use Rattle.s_syntax.specs.declared.token.Kind.TheVariants as kind
use Rattle.s_grammar.specs.Kinds.{is, kind_of}
use Rattle.s_grammar.specs.Reads.{clause}
use Rattle.s_expr.proofs.BetweenBrackets.{passed_on, stop_as}
use Rattle.s_expr.proofs.Loops.{loop_stops, further, Ahead, loop_goes_on, loop_ends}
use Rattle.s_parse.specs.Items.{effect_clauses}
use Rattle.s_parse.proofs.ItemsTakeTokens.{clause_shrinks}
use Rattle.s_parse.proofs.handler.effect_clauses_at.Goals as goal

pub returns-in_err-item : goal.returns-in_err-item
unfolding effect_clauses
returns-in_err-item c =
    let a = c.args in
    let g : is kind.On (kind_of (drop c.items.at a.source.now.tokens.now)) ≡ true = search rules in
    record {
      reads = passed_on (λ x. x) (effect_clauses a.source.now.bytes.now a.nest) a.source.now.tokens.now a.start c.from_residual.result _ (err_from_is_err_and c.from_residual.result c.from_residual.ensures.1)
          (stop_as (clause a.source.now.bytes.now a.nest) (effect_clauses a.source.now.bytes.now a.nest) a.source.now.tokens.now c.items.at a.start (λ w rest e. loop_stops (is kind.On) (clause a.source.now.bytes.now a.nest) (clause_shrinks a.source.now.bytes.now a.nest) a.source.now.tokens.now a.start c.items.items c.items.at c.items.invariant g w rest e) _ c.in_err-item.ensures.reads);
    }

pub items-smaller : goal.items-smaller
items-smaller c =
    let a = c.args in
    let f = further (clause a.source.now.bytes.now a.nest) (clause_shrinks a.source.now.bytes.now a.nest) a.source.now.tokens.now c.items.at c.in_ok-item.next c.in_ok-item.item c.in_ok-item.ensures.reads.0 c.items.invariant.fits c.in_ok-item.ensures.reads.1 in
    let l : c.in_ok-item.next ≤ length a.source.now.tokens.now = c.in_ok-item.ensures.reads.1 in
    omega (arith, f, l)

pub items-preserved : goal.items-preserved
items-preserved c =
    let a = c.args in
    let g : is kind.On (kind_of (drop c.items.at a.source.now.tokens.now)) ≡ true = search rules in
    subst (λ (xs : List _). Ahead (is kind.On) (clause a.source.now.bytes.now a.nest) a.source.now.tokens.now a.start xs c.in_ok-item.next) (sym c.in_ok-push.ensures.ok)
    (loop_goes_on (is kind.On) (clause a.source.now.bytes.now a.nest) (clause_shrinks a.source.now.bytes.now a.nest) a.source.now.tokens.now a.start c.items.items c.items.at c.items.invariant g c.in_ok-item.item c.in_ok-item.next c.in_ok-item.ensures.reads.0 c.in_ok-item.ensures.reads.1)

pub returns : goal.returns
unfolding effect_clauses
returns c =
    let a = c.args in
    let g : is kind.On (kind_of (drop c.items.at a.source.now.tokens.now)) ≡ false = search rules in
    record { reads = (loop_ends (is kind.On) (clause a.source.now.bytes.now a.nest) a.source.now.tokens.now a.start c.items.items c.items.at c.items.invariant g, c.items.invariant.fits) }
