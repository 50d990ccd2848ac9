use Rattle.std.proofs.Common.{◌≡◌, ◌≤◌, true, false, List, length, drop, sym, ap, ◌∙◌, arith, rules}
use Rattle.std.proofs.lemmas.Result.{err_from_is_err_and}
use Rattle.s_syntax.specs.declared.token.Kind.TheVariants as kind
use Rattle.s_grammar.specs.Kinds.{is, kind_of}
use Rattle.s_grammar.specs.Reading.{Got}
use Rattle.s_grammar.specs.Reads.{listed, led}
use Rattle.s_expr.proofs.BetweenBrackets.{passed_on, stop_as}
use Rattle.s_expr.proofs.ListsWithCommas.{listed_empty, listed_first, listed_stops, listed_goes_on, listed_got}
use Rattle.s_expr.proofs.Loops.{further}
use Rattle.s_parse.proofs.ItemsTakeTokens.{takes_shrinks}
use Rattle.s_parse.proofs.listed.items_at.Goals as goal

pub returns-then-is_kind : goal.returns-then-is_kind
returns-then-is_kind g c =
    let a = c.args in
    let r = g.T.Item.reading a.source.now.bytes.now in
    let here : is kind.CloseParenthesis (kind_of (drop a.start a.source.now.tokens.now)) ≡ true = search rules in
    record { reads = (listed_empty r (drop a.start a.source.now.tokens.now) here ∙ ap (λ (l : List _). Got l (drop a.start a.source.now.tokens.now)) (sym c.new-items.ensures), c.requires.within) }

pub returns-in_err-first : goal.returns-in_err-first
returns-in_err-first g c =
    let a = c.args in
    let r = g.T.Item.reading a.source.now.bytes.now in
    let here : is kind.CloseParenthesis (kind_of (drop a.start a.source.now.tokens.now)) ≡ false = search rules in
    record {
      reads = passed_on (λ x. x) (listed r) a.source.now.tokens.now a.start c.from_residual.result _ (err_from_is_err_and c.from_residual.result c.from_residual.ensures.1)
          (stop_as r (listed r) a.source.now.tokens.now a.start a.start (λ w rest e. listed_first r (drop a.start a.source.now.tokens.now) rest w here e) _ c.in_err-first.ensures.reads);
    }

pub returns-in_err-item : goal.returns-in_err-item
returns-in_err-item g c =
    let a = c.args in
    let r = g.T.Item.reading a.source.now.bytes.now in
    let here : is kind.Comma (kind_of (drop c.items.at a.source.now.tokens.now)) ≡ true = search rules in
    record {
      reads = passed_on (λ x. x) (listed r) a.source.now.tokens.now a.start c.from_residual-in_err-item.result _ (err_from_is_err_and c.from_residual-in_err-item.result c.from_residual-in_err-item.ensures.1)
          (stop_as (led kind.Comma r) (listed r) a.source.now.tokens.now c.items.at a.start (λ w rest e. listed_stops r (takes_shrinks (led kind.Comma r) (g.met.T.Item.takes a.source.now.bytes.now)) a.source.now.tokens.now a.start c.items.items c.items.at c.items.invariant here w rest e) _ c.in_err-item.ensures.reads);
    }

pub items-smaller : goal.items-smaller
items-smaller g c =
    let a = c.args in
    let r = g.T.Item.reading a.source.now.bytes.now in
    let f = further (led kind.Comma r) (takes_shrinks (led kind.Comma r) (g.met.T.Item.takes a.source.now.bytes.now)) a.source.now.tokens.now c.items.at c.in_ok-item.next c.in_ok-item.item c.in_ok-item.ensures.reads.0 c.items.invariant.ahead.fits c.in_ok-item.ensures.reads.1 in
    let l : c.in_ok-item.next ≤ length a.source.now.tokens.now = c.in_ok-item.ensures.reads.1 in
    omega (arith, f, l)

pub items-preserved : goal.items-preserved
items-preserved g c =
    let a = c.args in
    let r = g.T.Item.reading a.source.now.bytes.now in
    let here : is kind.Comma (kind_of (drop c.items.at a.source.now.tokens.now)) ≡ true = search rules in
    listed_goes_on r (takes_shrinks (led kind.Comma r) (g.met.T.Item.takes a.source.now.bytes.now)) a.source.now.tokens.now a.start c.items.items c.items.at c.items.invariant here c.in_ok-item.item c.in_ok-item.next c.in_ok-item.ensures.reads.0 c.in_ok-item.ensures.reads.1 c.push-in-items.new.self c.in_ok-push-2.ensures.ok

pub returns : goal.returns
returns g c =
    let a = c.args in
    let r = g.T.Item.reading a.source.now.bytes.now in
    let here : is kind.Comma (kind_of (drop c.items.at a.source.now.tokens.now)) ≡ false = search rules in
    record { reads = (listed_got r a.source.now.tokens.now a.start c.items.items c.items.at c.items.invariant here, c.items.invariant.ahead.fits) }
