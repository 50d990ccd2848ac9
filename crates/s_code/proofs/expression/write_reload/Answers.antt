use Rattle.std.proofs.Common.{◌∙◌, ◌+◌, ◌++◌, ℕ, List, drop, sym, ap, arith}
use Rattle.w_syntax.specs.Code.{Plain}
use Rattle.w_syntax.specs.Expr.{tokens}
use Rattle.s_syntax.specs.ExprTree.{ExprTree, exprs}
use Rattle.s_code.specs.Expressions.{reload}
use Rattle.s_code.specs.Instructions.{local_get}
use Rattle.lists.proofs.Lists.{cell}
use Rattle.s_code.proofs.Sizes.{item_size, some_size}
use Rattle.s_code.proofs.expression.write_reload.Goals as goal

pub loop-item-preserved : goal.loop-item-preserved
loop-item-preserved c =
    let items = c.args.items.now in
    let i = c.loop-item.item-index in
    let x = c.item-item.result in
    let s = item_size items i x c.loop-item-test.true c.item-item.is in
    let r = c.loop-item.invariant.room in
    let o = some_size x in
    record {
      writes = λ k.
          c.loop-item.invariant.writes k
          ∙ ap (λ (es : List ExprTree). c.loop-item.out.items ++ tokens (reload c.args.layout.now c.loop-item.next (exprs es) k)) (cell items i x c.loop-item-test.true c.item-item.is)
          ∙ ap (λ (n : ℕ). c.loop-item.out.items ++ tokens (Plain (local_get n) (reload c.args.layout.now (c.loop-item.next + 1) (exprs (drop (i + 1) items)) k))) (sym c.slot.ensures.value)
          ∙ c.in_ok-write_get.ensures.writes (reload c.args.layout.now (c.loop-item.next + 1) (exprs (drop (i + 1) items)) k);
      room = omega (arith, s, r, o);
    }
