use Rattle.std.proofs.Common.{rules, ◌≡◌, ◌<◌, ◌+◌, ◌∙◌, ℕ, length, drop, ap, arith, sym, List}
use Rattle.std.specs.Prelude.{max}
use Rattle.std.specs.Ordering.{ord_max, nat_cmp}
use Rattle.s_syntax.specs.declared.operators.BinaryOperator.{BinaryOperator}
use Rattle.s_syntax.specs.declared.expr.Node.{Node}
use Rattle.s_syntax.specs.ExprOf.{expr_of}
use Rattle.s_syntax.specs.ExprTree.{ExprTree, exprs, height, height_exprs}
use Rattle.s_check.specs.Rules.{count}
use Rattle.s_check.specs.Size.{expr_size, exprs_size}
use Rattle.s_code.specs.Temporaries.{high, high_args, high_aside}
use Rattle.lists.proofs.Lists.{cell}
use Rattle.s_syntax.proofs.Children.{height_at, operand_at}
use Rattle.s_code.proofs.Sizes.{item_size, operand_size, some_size, length_within, count_exprs}
use Rattle.s_code.proofs.temporaries.+expressions.Goals as goal

greater : (a b : ℕ) → ord_max nat_cmp a b ≡ max a b
greater a b = search rules

pub high_args-high-requires : goal.high_args-high-requires
high_args-high-requires t c =
    let h : c.loop-item.item-index < length c.args.items.now = c.loop-item-test.true in
    let q = height_at c.args.items.now c.loop-item.item-index c.item-item.result h in
    let e = ap height c.item-item.is in
    let s = item_size c.args.items.now c.loop-item.item-index c.item-item.result h c.item-item.is in
    let r = c.loop-item.invariant.room in
    (omega (arith, q, e, c.decreases), omega (arith, s, r))

pub high_aside-high-requires : goal.high_aside-high-requires
high_aside-high-requires t c =
    let h : c.loop-item.item-index < length c.args.items.now = c.loop-item-test.true in
    let q = height_at c.args.items.now c.loop-item.item-index c.item-item.result h in
    let e = ap height c.item-item.is in
    let s = item_size c.args.items.now c.loop-item.item-index c.item-item.result h c.item-item.is in
    let r = c.loop-item.invariant.room in
    (omega (arith, q, e, c.decreases), omega (arith, s, r))

pub high_operands-high-requires : goal.high_operands-high-requires
high_operands-high-requires t c =
    let h : c.loop-item.item-index < length c.args.rest.now = c.loop-item-test.true in
    let q = operand_at c.args.rest.now c.loop-item.item-index c.item-item.result h in
    let e = ap (λ (p : BinaryOperator × ExprTree). height p.1) c.item-item.is in
    let s = operand_size c.args.rest.now c.loop-item.item-index c.item-item.result h c.item-item.is in
    let r = c.loop-item.invariant.room in
    (omega (arith, q, e, c.decreases), omega (arith, s, r))

pub high_aside-loop-item-preserved : goal.high_aside-loop-item-preserved
high_aside-loop-item-preserved t c =
    let items = c.args.items.now in
    let i = c.loop-item.item-index in
    let x = c.item-item.result in
    let s = item_size items i x c.loop-item-test.true c.item-item.is in
    let r = c.loop-item.invariant.room in
    let o = some_size x in
    let e : high_aside c.loop-item.next (exprs (drop i items)) ≡ max (high c.loop-item.next x) (high_aside (c.loop-item.next + 1) (exprs (drop (i + 1) items))) = ap (λ (es : List ExprTree). high_aside c.loop-item.next (exprs es)) (cell items i x c.loop-item-test.true c.item-item.is) in
    let m : c.max-most.result ≡ max c.loop-item.most c.high.result = c.max-most.ensures ∙ greater c.loop-item.most c.high.result in
    let h : c.high.result ≡ high c.loop-item.next x = c.high.ensures.value in
    let n : max c.loop-item.most (high_aside c.loop-item.next (exprs (drop i items))) ≡ high_aside c.args.used (exprs items) = c.loop-item.invariant.most in
    record { most = omega (arith, e, m, h, n); room = omega (arith, s, r, o) }

pub high_node-overflow_cast-len : goal.high_node-overflow_cast-len
high_node-overflow_cast-len t c = let e = ap (λ (n : Node). expr_size (expr_of n)) c.in-Handle.is in let l = length_within c.in-Handle.arguments.items in let n = c.len.ensures in let r = c.requires in omega (arith, e, l, n, r)

pub high_node-overflow_add-used : goal.high_node-overflow_add-used
high_node-overflow_add-used t c = let e = ap (λ (n : Node). expr_size (expr_of n)) c.in-Handle.is in let l = length_within c.in-Handle.arguments.items in let n = c.len.ensures in let r = c.requires in omega (arith, e, l, n, r)

pub high_node-high_args-requires-in-Handle : goal.high_node-high_args-requires-in-Handle
high_node-high_args-requires-in-Handle t c =
    let e = ap (λ (n : Node). expr_size (expr_of n)) c.in-Handle.is in
    let h = ap (λ (n : Node). height (expr_of n)) c.in-Handle.is in
    let l = length_within c.in-Handle.arguments.items in
    let n = c.len.ensures in
    let r = c.requires in
    let p = ap (λ (es : List ExprTree). exprs_size (exprs es)) c.as_slice-in-Handle-2.ensures.value in
    let q = ap (λ (es : List ExprTree). height_exprs (exprs es)) c.as_slice-in-Handle-2.ensures.value in
    (omega (arith, h, q, c.decreases), omega (arith, e, l, n, r, p))

pub high_node-returns-in-Handle : goal.high_node-returns-in-Handle
high_node-returns-in-Handle t c =
    let args = c.in-Handle.arguments.items in
    let ps = c.in-Handle.parameters.items in
    let n = c.len.ensures ∙ c.in-Handle.arguments.ok.0 ∙ sym (count_exprs args) in
    let a = c.high_aside-aside.ensures.value ∙ ap (λ (es : List ExprTree). high_aside c.args.used (exprs es)) c.as_slice-in-Handle.ensures.value in
    let p = c.high_args-in-Handle.ensures.value
    ∙ ap (λ (k : ℕ). high_args (c.args.used + k) (exprs c.as_slice-in-Handle-2.result.now)) n
    ∙ ap (λ (es : List ExprTree). high_args (c.args.used + count (exprs args)) (exprs es)) c.as_slice-in-Handle-2.ensures.value in
    record {
      value = c.max-in-Handle.ensures ∙ ap (λ (k : ℕ). max k c.high_args-in-Handle.result) a ∙ ap (λ (k : ℕ). max (high_aside c.args.used (exprs args)) k) p
          ∙ sym (ap (λ (m : Node). high c.args.used (expr_of m)) c.in-Handle.is);
    }
