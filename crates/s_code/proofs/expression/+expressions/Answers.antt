use Rattle.std.proofs.Common.{◌<◌, ◌+◌, ◌∙◌, ◌++◌, ℕ, List, length, drop, refl, ap, arith, sym, subst}
use Rattle.std.proofs.lemmas.Result.{on_ok_weaker}
use Rattle.w_types.specs.declared.types.ValType.TheVariants.{I64}
use Rattle.w_syntax.specs.declared.instructions.BlockType.TheVariants as block
use Rattle.w_syntax.specs.Code.{Done}
use Rattle.w_syntax.specs.Expr.{tokens}
use Rattle.s_syntax.specs.declared.operators.BinaryOperator.{BinaryOperator}
use Rattle.s_syntax.specs.declared.operators.Connective.{Connective}
use Rattle.s_syntax.specs.declared.expr.Node.{Node}
use Rattle.s_syntax.specs.ExprOf.{expr_of}
use Rattle.s_syntax.specs.ExprTree.{ExprTree, exprs, height, height_exprs}
use Rattle.s_check.specs.Size.{expr_size, exprs_size}
use Rattle.s_code.specs.Instructions.{connective, truth}
use Rattle.s_code.specs.Expressions as code
use Rattle.s_code.specs.Writes.{Writes}
use Rattle.lists.proofs.Lists.{cell}
use Rattle.s_syntax.proofs.Children.{height_at, operand_at}
use Rattle.s_code.proofs.Sizes.{item_size, operand_size, some_size, length_within}
use Rattle.s_code.proofs.WrittenBehind.{branches_at}
use Rattle.s_code.proofs.HandlesWritten.{handle_written, resume_written}
use Rattle.s_code.proofs.expression.+expressions.Goals as goal

pub write_args-write_expr-requires : goal.write_args-write_expr-requires
write_args-write_expr-requires t c =
    let h : c.loop-item.item-index < length c.args.items.now = c.loop-item-test.true in
    let q = height_at c.args.items.now c.loop-item.item-index c.item-item.result h in
    let e = ap height c.item-item.is in
    let s = item_size c.args.items.now c.loop-item.item-index c.item-item.result h c.item-item.is in
    let r = c.loop-item.invariant.room in
    (omega (arith, q, e, c.decreases), omega (arith, s, r))

pub write_aside-write_one_aside-requires : goal.write_aside-write_one_aside-requires
write_aside-write_one_aside-requires t c =
    let h : c.loop-item.item-index < length c.args.items.now = c.loop-item-test.true in
    let q = height_at c.args.items.now c.loop-item.item-index c.item-item.result h in
    let e = ap height c.item-item.is in
    let s = item_size c.args.items.now c.loop-item.item-index c.item-item.result h c.item-item.is in
    let r = c.loop-item.invariant.room in
    (omega (arith, q, e, c.decreases), omega (arith, s, r))

pub write_operands-write_operand-requires : goal.write_operands-write_operand-requires
write_operands-write_operand-requires t c =
    let h : c.loop-item.item-index < length c.args.rest.now = c.loop-item-test.true in
    let q = operand_at c.args.rest.now c.loop-item.item-index c.item-item.result h in
    let e = ap (λ (p : BinaryOperator × ExprTree). height p.1) c.item-item.is in
    let s = operand_size c.args.rest.now c.loop-item.item-index c.item-item.result h c.item-item.is in
    let r = c.loop-item.invariant.room in
    (omega (arith, q, e, c.decreases), omega (arith, s, r))

pub write_aside-loop-item-preserved : goal.write_aside-loop-item-preserved
write_aside-loop-item-preserved t c =
    let items = c.args.items.now in
    let i = c.loop-item.item-index in
    let x = c.item-item.result in
    let s = item_size items i x c.loop-item-test.true c.item-item.is in
    let r = c.loop-item.invariant.room in
    let o = some_size x in
    record {
      writes = λ k.
          c.loop-item.invariant.writes k
          ∙ ap (λ (es : List ExprTree). c.loop-item.out.items ++ tokens (code.set_aside c.args.program.now c.args.layout.now c.loop-item.next (exprs es) k)) (cell items i x c.loop-item-test.true c.item-item.is)
          ∙ c.in_ok-write_one_aside.ensures.writes (code.set_aside c.args.program.now c.args.layout.now (c.loop-item.next + 1) (exprs (drop (i + 1) items)) k);
      room = omega (arith, s, r, o);
    }

pub write_connective-returns-in_ok-write_token-in-And-2 : goal.write_connective-returns-in_ok-write_token-in-And-2
write_connective-returns-in_ok-write_token-in-And-2 t c = record {
  writes = λ k.
      let right = code.expr c.args.program.now c.args.layout.now c.args.used c.args.right.now truth in
      subst (λ (o : Connective). Writes c.args.out.now.items (connective o right k) c.write_token-in-And-2.new.out.items k) (sym c.in-And.is)
      (c.in_ok-write_numeric.ensures.writes _
      ∙ branches_at _ _ _ _ _ _ (block.Value I64) _ right k c.in_ok-write_token.ensures.token (c.in_ok-write_numeric-in-And.ensures.writes Done) c.in_ok-write_token-in-And.ensures.token
      (c.in_ok-write_expr-in-And.ensures.writes truth ∙ c.in_ok-write_truth-in-And.ensures.writes) c.in_ok-write_token-in-And-2.ensures.token);
}

pub write_connective-returns-in_ok-write_token-in-Or-2 : goal.write_connective-returns-in_ok-write_token-in-Or-2
write_connective-returns-in_ok-write_token-in-Or-2 t c = record {
  writes = λ k.
      let right = code.expr c.args.program.now c.args.layout.now c.args.used c.args.right.now truth in
      subst (λ (o : Connective). Writes c.args.out.now.items (connective o right k) c.write_token-in-Or-2.new.out.items k) (sym c.in-Or.is)
      (c.in_ok-write_numeric.ensures.writes _
      ∙ branches_at _ _ _ _ _ _ (block.Value I64) right _ k c.in_ok-write_token.ensures.token (c.in_ok-write_expr-in-Or.ensures.writes truth ∙ c.in_ok-write_truth-in-Or.ensures.writes) c.in_ok-write_token-in-Or.ensures.token
      (c.in_ok-write_numeric-in-Or.ensures.writes Done) c.in_ok-write_token-in-Or-2.ensures.token);
}

-- ## A handle, and a resume

pub write_node-overflow_cast-next : goal.write_node-overflow_cast-next
write_node-overflow_cast-next t c =
    let e = ap (λ (n : Node). expr_size (expr_of n)) c.in-Handle.is in
    let l = length_within c.in-Handle.arguments.items in
    let v = ap (λ (es : List ExprTree). length es) c.as_slice-arguments.ensures.value in
    let r = c.requires in
    omega (arith, e, l, v, r)

pub write_node-overflow_add-next : goal.write_node-overflow_add-next
write_node-overflow_add-next t c =
    let e = ap (λ (n : Node). expr_size (expr_of n)) c.in-Handle.is in
    let l = length_within c.in-Handle.arguments.items in
    let v = ap (λ (es : List ExprTree). length es) c.as_slice-arguments.ensures.value in
    let r = c.requires in
    omega (arith, e, l, v, r)

pub write_node-write_args-requires-in-Handle : goal.write_node-write_args-requires-in-Handle
write_node-write_args-requires-in-Handle t c =
    let e = ap (λ (n : Node). expr_size (expr_of n)) c.in-Handle.is in
    let h = ap (λ (n : Node). height (expr_of n)) c.in-Handle.is in
    let l = length_within c.in-Handle.arguments.items in
    let v = ap (λ (es : List ExprTree). length es) c.as_slice-arguments.ensures.value in
    let r = c.requires in
    let p = ap (λ (es : List ExprTree). exprs_size (exprs es)) c.as_slice-in-Handle.ensures.value in
    let q = ap (λ (es : List ExprTree). height_exprs (exprs es)) c.as_slice-in-Handle.ensures.value in
    (omega (arith, h, q, c.decreases), omega (arith, e, l, v, r, p))

pub write_node-returns-in_ok-write_begin-in-Handle : goal.write_node-returns-in_ok-write_begin-in-Handle
write_node-returns-in_ok-write_begin-in-Handle t c = record {
  writes = on_ok_weaker c.write_control-in-Handle.result (λ last k.
      ap (λ (n : Node). c.args.out.now.items ++ tokens (code.expr c.args.program.now c.args.layout.now c.args.used (expr_of n) k)) c.in-Handle.is
      ∙ handle_written c.args.program.now c.args.layout.now c.args.used _ _ _ _ _ _ _ _ _ _ _ _ _ _ c.as_slice-arguments.ensures.value c.as_slice-in-Handle.ensures.value refl c.handler_index.ensures.value
      c.in_ok-write_aside-in-Handle.ensures.writes c.in_ok-write_args-in-Handle.ensures.writes c.in_ok-write_reload-in-Handle.ensures.writes c.in_ok-write_begin-in-Handle.ensures.writes last k) c.write_control-in-Handle.ensures.writes;
}

pub write_node-returns-in_ok-write_wake-in-Resume : goal.write_node-returns-in_ok-write_wake-in-Resume
write_node-returns-in_ok-write_wake-in-Resume t c = record {
  writes = on_ok_weaker c.write_control-in-Resume.result (λ last k.
      ap (λ (n : Node). c.args.out.now.items ++ tokens (code.expr c.args.program.now c.args.layout.now c.args.used (expr_of n) k)) c.in-Resume.is
      ∙ resume_written c.args.program.now c.args.layout.now c.args.used _ _ _ _ _ _ _ _ _ _ _ _ _ _ c.deref-in-Resume.ensures c.as_slice-in-Resume.ensures.value (ap (λ (n : ℕ). n + c.args.used) c.temporaries.ensures.value) c.handler_index-in-Resume.ensures.value
      c.in_ok-write_expr-in-Resume.ensures.writes c.in_ok-write_set-in-Resume.ensures.writes c.in_ok-write_args-in-Resume.ensures.writes c.in_ok-write_get-in-Resume.ensures.writes c.in_ok-write_wake-in-Resume.ensures.writes last k) c.write_control-in-Resume.ensures.writes;
}
