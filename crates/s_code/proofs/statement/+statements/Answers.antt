use Rattle.std.proofs.Common.{◌<◌, ◌+◌, ◌∙◌, length, ap, arith}
use Rattle.w_syntax.specs.declared.instructions.BlockKind.TheVariants as kind
use Rattle.w_syntax.specs.declared.instructions.BlockType.TheVariants as block_type
use Rattle.w_syntax.specs.Code.{Done, Plain}
use Rattle.s_syntax.specs.BlockTree.{depth, depth_within}
use Rattle.s_syntax.specs.BlockOf.{statement_of}
use Rattle.s_code.specs.Instructions.{branch}
use Rattle.s_code.specs.Statements as code
use Rattle.s_syntax.proofs.Children.{depth_at}
use Rattle.s_code.proofs.Sizes.{some_size, statement_room}
use Rattle.s_code.proofs.WrittenBehind.{block_at, branches_at}
use Rattle.s_code.proofs.statement.+statements.Goals as goal

pub write_block-write_statement-requires : goal.write_block-write_statement-requires
write_block-write_statement-requires t c =
    let ss = c.statements-statement-items.result.now in
    let h : c.loop-statement.statement-index < length ss = c.loop-statement-test.true in
    let d = depth_at ss c.loop-statement.statement-index c.statement-item.result h in
    let e = ap (λ s. depth_within (statement_of s)) c.statement-item.is in
    let b = ap depth c.loop-statement.invariant.seen in
    let s = statement_room ss c.loop-statement.statement-index c.statement-item.result h c.statement-item.is in
    let r = c.loop-statement.invariant.room in
    (omega (arith, d, e, b, c.decreases), omega (arith, s, r))

pub write_if-returns : goal.write_if-returns
write_if-returns t c = record {
  writes = λ k.
      c.in_ok-write_expr.ensures.writes _ ∙ c.in_ok-write_numeric.ensures.writes _
      ∙ branches_at _ _ _ _ _ _ block_type.Empty (code.block c.args.program.now c.args.layout.now (c.args.labels + 1) c.args.else_block.now Done) (code.block c.args.program.now c.args.layout.now (c.args.labels + 1) c.args.then_block.now Done) k
      c.in_ok-write_token.ensures.token (c.in_ok-write_block.ensures.writes Done) c.in_ok-write_token-2.ensures.token (c.in_ok-write_block-2.ensures.writes Done) c.in_ok-write_token-3.ensures.token;
}

pub write_while-write_block-requires : goal.write_while-write_block-requires
write_while-write_block-requires t c = let s = some_size c.args.condition.now in let r = c.requires in (omega (arith, c.decreases), omega (arith, s, r))

pub write_while-returns : goal.write_while-returns
write_while-returns t c = record {
  writes = λ k.
      block_at c.args.out.now.items c.write_token.new.out.items c.write_token-3.new.out.items c.write_token-4.new.out.items kind.Block block_type.Empty _ k c.in_ok-write_token.ensures.token
      (block_at c.write_token.new.out.items c.write_token-2.new.out.items c.write_control-2.new.out.items c.write_token-3.new.out.items kind.Loop block_type.Empty _ Done c.in_ok-write_token-2.ensures.token
      (c.in_ok-write_expr.ensures.writes _ ∙ c.in_ok-write_numeric.ensures.writes _ ∙ c.in_ok-write_control.ensures.writes _ ∙ c.in_ok-write_block.ensures.writes (Plain (branch 0) Done) ∙ c.in_ok-write_control-2.ensures.writes Done)
      c.in_ok-write_token-3.ensures.token)
      c.in_ok-write_token-4.ensures.token;
}
