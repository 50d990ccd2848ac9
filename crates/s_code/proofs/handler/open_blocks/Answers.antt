use Rattle.std.proofs.Common.{◌∙◌, ◌∷◌, ◌++◌, [], ℕ, ap}
use Rattle.w_syntax.specs.declared.instructions.BlockKind.TheVariants as kind
use Rattle.w_syntax.specs.declared.instructions.BlockType.TheVariants as block_type
use Rattle.w_syntax.specs.declared.instructions.Token.TheVariants as tok
use Rattle.s_index.specs.Indices.{clause_type_index}
use Rattle.s_code.proofs.Blocks.{opened_more}
use Rattle.s_code.proofs.handler.open_blocks.Goals as goal

pub loop-behind-preserved : goal.loop-behind-preserved
loop-behind-preserved c =
    opened_more c.args.program.now c.args.all.now c.loop-behind.behind c.index-all-all.result c.args.out.now.items c.loop-behind.out.items c.write_token.new.out.items c.loop-behind-test.true c.index-all-all.is
    (c.in_ok-write_token.ensures.token
    ∙ ap (λ (n : ℕ). c.loop-behind.out.items ++ tok.Block kind.Block (block_type.Index n) ∷ []) (c.in_ok-index.ensures.value ∙ ap (λ (n : ℕ). clause_type_index c.args.program.now n) c.len.ensures))
    c.loop-behind.invariant
