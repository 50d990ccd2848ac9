use Rattle.std.proofs.lemmas.Result.{IfOk-weaker}
use Rattle.w_types.specs.declared.types.ValType.TheVariants.{I64}
use Rattle.w_syntax.specs.declared.instructions.BlockKind.TheVariants as kind
use Rattle.w_syntax.specs.declared.instructions.BlockType.TheVariants as block_type
use Rattle.w_syntax.specs.Code.{Done}
use Rattle.s_code.specs.Clauses.{placed_all}
use Rattle.s_code.specs.Handlers.{handler_body}
use Rattle.s_code.proofs.WrittenBehind.{all_written, block_at}
use Rattle.s_code.proofs.handler.handler_body.Goals as goal

pub body_of-requires : goal.body_of-requires
body_of-requires c = (
  handler_body c.args.program.now c.args.layout.now c.args.handler.now (placed_all c.args.placed.now),
  all_written _ _ _ c.new-tokens.ensures.items (block_at c.new-tokens.result.items c.push.new.self.items c.write_turn.new.out.items c.push-2.new.self.items kind.Loop (block_type.Value I64) _ Done c.in_ok-push.ensures.items c.in_ok-write_turn.ensures.writes c.in_ok-push-2.ensures.items),
)

pub returns : goal.returns
returns c = record {
  value = IfOk-weaker c.body_of.result _ _ (λ made h. h (handler_body c.args.program.now c.args.layout.now c.args.handler.now (placed_all c.args.placed.now))
      (all_written _ _ _ c.new-tokens.ensures.items (block_at c.new-tokens.result.items c.push.new.self.items c.write_turn.new.out.items c.push-2.new.self.items kind.Loop (block_type.Value I64) _ Done c.in_ok-push.ensures.items c.in_ok-write_turn.ensures.writes c.in_ok-push-2.ensures.items)))
      c.body_of.ensures.value;
}
