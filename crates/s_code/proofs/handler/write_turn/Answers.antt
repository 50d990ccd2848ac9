use Rattle.std.proofs.lemmas.Result.{on_ok_weaker}
use Rattle.s_code.specs.Clauses.{placed_all}
use Rattle.s_code.specs.Handlers.{handling}
use Rattle.s_code.proofs.Blocks.{blocks_written}
use Rattle.s_code.proofs.handler.write_turn.Goals as goal

pub returns : goal.returns
returns c = record {
  writes = on_ok_weaker c.close_blocks.result (λ closed.
      blocks_written c.args.program.now (placed_all c.args.placed.now) (handling c.args.program.now c.args.layout.now c.args.handler.now) c.args.out.now.items c.open_blocks.new.out.items c.write_handling.new.out.items c.close_blocks.new.out.items c.in_ok-open_blocks.ensures.opens c.in_ok-write_handling.ensures.writes closed) c.close_blocks.ensures.closes;
}
