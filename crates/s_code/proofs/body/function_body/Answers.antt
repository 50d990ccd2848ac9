use Rattle.std.proofs.lemmas.Result.{IfOk-weaker}
use Rattle.s_code.specs.Statements.{body}
use Rattle.s_code.proofs.WrittenBehind.{all_written}
use Rattle.s_code.proofs.body.function_body.Goals as goal

pub body_of-requires : goal.body_of-requires
body_of-requires c = (body c.args.program.now c.args.layout.now 0 c.args.body.now, all_written _ _ _ c.new-tokens.ensures.items c.in_ok-write_body.ensures.writes)

pub returns : goal.returns
returns c = record {
  value = IfOk-weaker c.body_of.result _ _ (λ made h. h (body c.args.program.now c.args.layout.now 0 c.args.body.now) (all_written _ _ _ c.new-tokens.ensures.items c.in_ok-write_body.ensures.writes)) c.body_of.ensures.value;
}
