use Rattle.w_call_ops.proofs.FrameRoom.{both_ok}
use Rattle.std.proofs.lemmas.Result.{on_ok_weaker}
use Rattle.w_call_ops.proofs.Invocations.{invoke_there, invoke_follows}
use Rattle.w_call_ops.proofs.calls.invoke_own.Goals as goal

pub enter-requires-clause-there : goal.enter-requires-clause-there
enter-requires-clause-there c = invoke_there c.args.program.now c.args.store.now c.args.stack.now c.args.function c.requires.invoke c.requires.own

pub returns-clause-goes : goal.returns-clause-goes
returns-clause-goes c =
    on_ok_weaker c.enter.result
    (λ h. invoke_follows c.args.program.now c.args.store.now c.args.stack.now c.args.function c.requires.invoke c.requires.own c.enter.new.stack h.0 h.1)
    (both_ok _ _ c.enter.result c.enter.ensures.after c.enter.ensures.room)
