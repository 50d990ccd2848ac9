use Rattle.w_call_ops.proofs.FrameRoom.{both_ok}
use Rattle.std.proofs.Common.{ℕ, ◌+◌, drop, subst, arith}
use Rattle.std.proofs.lemmas.Result.{on_ok_weaker}
use Rattle.w_call_ops.specs.Entering.{IsEntered}
use Rattle.w_call_ops.proofs.OwnCalls.{call_there, call_place, call_follows}
use Rattle.w_call_ops.proofs.calls.call_own.Goals as goal

pub overflow_add-back : goal.overflow_add-back
overflow_add-back c =
    let h = call_place c.args.program.now c.args.store.now c.args.stack.now c.args.address c.args.popped c.args.function c.requires.call c.requires.own in
    omega (arith, h, c.place-back.ensures.value)

pub enter-requires-clause-there : goal.enter-requires-clause-there
enter-requires-clause-there c = call_there c.args.program.now c.args.store.now c.args.stack.now c.args.address c.args.popped c.args.function c.requires.call c.requires.own

pub returns-clause-goes : goal.returns-clause-goes
returns-clause-goes c =
    let s = c.args.stack.now in
    on_ok_weaker c.enter.result
    (λ h. call_follows c.args.program.now c.args.store.now s c.args.address c.args.popped c.args.function c.requires.call c.requires.own c.enter.new.stack
    (subst (λ (b : ℕ). IsEntered c.args.program.now c.args.function (b + 1) (drop c.args.popped s.operands) s c.enter.new.stack) c.place-back.ensures.value h.0) h.1)
    (both_ok _ _ c.enter.result c.enter.ensures.after c.enter.ensures.room)
