use Rattle.std.proofs.Common.{refl, sym, subst, []}
use Rattle.w_syntax.specs.declared.module.Module.{Module}
use Rattle.w_stands.specs.Steps.{Follows}
use Rattle.w_call_ops.specs.Calling.{TailCalls}
use Rattle.w_stands.specs.declared.did.Did.TheVariants as did
use Rattle.w_plain.proofs.Steps.{takes_stack}
use Rattle.w_plain.proofs.Prints.{tail_callee_there, call_tails}
use Rattle.w_plain.proofs.control_attempts.tail_call.Goals as goal

pub function-requires : goal.function-requires
function-requires c = record {
  function =
      tail_callee_there c.args.address 0 c.args.program.now c.args.store.now c.args.stack.now (call_tails c.args.program.now c.args.store.now c.args.stack.now c.args.address c.requires.moves);
}

pub tail_own-requires-clause-call : goal.tail_own-requires-clause-call
tail_own-requires-clause-call c =
    subst (λ (m : Module). TailCalls c.args.address 0 m c.args.store.now c.args.stack.now) (sym c.requires.same)
    (call_tails c.args.program.now c.args.store.now c.args.stack.now c.args.address c.requires.moves)

pub returns-in-Ok-clause-step : goal.returns-in-Ok-clause-step
returns-in-Ok-clause-step c =
    takes_stack did.Went c.args.program.now [] c.args.store.now c.args.stack.now c.tail_own.new.stack
    (subst (λ (m : Module). Follows did.Went m [] c.args.store.now c.args.stack.now c.args.store.now c.tail_own.new.stack) c.requires.same c.in-Ok.ensures.goes) c.in-Ok.ensures.keeps

pub returns-in-Err-clause-step : goal.returns-in-Err-clause-step
returns-in-Err-clause-step c = (refl, c.in-Err.ensures.err)
