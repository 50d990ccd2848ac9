use Rattle.std.proofs.Common.{refl, sym, subst, inl, inr, []}
use Rattle.w_syntax.specs.declared.module.Module.{Module}
use Rattle.w_stands.specs.Steps.{Follows}
use Rattle.w_call_ops.specs.Calling.{TailCalls}
use Rattle.w_stands.specs.declared.did.Did.TheVariants as did
use Rattle.w_call_ops.specs.Printing.{text_of}
use Rattle.w_plain.proofs.Steps.{takes_stack, calls_take}
use Rattle.w_plain.proofs.Prints.{may_stop, grew_nothing, same_parts, tail_callee_there, tail_prints}
use Rattle.w_plain.proofs.calls.tail_call.Goals as goal

pub function-requires : goal.function-requires
function-requires g c = record { function = tail_callee_there c.args.address c.args.popped c.args.program.source.now c.args.store.now c.args.stack.now c.requires.call }

pub tail_own-requires-clause-call : goal.tail_own-requires-clause-call
tail_own-requires-clause-call g c = subst (λ (m : Module). TailCalls c.args.address c.args.popped m c.args.store.now c.args.stack.now) (sym c.args.program.known.runnable_is) c.requires.call

pub returns-in-Err-clause-step : goal.returns-in-Err-clause-step
returns-in-Err-clause-step g c = (refl, c.in-Err.ensures.err.same, inl refl, calls_take c.requires.call)

pub returns-in-Ok-clause-step : goal.returns-in-Ok-clause-step
returns-in-Ok-clause-step g c = (
  [],
  takes_stack did.Went c.args.program.source.now [] c.args.store.now c.args.stack.now c.tail_own.new.stack
      (subst (λ (m : Module). Follows did.Went m [] c.args.store.now c.args.stack.now c.args.store.now c.tail_own.new.stack) c.args.program.known.runnable_is c.in-Ok.ensures.goes) c.in-Ok.ensures.keeps,
  grew_nothing (g.O.Sink.held c.args.out.now),
)

pub returns-in-Ok-tail_printer-clause-step : goal.returns-in-Ok-tail_printer-clause-step
returns-in-Ok-tail_printer-clause-step g c = (
  text_of c.in-Printer.printer c.args.popped c.args.stack.now.operands,
  takes_stack did.Went c.args.program.source.now (text_of c.in-Printer.printer c.args.popped c.args.stack.now.operands) c.args.store.now c.args.stack.now c.tail_printer.new.stack
      c.in-Ok-tail_printer.ensures.goes c.in-Ok-tail_printer.ensures.keeps,
  c.in-Ok-tail_printer.ensures.printed,
)

-- the sink has a first part of what is printed
pub returns-in-Err-tail_printer-clause-step : goal.returns-in-Err-tail_printer-clause-step
returns-in-Err-tail_printer-clause-step g c = (
  refl,
  same_parts c.args.stack.now c.tail_printer.new.stack c.in-Err-tail_printer.ensures.stack,
  inr (
    text_of c.in-Printer.printer c.args.popped c.args.stack.now.operands,
    tail_prints c.args.address c.args.popped c.in-Printer.printer c.args.program.source.now c.args.store.now c.args.stack.now c.requires.call c.in-Printer.ensures.entry,
    c.in-Err-tail_printer.ensures.part,
  ),
  may_stop _ c.args.program.source.now c.args.stack.now (calls_take c.requires.call),
)
