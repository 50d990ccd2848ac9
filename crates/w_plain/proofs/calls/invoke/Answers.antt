use Rattle.std.proofs.Common.{slice_get, refl, sym, ap, ◌∙◌, subst, inl, inr, []}
use Rattle.w_syntax.specs.declared.module.Module.{Module}
use Rattle.w_stands.specs.Steps.{Follows}
use Rattle.w_call_ops.specs.Calling.{Invokes}
use Rattle.w_stands.specs.declared.did.Did.TheVariants as did
use Rattle.w_call_ops.specs.Printing.{text_of}
use Rattle.w_plain.proofs.Steps.{takes_stack, invokes_take}
use Rattle.w_plain.proofs.Prints.{may_stop, grew_nothing, same_parts, invoke_prints}
use Rattle.w_plain.proofs.calls.invoke.Goals as goal

pub invoke_own-requires-clause-invoke : goal.invoke_own-requires-clause-invoke
invoke_own-requires-clause-invoke g c = subst (λ (m : Module). Invokes m c.args.store.now c.args.stack.now) (sym c.args.program.known.runnable_is) c.requires.invoke

pub returns-in-Err-clause-step : goal.returns-in-Err-clause-step
returns-in-Err-clause-step g c = (refl, c.in-Err.ensures.err.same, inl refl, invokes_take c.requires.invoke)

pub returns-in-Ok-clause-step : goal.returns-in-Ok-clause-step
returns-in-Ok-clause-step g c = (
  [],
  takes_stack did.Went c.args.program.source.now [] c.args.store.now c.args.stack.now c.invoke_own.new.stack
      (subst (λ (m : Module). Follows did.Went m [] c.args.store.now c.args.stack.now c.args.store.now c.invoke_own.new.stack) c.args.program.known.runnable_is c.in-Ok.ensures.goes) c.in-Ok.ensures.keeps,
  grew_nothing (g.O.Sink.held c.args.out.now),
)

pub returns-in-Ok-invoke_printer-clause-step : goal.returns-in-Ok-invoke_printer-clause-step
returns-in-Ok-invoke_printer-clause-step g c = (
  text_of c.in-Printer.printer 0 c.args.stack.now.operands,
  takes_stack did.Went c.args.program.source.now (text_of c.in-Printer.printer 0 c.args.stack.now.operands) c.args.store.now c.args.stack.now c.invoke_printer.new.stack
      c.in-Ok-invoke_printer.ensures.goes c.in-Ok-invoke_printer.ensures.keeps,
  c.in-Ok-invoke_printer.ensures.printed,
)

-- the sink has a first part of what is printed
pub returns-in-Err-invoke_printer-clause-step : goal.returns-in-Err-invoke_printer-clause-step
returns-in-Err-invoke_printer-clause-step g c = (
  refl,
  same_parts c.args.stack.now c.invoke_printer.new.stack c.in-Err-invoke_printer.ensures.stack,
  inr (
    text_of c.in-Printer.printer 0 c.args.stack.now.operands,
    invoke_prints c.in-Printer.printer c.args.program.source.now c.args.store.now c.args.stack.now c.requires.invoke
        (ap (slice_get c.args.store.now.functions) (sym c.func.ensures.value) ∙ c.in-Printer.ensures.entry),
    c.in-Err-invoke_printer.ensures.part,
  ),
  may_stop _ c.args.program.source.now c.args.stack.now (invokes_take c.requires.invoke),
)
