use Rattle.std.proofs.Common.{sym, subst, ap, ◌∙◌}
use Rattle.w_segment.specs.declared.entry.Stage.TheVariants.{Values}
use Rattle.w_segment.specs.Changes.{staged}
use Rattle.w_stands.specs.Numbers.{IsNumber}
use Rattle.w_call_ops.specs.Printing.{taken_by}
use Rattle.w_call_ops.proofs.HostCalls.{fresh_number, fresh_follows}
use Rattle.w_call_ops.proofs.printers.invoke_printer.Goals as goal

pub spelled-text-requires : goal.spelled-text-requires
spelled-text-requires g c =
    subst (IsNumber (taken_by c.args.printer)) (sym c.argument.ensures)
    (fresh_number c.args.program.now c.args.store.now c.args.stack.now c.args.printer c.requires.invoke c.requires.host)

pub returns-clause-goes : goal.returns-clause-goes
returns-clause-goes g c =
    fresh_follows c.args.program.now c.args.store.now c.args.stack.now c.args.printer c.requires.invoke c.requires.host c.set_stage.new.self
    (c.set_stage.ensures.after ∙ ap (staged Values) c.discard.ensures.after)
