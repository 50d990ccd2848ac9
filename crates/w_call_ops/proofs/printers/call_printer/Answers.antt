use Rattle.std.proofs.Common.{arith, subst, sym}
use Rattle.w_stands.specs.Numbers.{IsNumber}
use Rattle.w_call_ops.specs.Printing.{taken_by}
use Rattle.w_call_ops.proofs.HostCalls.{print_some, print_number, print_place, print_follows}
use Rattle.w_call_ops.proofs.printers.call_printer.Goals as goal

pub argument-requires : goal.argument-requires
argument-requires g c =
    let h = print_some c.args.program.now c.args.store.now c.args.stack.now c.args.address c.args.popped c.args.printer c.requires.call c.requires.host in
    omega (arith, h)

pub spelled-text-requires : goal.spelled-text-requires
spelled-text-requires g c =
    subst (IsNumber (taken_by c.args.printer)) (sym c.argument.ensures)
    (print_number c.args.program.now c.args.store.now c.args.stack.now c.args.address c.args.popped c.args.printer c.requires.call c.requires.host)

pub overflow_add-popped : goal.overflow_add-popped
overflow_add-popped g c =
    let h = print_some c.args.program.now c.args.store.now c.args.stack.now c.args.address c.args.popped c.args.printer c.requires.call c.requires.host in
    omega (arith, h, c.count-count.ensures.value, c.count-count.type_inv)

pub drop_next-requires-clause-there : goal.drop_next-requires-clause-there
drop_next-requires-clause-there g c =
    print_some c.args.program.now c.args.store.now c.args.stack.now c.args.address c.args.popped c.args.printer c.requires.call c.requires.host

pub drop_next-requires-clause-place : goal.drop_next-requires-clause-place
drop_next-requires-clause-place g c =
    print_place c.args.program.now c.args.store.now c.args.stack.now c.args.address c.args.popped c.args.printer c.requires.call c.requires.host

pub returns-clause-goes : goal.returns-clause-goes
returns-clause-goes g c =
    print_follows c.args.program.now c.args.store.now c.args.stack.now c.args.address c.args.popped c.args.printer c.requires.call c.requires.host c.drop_next.new.stack c.drop_next.ensures.after
