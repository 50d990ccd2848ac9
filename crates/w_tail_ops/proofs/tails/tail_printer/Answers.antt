use Rattle.std.proofs.Common.{arith, subst, sym, ap, ◌∙◌}
use Rattle.w_segment.specs.Shape.{Shape, frame_at}
use Rattle.w_segment.specs.Changes.{returned}
use Rattle.w_stands.specs.Numbers.{IsNumber}
use Rattle.w_call_ops.specs.Printing.{taken_by}
use Rattle.w_tail_ops.proofs.HostTails.{tail_some, tail_number, tail_caller, tail_frame, tail_follows, tail_keeps}
use Rattle.w_tail_ops.proofs.tails.tail_printer.Goals as goal

pub argument-requires : goal.argument-requires
argument-requires g c =
    let h = tail_some c.args.program.now c.args.store.now c.args.stack.now c.args.address c.args.popped c.args.printer c.requires.call c.requires.host in
    omega (arith, h)

pub spelled-text-requires : goal.spelled-text-requires
spelled-text-requires g c =
    subst (IsNumber (taken_by c.args.printer)) (sym c.argument.ensures)
    (tail_number c.args.program.now c.args.store.now c.args.stack.now c.args.address c.args.popped c.args.printer c.requires.call c.requires.host)

pub overflow_add-popped : goal.overflow_add-popped
overflow_add-popped g c =
    let h = tail_some c.args.program.now c.args.store.now c.args.stack.now c.args.address c.args.popped c.args.printer c.requires.call c.requires.host in
    omega (arith, h, c.count-count.ensures.value, c.count-count.type_inv)

pub discard-requires : goal.discard-requires
discard-requires g c =
    record { some = tail_some c.args.program.now c.args.store.now c.args.stack.now c.args.address c.args.popped c.args.printer c.requires.call c.requires.host }

pub leave_frame-requires : goal.leave_frame-requires
leave_frame-requires g c =
    let levels = ap (λ (x : Shape). x.levels) c.discard.ensures.after in
    record {
      there = (
        tail_caller c.args.program.now c.args.store.now c.args.stack.now c.args.address c.args.popped c.args.printer c.requires.call c.requires.host,
        ap frame_at levels ∙ tail_frame c.args.program.now c.args.store.now c.args.stack.now c.args.address c.args.popped c.args.printer c.requires.call c.requires.host,
        omega arith,
      );
    }

pub returns-clause-goes : goal.returns-clause-goes
returns-clause-goes g c =
    let levels = ap (λ (x : Shape). x.levels) c.discard.ensures.after in
    tail_follows c.args.program.now c.args.store.now c.args.stack.now c.args.address c.args.popped c.args.printer c.requires.call c.requires.host c.leave_frame.new.self c.end_outside.new.stack
    (λ d is. c.leave_frame.ensures.after d (ap frame_at levels ∙ is) ∙ ap (returned 0 d) c.discard.ensures.after) c.end_outside.ensures.after

pub returns-clause-keeps : goal.returns-clause-keeps
returns-clause-keeps g c =
    let levels = ap (λ (x : Shape). x.levels) c.discard.ensures.after in
    tail_keeps c.args.program.now c.args.store.now c.args.stack.now c.args.address c.args.popped c.args.printer c.requires.call c.requires.host c.leave_frame.new.self c.end_outside.new.stack
    (λ d is. c.leave_frame.ensures.after d (ap frame_at levels ∙ is) ∙ ap (returned 0 d) c.discard.ensures.after) c.end_outside.ensures.after
