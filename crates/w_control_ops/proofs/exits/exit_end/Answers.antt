use Rattle.std.proofs.Common.{ℕ, ◌+◌, sym, ap, ◌∙◌, arith}
use Rattle.w_segment.specs.Changes.{moved}
use Rattle.w_control_ops.specs.Ended.{ended}
use Rattle.w_control_ops.proofs.LeftLevels.{exit_there, exit_place, exit_label, exit_frame}
use Rattle.w_control_ops.proofs.exits.exit_end.Goals as goal

pub leave-requires : goal.leave-requires
leave-requires c = record { some = exit_there c.args.program.now c.args.stack.now c.requires.exits }

pub overflow_add-place : goal.overflow_add-place
overflow_add-place c =
    let h = exit_place c.args.program.now c.args.stack.now c.requires.exits (sym c.leave.ensures.label ∙ c.if-leave.true) in
    let at = c.place-place.ensures.value in
    omega (arith, h, at)

pub returns-then-leave-clause-goes : goal.returns-then-leave-clause-goes
returns-then-leave-clause-goes c =
    exit_label c.args.program.now c.args.stack.now c.requires.exits c.go.new.self (sym c.leave.ensures.label ∙ c.if-leave.true) c.requires.end
    (c.go.ensures.after ∙ ap (λ (n : ℕ). moved (n + 1) c.leave.new.self) c.place-place.ensures.value ∙ ap (moved (c.args.stack.now.place + 1)) c.leave.ensures.after)

pub returns-else-leave-clause-goes : goal.returns-else-leave-clause-goes
returns-else-leave-clause-goes c =
    exit_frame c.args.program.now c.args.stack.now c.requires.exits c.end_outside.new.stack (sym c.leave.ensures.label ∙ c.if-leave.false)
    (c.end_outside.ensures.after ∙ ap ended c.leave.ensures.after)
