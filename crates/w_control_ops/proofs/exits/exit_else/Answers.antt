use Rattle.std.proofs.Common.{ℕ, ap, ◌∙◌}
use Rattle.w_segment.specs.Changes.{left, moved}
use Rattle.w_segment.specs.Shape.{target_of}
use Rattle.w_control_ops.proofs.LeftLevels.{exit_there}
use Rattle.w_control_ops.proofs.LevelsLeftAtElse.{exit_else}
use Rattle.w_control_ops.proofs.exits.exit_else.Goals as goal

pub leave-label-requires : goal.leave-label-requires
leave-label-requires c = record { some = exit_there c.args.program.now c.args.stack.now c.requires.exits }

pub returns-clause-goes : goal.returns-clause-goes
returns-clause-goes c =
    exit_else c.args.program.now c.args.stack.now c.requires.exits c.go.new.self c.requires.otherwise
    (λ below n t outside h. c.go.ensures.after ∙ ap (moved c.target-target.result) c.leave-label.ensures.after
    ∙ ap (λ (x : ℕ). moved x (left c.args.stack.now)) (c.target-target.ensures.value ∙ ap target_of h))
