use Rattle.std.proofs.Common.{sym, ◌∙◌}
use Rattle.w_syntax.specs.declared.instructions.Op.TheVariants as op
use Rattle.w_syntax.specs.declared.instructions.ControlOp.TheVariants as control
use Rattle.w_stands.specs.Taking.{Any}
use Rattle.w_control_ops.proofs.Conditions.{other_branching, other_rule, one_there, one_place, other_there, other_follows, other_passes, all_keeps}
use Rattle.w_control_ops.proofs.null_branches.br_on_non_null.Goals as goal

pub peek-requires : goal.peek-requires
peek-requires c = record { some = one_there c.args.program.now c.args.stack.now (op.Control (control.BrOnNonNull c.args.label)) Any (other_branching c.args.label) (other_rule c.args.label) c.requires.moves }

pub drop_next-requires-clause-place : goal.drop_next-requires-clause-place
drop_next-requires-clause-place c = one_place c.args.program.now c.args.stack.now (op.Control (control.BrOnNonNull c.args.label)) Any (other_branching c.args.label) (other_rule c.args.label) c.requires.moves

pub branch-stack-requires : goal.branch-stack-requires
branch-stack-requires c =
    record { there = other_there c.args.program.now c.args.stack.now c.args.label c.requires.moves c.peek.result c.peek.ensures.value (sym c.is_null.ensures ∙ c.if-is_null.false) }

pub returns-then-is_null-clause-goes : goal.returns-then-is_null-clause-goes
returns-then-is_null-clause-goes c =
    other_passes c.args.program.now c.args.stack.now c.args.label c.requires.moves c.peek.result c.peek.ensures.value c.drop_next.new.stack
    (sym c.is_null.ensures ∙ c.if-is_null.true) c.drop_next.ensures.after

pub returns-else-is_null-clause-goes : goal.returns-else-is_null-clause-goes
returns-else-is_null-clause-goes c =
    other_follows c.args.program.now c.args.stack.now c.args.label c.requires.moves c.peek.result c.peek.ensures.value c.branch-stack.new.self
    (sym c.is_null.ensures ∙ c.if-is_null.false) c.branch-stack.ensures.after

pub returns-else-is_null-clause-keeps : goal.returns-else-is_null-clause-keeps
returns-else-is_null-clause-keeps c =
    all_keeps c.args.label c.args.stack.now c.branch-stack.new.self
    (other_there c.args.program.now c.args.stack.now c.args.label c.requires.moves c.peek.result c.peek.ensures.value (sym c.is_null.ensures ∙ c.if-is_null.false))
    c.branch-stack.ensures.after
