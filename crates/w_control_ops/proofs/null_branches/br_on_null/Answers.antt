use Rattle.std.proofs.Common.{sym, ◌∙◌}
use Rattle.w_syntax.specs.declared.instructions.Op.TheVariants as op
use Rattle.w_syntax.specs.declared.instructions.ControlOp.TheVariants as control
use Rattle.w_stands.specs.Taking.{Any}
use Rattle.w_control_ops.proofs.Conditions.{null_branching, null_rule, one_there, one_place, null_there, null_follows, null_passes, dropped_keeps}
use Rattle.w_control_ops.proofs.null_branches.br_on_null.Goals as goal

pub peek-requires : goal.peek-requires
peek-requires c = record { some = one_there c.args.program.now c.args.stack.now (op.Control (control.BrOnNull c.args.label)) Any (null_branching c.args.label) (null_rule c.args.label) c.requires.moves }

pub drop_next-requires-clause-place : goal.drop_next-requires-clause-place
drop_next-requires-clause-place c = one_place c.args.program.now c.args.stack.now (op.Control (control.BrOnNull c.args.label)) Any (null_branching c.args.label) (null_rule c.args.label) c.requires.moves

pub drop_and_branch-requires-clause-there : goal.drop_and_branch-requires-clause-there
drop_and_branch-requires-clause-there c =
    null_there c.args.program.now c.args.stack.now c.args.label c.requires.moves c.peek.result c.peek.ensures.value (sym c.is_null.ensures ∙ c.if-is_null.true)

pub returns-then-is_null-clause-goes : goal.returns-then-is_null-clause-goes
returns-then-is_null-clause-goes c =
    null_follows c.args.program.now c.args.stack.now c.args.label c.requires.moves c.peek.result c.peek.ensures.value c.drop_and_branch.new.stack
    (sym c.is_null.ensures ∙ c.if-is_null.true) c.drop_and_branch.ensures.after

pub returns-then-is_null-clause-keeps : goal.returns-then-is_null-clause-keeps
returns-then-is_null-clause-keeps c =
    dropped_keeps c.args.label c.args.stack.now c.drop_and_branch.new.stack
    (null_there c.args.program.now c.args.stack.now c.args.label c.requires.moves c.peek.result c.peek.ensures.value (sym c.is_null.ensures ∙ c.if-is_null.true))
    c.drop_and_branch.ensures.after

pub returns-else-is_null-clause-goes : goal.returns-else-is_null-clause-goes
returns-else-is_null-clause-goes c =
    null_passes c.args.program.now c.args.stack.now c.args.label c.requires.moves c.peek.result c.peek.ensures.value c.drop_next.new.stack
    (sym c.is_null.ensures ∙ c.if-is_null.false) c.drop_next.ensures.after
