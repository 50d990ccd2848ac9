use Rattle.std.proofs.Common.{sym, ◌∙◌}
use Rattle.w_syntax.specs.declared.instructions.Op.TheVariants as op
use Rattle.w_syntax.specs.declared.instructions.ControlOp.TheVariants as control
use Rattle.w_syntax.specs.declared.numeric.IntType.TheVariants as int
use Rattle.w_stands.specs.Taking.{Number}
use Rattle.w_control_ops.proofs.Conditions.{if_branching, if_rule, one_there, one_place, if_of, if_there, if_follows, if_passes, dropped_keeps}
use Rattle.w_control_ops.proofs.branch_steps.br_if.Goals as goal

pub peek-requires : goal.peek-requires
peek-requires c = record { some = one_there c.args.program.now c.args.stack.now (op.Control (control.BrIf c.args.label)) (Number int.I32) (if_branching c.args.label) (if_rule c.args.label) c.requires.moves }

pub i32_of-requires : goal.i32_of-requires
i32_of-requires c = (if_of c.args.program.now c.args.stack.now c.args.label c.requires.moves c.peek.result c.peek.ensures.value).0

pub drop_next-requires-clause-place : goal.drop_next-requires-clause-place
drop_next-requires-clause-place c = one_place c.args.program.now c.args.stack.now (op.Control (control.BrIf c.args.label)) (Number int.I32) (if_branching c.args.label) (if_rule c.args.label) c.requires.moves

pub drop_and_branch-requires-clause-there : goal.drop_and_branch-requires-clause-there
drop_and_branch-requires-clause-there c =
    if_there c.args.program.now c.args.stack.now c.args.label c.requires.moves c.peek.result c.peek.ensures.value (λ q. c.if-i32_of-eq0.false (c.i32_of.ensures ∙ q))

pub returns-then-i32_of-eq0-clause-goes : goal.returns-then-i32_of-eq0-clause-goes
returns-then-i32_of-eq0-clause-goes c =
    if_passes c.args.program.now c.args.stack.now c.args.label c.requires.moves c.peek.result c.peek.ensures.value c.drop_next.new.stack (sym c.i32_of.ensures ∙ c.if-i32_of-eq0.true) c.drop_next.ensures.after

pub returns-else-i32_of-eq0-clause-goes : goal.returns-else-i32_of-eq0-clause-goes
returns-else-i32_of-eq0-clause-goes c =
    if_follows c.args.program.now c.args.stack.now c.args.label c.requires.moves c.peek.result c.peek.ensures.value c.drop_and_branch.new.stack
    (λ q. c.if-i32_of-eq0.false (c.i32_of.ensures ∙ q)) c.drop_and_branch.ensures.after

pub returns-else-i32_of-eq0-clause-keeps : goal.returns-else-i32_of-eq0-clause-keeps
returns-else-i32_of-eq0-clause-keeps c =
    dropped_keeps c.args.label c.args.stack.now c.drop_and_branch.new.stack
    (if_there c.args.program.now c.args.stack.now c.args.label c.requires.moves c.peek.result c.peek.ensures.value (λ q. c.if-i32_of-eq0.false (c.i32_of.ensures ∙ q)))
    c.drop_and_branch.ensures.after
