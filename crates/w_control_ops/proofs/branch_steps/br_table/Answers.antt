use Rattle.std.proofs.Common.{ℕ, List, ap, ◌∙◌, slice_get}
use Rattle.w_syntax.specs.declared.instructions.Op.TheVariants as op
use Rattle.w_syntax.specs.declared.instructions.ControlOp.TheVariants as control
use Rattle.w_syntax.specs.declared.numeric.IntType.TheVariants as int
use Rattle.w_reduce.specs.Control.{label_in}
use Rattle.w_stands.specs.Taking.{Number}
use Rattle.w_control_ops.proofs.Conditions.{table_branching, table_rule, one_there, one_of, table_there, table_follows, dropped_keeps}
use Rattle.w_control_ops.proofs.branch_steps.br_table.Goals as goal

pub peek-requires : goal.peek-requires
peek-requires c =
    record { some = one_there c.args.program.now c.args.stack.now (op.Control (control.BrTable c.args.labels.now c.args.last)) (Number int.I32) (table_branching c.args.labels.now c.args.last) (table_rule c.args.labels.now c.args.last) c.requires.moves }

pub i32_of-requires : goal.i32_of-requires
i32_of-requires c =
    (one_of c.args.program.now c.args.stack.now (op.Control (control.BrTable c.args.labels.now c.args.last)) (Number int.I32) (table_branching c.args.labels.now c.args.last) (table_rule c.args.labels.now c.args.last) c.requires.moves
    c.peek.result c.peek.ensures.value).0

pub drop_and_branch-requires-clause-there : goal.drop_and_branch-requires-clause-there
drop_and_branch-requires-clause-there c =
    let chosen = c.label_of-chosen.ensures ∙ ap (λ (xs : List ℕ). label_in (slice_get xs c.i32_of.result) c.args.last) c.as_slice.ensures
    ∙ ap (λ (n : ℕ). label_in (slice_get c.args.labels.now n) c.args.last) c.i32_of.ensures in
    table_there c.args.program.now c.args.stack.now c.args.labels.now c.args.last c.requires.moves c.peek.result c.peek.ensures.value c.label_of-chosen.result chosen

pub returns-clause-goes : goal.returns-clause-goes
returns-clause-goes c =
    let chosen = c.label_of-chosen.ensures ∙ ap (λ (xs : List ℕ). label_in (slice_get xs c.i32_of.result) c.args.last) c.as_slice.ensures
    ∙ ap (λ (n : ℕ). label_in (slice_get c.args.labels.now n) c.args.last) c.i32_of.ensures in
    table_follows c.args.program.now c.args.stack.now c.args.labels.now c.args.last c.requires.moves c.peek.result c.peek.ensures.value c.label_of-chosen.result chosen
    c.drop_and_branch.new.stack c.drop_and_branch.ensures.after

pub returns-clause-keeps : goal.returns-clause-keeps
returns-clause-keeps c =
    let chosen = c.label_of-chosen.ensures ∙ ap (λ (xs : List ℕ). label_in (slice_get xs c.i32_of.result) c.args.last) c.as_slice.ensures
    ∙ ap (λ (n : ℕ). label_in (slice_get c.args.labels.now n) c.args.last) c.i32_of.ensures in
    dropped_keeps c.label_of-chosen.result c.args.stack.now c.drop_and_branch.new.stack
    (table_there c.args.program.now c.args.stack.now c.args.labels.now c.args.last c.requires.moves c.peek.result c.peek.ensures.value c.label_of-chosen.result chosen)
    c.drop_and_branch.ensures.after
