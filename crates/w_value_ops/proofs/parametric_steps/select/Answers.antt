use Rattle.std.proofs.Common.{ap, ◌∙◌}
use Rattle.std.specs.Prelude.{ℕ}
use Rattle.w_reduce.specs.Parametric.{selected}
use Rattle.w_value_ops.proofs.DropAndSelect.{select_there, select_number, select_place, select_follows}
use Rattle.w_value_ops.proofs.parametric_steps.select.Goals as goal

pub top_three-one-requires : goal.top_three-one-requires
top_three-one-requires c = select_there c.args.program.now c.args.stack.now c.args.operation.now c.requires.select c.requires.moves

pub i32_of-requires : goal.i32_of-requires
i32_of-requires c =
    select_number c.args.program.now c.args.stack.now c.args.operation.now c.requires.select c.requires.moves c.top_three-one.result.0 c.top_three-one.result.1 c.top_three-one.result.2 c.top_three-one.ensures

pub replace-requires-clause-place : goal.replace-requires-clause-place
replace-requires-clause-place c = select_place c.args.program.now c.args.stack.now c.args.operation.now c.requires.select c.requires.moves

pub returns-clause-goes : goal.returns-clause-goes
returns-clause-goes c =
    select_follows c.args.program.now c.args.stack.now c.args.operation.now c.requires.select c.requires.moves c.replace.new.stack
    c.top_three-one.result.0 c.top_three-one.result.1 c.top_three-one.result.2 c.chosen-value.result c.top_three-one.ensures
    (c.chosen-value.ensures ∙ ap (λ (n : ℕ). selected n c.top_three-one.result.0 c.top_three-one.result.1) c.i32_of.ensures) c.replace.ensures.after
