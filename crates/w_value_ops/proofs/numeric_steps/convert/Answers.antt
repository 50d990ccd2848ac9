use Rattle.std.proofs.Common.{refl}
use Rattle.w_syntax.specs.declared.instructions.Op.TheVariants as op
use Rattle.w_syntax.specs.declared.numeric.NumericOp.TheVariants as numeric
use Rattle.w_reduce.specs.Numeric.{taken_by, given_by, cvtop}
use Rattle.w_value_ops.proofs.NumericOps.{turn_needs, turn_follows}
use Rattle.w_value_ops.proofs.numeric_steps.convert.Goals as goal

pub peek-requires : goal.peek-requires
peek-requires c = record { some = (turn_needs c.args.program.now c.args.stack.now (op.Numeric (numeric.Convert c.args.operation)) (taken_by c.args.operation) (given_by c.args.operation) (cvtop c.args.operation) (λ p u e vs d. refl) c.requires.moves).some }

pub converted-value-requires : goal.converted-value-requires
converted-value-requires c =
    (turn_needs c.args.program.now c.args.stack.now (op.Numeric (numeric.Convert c.args.operation)) (taken_by c.args.operation) (given_by c.args.operation) (cvtop c.args.operation) (λ p u e vs d. refl) c.requires.moves).number c.peek.result c.peek.ensures.value

pub replace-requires-clause-place : goal.replace-requires-clause-place
replace-requires-clause-place c =
    (turn_needs c.args.program.now c.args.stack.now (op.Numeric (numeric.Convert c.args.operation)) (taken_by c.args.operation) (given_by c.args.operation) (cvtop c.args.operation) (λ p u e vs d. refl) c.requires.moves).place

pub returns-clause-goes : goal.returns-clause-goes
returns-clause-goes c =
    turn_follows c.args.program.now c.args.stack.now c.replace.new.stack (op.Numeric (numeric.Convert c.args.operation)) (taken_by c.args.operation) (given_by c.args.operation) (cvtop c.args.operation) c.peek.result _ (λ p u e vs d. refl) c.requires.moves
    c.peek.ensures.value c.converted-value.ensures c.replace.ensures.after
