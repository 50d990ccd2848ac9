use Rattle.std.proofs.Common.{ℕ, refl, ap}
use Rattle.std.specs.Prelude.{Result, Ok}
use Rattle.w_types.specs.declared.value.Value.{Value}
use Rattle.w_num.specs.declared.fault.NumFault.{NumFault}
use Rattle.w_syntax.specs.declared.instructions.Op.TheVariants as op
use Rattle.w_syntax.specs.declared.numeric.IntType.TheVariants as int
use Rattle.w_syntax.specs.declared.numeric.NumericOp.TheVariants as numeric
use Rattle.w_syntax.specs.declared.numeric.IntType.{IntType}
use Rattle.w_syntax.specs.declared.numeric.Relop.{Relop}
use Rattle.w_reduce.specs.Numeric.{width, relop}
use Rattle.w_value_ops.proofs.JoinedNumbers.{join_needs, join_follows, IsJoining}
use Rattle.w_value_ops.proofs.numeric_steps.compare.Goals as goal

abbrev tests : IntType → Relop → ℕ → ℕ → Result ℕ NumFault
tests t o a b = Ok (relop o (width t) a b)

rule : (t : IntType) (o : Relop) → IsJoining (op.Numeric (numeric.Compare t o)) t int.I32 (tests t o)
rule t o = λ p u e vs c. refl

pub top_two-below-requires : goal.top_two-below-requires
top_two-below-requires c = (join_needs c.args.program.now c.args.stack.now (op.Numeric (numeric.Compare c.args.kind c.args.operation)) c.args.kind int.I32 (tests c.args.kind c.args.operation) (rule c.args.kind c.args.operation) c.requires.moves).some

pub compared-value-requires-clause-one : goal.compared-value-requires-clause-one
compared-value-requires-clause-one c =
    (join_needs c.args.program.now c.args.stack.now (op.Numeric (numeric.Compare c.args.kind c.args.operation)) c.args.kind int.I32 (tests c.args.kind c.args.operation) (rule c.args.kind c.args.operation) c.requires.moves).one c.top_two-below.result.0 c.top_two-below.result.1 c.top_two-below.ensures

pub compared-value-requires-clause-other : goal.compared-value-requires-clause-other
compared-value-requires-clause-other c =
    (join_needs c.args.program.now c.args.stack.now (op.Numeric (numeric.Compare c.args.kind c.args.operation)) c.args.kind int.I32 (tests c.args.kind c.args.operation) (rule c.args.kind c.args.operation) c.requires.moves).other c.top_two-below.result.0 c.top_two-below.result.1 c.top_two-below.ensures

pub replace-requires-clause-place : goal.replace-requires-clause-place
replace-requires-clause-place c =
    (join_needs c.args.program.now c.args.stack.now (op.Numeric (numeric.Compare c.args.kind c.args.operation)) c.args.kind int.I32 (tests c.args.kind c.args.operation) (rule c.args.kind c.args.operation) c.requires.moves).place

pub returns-clause-goes : goal.returns-clause-goes
returns-clause-goes c =
    join_follows c.args.program.now c.args.stack.now (op.Numeric (numeric.Compare c.args.kind c.args.operation)) c.args.kind int.I32 (tests c.args.kind c.args.operation)
    (rule c.args.kind c.args.operation) c.replace.new.stack c.top_two-below.result.0 c.top_two-below.result.1
    c.compared-value.result c.requires.moves c.top_two-below.ensures (ap (λ (v : Value). Ok v) c.compared-value.ensures) c.replace.ensures.after
