use Rattle.std.proofs.Common.{refl, sym, ◌∙◌, subst}
use Rattle.w_syntax.specs.declared.instructions.Op.TheVariants as op
use Rattle.w_syntax.specs.declared.numeric.NumericOp.TheVariants as numeric
use Rattle.w_syntax.specs.declared.numeric.IntType.{IntType}
use Rattle.w_syntax.specs.declared.numeric.Binop.{Binop}
use Rattle.w_reduce.specs.Numeric.{width, binop}
use Rattle.w_reduce.specs.declared.trap.Trap.{Trap}
use Rattle.w_stands.specs.declared.did.Did.TheVariants as did
use Rattle.w_stands.specs.Steps.{FollowsAlone}
use Rattle.w_value_ops.proofs.JoinedNumbers.{join_needs, join_follows, join_traps, IsJoining}
use Rattle.w_value_ops.proofs.numeric_steps.binary.Goals as goal

rule : (t : IntType) (o : Binop) → IsJoining (op.Numeric (numeric.Binary t o)) t t (binop o (width t))
rule t o = λ p u e vs c. refl

pub top_two-below-requires : goal.top_two-below-requires
top_two-below-requires c = (join_needs c.args.program.now c.args.stack.now _ c.args.kind c.args.kind _ (rule c.args.kind c.args.operation) c.requires.moves).some

pub joined-requires-clause-one : goal.joined-requires-clause-one
joined-requires-clause-one c =
    (join_needs c.args.program.now c.args.stack.now _ c.args.kind c.args.kind _ (rule c.args.kind c.args.operation) c.requires.moves).one c.top_two-below.result.0 c.top_two-below.result.1 c.top_two-below.ensures

pub joined-requires-clause-other : goal.joined-requires-clause-other
joined-requires-clause-other c =
    (join_needs c.args.program.now c.args.stack.now _ c.args.kind c.args.kind _ (rule c.args.kind c.args.operation) c.requires.moves).other c.top_two-below.result.0 c.top_two-below.result.1 c.top_two-below.ensures

pub replace-requires-clause-place : goal.replace-requires-clause-place
replace-requires-clause-place c =
    (join_needs c.args.program.now c.args.stack.now _ c.args.kind c.args.kind _ (rule c.args.kind c.args.operation) c.requires.moves).place

pub returns-in-Ok-clause-goes : goal.returns-in-Ok-clause-goes
returns-in-Ok-clause-goes c =
    join_follows c.args.program.now c.args.stack.now _ c.args.kind c.args.kind _ (rule c.args.kind c.args.operation) c.replace.new.stack c.top_two-below.result.0 c.top_two-below.result.1
    c.in-Ok.value c.requires.moves c.top_two-below.ensures (sym c.in-Ok.is ∙ c.joined.ensures) c.replace.ensures.after

pub returns-in-Err-clause-goes : goal.returns-in-Err-clause-goes
returns-in-Err-clause-goes c =
    subst (λ (t : Trap). FollowsAlone (did.Trapped t) c.args.program.now c.args.stack.now c.args.stack.now) (sym c.trap_of.ensures)
    (join_traps c.args.program.now c.args.stack.now _ c.args.kind c.args.kind _ (rule c.args.kind c.args.operation) c.args.stack.now c.top_two-below.result.0 c.top_two-below.result.1
    c.in-Err.fault c.requires.moves c.top_two-below.ensures (sym c.in-Err.is ∙ c.joined.ensures) refl)
