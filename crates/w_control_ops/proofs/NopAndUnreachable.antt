-- nop and unreachable: where they go.
use Rattle.std.proofs.Common.{◌≡◌, [], refl}
use Rattle.w_syntax.specs.declared.instructions.Instr.TheVariants as flat
use Rattle.w_syntax.specs.declared.instructions.Op.TheVariants as op
use Rattle.w_syntax.specs.declared.instructions.ControlOp.TheVariants as control
use Rattle.w_syntax.specs.declared.module.Module.{Module}
use Rattle.w_segment.specs.Shape.{Shape}
use Rattle.w_reduce.specs.declared.trap.Trap.TheVariants as trap
use Rattle.w_reduce.specs.Terms.{rest_of}
use Rattle.w_reduce.specs.Reduced.{Trapped, steps_to}
use Rattle.w_stands.specs.GoingOn.{dropped}
use Rattle.w_stands.specs.declared.did.Did.TheVariants as did
use Rattle.w_stands.specs.Steps.{MovesAlone, FollowsAlone}
use Rattle.w_stands.specs.Taking.{Going}
use Rattle.w_stands.proofs.NextInstructions.{dropped_behind, take_follows, take_traps}

-- their rules
abbrev passing : Going
passing p s e c xs vs = steps_to s e vs (rest_of c)

abbrev trapping : Going
trapping p s e c xs vs = Trapped trap.Unreachable

-- nop goes on behind it
pub nop_follows : (m : Module) (s s' : Shape) → MovesAlone (flat.Plain (op.Control control.Nop)) m s → s' ≡ dropped 0 s → FollowsAlone did.Went m s s'
nop_follows m s s' k after = λ u.
    take_follows m u s (op.Control control.Nop) [] passing (λ p s e vs c. refl) k.moves.stage k.moves.here [] s.operands refl tt [] u s' [] (dropped_behind 0 s s' after)
    (λ p e c _ _. refl)

-- unreachable traps, and nothing changes
pub unreachable_follows : (m : Module) (s : Shape) → MovesAlone (flat.Plain (op.Control control.Unreachable)) m s → FollowsAlone (did.Trapped trap.Unreachable) m s s
unreachable_follows m s k = λ u.
    take_traps m u s (op.Control control.Unreachable) [] trapping (λ p s e vs c. refl) k.moves.stage k.moves.here [] s.operands refl tt trap.Unreachable s refl (λ p e c _ _. refl)
