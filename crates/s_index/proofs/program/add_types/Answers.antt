use Rattle.std.proofs.Common.{◌∙◌, ◌∷◌, [], List, sym, ap}
use Rattle.w_types.specs.declared.types.CompType.{CompType}
use Rattle.s_index.specs.Types.{with_type}
use Rattle.s_index.proofs.Lengths.{with_append}
use Rattle.s_index.proofs.program.add_types.Goals as goal

pub loop-ty-preserved : goal.loop-ty-preserved
loop-ty-preserved c =
    c.in_ok-add_type.ensures.value
    ∙ ap (λ (ts : List CompType). with_type ts c.in-Some.ty) c.loop-ty.invariant
    ∙ sym (with_append c.args.types.now.items c.loop-ty.yielded (c.in-Some.ty ∷ []))
