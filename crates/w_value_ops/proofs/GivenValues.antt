-- What instructions need that give a value and take none, and where they go.
use Rattle.std.proofs.Common.{◌+◌, ◌<◌, List, [], sym, ap, ◌∙◌}
use Rattle.std.specs.Prelude.{◌^◌}
use Rattle.w_types.specs.declared.value.Value.{Value}
use Rattle.w_syntax.specs.declared.instructions.Instr.TheVariants as flat
use Rattle.w_syntax.specs.declared.instructions.Op.{Op}
use Rattle.w_syntax.specs.declared.module.Module.{Module}
use Rattle.w_segment.specs.Shape.{Shape}
use Rattle.w_reduce.specs.Terms.{rest_of}
use Rattle.w_reduce.specs.Reduced.{steps_to}
use Rattle.w_stands.specs.Values.{stack, store_of}
use Rattle.w_stands.specs.declared.did.Did.TheVariants as did
use Rattle.w_stands.specs.Steps.{MovesAlone, FollowsAlone}
use Rattle.w_stands.proofs.PlainSteps.{following, went, place_fits}
use Rattle.w_stands.specs.GoingOn.{IsPushedNext}
use Rattle.w_value_ops.specs.Rules.{IsGiving}

-- there is a place behind it
pub give_place : (m : Module) (s : Shape) (i : Op) → MovesAlone (flat.Plain i) m s → s.place + 1 < 2 ^ 32
give_place m s i k = place_fits m s.func s.place (flat.Plain i) (k.moves.at.short s.func) k.moves.here

pub give_follows : (m : Module) (s s' : Shape) (i : Op) (v : Value) → IsGiving i v → MovesAlone (flat.Plain i) m s → IsPushedNext v s s' → FollowsAlone did.Went m s s'
give_follows m s s' i v rule k n = λ u p o e r a.
    let c = following m u s p o e r i a k.moves.stage k.moves.here in
    went m u s p o e r i a k.moves.stage k.moves.here [] u s'
    (record { levels = n.levels; func = n.func; place = n.place; stage = n.stage ∙ k.moves.stage; capacity = n.capacity })
    (rule p u e s.operands c ∙ ap (λ (l : List Value). steps_to (store_of u) e (stack l) (rest_of c)) (sym n.operands))
