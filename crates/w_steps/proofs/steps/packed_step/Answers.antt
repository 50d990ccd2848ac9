use Rattle.std.proofs.Common.{◌∷◌, Ok, Err}
use Rattle.std.specs.Prelude.{Bool, IsTrue, IfOk, Result}
use Rattle.w_steps.specs.Stepping.{PackedSets}
use Rattle.w_steps.specs.View.{outer_kinds}
use Rattle.w_steps.proofs.steps.packed_step.Goals as goal

-- what holds of each answer holds of one that is there
of_each : {A E : Type 0} (r : Result A E) (P : A → Type 0) → ((a : A) → P a) → IfOk r P
of_each (Ok a) P all = all a
of_each (Err e) P all = tt

pub returns-in-Some-clause-steps : goal.returns-in-Some-clause-steps
returns-in-Some-clause-steps c = c.in-Some.ensures.steps c.args.locals.now c.args.setting.now.results.types.now (c.args.kind.now ∷ outer_kinds c.args.outer.now)

pub returns-in-Some-clause-sets : goal.returns-in-Some-clause-sets
returns-in-Some-clause-sets c =
    of_each c.in-Some.applies (λ (applies : Bool). IsTrue applies → PackedSets c.args.packed.now c.args.locals.now c.args.locals.now) (λ applies t. c.in-Some.ensures.unset c.args.locals.now)
