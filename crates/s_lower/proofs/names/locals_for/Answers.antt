use Rattle.std.proofs.Common.{◌∷◌, ◌++◌, [], ◌∙◌, List, ap, arith}
use Rattle.std.proofs.lemmas.List.{length-map}
use Rattle.w_types.specs.declared.types.ValType.TheVariants.{I64}
use Rattle.w_syntax.specs.declared.locals.LocalRun.{LocalRun}
use Rattle.s_code.specs.Places.{run}
use Rattle.s_lower.specs.Views.{bound_of, bounds_of}
use Rattle.s_lower.proofs.Runs.{some_locals}
use Rattle.s_lower.proofs.names.locals_for.Goals as goal

pub unwrap-requires : goal.unwrap-requires
unwrap-requires c =
    let m = length-map c.args.names.now bound_of in
    let r = c.requires in
    some_locals c.push.new.self.items c.in_ok-of_runs.field-0 (bounds_of c.args.names.now) c.args.temporaries c.in_ok-of_runs.ensures
    (c.in_ok-push.ensures.items ∙ ap (λ (ls : List LocalRun). ls ++ run I64 c.args.temporaries ∷ []) c.in_ok-runs.ensures.value) (omega (arith, m, r))
