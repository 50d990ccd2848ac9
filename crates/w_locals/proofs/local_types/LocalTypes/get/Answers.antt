use Rattle.std.proofs.Common.{◌∙◌, ℕ, List, ap, subst, sym, length, slice_get}
use Rattle.std.specs.List.Sorted.{IsNonDecreasingBy}
use Rattle.w_locals.specs.Locals.{Declared, SplitsAt, types_in}
use Rattle.w_locals.proofs.LocalRuns.{ends_rise, param_found, local_found}
use Rattle.w_locals.proofs.local_types.LocalTypes.get.Goals as goal

pub runs_before-requires : goal.runs_before-requires
runs_before-requires c =
    subst (IsNonDecreasingBy (λ (end : ℕ). end)) (sym c.self.invariant.0 ∙ sym c.as_slice.ensures.value) (ends_rise (length c.self.inside.params.now) c.self.inside.runs.now)

pub returns-in-Some : goal.returns-in-Some
returns-in-Some c =
    ap (λ (d : Declared). slice_get (types_in d) c.args.local) (sym c.self.view_is)
    ∙ param_found c.self.inside.params.now c.self.inside.runs.now c.args.local c.in-Some.kind
    (c.item_at.ensures ∙ c.in-Some.is)

pub returns-in-None : goal.returns-in-None
returns-in-None c =
    ap (λ (d : Declared). slice_get (types_in d) c.args.local) (sym c.self.view_is)
    ∙ local_found c.self.inside.params.now c.self.inside.runs.now c.self.inside.ends.items c.args.local c.runs_before.result c.self.invariant.0
    (c.item_at.ensures ∙ c.in-None.is)
    (subst (λ (es : List ℕ). SplitsAt es c.args.local c.runs_before.result) c.as_slice.ensures.value c.runs_before.ensures)
    ∙ c.run_type.ensures
