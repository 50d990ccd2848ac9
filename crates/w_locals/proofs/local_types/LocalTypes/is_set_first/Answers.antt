use Rattle.std.proofs.Common.{◌∙◌, Some, ap, sym, slice_get}
use Rattle.std.specs.Option.{option_map}
use Rattle.w_rules.specs.Bodies.{has_default}
use Rattle.w_locals.specs.Locals.{Declared, first_in, types_in}
use Rattle.w_locals.proofs.LocalRuns.{param_is_set, local_is_set}
use Rattle.w_locals.proofs.local_types.LocalTypes.is_set_first.Goals as goal

pub returns-then-local-self : goal.returns-then-local-self
returns-then-local-self c =
    ap (λ (d : Declared). slice_get (first_in d) c.args.local) (sym c.self.view_is)
    ∙ param_is_set c.self.inside.params.now c.self.inside.runs.now c.args.local c.if-local-self.true

pub returns-in_err-get : goal.returns-in_err-get
returns-in_err-get c =
    ap (λ (d : Declared). slice_get (first_in d) c.args.local) (sym c.self.view_is)
    ∙ local_is_set c.self.inside.params.now c.self.inside.runs.now c.args.local c.if-local-self.false
    ∙ ap (λ (d : Declared). option_map has_default (slice_get (types_in d) c.args.local)) c.self.view_is
    ∙ ap (option_map has_default) (c.in_err-get.ensures) ∙ sym c.from_residual.ensures

pub returns : goal.returns
returns c =
    ap (λ (d : Declared). slice_get (first_in d) c.args.local) (sym c.self.view_is)
    ∙ local_is_set c.self.inside.params.now c.self.inside.runs.now c.args.local c.if-local-self.false
    ∙ ap (λ (d : Declared). option_map has_default (slice_get (types_in d) c.args.local)) c.self.view_is
    ∙ ap (option_map has_default) (c.in_ok-get.ensures)
    ∙ ap Some (sym c.has_default.ensures)
