use Rattle.std.proofs.Common.{◌∙◌, sym, ap, slice_get}
use Rattle.w_locals.specs.Locals.{Declared, first_in, is_off}
use Rattle.w_locals.proofs.FlagsOff.{never_off}
use Rattle.w_locals.proofs.local_types.LocalTypes.is_unset_first.Goals as goal

pub returns-then-self : goal.returns-then-self
returns-then-self c =
    sym (never_off c.self.inside.params.now c.self.inside.runs.now c.args.local (sym c.self.invariant.1 ∙ c.if-self.true))
    ∙ ap (λ (d : Declared). is_off (slice_get (first_in d) c.args.local)) c.self.view_is
