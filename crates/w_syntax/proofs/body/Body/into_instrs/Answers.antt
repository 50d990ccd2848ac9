use Rattle.std.proofs.Common.{◌∙◌, ap}
use Rattle.w_syntax.specs.Flat.{IsFlat, whole}
use Rattle.w_syntax.proofs.body.Body.into_instrs.Goals as goal

pub returns : goal.returns
unfolding IsFlat
returns c = c.self.invariant.0 ∙ ap whole c.self.view_is
