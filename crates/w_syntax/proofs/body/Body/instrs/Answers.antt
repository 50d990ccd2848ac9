use Rattle.std.proofs.Common.{◌∙◌, ap}
use Rattle.w_syntax.specs.Flat.{IsFlat, whole}
use Rattle.w_syntax.specs.Packed.{unpacked_all}
use Rattle.w_syntax.proofs.body.Body.instrs.Goals as goal

pub returns : goal.returns
unfolding IsFlat
returns c = ap unpacked_all c.as_slice.ensures.value ∙ c.self.invariant.0 ∙ ap whole c.self.view_is
