use Rattle.std.proofs.Common.{ap, ◌∙◌}
use Rattle.w_syntax.specs.Flat.{IsFlat, whole}
use Rattle.w_syntax.specs.FlatData.{some_of_data}
use Rattle.w_syntax.proofs.DataNamed.{whole_named}
use Rattle.w_syntax.proofs.body.Body.uses_data.Goals as goal

pub returns : goal.returns
unfolding IsFlat
returns c = c.self.invariant.1 ∙ ap some_of_data (c.self.invariant.0 ∙ ap whole c.self.view_is) ∙ whole_named c.args.self.now
