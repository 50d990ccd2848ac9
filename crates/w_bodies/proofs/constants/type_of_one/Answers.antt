use Rattle.std.proofs.Common.{◌∙◌, ap, sym}
use Rattle.w_rules.specs.View.{context_in}
use Rattle.w_bodies.specs.Constants.{type_of_one}
use Rattle.w_bodies.proofs.constants.type_of_one.Goals as goal

pub returns-in-Numeric : goal.returns-in-Numeric
returns-in-Numeric c = c.type_of_number.ensures (context_in c.args.cx.now) ∙ ap (type_of_one (context_in c.args.cx.now)) (sym c.in-Numeric.is)
