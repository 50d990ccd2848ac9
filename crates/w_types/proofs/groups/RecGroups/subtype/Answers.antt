use Rattle.std.proofs.Common.{sym, ◌∙◌}
use Rattle.w_types.proofs.PlacesOfTypes.{found, missing}
use Rattle.w_types.proofs.groups.RecGroups.subtype.Goals as goal

pub returns-in-Some : goal.returns-in-Some
returns-in-Some c = c.at.ensures ∙ found c.args.self.now c.args.index c.in-Some.place (sym c.place.ensures ∙ c.in-Some.is)

pub returns-in-None : goal.returns-in-None
returns-in-None c = sym (missing c.args.self.now c.args.index (sym c.place.ensures ∙ c.in-None.is))
