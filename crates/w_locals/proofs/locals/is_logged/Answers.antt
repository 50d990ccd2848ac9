use Rattle.std.proofs.Common.{◌∙◌, ap, sym}
use Rattle.std.specs.Option.{option_copied}
use Rattle.w_locals.proofs.InitLog.{not_placed, logged_by_place, none_at}
use Rattle.w_locals.proofs.locals.is_logged.Goals as goal

pub returns-in-Some-item_at : goal.returns-in-Some-item_at
returns-in-Some-item_at c =
    logged_by_place c.args.places.now c.args.log.now c.args.local c.in-Some.place.now c.in-Some-item_at.found c.requires (sym c.get.ensures.value ∙ ap option_copied c.in-Some.is) (c.item_at.ensures ∙ c.in-Some-item_at.is)

pub returns-in-None-item_at : goal.returns-in-None-item_at
returns-in-None-item_at c =
    none_at c.args.places.now c.args.log.now c.args.local c.in-Some.place.now c.requires (sym c.get.ensures.value ∙ ap option_copied c.in-Some.is) (c.item_at.ensures ∙ c.in-None-item_at.is)

pub returns-in-None : goal.returns-in-None
returns-in-None c = sym (not_placed c.args.places.now c.args.log.now c.args.local c.requires (sym c.get.ensures.value ∙ ap option_copied c.in-None.is))
