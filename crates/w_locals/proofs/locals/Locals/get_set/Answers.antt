use Rattle.std.proofs.Common.{◌∙◌, sym, reverse}
use Rattle.w_locals.proofs.FlagsOff.{got}
use Rattle.w_locals.proofs.locals.Locals.get_set.Goals as goal

pub returns : goal.returns
returns c =
    let a = c.self.inside in
    got a.has_ended a.types a.log.items (reverse a.marks.items) c.args.local c.args.self.now c.get.result c.self.view_is c.if-self.false
    (sym c.is_unset.ensures ∙ c.if-is_unset.false) c.get.ensures
