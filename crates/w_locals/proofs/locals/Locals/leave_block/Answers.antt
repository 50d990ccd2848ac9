use Rattle.std.proofs.Common.{ap}
use Rattle.w_locals.specs.Locals.{LocalState, first_in}
use Rattle.w_locals.proofs.InitLog.{left_descends, left_places, left_now}
use Rattle.w_locals.proofs.locals.Locals.leave_block.Goals as goal

pub invariant_of-self : goal.invariant_of-self
invariant_of-self c =
    let a = c.self.inside in (
      left_descends a.log.items c.truncate.new.self.items a.marks.items c.pop.new.self.items c.in-Some.mark c.self.invariant.0 c.in-Some.ensures.items c.truncate.ensures.items,
      left_places a.places a.log.items c.truncate.new.self.items c.in-Some.mark c.self.invariant.1 c.truncate.ensures.items,
    )

pub returns-in-Some-clause-sets : goal.returns-in-Some-clause-sets
returns-in-Some-clause-sets c =
    let a = c.self.inside in
    left_now a.has_ended (first_in a.types) a.log.items c.truncate.new.self.items a.marks.items c.pop.new.self.items c.in-Some.mark c.args.self.now.sets (ap (λ (n : LocalState). n.sets) c.self.view_is)
    c.self.invariant.0 c.in-Some.ensures.items c.truncate.ensures.items
