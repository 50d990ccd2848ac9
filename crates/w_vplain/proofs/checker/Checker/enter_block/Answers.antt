use Rattle.std.proofs.Common.{◌∙◌}
use Rattle.w_vplain.specs.Standing.{outer_of}
use Rattle.w_locals.specs.Locals.{first_set}
use Rattle.w_vplain.proofs.FrameViews.{enter_frames}
use Rattle.w_vplain.proofs.checker.Checker.enter_block.Goals as goal

pub returns-clause-steps : goal.returns-clause-steps
returns-clause-steps c =
    let here = c.args.self.now in
    let s = first_set here.locals.sets in
    c.in_ok-inner.ensures.steps (outer_of here) s
    ∙ enter_frames here.outer.items c.push.new.self.items here.locals.sets c.enter_block.new.self.sets c.in_ok-inner.field-0 c.inner_frame.new.around c.replace-around.result c.in-Some.inner c.replace-around.new.dest
    c.in-Some.is c.replace-around.ensures.after c.replace-around.ensures.value c.in_ok-push.ensures.items c.in_ok-enter_block.ensures.sets
