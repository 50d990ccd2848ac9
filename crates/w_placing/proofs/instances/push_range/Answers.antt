use Rattle.w_placing.proofs.Following.{range_on}
use Rattle.w_placing.proofs.instances.push_range.Goals as goal

pub loop-index-preserved : goal.loop-index-preserved
loop-index-preserved c =
    range_on c.args.all.now.items c.loop-index.all.items c.push.new.self.items c.args.before c.loop-index.index c.in_ok-counted.field-0 c.loop-index.invariant c.in_ok-counted.ensures c.in_ok-push.ensures.items
