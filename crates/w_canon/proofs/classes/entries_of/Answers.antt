use Rattle.w_canon.proofs.ClassesOfTypes.{classed_none, classed_next, classed_all}
use Rattle.w_canon.proofs.classes.entries_of.Goals as goal

pub loop-group-init : goal.loop-group-init
loop-group-init c = rw c.new-entries.ensures.items (classed_none c.new-numbers.result c.new-numbers.ensures.empty)

pub loop-group-preserved : goal.loop-group-preserved
loop-group-preserved c =
    classed_next c.loop-group.numbers c.add_group.new.numbers c.args.groups.now c.loop-group.group-index c.loop-group.entries.items c.add_group.new.entries.items c.group-item.result
    c.loop-group-test.true c.group-item.is c.in_ok-add_group.ensures c.loop-group.invariant

pub returns : goal.returns
returns c = (
  c.loop-group.numbers,
  classed_all c.loop-group.numbers c.args.groups.now c.loop-group.group-index c.loop-group.entries.items c.loop-group-test.false c.loop-group.invariant,
)
