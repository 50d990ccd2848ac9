use Rattle.std.proofs.Common.{length, sym, ap, ◌∙◌}
use Rattle.w_canon.specs.Parents.{parents_from}
use Rattle.w_canon.proofs.Places.{subtypes_of-nil}
use Rattle.w_canon.proofs.ParentLists.{next_group, group_within, all_groups}
use Rattle.w_canon.proofs.classes.parents_of.Goals as goal

pub loop-group-init : goal.loop-group-init
loop-group-init c = c.new-parents.ensures.items ∙ ap (parents_from c.args.entries.now 0) (sym subtypes_of-nil)

pub push_parents-requires-clause-within : goal.push_parents-requires-clause-within
push_parents-requires-clause-within c =
    group_within c.args.entries.now c.args.groups.now c.loop-group.group-index (length c.args.entries.now) c.group-item.result c.loop-group.parents.items
    c.loop-group-test.true c.group-item.is c.loop-group.invariant c.requires.as_many

pub loop-group-preserved : goal.loop-group-preserved
loop-group-preserved c =
    next_group c.args.entries.now c.args.groups.now c.loop-group.group-index c.group-item.result c.loop-group.parents.items c.push_parents.new.parents.items
    c.loop-group-test.true c.group-item.is c.loop-group.invariant c.in_ok-push_parents.ensures

pub returns : goal.returns
returns c = all_groups c.args.entries.now c.args.groups.now c.loop-group.group-index c.loop-group.parents.items c.loop-group-test.false c.loop-group.invariant
