use Rattle.std.proofs.Common.{refl}
use Rattle.w_canon.proofs.EntriesOfTypes.{next_entry, all_entries}
use Rattle.w_canon.proofs.classes.push_entries.Goals as goal

pub loop-position-init : goal.loop-position-init
loop-position-init c = (refl, c.as_slice-kind-items.ensures)

pub loop-position-preserved : goal.loop-position-preserved
loop-position-preserved c =
    let n = next_entry c.args.first c.args.group.now.types c.as_slice-kind-items.result.now c.loop-position.position c.kind-item.result c.loop-position.entries.items _ c.loop-position.invariant.1 c.kind-item.is c.loop-position-test.true c.loop-position.invariant.0 in
    (rw (c.in_ok-push.ensures.items, c.kind_of.ensures) n, c.loop-position.invariant.1)

pub returns : goal.returns
returns c = all_entries c.args.first c.args.group.now.types c.as_slice-kind-items.result.now c.loop-position.position c.loop-position.entries.items _ c.loop-position.invariant.1 c.loop-position-test.false c.loop-position.invariant.0
