use Rattle.std.proofs.Common.{length, refl}
use Rattle.w_canon.proofs.Sharing.{none_shared}
use Rattle.w_canon.proofs.forest.shares_of.Goals as goal

pub loop-node-init : goal.loop-node-init
loop-node-init c = rw (c.in_ok-under.ensures, c.in_ok-offsets.ensures) (none_shared c.args.parents.now (length c.args.parents.now) refl)
