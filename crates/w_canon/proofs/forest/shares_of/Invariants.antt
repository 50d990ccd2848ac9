use Rattle.w_canon.specs.Shares.{AreShared}
use Rattle.w_canon.proofs.forest.shares_of.Given as goal

-- the nodes from this one on were counted
abbrev pub invariant-loop-node : goal.invariant-loop-node
invariant-loop-node l = AreShared l.parents l.shares.under.items l.shares.offsets.items l.shares.roots l.node

abbrev pub decreases-loop-node : goal.decreases-loop-node
decreases-loop-node l = l.node
