use Rattle.std.proofs.Common.{◌≡◌, length}
use Rattle.w_canon.specs.Shares.{AreSpansBelow}
use Rattle.w_canon.proofs.forest.spans_of.Given as goal

-- the nodes in front of this one have their spans
abbrev pub invariant-loop-node : goal.invariant-loop-node
invariant-loop-node l = AreSpansBelow l.parents l.shares.under.items l.shares.offsets.items l.spans.items l.node × (l.node-end ≡ length l.parents)
