use Rattle.std.proofs.Common.{◌≡◌, length, subst, arith}
use Rattle.w_canon.specs.Shares.{AreSpansBelow}
use Rattle.w_canon.proofs.Spanning.{all_decided}
use Rattle.w_canon.proofs.forest.spans_of.Goals as goal

pub returns : goal.returns
returns c =
    let ps = c.args.parents.now in
    let shares = c.in_ok-shares.shares in
    let all = c.loop-node-test.false in
    let end : c.loop-node.node ≡ length ps = omega (arith, all, c.loop-node.invariant.1) in
    all_decided ps shares.under.items shares.offsets.items shares.roots c.requires c.in_ok-shares.ensures c.loop-node.spans.items
    (subst (AreSpansBelow ps shares.under.items shares.offsets.items c.loop-node.spans.items) end c.loop-node.invariant.0)
