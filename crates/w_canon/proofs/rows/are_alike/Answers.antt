use Rattle.std.proofs.Common.{arith}
use Rattle.lists.proofs.Tests.{each_of}
use Rattle.w_canon.specs.Relations.{none}
use Rattle.w_canon.specs.Compared.{IsAlike}
use Rattle.w_canon.proofs.ComparedRows.{pairwise_next, pairwise_whole}
use Rattle.w_canon.proofs.rows.are_alike.Goals as goal

pub loop-i-init : goal.loop-i-init
loop-i-init c = λ t. none

pub loop-i-preserved : goal.loop-i-preserved
loop-i-preserved c = λ t.
    let both = each_of c.loop-i.alike c.is_alike-alike.result t in
    pairwise_next (IsAlike c.args.pair.now) c.args.ones.now c.args.others.now c.loop-i.i c.index-ones-i.result c.index-others-i.result (omega arith) (omega arith)
    c.index-ones-i.is c.index-others-i.is (c.is_alike-alike.ensures both.1) (c.loop-i.invariant both.0)

pub returns : goal.returns
returns c = λ t. pairwise_whole (IsAlike c.args.pair.now) c.args.ones.now c.args.others.now c.loop-i.i (omega arith) (omega arith) (c.loop-i.invariant t)
