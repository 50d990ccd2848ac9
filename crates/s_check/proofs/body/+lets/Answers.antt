use Rattle.std.proofs.Common.{◌<◌, length, ap, arith}
use Rattle.s_syntax.specs.BlockTree.{depth, depth_within}
use Rattle.s_syntax.specs.BlockOf.{statement_of}
use Rattle.s_syntax.proofs.Children.{depth_at}
use Rattle.s_check.proofs.body.+lets.Goals as goal

pub push_lets-push_lets_of-requires : goal.push_lets-push_lets_of-requires
push_lets-push_lets_of-requires t c =
    let ss = c.statements-statement-items.result.now in
    let h : c.loop-statement.statement-index < length ss = c.loop-statement-test.true in
    let d = depth_at ss c.loop-statement.statement-index c.statement-item.result h in
    let e = ap (λ s. depth_within (statement_of s)) c.statement-item.is in
    let b = ap depth c.loop-statement.invariant.seen in
    (omega (arith, d, e, b, c.decreases), tt)
