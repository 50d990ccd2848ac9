use Rattle.std.proofs.Common.{◌<◌, length, ap, arith}
use Rattle.s_syntax.specs.BlockTree.{depth, depth_within}
use Rattle.s_syntax.specs.BlockOf.{statement_of}
use Rattle.s_syntax.proofs.Children.{depth_at}
use Rattle.s_code.proofs.Sizes.{statement_room}
use Rattle.s_code.proofs.temporaries.+statements.Goals as goal

pub high_in_block-high_statement-requires : goal.high_in_block-high_statement-requires
high_in_block-high_statement-requires t c =
    let ss = c.statements-statement-items.result.now in
    let h : c.loop-statement.statement-index < length ss = c.loop-statement-test.true in
    let d = depth_at ss c.loop-statement.statement-index c.statement-item.result h in
    let e = ap (λ s. depth_within (statement_of s)) c.statement-item.is in
    let b = ap depth c.loop-statement.invariant.seen in
    let s = statement_room ss c.loop-statement.statement-index c.statement-item.result h c.statement-item.is in
    let r = c.loop-statement.invariant.room in
    (omega (arith, d, e, b, c.decreases), omega (arith, s, r))
