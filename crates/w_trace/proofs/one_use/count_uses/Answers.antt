use Rattle.std.proofs.Common.{rules, ◌≡◌, [], arith}
use Rattle.w_trace.specs.Once.{uses_of, number_live}
use Rattle.w_trace.proofs.Counting.{counts}
use Rattle.w_trace.proofs.Uses.{one_shot}
use Rattle.w_trace.proofs.one_use.count_uses.Goals as goal

pub returns-clause-ok : goal.returns-clause-ok
returns-clause-ok c = one_shot (uses_of c.args.events.now) c.in_ok-live.live.items c.in_ok-live.ensures.ok

pub returns-clause-made : goal.returns-clause-made
returns-clause-made c =
    let n = counts (uses_of c.args.events.now) [] c.in_ok-live.live.items c.in_ok-live.ensures.ok in
    let all = n.all in
    let len = c.len-made.ensures in
    omega (arith, all, len)

pub returns-clause-consumed : goal.returns-clause-consumed
returns-clause-consumed c =
    let n = counts (uses_of c.args.events.now) [] c.in_ok-live.live.items c.in_ok-live.ensures.ok in
    let all = n.all in
    let left = n.left in
    let len = c.len-made.ensures in
    let value : c.count_live-left.result ≡ number_live c.in_ok-live.live.items = search rules in
    omega (arith, all, left, len, value)
