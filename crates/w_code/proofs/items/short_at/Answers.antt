use Rattle.std.proofs.Common.{arith, drop}
use Rattle.w_code.proofs.ShortItems.{function_read, null_read}
use Rattle.w_code.proofs.items.short_at.Goals as goal

pub returns-in_ok-end-in-208 : goal.returns-in_ok-end-in-208
returns-in_ok-end-in-208 c =
    let b = c.args.bytes.now in
    let t = rw c.in-208.is at c.in_ok-tag.ensures in
    let n = c.in_ok-heap-in-208.ensures.reads in
    let e = c.in_ok-end-in-208.ensures in
    (rw c.null.ensures (null_read (drop c.args.at b) (drop c.in_ok-tag.next b) (drop c.in_ok-heap-in-208.next b) (drop c.in_ok-end-in-208.end b) c.in_ok-heap-in-208.heap t.0 n.0 e.0), omega (arith, t.1, n.1, e.1), e.2)

pub returns-in_ok-end-in-210 : goal.returns-in_ok-end-in-210
returns-in_ok-end-in-210 c =
    let b = c.args.bytes.now in
    let t = rw c.in-210.is at c.in_ok-tag.ensures in
    let n = c.in_ok-function-in-210.ensures.reads in
    let e = c.in_ok-end-in-210.ensures in
    (rw c.function.ensures (function_read (drop c.args.at b) (drop c.in_ok-tag.next b) (drop c.in_ok-function-in-210.next b) (drop c.in_ok-end-in-210.end b) c.in_ok-function-in-210.function t.0 n.0 e.0), omega (arith, t.1, n.1, e.1), e.2)
