use Rattle.std.proofs.Common.{◌+◌, ◌≤◌, length, drop, arith}
use Rattle.w_decode.proofs.FrontsOfBytes.{byte_some, custom_front}
use Rattle.w_decode.proofs.fronts.custom_at.Goals as goal

pub returns : goal.returns
returns c =
    let u = c.args.bytes.now in
    let b = c.in_ok-id.ensures in
    let n = c.in_ok-size.ensures.reads in
    let le : c.in_ok-size.start + c.min-there.result ≤ length u = omega (arith, n.2, c.min-there.ensures) in
    let few : c.min-there.result ≤ c.in_ok-size.size = omega (arith, c.min-there.ensures) in
    custom_front u (drop c.in_ok-id.next u) _ _ c.in_ok-id.id c.in_ok-size.size c.in_ok-size.start c.min-there.result c.has_name.result (byte_some u c.in_ok-id.id (drop c.in_ok-id.next u) b.0) c.if-id-ne0.false n.0 le few c.in_ok-_name.ensures.0 c.has_name.ensures
