use Rattle.std.proofs.Common.{drop, sym}
use Rattle.w_decode.proofs.FrontsOfBytes.{byte_none, byte_some, bad_front, no_front_nil, no_front_size, no_front_frame, whole_front}
use Rattle.w_decode.proofs.fronts.front_at.Goals as goal

pub returns-in_default : goal.returns-in_default
returns-in_default c = no_front_nil c.args.bytes.now (byte_none c.args.bytes.now c.in_default.ensures)

pub returns-in_default-next_rank : goal.returns-in_default-next_rank
returns-in_default-next_rank c =
    let u = c.args.bytes.now in
    bad_front c.args.last u c.in-Some.id (drop c.in-Some.next u) (byte_some u c.in-Some.id (drop c.in-Some.next u) c.in-Some.ensures.0) (sym c.in_default-next_rank.ensures)

pub returns-in_default-read_u32 : goal.returns-in_default-read_u32
returns-in_default-read_u32 c =
    let u = c.args.bytes.now in
    no_front_size u c.in-Some.id (drop c.in-Some.next u) (byte_some u c.in-Some.id (drop c.in-Some.next u) c.in-Some.ensures.0) c.in_default-read_u32.ensures.reads

pub returns-in-Some-frame_at : goal.returns-in-Some-frame_at
returns-in-Some-frame_at c =
    let u = c.args.bytes.now in
    whole_front u (drop c.in-Some.next u) c.in-Some.id c.args.last c.in-Some-frame_at.frame (byte_some u c.in-Some.id (drop c.in-Some.next u) c.in-Some.ensures.0) c.if-id-eq10.false c.in-Some-frame_at.ensures

pub returns-in-None : goal.returns-in-None
returns-in-None c =
    let u = c.args.bytes.now in
    no_front_frame c.args.last c.in-Some-next_rank.rank u c.in-Some.id (drop c.in-Some.next u) (byte_some u c.in-Some.id (drop c.in-Some.next u) c.in-Some.ensures.0) (sym c.in-Some-next_rank.ensures) c.if-id-eq10.false c.in-None.ensures
