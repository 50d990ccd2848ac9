use Rattle.std.proofs.Common.{[]}
use Rattle.w_decode.proofs.DecodersStand.{fed_gives, finished_gives}
use Rattle.w_decode.proofs.decoding.decode_whole.Goals as goal

pub returns-in-Err : goal.returns-in-Err
returns-in-Err c = fed_gives c.args.bytes.now c.in-Err.fault (λ ne. c.in-Err.ensures.fault ne [] [] c.in_ok-decoder.ensures.stands)

pub returns-in-Ok : goal.returns-in-Ok
returns-in-Ok c =
    let s = c.in-Ok.ensures.stands [] c.in_ok-decoder.ensures.stands in
    finished_gives c.args.bytes.now c.finish.result (c.finish.ensures.ok c.args.bytes.now s) (c.finish.ensures.err c.args.bytes.now s)
