use Rattle.w_decode.proofs.EndsOfBytes.{closed_is}
use Rattle.w_decode.proofs.pieces.Decoder.closed.Goals as goal

pub returns : goal.returns
returns c = closed_is c.args.self.now
