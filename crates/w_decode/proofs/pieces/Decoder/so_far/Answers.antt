use Rattle.w_decode.proofs.EndsOfBytes.{ends_as}
use Rattle.w_decode.proofs.pieces.Decoder.so_far.Goals as goal

pub returns-clause-ends : goal.returns-clause-ends
returns-clause-ends c = ends_as c.args.self.now
