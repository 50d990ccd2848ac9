use Rattle.std.proofs.Common.{◌++◌, sym}
use Rattle.w_decode.specs.declared.pieces.Phase.TheVariants as phase
use Rattle.w_decode.proofs.DecodersStand.{stands_as, waits_as, doomed_on, doomed_has}
use Rattle.w_decode.proofs.pieces.Decoder.feed.Goals as goal

pub returns-in-Failed-clause-stands : goal.returns-in-Failed-clause-stands
returns-in-Failed-clause-stands c = λ b h.
    let d = c.args.self.now in
    let f = c.in-Failed.fault in
    let e = c.in-Failed.is in record {
      stands = stands_as (phase.Failed f) d.phase d d.kept.items (b ++ c.args.piece.now) (sym e) (doomed_on b c.args.piece.now f (stands_as d.phase (phase.Failed f) d d.kept.items b e h.stands));
      waits = waits_as (phase.Failed f) d.phase d.kept.items (sym e) tt;
    }

pub returns-in-Failed-clause-fault : goal.returns-in-Failed-clause-fault
returns-in-Failed-clause-fault c = λ ne b k h.
    let d = c.args.self.now in
    let f = c.in-Failed.fault in
    doomed_has (b ++ c.args.piece.now) f (doomed_on b c.args.piece.now f (stands_as d.phase (phase.Failed f) d d.kept.items b c.in-Failed.is h.stands)) ne k
