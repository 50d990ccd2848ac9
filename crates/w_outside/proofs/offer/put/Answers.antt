use Rattle.std.proofs.Common.{◌++◌, take, ◌∙◌}
use Rattle.w_outside.specs.Outside.{Grew}
use Rattle.w_outside.proofs.Growth.{grew_more, joined_more}
use Rattle.w_outside.proofs.offer.put.Goals as goal

pub loop-rest-preserved : goal.loop-rest-preserved
loop-rest-preserved g c =
    let part = c.loop-rest.invariant.0.0 in
    let n = c.in_ok-taken.taken in
    let rest = c.loop-rest.rest.now in
    let grew : Grew (g.S.Sink.held c.args.sink.now) (g.S.Sink.held c.write.new.self) (part ++ take n rest) =
    grew_more _ _ _ part (take n rest) c.loop-rest.invariant.0.2 c.in_ok-taken.ensures.takes.2 in
    ((part ++ take n rest, rw c.after-rest.ensures (joined_more part rest _ n c.loop-rest.invariant.0.1), grew), c.in_ok-taken.ensures.cause.stays ∙ c.loop-rest.invariant.1)
