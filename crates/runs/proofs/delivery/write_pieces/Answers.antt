use Rattle.std.proofs.Common.{◌++◌, ◌∙◌, ap, ℕ, Vec, Global}
use Rattle.w_outside.proofs.Growth.{grew_more}
use Rattle.replies.proofs.TextInPieces.{part_more, front_more, on_err}
use Rattle.runs.proofs.delivery.write_pieces.Goals as goal

pub returns-in_err-put-clause-err : goal.returns-in_err-put-clause-err
returns-in_err-put-clause-err g c =
    let part = c.loop-piece.invariant.0.0 in
    let err = c.in_err-put.ensures.err in
    on_err c.from_residual.result (record {
      part = part ++ err.part;
      front = front_more (λ piece. piece.items) c.args.pieces.now c.loop-piece.piece-index _ part err.part _ _ c.loop-piece-test.true c.loop-piece.invariant.0.1 (c.as_slice.ensures.value ∙ ap (λ (p : Vec ℕ Global). p.items) c.piece-item.is) err.front;
      grew = grew_more _ _ _ part err.part c.loop-piece.invariant.0.2 err.grew;
    })

pub loop-piece-preserved : goal.loop-piece-preserved
loop-piece-preserved g c =
    let part = c.loop-piece.invariant.0.0 in (
      (
        part ++ c.as_slice.result.now,
        part_more (λ piece. piece.items) c.args.pieces.now c.loop-piece.piece-index _ part _ _ c.loop-piece-test.true c.loop-piece.invariant.0.1 (c.as_slice.ensures.value ∙ ap (λ (p : Vec ℕ Global). p.items) c.piece-item.is),
        grew_more _ _ _ part c.as_slice.result.now c.loop-piece.invariant.0.2 c.in_ok-put.ensures.ok,
      ),
      c.in_ok-put.ensures.cause.stays ∙ c.loop-piece.invariant.1,
    )
