use Rattle.std.proofs.Common.{◌≡◌, ◌++◌, ℕ, List, drop}
use Rattle.w_outside.specs.Outside.{Grew}
use Rattle.replies.specs.Pieces.{joined}
use Rattle.runs.proofs.delivery.write_pieces.Given as goal

-- what was written, and the pieces that are left, are the whole; and no fault was counted
abbrev pub invariant-loop-piece : goal.invariant-loop-piece
invariant-loop-piece g l =
    let held = g.O.Sink.held in
    ((part : List ℕ) × (part ++ joined (drop l.piece-index l.pieces) ≡ joined l.pieces) × Grew (held l.fn.out) (held l.out) part)
    × (g.O.Sink.faults l.out ≡ g.O.Sink.faults l.fn.out)
