use Rattle.std.proofs.Common.{◌≡◌, ◌++◌, List, ℕ, length}
use Rattle.w_outside.specs.Outside.{Grew}
use Rattle.w_outside.proofs.offer.put.Given as goal

-- what was taken and what is left are the piece, and no fault was counted
abbrev pub invariant-loop-rest : goal.invariant-loop-rest
invariant-loop-rest g l =
    let held = g.S.Sink.held in
    let faults = g.S.Sink.faults in
    ((part : List ℕ) × (part ++ l.rest ≡ l.piece) × Grew (held l.fn.sink) (held l.sink) part)
    × (faults l.sink ≡ faults l.fn.sink)

abbrev pub decreases-loop-rest : goal.decreases-loop-rest
decreases-loop-rest g l = length l.rest
