use Rattle.std.proofs.Common.{◌-◌, ◌≤◌, List, ℕ, drop, length}
use Rattle.w_decode.specs.Pieces.{Stands}
use Rattle.w_decode.proofs.pieces.Decoder.advance.Given as goal

abbrev pub invariant-loop-taken : goal.invariant-loop-taken
invariant-loop-taken l = record {
  stands : (b : List ℕ) → Stands l.fn.self l.bytes b → Stands l.self (drop l.place l.bytes) b;
  within : l.place ≤ length l.bytes;
}

abbrev pub decreases-loop-taken : goal.decreases-loop-taken
decreases-loop-taken l = length l.bytes - l.place
