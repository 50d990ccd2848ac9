use Rattle.std.proofs.Common.{◌≡◌, ◌≤◌, ◌+◌, ◌-◌, length, drop}
use Rattle.s_lex.specs.Bytes.{is_of}
use Rattle.s_lex.specs.Pieces.{run}
use Rattle.s_lex.proofs.bytes.end_of.Given as goal

abbrev pub invariant-loop-at : goal.invariant-loop-at
invariant-loop-at l = record {
  runs : l.at + run (is_of l.class) (drop l.at l.bytes) ≡ l.start + run (is_of l.class) (drop l.start l.bytes);
  within : l.at ≤ length l.bytes;
}

abbrev pub decreases-loop-at : goal.decreases-loop-at
decreases-loop-at l = length l.bytes - l.at
