use Rattle.std.proofs.Common.{◌≤◌, ◌-◌, length, drop}
use Rattle.w_trace.proofs.WrongLines.{Known}
use Rattle.w_trace.proofs.reading.read_lines.Given as goal

abbrev pub invariant-loop-end : goal.invariant-loop-end
invariant-loop-end l = record {
  known : Known l.bytes l.events (drop l.at l.bytes);
  within : l.at ≤ length l.bytes;
  few : length l.events ≤ l.at;
}

abbrev pub decreases-loop-end : goal.decreases-loop-end
decreases-loop-end l = length l.bytes - l.at
