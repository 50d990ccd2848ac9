use Rattle.std.proofs.Common.{◌≤◌, ◌-◌, length, drop}
use Rattle.w_text.proofs.LoopOverLines.{Known}
use Rattle.w_text.proofs.assembling.take_lines.Given as goal

abbrev pub invariant-loop-end : goal.invariant-loop-end
invariant-loop-end l = record {
  known : Known l.text l.number (drop l.at l.text) l.assembly;
  within : l.at ≤ length l.text;
  few : l.number ≤ l.at;
}

abbrev pub decreases-loop-end : goal.decreases-loop-end
decreases-loop-end l = length l.text - l.at
