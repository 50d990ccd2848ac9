use Rattle.std.proofs.Common.{◌≤◌, length, drop}
use Rattle.w_machine.specs.Reached.{AreFirst}
use Rattle.w_machine.proofs.machine.first_segments.Given as goal

-- the segments so far are those of main and of the functions that run last before it
abbrev pub invariant-loop-left : goal.invariant-loop-left
invariant-loop-left l = record { few : l.left ≤ length l.starts; first : AreFirst (drop l.left l.starts) l.main l.next l.waiting.items }

abbrev pub decreases-loop-left : goal.decreases-loop-left
decreases-loop-left l = l.left
