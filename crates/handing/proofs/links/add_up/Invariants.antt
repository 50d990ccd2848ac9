use Rattle.std.proofs.Common.{◌≡◌, ◌+◌, drop}
use Rattle.std.specs.List.{sum}
use Rattle.handing.proofs.links.add_up.Given as goal

-- what is left is the total without the lengths so far
abbrev pub invariant-loop-length : goal.invariant-loop-length
invariant-loop-length l = sum l.lengths + l.left ≡ l.total + sum (drop l.length-index l.lengths)
