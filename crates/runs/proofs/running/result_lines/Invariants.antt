use Rattle.std.proofs.Common.{◌≡◌, ◌++◌, drop, flat_map}
use Rattle.w_reduce.specs.Values.{val}
use Rattle.replies.specs.Answer.{result_line}
use Rattle.replies.specs.Pieces.{joined}
use Rattle.runs.proofs.running.result_lines.Given as goal

-- the lines that were collected, and those of the values that are left, are the lines of all
abbrev pub invariant-loop-value : goal.invariant-loop-value
invariant-loop-value l =
    joined l.lines.items ++ flat_map (λ v. result_line (val v)) (drop l.value-index l.values) ≡ flat_map (λ v. result_line (val v)) l.values
