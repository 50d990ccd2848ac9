use Rattle.std.proofs.Common.{◌≡◌, ◌≤◌, ◌-◌, ℕ, List}
use Rattle.w_outside.specs.Outside.{Known}
use Rattle.intake.specs.Intake.{IsReadTo}
use Rattle.intake.proofs.input.read_all.Given as goal

-- what was taken in and what is left are the file
abbrev pub invariant-loop-length : goal.invariant-loop-length
invariant-loop-length g l =
    let file = g.F.Inputs.file in
    record {
      whole : (known : Known) → IsReadTo known (g.F.Inputs.left l.fn.files) l.takes l.fn.intake 0 → IsReadTo known (g.F.Inputs.left l.files) l.takes l.intake l.length;
      short : l.length ≤ 16777217;
      names : (n : List ℕ) → file l.files n ≡ file l.fn.files n;
      later : g.F.Inputs.faults l.fn.files ≤ g.F.Inputs.faults l.files;
    }

abbrev pub decreases-loop-length : goal.decreases-loop-length
decreases-loop-length g l = 16777217 - l.length
