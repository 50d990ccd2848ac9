use Rattle.std.proofs.Common.{◌≡◌, ◌-◌, ◌≤◌, drop, length}
use Rattle.w_syntax.specs.Code.{Code}
use Rattle.w_syntax.specs.Expr.{Path, read_code, read_expr}
use Rattle.w_syntax.specs.Builds.{Builds}
use Rattle.w_code.proofs.bodies.body_at.Given as goal

-- what is still read makes of the tokens so far what is read of all
abbrev pub invariant-loop-place : goal.invariant-loop-place
invariant-loop-place l = (p : Path) × (c : Code) × record {
  stands : Builds p c l.builder;
  reads : read_code (length (drop l.place l.bytes)) p c (drop l.place l.bytes) ≡ read_expr (drop l.at l.bytes);
  after : l.at ≤ l.place;
}

abbrev pub decreases-loop-place : goal.decreases-loop-place
decreases-loop-place l = length l.bytes - l.place
