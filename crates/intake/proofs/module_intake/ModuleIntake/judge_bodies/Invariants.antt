use Rattle.std.proofs.Common.{◌≡◌, ℕ, List}
use Rattle.w_valid.specs.Gradual.{judged}
use Rattle.intake.specs.Intake.{IsModuleOf}
use Rattle.intake.proofs.module_intake.ModuleIntake.judge_bodies.Given as goal

-- the bodies so far are judged
abbrev pub invariant-loop-index : goal.invariant-loop-index
invariant-loop-index l = record {
  count : judged l.self.gradual ≡ l.index;
  decoder : l.self.decoder ≡ l.fn.self.decoder;
  stands : (b : List ℕ) → IsModuleOf l.fn.self b → IsModuleOf l.self b;
}
