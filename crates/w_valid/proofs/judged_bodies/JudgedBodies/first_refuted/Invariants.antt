use Rattle.std.proofs.Common.{◌≡◌, ◌≤◌, length}
use Rattle.w_syntax.specs.declared.module.Module.{Module}
use Rattle.w_valid.specs.JudgedBodies.{AreJudged}
use Rattle.w_valid.proofs.BodiesJudged.{RefutedSoFar}
use Rattle.w_valid.proofs.judged_bodies.JudgedBodies.first_refuted.Given as goal

-- the first body that the doubts so far refute
abbrev pub invariant-loop-doubt : goal.invariant-loop-doubt
invariant-loop-doubt l = record {
  within : l.first ≤ length l.self.heights.items;
  refuted : (m : Module) → length m.datas ≡ l.datas → AreJudged m l.self → RefutedSoFar m l.self l.doubt-index l.first;
}
