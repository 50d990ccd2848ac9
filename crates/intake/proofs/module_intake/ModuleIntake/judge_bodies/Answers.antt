use Rattle.std.proofs.Common.{ℕ, ◌+◌, length, sym, ap, subst, ◌∙◌, arith}
use Rattle.w_syntax.specs.Functions.{code_of_function}
use Rattle.w_syntax.specs.declared.module.Module.{Module}
use Rattle.w_decode.specs.Pieces.{IsSound, so_far_of}
use Rattle.w_decode.specs.declared.pieces.Decoder.{Decoder}
use Rattle.w_syntax.specs.SameBefore.{SameBefore}
use Rattle.intake.proofs.ModulesInPieces.{body_more}
use Rattle.intake.proofs.module_intake.ModuleIntake.judge_bodies.Goals as goal

pub loop-index-preserved : goal.loop-index-preserved
loop-index-preserved c = record {
  count = c.in_ok-body.ensures.judged ∙ ap (λ (n : ℕ). n + 1) c.loop-index.invariant.count;
  decoder = c.loop-index.invariant.decoder;
  stands = λ b h.
      let d = c.loop-index.self.decoder in
      let j = c.loop-index.index in
      let same = c.so_far.ensures.same in
      let before = c.loop-index.invariant.stands b h in
      let sound = subst IsSound (sym c.loop-index.invariant.decoder) c.requires in
      let closed = c.closed-index-end.ensures b h.decoder c.requires in
      let codes = ap (λ (x : Decoder). length (so_far_of x).codes) c.loop-index.invariant.decoder in
      body_more d c.loop-index.self.gradual c.body.new.self j b (omega (arith, c.loop-index-test.true, closed, codes))
      (λ k n spells. c.so_far.ensures.ends b k n before.decoder sound spells)
      (λ n answers lists code. c.in_ok-body.ensures.answers n answers (subst (λ (m : Module). SameBefore m n) (sym same) lists) (ap (λ (m : Module). code_of_function m j) same ∙ code))
      before;
}
