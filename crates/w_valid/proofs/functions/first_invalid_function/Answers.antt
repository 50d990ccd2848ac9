use Rattle.std.proofs.Common.{ℕ, inl, inr, length, below_more, sym, subst, arith}
use Rattle.std.proofs.lemmas.Bool.{cases_lt}
use Rattle.w_valid.specs.Measured.{AreMeasuresBelow}
use Rattle.w_valid.proofs.BodiesJudged.{all_judged}
use Rattle.w_valid.proofs.FunctionsMeasured.{one_measured, all_measured}
use Rattle.w_valid.proofs.functions.first_invalid_function.Goals as goal

pub returns-in-Some-clause-first : goal.returns-in-Some-clause-first
returns-in-Some-clause-first c =
    let m = c.args.candidate.now in
    let first = rw c.in-Some.is at c.first_refuted.ensures m (sym c.len-3.ensures) (c.truncate.ensures.judged m c.requires.bodies) in (
      elim (cases_lt c.in-Some.index (length m.functions)) [ inl lt ↦ inl lt | inr ge ↦ inr (omega (arith, ge, first.0, c.truncate.ensures.few, c.max-count.ensures, c.len.ensures, c.len-2.ensures)) ],
      first.1,
      λ j lt item. first.2 j lt,
    )

pub loop-index-init : goal.loop-index-init
loop-index-init c =
    let m = c.args.candidate.now in
    let judged = c.truncate.ensures.judged m c.requires.bodies in
    let valid = rw c.in_default.is at c.first_refuted.ensures m (sym c.len-3.ensures) judged in
    record {
      typed = λ j lt. valid j (omega (arith, lt, c.len-index.ensures));
      measured = subst (λ (n : ℕ). AreMeasuresBelow m n c.truncate.new.self.heights.items c.truncate.new.self.depths.items) (sym c.len-index.ensures) (all_judged c.truncate.new.self judged valid);
    }

pub loop-index-preserved : goal.loop-index-preserved
loop-index-preserved c =
    let here = rw c.in-Some-2.is at c.in_ok-height.ensures in
    record {
      typed = below_more _ _ c.loop-index.invariant.typed here.0;
      measured = one_measured c.args.candidate.now c.loop-index.index c.in-Some-2.height c.in-Some-2.depth
          c.loop-index.bodies.heights.items c.loop-index.bodies.depths.items _ _ c.in_ok-push.ensures.items c.in_ok-push-2.ensures.items c.loop-index.invariant.measured here.1;
    }

pub returns-clause-measured : goal.returns-clause-measured
returns-clause-measured c =
    all_measured c.args.candidate.now c.loop-index.index c.loop-index.bodies.heights.items c.loop-index.bodies.depths.items
    (omega arith) c.loop-index.invariant.typed c.loop-index.invariant.measured
