use Rattle.std.proofs.Common.{refl, sym, ap, ◌∙◌, length, List}
use Rattle.std.proofs.Math.Nat.{max-zero}
use Rattle.w_locals.specs.Locals.{outer_sets}
use Rattle.w_vplain.specs.Frames.{Frame}
use Rattle.w_vplain.specs.Standing.{frames_of, top_of}
use Rattle.w_vplain.proofs.FrameViews.{as_many, none_deeper, raised_answered}
use Rattle.w_vplain.proofs.checker.Checker.advance_op.Goals as goal

pub returns-clause-counted : goal.returns-clause-counted
returns-clause-counted c = λ _.
    let old = c.args.self.now in
    let mid = c.op.new.self in
    let new = c.count_operands.new.self in
    record {
      depth = λ deep. none_deeper old.depth new.depth (length (frames_of new)) (length (frames_of old))
          (ap (λ (fs : List Frame). length fs) c.count_operands.ensures.frames
          ∙ as_many mid.ended old.ended (top_of mid) (top_of old) mid.outer.items old.outer.items (outer_sets mid.locals.sets) (outer_sets old.locals.sets) c.op.ensures.ended c.op.ensures.outer)
          (c.count_operands.ensures.depth ∙ c.op.ensures.uncounted.depth) deep;
      peak = λ bases.
          let b = c.op.ensures.bases bases in (
            c.count_operands.ensures.bases b,
            raised_answered old.peak mid.peak mid.peak 0 new.peak 0 (frames_of new) (frames_of mid) (sym (max-zero mid.peak)) c.op.ensures.uncounted.peak refl
                (c.in_ok-count_operands.ensures.raises b) c.count_operands.ensures.frames,
          );
    }
