use Rattle.std.proofs.Common.{ℕ, refl, sym, subst}
use Rattle.w_valid.specs.JudgedBodies.{IsBodyAnswer}
use Rattle.w_valid.proofs.BodiesJudged.{judged_valid, judged_doubted}
use Rattle.w_valid.proofs.judged_bodies.JudgedBodies.push.Goals as goal

pub returns-clause-judged : goal.returns-clause-judged
returns-clause-judged c = λ m judged answer.
    let it = subst (λ (i : ℕ). IsBodyAnswer m i c.args.answer) (sym c.len.ensures) answer in
    judged_doubted c.args.self.now _ c.in_ok-push.ensures.items c.in_ok-push-2.ensures.items c.len.ensures
    (c.measure_of-measure.ensures m c.len.result it) judged c.in-Some.doubt c.in_ok-push-3.ensures.items
    (rw c.in-Some.is at c.doubt_of-doubt.ensures.index) ((rw c.in-Some.is at c.doubt_of-doubt.ensures.some) m it)

pub returns-in_default-clause-judged : goal.returns-in_default-clause-judged
returns-in_default-clause-judged c = λ m judged answer.
    let it = subst (λ (i : ℕ). IsBodyAnswer m i c.args.answer) (sym c.len.ensures) answer in
    judged_valid c.args.self.now _ c.in_ok-push.ensures.items c.in_ok-push-2.ensures.items c.len.ensures
    (c.measure_of-measure.ensures m c.len.result it) judged refl
    ((rw c.in_default.is at c.doubt_of-doubt.ensures.none) m it)
