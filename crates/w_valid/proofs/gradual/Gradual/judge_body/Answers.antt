use Rattle.std.proofs.Common.{ℕ, subst}
use Rattle.w_valid.specs.JudgedBodies.{IsBodyAnswer}
use Rattle.w_valid.proofs.gradual.Gradual.judge_body.Goals as goal

pub returns-clause-answers : goal.returns-clause-answers
returns-clause-answers c = λ n before same code.
    let tables = c.make.ensures.tables n (before.tables c.requires.sound) same in record {
      tables = λ sound. tables;
      bodies = λ sound within keeps.
          c.in_ok-push.ensures.judged n (before.bodies c.requires.sound within keeps)
          (subst (λ (i : ℕ). IsBodyAnswer n i c.in_ok-answer.answer) c.requires.index (c.in_ok-answer.ensures n tables same code within keeps));
    }
