use Rattle.s_judge.proofs.OneJudgement as judged
use Rattle.s_judge.proofs.laws.some_judgement.Goals as goal

pub returns : goal.returns
returns c = record { some = λ bytes. judged.some_judgement bytes }
