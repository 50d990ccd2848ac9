use Rattle.s_judge.proofs.OneJudgement as judged
use Rattle.s_judge.proofs.laws.one_judgement.Goals as goal

pub returns : goal.returns
returns c = record { one = λ bytes r s h k. judged.one_judgement bytes r s h k }
