use Rattle.s_judge.proofs.OneJudgement.{only_answer}
use Rattle.s_judge.proofs.judging.judge.Goals as goal

pub returns-clause-only : goal.returns-clause-only
returns-clause-only c = only_answer c.args.bytes.now c.judge_in_turn.result c.judge_in_turn.ensures.ok c.judge_in_turn.ensures.err
