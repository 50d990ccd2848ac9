use Rattle.s_parse.proofs.OneAnswer as answers
use Rattle.s_parse.proofs.laws.one_answer.Goals as goal

pub returns : goal.returns
returns c = record { one = answers.one_answer }
