use Rattle.drive.proofs.OneAnswer.{one_answer}
use Rattle.drive.proofs.laws.one_answer.Goals as goal

pub returns : goal.returns
returns c = one_answer
