use Rattle.drive.proofs.SomeAnswer.{some_answer}
use Rattle.drive.proofs.laws.some_answer.Goals as goal

pub returns : goal.returns
returns c = some_answer
