use Rattle.drive.proofs.AnswersMeant.{answers_mean}
use Rattle.drive.proofs.laws.answers_to_scripts_mean.Goals as goal

pub returns : goal.returns
returns c = answers_mean
