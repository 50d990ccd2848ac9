use Rattle.drive.proofs.ExactAudits.{audits_exact}
use Rattle.drive.proofs.laws.audits_are_exact.Goals as goal

pub returns : goal.returns
returns c = audits_exact c.traces_fit.ensures c.runs_are_one_shot.ensures c.tags_are_few.ensures
