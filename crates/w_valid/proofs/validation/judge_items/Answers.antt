use Rattle.w_valid.proofs.KnownClasses.{kinds_known}
use Rattle.w_valid.proofs.validation.judge_items.Goals as goal

pub first_invalid_function-requires-clause-keeps : goal.first_invalid_function-requires-clause-keeps
first_invalid_function-requires-clause-keeps c = kinds_known c.args.candidate.now (rw c.in_default.is at c.in_ok-fault.ensures)

pub first_invalid_function-requires-clause-bodies : goal.first_invalid_function-requires-clause-bodies
first_invalid_function-requires-clause-bodies c = c.requires.bodies (kinds_known c.args.candidate.now (rw c.in_default.is at c.in_ok-fault.ensures))
