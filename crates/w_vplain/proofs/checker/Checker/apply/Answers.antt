use Rattle.w_vplain.proofs.CallsAnswered.{answers_row}
use Rattle.w_vplain.proofs.checker.Checker.apply.Goals as goal

pub returns-clause-answers : goal.returns-clause-answers
returns-clause-answers c = answers_row c.call.result c.args.self.now c.call.new.self _ c.call.ensures.steps c.call.ensures.body
