use Rattle.std.proofs.Common.{◌-◌, length}
use Rattle.w_rows.proofs.WordedOperands.{worded_taken}
use Rattle.w_flow.proofs.flow.Flow.drops.Goals as goal

pub returns-clause-words : goal.returns-clause-words
returns-clause-words c = λ es a. worded_taken es c.args.self.now.operands c.take_any.new.operands (length c.args.self.now.operands - 1) c.take_any.ensures.rest a
