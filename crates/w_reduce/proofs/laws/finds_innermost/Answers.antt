use Rattle.std.proofs.Common.{ℕ}
use Rattle.w_reduce.proofs.InnermostHandle.{finding, finding_none}
use Rattle.w_reduce.proofs.laws.finds_innermost.Goals as goal

pub returns-clause-labels : goal.returns-clause-labels
returns-clause-labels _ = finding ℕ

pub returns-clause-no_label : goal.returns-clause-no_label
returns-clause-no_label _ = finding_none ℕ

pub returns-clause-switches : goal.returns-clause-switches
returns-clause-switches _ = finding (Unit {0})

pub returns-clause-no_switch : goal.returns-clause-no_switch
returns-clause-no_switch _ = finding_none (Unit {0})
