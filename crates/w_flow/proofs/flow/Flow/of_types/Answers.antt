use Rattle.std.proofs.Common.{ap}
use Rattle.w_flow.specs.View.{reached}
use Rattle.w_flow.proofs.RowsOfLists.{given_first}
use Rattle.w_flow.proofs.flow.Flow.of_types.Goals as goal

pub returns-clause-types : goal.returns-clause-types
returns-clause-types c = ap reached (given_first c.truncate.new.self c.give_behind.new.operands c.args.types.types.now c.in_ok-give_behind.ensures.given)
