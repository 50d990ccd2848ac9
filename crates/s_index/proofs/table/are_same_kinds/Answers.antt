use Rattle.std.proofs.Common.{sym}
use Rattle.s_index.proofs.SameTypes.{other_lengths}
use Rattle.s_index.proofs.table.are_same_kinds.Goals as goal

pub returns-then-these-those : goal.returns-then-these-those
returns-then-these-those c = record { value = sym (other_lengths c.args.these.now c.args.those.now c.if-these-those.true) }
