use Rattle.w_memory_ops.proofs.DataDrop.{drop_needs, drop_follows}
use Rattle.w_memory_ops.proofs.bulk.data_drop.Goals as goal

pub data_drop-requires : goal.data_drop-requires
data_drop-requires c = record { segment = (drop_needs c.args.segment c.requires.moves).segment }

pub drop_next-requires-clause-place : goal.drop_next-requires-clause-place
drop_next-requires-clause-place c = (drop_needs c.args.segment c.requires.moves).operands.place

pub returns-clause-goes : goal.returns-clause-goes
returns-clause-goes c = drop_follows c.args.segment c.requires.moves c.data_drop.new.self c.drop_next.new.stack c.data_drop.ensures.dropped c.drop_next.ensures.after
