use Rattle.w_table_ops.proofs.ElementsWritten.{set_needs, set_of, set_table, set_writes}
use Rattle.w_table_ops.proofs.table_steps.table_set.Goals as goal

pub top_two-at-requires : goal.top_two-at-requires
top_two-at-requires c = (set_needs c.args.program.now c.args.store.now c.args.stack.now c.args.index c.requires.moves).some

pub i32_of-requires : goal.i32_of-requires
i32_of-requires c =
    (set_of c.args.program.now c.args.store.now c.args.stack.now c.args.index c.requires.moves c.top_two-at.result.0 c.top_two-at.result.1 c.top_two-at.ensures).0

pub table_set-requires : goal.table_set-requires
table_set-requires c =
    record {
      table = set_table c.args.program.now c.args.store.now c.args.stack.now c.args.index c.requires.moves
          c.top_two-at.result.0 c.top_two-at.result.1 c.top_two-at.ensures;
    }

pub drop_next-requires-clause-place : goal.drop_next-requires-clause-place
drop_next-requires-clause-place c = (set_needs c.args.program.now c.args.store.now c.args.stack.now c.args.index c.requires.moves).place

pub returns-in-Some-clause-goes : goal.returns-in-Some-clause-goes
returns-in-Some-clause-goes c =
    (set_writes c.args.program.now c.args.store.now c.args.stack.now c.args.index c.requires.moves c.top_two-at.result.0 c.top_two-at.result.1 c.top_two-at.ensures
    c.i32_of.result c.table_set.result c.table_set.new.self c.i32_of.ensures c.table_set.ensures.outcome).goes
    c.drop_next.new.stack c.in-Some.is c.drop_next.ensures.after

pub returns-in-Some-clause-keeps : goal.returns-in-Some-clause-keeps
returns-in-Some-clause-keeps c =
    (set_writes c.args.program.now c.args.store.now c.args.stack.now c.args.index c.requires.moves c.top_two-at.result.0 c.top_two-at.result.1 c.top_two-at.ensures
    c.i32_of.result c.table_set.result c.table_set.new.self c.i32_of.ensures c.table_set.ensures.outcome).keeps c.drop_next.new.stack c.drop_next.ensures.after

pub returns-in-Some-clause-memories : goal.returns-in-Some-clause-memories
returns-in-Some-clause-memories c =
    (set_writes c.args.program.now c.args.store.now c.args.stack.now c.args.index c.requires.moves c.top_two-at.result.0 c.top_two-at.result.1 c.top_two-at.ensures
    c.i32_of.result c.table_set.result c.table_set.new.self c.i32_of.ensures c.table_set.ensures.outcome).memories

pub returns-in-None-clause-goes : goal.returns-in-None-clause-goes
returns-in-None-clause-goes c =
    (set_writes c.args.program.now c.args.store.now c.args.stack.now c.args.index c.requires.moves c.top_two-at.result.0 c.top_two-at.result.1 c.top_two-at.ensures
    c.i32_of.result c.table_set.result c.table_set.new.self c.i32_of.ensures c.table_set.ensures.outcome).traps c.in-None.is

pub returns-in-None-clause-keeps : goal.returns-in-None-clause-keeps
returns-in-None-clause-keeps c =
    (set_writes c.args.program.now c.args.store.now c.args.stack.now c.args.index c.requires.moves c.top_two-at.result.0 c.top_two-at.result.1 c.top_two-at.ensures
    c.i32_of.result c.table_set.result c.table_set.new.self c.i32_of.ensures c.table_set.ensures.outcome).keeps_trapped

pub returns-in-None-clause-memories : goal.returns-in-None-clause-memories
returns-in-None-clause-memories c =
    (set_writes c.args.program.now c.args.store.now c.args.stack.now c.args.index c.requires.moves c.top_two-at.result.0 c.top_two-at.result.1 c.top_two-at.ensures
    c.i32_of.result c.table_set.result c.table_set.new.self c.i32_of.ensures c.table_set.ensures.outcome).memories
