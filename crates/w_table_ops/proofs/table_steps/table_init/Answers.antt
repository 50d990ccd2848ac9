use Rattle.w_table_ops.proofs.ElementsWritten.{init_needs, init_of, init_table, init_segment, init_writes}
use Rattle.w_table_ops.proofs.table_steps.table_init.Goals as goal

pub top_three-to-requires : goal.top_three-to-requires
top_three-to-requires c = (init_needs c.args.program.now c.args.store.now c.args.stack.now c.args.segment c.args.index c.requires.moves).some

pub i32_of-requires : goal.i32_of-requires
i32_of-requires c =
    (init_of c.args.program.now c.args.store.now c.args.stack.now c.args.segment c.args.index c.requires.moves
    c.top_three-to.result.0 c.top_three-to.result.1 c.top_three-to.result.2 c.top_three-to.ensures).1.1.0

pub i32_of-requires-2 : goal.i32_of-requires-2
i32_of-requires-2 c =
    (init_of c.args.program.now c.args.store.now c.args.stack.now c.args.segment c.args.index c.requires.moves
    c.top_three-to.result.0 c.top_three-to.result.1 c.top_three-to.result.2 c.top_three-to.ensures).1.0

pub i32_of-requires-3 : goal.i32_of-requires-3
i32_of-requires-3 c =
    (init_of c.args.program.now c.args.store.now c.args.stack.now c.args.segment c.args.index c.requires.moves
    c.top_three-to.result.0 c.top_three-to.result.1 c.top_three-to.result.2 c.top_three-to.ensures).0

pub table_init-requires-clause-table : goal.table_init-requires-clause-table
table_init-requires-clause-table c =
    init_table c.args.program.now c.args.store.now c.args.stack.now c.args.segment c.args.index c.requires.moves
    c.top_three-to.result.0 c.top_three-to.result.1 c.top_three-to.result.2 c.top_three-to.ensures

pub table_init-requires-clause-segment : goal.table_init-requires-clause-segment
table_init-requires-clause-segment c =
    init_segment c.args.program.now c.args.store.now c.args.stack.now c.args.segment c.args.index c.requires.moves
    c.top_three-to.result.0 c.top_three-to.result.1 c.top_three-to.result.2 c.top_three-to.ensures

pub drop_next-requires-clause-place : goal.drop_next-requires-clause-place
drop_next-requires-clause-place c = (init_needs c.args.program.now c.args.store.now c.args.stack.now c.args.segment c.args.index c.requires.moves).place

pub returns-in-Some-clause-goes : goal.returns-in-Some-clause-goes
returns-in-Some-clause-goes c =
    (init_writes c.args.program.now c.args.store.now c.args.stack.now c.args.segment c.args.index c.requires.moves
    c.top_three-to.result.0 c.top_three-to.result.1 c.top_three-to.result.2 c.top_three-to.ensures
    c.i32_of.result c.i32_of-2.result c.i32_of-3.result c.table_init.result c.table_init.new.self c.i32_of.ensures c.i32_of-2.ensures c.i32_of-3.ensures c.table_init.ensures.outcome).goes
    c.drop_next.new.stack c.in-Some.is c.drop_next.ensures.after

pub returns-in-Some-clause-keeps : goal.returns-in-Some-clause-keeps
returns-in-Some-clause-keeps c =
    (init_writes c.args.program.now c.args.store.now c.args.stack.now c.args.segment c.args.index c.requires.moves
    c.top_three-to.result.0 c.top_three-to.result.1 c.top_three-to.result.2 c.top_three-to.ensures
    c.i32_of.result c.i32_of-2.result c.i32_of-3.result c.table_init.result c.table_init.new.self c.i32_of.ensures c.i32_of-2.ensures c.i32_of-3.ensures c.table_init.ensures.outcome).keeps
    c.drop_next.new.stack c.drop_next.ensures.after

pub returns-in-Some-clause-memories : goal.returns-in-Some-clause-memories
returns-in-Some-clause-memories c =
    (init_writes c.args.program.now c.args.store.now c.args.stack.now c.args.segment c.args.index c.requires.moves
    c.top_three-to.result.0 c.top_three-to.result.1 c.top_three-to.result.2 c.top_three-to.ensures
    c.i32_of.result c.i32_of-2.result c.i32_of-3.result c.table_init.result c.table_init.new.self c.i32_of.ensures c.i32_of-2.ensures c.i32_of-3.ensures c.table_init.ensures.outcome).memories

pub returns-in-None-clause-goes : goal.returns-in-None-clause-goes
returns-in-None-clause-goes c =
    (init_writes c.args.program.now c.args.store.now c.args.stack.now c.args.segment c.args.index c.requires.moves
    c.top_three-to.result.0 c.top_three-to.result.1 c.top_three-to.result.2 c.top_three-to.ensures
    c.i32_of.result c.i32_of-2.result c.i32_of-3.result c.table_init.result c.table_init.new.self c.i32_of.ensures c.i32_of-2.ensures c.i32_of-3.ensures c.table_init.ensures.outcome).traps c.in-None.is

pub returns-in-None-clause-keeps : goal.returns-in-None-clause-keeps
returns-in-None-clause-keeps c =
    (init_writes c.args.program.now c.args.store.now c.args.stack.now c.args.segment c.args.index c.requires.moves
    c.top_three-to.result.0 c.top_three-to.result.1 c.top_three-to.result.2 c.top_three-to.ensures
    c.i32_of.result c.i32_of-2.result c.i32_of-3.result c.table_init.result c.table_init.new.self c.i32_of.ensures c.i32_of-2.ensures c.i32_of-3.ensures c.table_init.ensures.outcome).keeps_trapped

pub returns-in-None-clause-memories : goal.returns-in-None-clause-memories
returns-in-None-clause-memories c =
    (init_writes c.args.program.now c.args.store.now c.args.stack.now c.args.segment c.args.index c.requires.moves
    c.top_three-to.result.0 c.top_three-to.result.1 c.top_three-to.result.2 c.top_three-to.ensures
    c.i32_of.result c.i32_of-2.result c.i32_of-3.result c.table_init.result c.table_init.new.self c.i32_of.ensures c.i32_of-2.ensures c.i32_of-3.ensures c.table_init.ensures.outcome).memories
