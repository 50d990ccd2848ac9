use Rattle.w_table_ops.proofs.ElementsWritten.{fill_needs, fill_of, fill_table, fill_writes}
use Rattle.w_table_ops.proofs.table_steps.table_fill.Goals as goal

pub top_three-at-requires : goal.top_three-at-requires
top_three-at-requires c = (fill_needs c.args.program.now c.args.store.now c.args.stack.now c.args.index c.requires.moves).some

pub i32_of-requires : goal.i32_of-requires
i32_of-requires c =
    (fill_of c.args.program.now c.args.store.now c.args.stack.now c.args.index c.requires.moves
    c.top_three-at.result.0 c.top_three-at.result.1 c.top_three-at.result.2 c.top_three-at.ensures).1.0

pub i32_of-requires-2 : goal.i32_of-requires-2
i32_of-requires-2 c =
    (fill_of c.args.program.now c.args.store.now c.args.stack.now c.args.index c.requires.moves
    c.top_three-at.result.0 c.top_three-at.result.1 c.top_three-at.result.2 c.top_three-at.ensures).0

pub table_fill-requires : goal.table_fill-requires
table_fill-requires c =
    record {
      table = fill_table c.args.program.now c.args.store.now c.args.stack.now c.args.index c.requires.moves
          c.top_three-at.result.0 c.top_three-at.result.1 c.top_three-at.result.2 c.top_three-at.ensures;
    }

pub drop_next-requires-clause-place : goal.drop_next-requires-clause-place
drop_next-requires-clause-place c = (fill_needs c.args.program.now c.args.store.now c.args.stack.now c.args.index c.requires.moves).place

pub returns-in-Some-clause-goes : goal.returns-in-Some-clause-goes
returns-in-Some-clause-goes c =
    (fill_writes c.args.program.now c.args.store.now c.args.stack.now c.args.index c.requires.moves
    c.top_three-at.result.0 c.top_three-at.result.1 c.top_three-at.result.2 c.top_three-at.ensures
    c.i32_of.result c.i32_of-2.result c.table_fill.result c.table_fill.new.self c.i32_of.ensures c.i32_of-2.ensures c.table_fill.ensures.outcome).goes
    c.drop_next.new.stack c.in-Some.is c.drop_next.ensures.after

pub returns-in-Some-clause-keeps : goal.returns-in-Some-clause-keeps
returns-in-Some-clause-keeps c =
    (fill_writes c.args.program.now c.args.store.now c.args.stack.now c.args.index c.requires.moves
    c.top_three-at.result.0 c.top_three-at.result.1 c.top_three-at.result.2 c.top_three-at.ensures
    c.i32_of.result c.i32_of-2.result c.table_fill.result c.table_fill.new.self c.i32_of.ensures c.i32_of-2.ensures c.table_fill.ensures.outcome).keeps
    c.drop_next.new.stack c.drop_next.ensures.after

pub returns-in-Some-clause-memories : goal.returns-in-Some-clause-memories
returns-in-Some-clause-memories c =
    (fill_writes c.args.program.now c.args.store.now c.args.stack.now c.args.index c.requires.moves
    c.top_three-at.result.0 c.top_three-at.result.1 c.top_three-at.result.2 c.top_three-at.ensures
    c.i32_of.result c.i32_of-2.result c.table_fill.result c.table_fill.new.self c.i32_of.ensures c.i32_of-2.ensures c.table_fill.ensures.outcome).memories

pub returns-in-None-clause-goes : goal.returns-in-None-clause-goes
returns-in-None-clause-goes c =
    (fill_writes c.args.program.now c.args.store.now c.args.stack.now c.args.index c.requires.moves
    c.top_three-at.result.0 c.top_three-at.result.1 c.top_three-at.result.2 c.top_three-at.ensures
    c.i32_of.result c.i32_of-2.result c.table_fill.result c.table_fill.new.self c.i32_of.ensures c.i32_of-2.ensures c.table_fill.ensures.outcome).traps c.in-None.is

pub returns-in-None-clause-keeps : goal.returns-in-None-clause-keeps
returns-in-None-clause-keeps c =
    (fill_writes c.args.program.now c.args.store.now c.args.stack.now c.args.index c.requires.moves
    c.top_three-at.result.0 c.top_three-at.result.1 c.top_three-at.result.2 c.top_three-at.ensures
    c.i32_of.result c.i32_of-2.result c.table_fill.result c.table_fill.new.self c.i32_of.ensures c.i32_of-2.ensures c.table_fill.ensures.outcome).keeps_trapped

pub returns-in-None-clause-memories : goal.returns-in-None-clause-memories
returns-in-None-clause-memories c =
    (fill_writes c.args.program.now c.args.store.now c.args.stack.now c.args.index c.requires.moves
    c.top_three-at.result.0 c.top_three-at.result.1 c.top_three-at.result.2 c.top_three-at.ensures
    c.i32_of.result c.i32_of-2.result c.table_fill.result c.table_fill.new.self c.i32_of.ensures c.i32_of-2.ensures c.table_fill.ensures.outcome).memories
