use Rattle.w_table_ops.proofs.Elements.{get_needs, get_of, get_table, get_goes, get_traps, get_keeps}
use Rattle.w_table_ops.proofs.table_steps.table_get.Goals as goal

pub peek-requires : goal.peek-requires
peek-requires c = record { some = (get_needs c.args.program.now c.args.store.now c.args.stack.now c.args.index c.requires.moves).some }

pub i32_of-at-requires : goal.i32_of-at-requires
i32_of-at-requires c = (get_of c.args.program.now c.args.store.now c.args.stack.now c.args.index c.requires.moves c.peek.result c.peek.ensures.value).0

pub table_get-requires : goal.table_get-requires
table_get-requires c = record { table = get_table c.args.program.now c.args.store.now c.args.stack.now c.args.index c.requires.moves c.peek.result c.peek.ensures.value }

pub replace-requires-clause-place : goal.replace-requires-clause-place
replace-requires-clause-place c = (get_needs c.args.program.now c.args.store.now c.args.stack.now c.args.index c.requires.moves).place

pub returns-in-Some-clause-goes : goal.returns-in-Some-clause-goes
returns-in-Some-clause-goes c =
    get_goes c.args.program.now c.args.store.now c.args.stack.now c.args.index c.requires.moves c.peek.result c.peek.ensures.value
    c.i32_of-at.result c.table_get.result c.i32_of-at.ensures c.table_get.ensures.element c.replace.new.stack c.in-Some.value c.in-Some.is c.replace.ensures.after

pub returns-in-Some-clause-keeps : goal.returns-in-Some-clause-keeps
returns-in-Some-clause-keeps c =
    get_keeps c.args.program.now c.args.store.now c.args.stack.now c.args.index c.requires.moves c.peek.result c.peek.ensures.value
    c.i32_of-at.result c.table_get.result c.i32_of-at.ensures c.table_get.ensures.element c.replace.new.stack c.in-Some.value c.in-Some.is c.replace.ensures.after

pub returns-in-None-clause-goes : goal.returns-in-None-clause-goes
returns-in-None-clause-goes c =
    get_traps c.args.program.now c.args.store.now c.args.stack.now c.args.index c.requires.moves c.peek.result c.peek.ensures.value
    c.i32_of-at.result c.table_get.result c.i32_of-at.ensures c.table_get.ensures.element c.in-None.is
