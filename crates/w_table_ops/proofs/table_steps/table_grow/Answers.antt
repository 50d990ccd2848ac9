use Rattle.std.proofs.Common.{rules}
use mir.Syntax.{w32}
use mir.Val.{SFits}
use Rattle.w_table_ops.proofs.TableGrow.{grow_needs, grow_of, grow_table, grow_goes, answer_bits, grow_memories, grow_keeps}
use Rattle.w_table_ops.proofs.table_steps.table_grow.Goals as goal

pub top_two-value-requires : goal.top_two-value-requires
top_two-value-requires c = (grow_needs c.args.program.now c.args.store.now c.args.stack.now c.args.index c.requires.moves).some

pub i32_of-requires : goal.i32_of-requires
i32_of-requires c =
    (grow_of c.args.program.now c.args.store.now c.args.stack.now c.args.index c.requires.moves
    c.top_two-value.result.0 c.top_two-value.result.1 c.top_two-value.ensures).0

pub table_grow-requires : goal.table_grow-requires
table_grow-requires c =
    record {
      table = grow_table c.args.program.now c.args.store.now c.args.stack.now c.args.index c.requires.moves
          c.top_two-value.result.0 c.top_two-value.result.1 c.top_two-value.ensures;
    }

pub replace-requires-clause-place : goal.replace-requires-clause-place
replace-requires-clause-place c = (grow_needs c.args.program.now c.args.store.now c.args.stack.now c.args.index c.requires.moves).place

pub returns-clause-goes : goal.returns-clause-goes
returns-clause-goes c =
    let fits : SFits w32 c.in_ok-answer.answer = search rules in
    grow_goes c.args.program.now c.args.store.now c.args.stack.now c.args.index c.requires.moves c.top_two-value.result.0 c.top_two-value.result.1 c.top_two-value.ensures
    c.i32_of.result c.in_ok-answer.answer c.table_grow.new.self c.i32_of.ensures c.in_ok-answer.ensures.grown
    c.replace.new.stack c.cast_unsigned.result (answer_bits c.cast_unsigned.result c.in_ok-answer.answer fits c.cast_unsigned.ensures) c.replace.ensures.after

pub returns-clause-keeps : goal.returns-clause-keeps
returns-clause-keeps c =
    grow_keeps c.args.program.now c.args.store.now c.args.stack.now c.args.index c.requires.moves
    c.top_two-value.result.0 c.top_two-value.result.1 c.top_two-value.ensures
    c.i32_of.result c.in_ok-answer.answer c.table_grow.new.self c.i32_of.ensures c.in_ok-answer.ensures.grown
    c.replace.new.stack c.cast_unsigned.result c.replace.ensures.after

pub returns-clause-memories : goal.returns-clause-memories
returns-clause-memories c =
    grow_memories c.args.program.now c.args.store.now c.args.stack.now c.args.index c.requires.moves
    c.top_two-value.result.0 c.top_two-value.result.1 c.top_two-value.ensures
    c.i32_of.result c.in_ok-answer.answer c.table_grow.new.self c.i32_of.ensures c.in_ok-answer.ensures.grown
