use Rattle.std.proofs.Common.{arith}
use Rattle.std.proofs.lemmas.Option.{slice_get_within}
use Rattle.w_inst.proofs.SegmentCopies.{elements_done, elements_trap, elements_keep, table_init_keeps, elem_drop_later, segment_there}
use Rattle.w_inst.proofs.segments.put_elements.Goals as goal

pub returns-in_default-clause-copied : goal.returns-in_default-clause-copied
returns-in_default-clause-copied c =
    elements_trap c.args.store.now c.copy_elements.new.store c.args.table c.args.segment c.args.at c.args.count c.copy_elements.result
    (omega (arith, c.requires.tables, c.if-table-tables.false)) c.requires.count c.copy_elements.ensures.copied c.in_default.is

pub elem_drop-requires : goal.elem_drop-requires
elem_drop-requires c =
    let w = segment_there c.args.store.now c.args.segment c.args.count c.requires.count in
    let k = table_init_keeps c.args.store.now c.copy_elements.new.store c.args.table c.args.segment c.args.at c.args.count c.copy_elements.result c.copy_elements.ensures.copied in
    let there = slice_get_within c.args.store.now.elems c.args.segment w.0 w.1 in
    record { segment = omega (arith, there, k.sizes.elements) }

pub returns-clause-copied : goal.returns-clause-copied
returns-clause-copied c =
    elements_done c.args.store.now c.copy_elements.new.store c.elem_drop.new.self c.args.table c.args.segment c.args.at c.args.count c.copy_elements.result
    (omega (arith, c.requires.tables, c.if-table-tables.false)) c.requires.count c.copy_elements.ensures.copied c.in-Some.is c.elem_drop.ensures.dropped

pub returns-clause-keeps : goal.returns-clause-keeps
returns-clause-keeps c =
    elements_keep c.args.store.now c.copy_elements.new.store c.elem_drop.new.self c.args.table c.args.segment c.args.at c.args.count c.copy_elements.result c.copy_elements.ensures.copied c.elem_drop.ensures.dropped

pub returns-clause-later : goal.returns-clause-later
returns-clause-later c = λ j h.
    elem_drop_later c.args.store.now c.copy_elements.new.store c.elem_drop.new.self c.args.segment j
    (table_init_keeps c.args.store.now c.copy_elements.new.store c.args.table c.args.segment c.args.at c.args.count c.copy_elements.result c.copy_elements.ensures.copied).segments c.elem_drop.ensures.dropped h
