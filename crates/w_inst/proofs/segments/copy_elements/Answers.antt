use Rattle.std.proofs.Common.{arith}
use Rattle.std.proofs.lemmas.Option.{slice_get_within}
use Rattle.w_inst.proofs.SegmentCopies.{table_init_past, segment_there}
use Rattle.w_inst.proofs.segments.copy_elements.Goals as goal

pub returns-then-count-table_size : goal.returns-then-count-table_size
returns-then-count-table_size c = record { copied = table_init_past c.args.store.now c.args.table c.args.segment c.args.at c.args.count (omega (arith, c.if-count-table_size.true, c.table_size.ensures.size)) }

pub table_init-requires-clause-segment : goal.table_init-requires-clause-segment
table_init-requires-clause-segment c =
    let w = segment_there c.args.store.now c.args.segment c.args.count c.requires.count in
    slice_get_within c.args.store.now.elems c.args.segment w.0 w.1
