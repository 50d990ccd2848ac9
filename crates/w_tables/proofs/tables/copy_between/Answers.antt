-- A copy to a table in front of the source, and to one behind it.
use Rattle.std.proofs.Common.{arith}
use Rattle.w_tables.proofs.ChangedTables.{copied_to_front, copied_to_back, kept, seen}
use Rattle.w_tables.proofs.tables.copy_between.Goals as goal

pub returns-then-dst-src : goal.returns-then-dst-src
returns-then-dst-src c =
    let parts = c.split_at_mut-front in
    let done = rw (c.as_mut_slice.ensures.value, c.as_slice.ensures.value) at c.copy_from.ensures.left in
    record {
      left = copied_to_front _ _ _ _ _ _ _ _ _ _ _ _ parts.ensures.value parts.ensures.front_len (omega arith) (omega arith)
          (seen parts.result.0.now c.args.dst _ _ c.target.view_is c.index-front-dst.is) (seen parts.result.1.now 0 _ _ c.source.view_is c.index-back-0.is)
          (kept c.target.inside.elements _ _ _ (omega (arith, c.target.inside.elements.ok.0, c.copy_from.auto.elements, c.as_mut_slice.ensures.len)) done);
    }

pub returns : goal.returns
returns c =
    let parts = c.split_at_mut-front-2 in
    let done = rw (c.as_mut_slice-2.ensures.value, c.as_slice-2.ensures.value) at c.copy_from-2.ensures.left in
    record {
      left = copied_to_back _ _ _ _ _ _ _ _ _ _ _ _ parts.ensures.value parts.ensures.front_len (omega arith) (omega arith)
          (seen parts.result.1.now 0 _ _ c.target-2.view_is c.index-back-0-2.is) (seen parts.result.0.now c.args.src _ _ c.source-2.view_is c.index-front-src.is)
          (kept c.target-2.inside.elements _ _ _ (omega (arith, c.target-2.inside.elements.ok.0, c.copy_from-2.auto.elements, c.as_mut_slice-2.ensures.len)) done);
    }
