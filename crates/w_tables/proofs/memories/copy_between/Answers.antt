-- A copy to a memory in front of the source, and to one behind it.
use Rattle.std.proofs.Common.{arith, get_or, refl}
use Rattle.w_memory.specs.Memory.{Memory}
use Rattle.w_tables.proofs.ChangedMemories.{copied_to_front, copied_to_back}
use Rattle.w_tables.proofs.ChangedTables.{seen}
use Rattle.w_tables.proofs.memories.copy_between.Goals as goal

pub returns-then-dst-src : goal.returns-then-dst-src
returns-then-dst-src c =
    let parts = c.split_at_mut-front in
    let x : Memory = get_or parts.result.0.now c.args.dst c.index-front-dst.result in
    let y : Memory = get_or parts.result.1.now 0 c.index-back-0.result in
    record {
      left = copied_to_front _ _ _ _ _ _ _ _ x y _ _ parts.ensures.value parts.ensures.front_len (omega arith) (omega arith)
          (seen parts.result.0.now c.args.dst x c.index-front-dst.result refl c.index-front-dst.is) (seen parts.result.1.now 0 y c.index-back-0.result refl c.index-back-0.is)
          c.copy_from.ensures.outcome c.copy_from.ensures.unchanged;
    }

pub returns : goal.returns
returns c =
    let parts = c.split_at_mut-front-2 in
    let x : Memory = get_or parts.result.1.now 0 c.index-back-0-2.result in
    let y : Memory = get_or parts.result.0.now c.args.src c.index-front-src.result in
    record {
      left = copied_to_back _ _ _ _ _ _ _ _ x y _ _ parts.ensures.value parts.ensures.front_len (omega arith) (omega arith)
          (seen parts.result.1.now 0 x c.index-back-0-2.result refl c.index-back-0-2.is) (seen parts.result.0.now c.args.src y c.index-front-src.result refl c.index-front-src.is)
          c.copy_from-2.ensures.outcome c.copy_from-2.ensures.unchanged;
    }
