use Rattle.std.proofs.Common.{get_or}
use Rattle.std.proofs.lemmas.List.{get_or_default}
use Rattle.w_memory.specs.Memory.{Memory}
use Rattle.w_tables.proofs.ChangedMemories.{copied_in_place}
use Rattle.w_tables.proofs.memories.copy_within.Goals as goal

pub returns : goal.returns
returns c =
    let x : Memory = get_or c.args.memories.now c.args.at c.index-memories-at.result in
    record { left = copied_in_place _ _ _ _ _ x _ _ (get_or_default c.args.memories.now c.args.at _ c.index-memories-at.result c.requires.memory) c.copy.ensures.outcome c.copy.ensures.unchanged }
