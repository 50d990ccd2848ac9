use Rattle.std.proofs.Common.{◌≡◌, take}
use Rattle.w_rules.proofs.NeedsOfBodies.{most_of, packed_needs}
use Rattle.w_rules.proofs.named_datas.data_needs.Given as goal

-- what the instructions so far need
abbrev pub invariant-loop-packed : goal.invariant-loop-packed
invariant-loop-packed l = l.most ≡ most_of packed_needs (take l.packed-index l.packed-items)
