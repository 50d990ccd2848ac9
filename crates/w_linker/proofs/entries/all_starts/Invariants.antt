use Rattle.std.proofs.Common.{◌≡◌, ◌++◌}
use Rattle.w_linked.specs.Linked.{all_starts}
use Rattle.w_placing.specs.Placing.{zipped}
use Rattle.w_linker.proofs.OneByOne.{starts_from}
use Rattle.w_linker.proofs.entries.all_starts.Given as goal

-- those of the files so far, and of the rest
abbrev pub invariant-loop-index : goal.invariant-loop-index
invariant-loop-index l = l.starts.items ++ starts_from l.modules l.instances l.index ≡ all_starts (zipped l.modules l.instances)
