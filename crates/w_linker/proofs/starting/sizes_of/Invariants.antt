use Rattle.std.proofs.Common.{◌≡◌, map, take}
use Rattle.w_linker.specs.Segments.{sizes_of}
use Rattle.w_linker.proofs.starting.sizes_of.Given as goal

abbrev pub invariant-loop-checked : goal.invariant-loop-checked
invariant-loop-checked l = l.sizes.items ≡ map sizes_of (take l.checked-index l.modules)
