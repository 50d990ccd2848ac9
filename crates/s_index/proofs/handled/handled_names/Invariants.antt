use Rattle.std.proofs.Common.{◌≡◌, ◌++◌, drop}
use Rattle.s_index.specs.Handled.{handled_names}
use Rattle.s_index.specs.Views.{names_of}
use Rattle.s_index.proofs.handled.handled_names.Given as goal

abbrev pub invariant-loop-declaration : goal.invariant-loop-declaration
invariant-loop-declaration l = names_of l.names.items ++ handled_names (drop l.declaration-index l.all) ≡ handled_names l.all
