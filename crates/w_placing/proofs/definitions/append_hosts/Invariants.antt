use Rattle.std.proofs.Common.{◌≡◌, ◌++◌, drop}
use Rattle.w_linked.specs.Definitions.{host_types}
use Rattle.w_placing.proofs.definitions.append_hosts.Given as goal

abbrev pub invariant-loop-import : goal.invariant-loop-import
invariant-loop-import l = l.fn.all.items ++ host_types l.n l.module l.module.imports ≡ l.all.items ++ host_types l.n l.module (drop l.import-index l.import-items)
