-- What a store ends as once its memory was changed.
use Rattle.std.specs.Prelude.{ℕ}
use Rattle.std.specs.Borrow.{Lends, MutBor, Fml}
use Rattle.w_memory.specs.Memory.{Memory}
use Rattle.w_memory.specs.contracts.mem.Mem as mem
use Rattle.w_tables.specs.Store.{Store}
use Rattle.w_tables.specs.Operations.{with_memory}
use Rattle.w_tables.specs.contracts.store.Store.{the_row}

-- s ends with the memory at an address as r leaves it
abbrev pub LendsMemory : MutBor Store → ℕ → MutBor Memory → Fml
LendsMemory s x r = Lends the_row mem.the_row s r (with_memory s.now x)
