-- How many tags a module may have (Core, binary format, tag section: a list counts its items by a number of 32 bits).
use Rattle.std.specs.Prelude.{◌<◌, ◌^◌, ℕ, List, length}
use Rattle.w_syntax.specs.declared.module.Module.{Module}
use Rattle.w_syntax.specs.Spells.{Spells}

abbrev pub TagsAreFew : Type 0
TagsAreFew = (b : List ℕ) (m : Module) → Spells b m → length m.tags < 2 ^ 32
