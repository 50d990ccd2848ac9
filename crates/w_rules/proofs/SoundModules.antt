-- A valid module is sound.
use Rattle.w_syntax.specs.declared.module.Module.{Module}
use Rattle.w_rules.specs.Valid.{Valid, MemoryItem}
use Rattle.w_rules.specs.Sound.{Sound}

pub valid_is_sound : (m : Module) → Valid m → Sound m
valid_is_sound m valid = record { items = λ x asked is. valid x is; memories = (valid MemoryItem tt).limits }
