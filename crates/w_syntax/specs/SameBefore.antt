-- Modules that are alike in front of the code section.
use Rattle.std.specs.Prelude.{◌≡◌}
use Rattle.w_syntax.specs.declared.module.Module.{Module}

-- n has the lists of m in front of the code section
pub record SameBefore (m n : Module) : Type 0 where
  pub types : n.types ≡ m.types
  pub imports : n.imports ≡ m.imports
  pub functions : n.functions ≡ m.functions
  pub tables : n.tables ≡ m.tables
  pub memories : n.memories ≡ m.memories
  pub tags : n.tags ≡ m.tags
  pub globals : n.globals ≡ m.globals
  pub exports : n.exports ≡ m.exports
  pub start : n.start ≡ m.start
  pub elements : n.elements ≡ m.elements
