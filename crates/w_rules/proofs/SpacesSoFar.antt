-- What of the imports stands in the index spaces.
use Rattle.std.proofs.Common.{◌≡◌, List, []}
use Rattle.std.specs.List.{flat_map}
use Rattle.w_syntax.specs.declared.module.Import.{Import}
use Rattle.w_rules.specs.declared.spaces.Spaces.{Spaces}
use Rattle.w_rules.specs.Spaces.{as_function, as_table, as_memory, as_global, as_tag}

-- the spaces have just these imports
pub record HasImports (s : Spaces) (is : List Import) : Type 0 where
  pub functions : s.functions.items ≡ flat_map (λ (i : Import). as_function i.kind) is
  pub tables : s.tables.items ≡ flat_map (λ (i : Import). as_table i.kind) is
  pub memories : s.memories.items ≡ flat_map (λ (i : Import). as_memory i.kind) is
  pub globals : s.globals.items ≡ flat_map (λ (i : Import). as_global i.kind) is
  pub tags : s.tags.items ≡ flat_map (λ (i : Import). as_tag i.kind) is
  pub elements : s.elements.items ≡ []
