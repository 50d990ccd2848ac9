-- What the files so far define, the functions of the host apart from the files' own.
use Rattle.std.specs.Prelude.{◌≡◌, ℕ, List, ◌++◌, map}
use Rattle.w_types.specs.declared.types.RecGroup.{RecGroup}
use Rattle.w_syntax.specs.declared.module.GlobalType.{GlobalType}
use Rattle.w_syntax.specs.declared.module.Limits.{Limits}
use Rattle.w_syntax.specs.declared.module.Module.{Module}
use Rattle.w_syntax.specs.declared.module.TableType.{TableType}
use Rattle.w_syntax.specs.declared.module.Tag.{Tag}
use Rattle.w_link.specs.Shifted.{group_shifted}
use Rattle.w_link.specs.Items.{tag_shifted}
use Rattle.w_linked.specs.Definitions.{host_types, own_functions, own_tables, own_globals}
use Rattle.w_placing.specs.declared.definitions.Parts as code

pub record Parts : Type 0 where
  pub types : List RecGroup
  pub hosts : List ℕ
  pub functions : List ℕ
  pub tables : List TableType
  pub memories : List Limits
  pub globals : List GlobalType
  pub tags : List Tag

abbrev pub parts_of : code.Parts → Parts
parts_of p = record {
  types = p.types.items;
  hosts = p.hosts.items;
  functions = p.functions.items;
  tables = p.tables.items;
  memories = p.memories.items;
  globals = p.globals.items;
  tags = p.tags.items;
}

-- those of a file more, which stands behind n types
pub record AddsFile (n : ℕ) (m : Module) (old new : Parts) : Type 0 where
  pub types : new.types ≡ old.types ++ map (group_shifted n) m.types
  pub hosts : new.hosts ≡ old.hosts ++ host_types n m m.imports
  pub functions : new.functions ≡ old.functions ++ own_functions n m
  pub tables : new.tables ≡ old.tables ++ own_tables n m
  pub memories : new.memories ≡ old.memories ++ m.memories
  pub globals : new.globals ≡ old.globals ++ own_globals n m
  pub tags : new.tags ≡ old.tags ++ map (tag_shifted n) m.tags
