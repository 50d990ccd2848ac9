-- What the files define, each thing at its address (Core, execution, allocation of modules). The functions of the host that imports name stand
-- in front of the files' own.
use Rattle.std.specs.Prelude.{ℕ, ◌+◌, List, [], ◌∷◌, ◌++◌, map, length, Option, Some}
use Rattle.w_types.specs.declared.types.RecGroup.{RecGroup}
use Rattle.w_types.specs.Groups.{types_of}
use Rattle.w_syntax.specs.declared.module.ExternType.{ExternType}
use Rattle.w_syntax.specs.declared.module.ExternType.TheVariants as imported
use Rattle.w_syntax.specs.declared.module.GlobalType.{GlobalType}
use Rattle.w_syntax.specs.declared.module.GlobalVariable.{GlobalVariable}
use Rattle.w_syntax.specs.declared.module.Import.{Import}
use Rattle.w_syntax.specs.declared.module.Limits.{Limits}
use Rattle.w_syntax.specs.declared.module.Module.{Module}
use Rattle.w_syntax.specs.declared.module.Table as syntax_table
use Rattle.w_syntax.specs.declared.module.TableType.{TableType}
use Rattle.w_syntax.specs.declared.module.Tag.{Tag}
use Rattle.w_tables.specs.declared.entries.Printer.{Printer}
use Rattle.w_reduce.specs.Imports.{printer_of}
use Rattle.w_link.specs.Shifted.{group_shifted}
use Rattle.w_link.specs.Items.{table_type_shifted, global_type_shifted, tag_shifted}

-- ## How many types stand before each file

abbrev pub type_count : Module → ℕ
type_count m = length (types_of m.types)

-- something of each file, by how many types stand before those of the file
abbrev pub of_files : {A : Type 0} → (ℕ → Module → List A) → ℕ → List Module → List A
of_files f n [] = []
of_files f n (m ∷ ms) = f n m ++ of_files f (n + type_count m) ms

-- ## Types

-- ## Printers

-- the index of the type of an import that is a function of the host
abbrev pub host_type : ℕ → ExternType → Option Printer → List ℕ
host_type n (imported.Func x) (Some p) = (n + x) ∷ []
host_type n e o = []

abbrev pub host_types : ℕ → Module → List Import → List ℕ
host_types n m [] = []
host_types n m (i ∷ is) = host_type n i.kind (printer_of m i) ++ host_types n m is

-- how many functions of the host the files name
abbrev pub hosts : List Module → ℕ
hosts ms = length (of_files (λ n m. host_types n m m.imports) 0 ms)

-- ## All definitions

pub record Definitions : Type 0 where
  pub types : List RecGroup
  -- the index of each function's type
  pub functions : List ℕ
  pub tables : List TableType
  pub memories : List Limits
  pub globals : List GlobalType
  pub tags : List Tag

abbrev pub own_functions : ℕ → Module → List ℕ
own_functions n m = map (λ (x : ℕ). n + x) m.functions

abbrev pub own_tables : ℕ → Module → List TableType
own_tables n m = map (λ (t : syntax_table.Table). table_type_shifted n t.kind) m.tables

abbrev pub own_globals : ℕ → Module → List GlobalType
own_globals n m = map (λ (g : GlobalVariable). global_type_shifted n g.kind) m.globals

abbrev pub definitions : List Module → Definitions
definitions ms = record {
  types = of_files (λ n m. map (group_shifted n) m.types) 0 ms;
  functions = of_files (λ n m. host_types n m m.imports) 0 ms ++ of_files own_functions 0 ms;
  tables = of_files own_tables 0 ms;
  memories = of_files (λ n m. m.memories) 0 ms;
  globals = of_files own_globals 0 ms;
  tags = of_files (λ n m. map (tag_shifted n) m.tags) 0 ms;
}
