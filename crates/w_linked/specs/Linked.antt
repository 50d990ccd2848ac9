-- The instances of files, and the module that they make together: each index stands there as the address that its instance's lists have for it.
use Rattle.std.specs.List.{range_with_len}
use Rattle.std.specs.Prelude.{ℕ, ◌+◌, List, [], ◌∷◌, ◌++◌, map, flat_map, length, Option, Some, None}
use Rattle.w_syntax.specs.declared.module.ExternType.{ExternType}
use Rattle.w_syntax.specs.declared.module.ExternType.TheVariants as imported
use Rattle.w_syntax.specs.declared.module.Import.{Import}
use Rattle.w_syntax.specs.declared.module.Module.{Module}
use Rattle.w_tables.specs.declared.entries.Printer.{Printer}
use Rattle.w_reduce.specs.Imports.{printer_of}
use Rattle.w_link.specs.Shifted.{group_shifted}
use Rattle.w_link.specs.Resolved.{Instance, at}
use Rattle.w_link.specs.Items.{resolved_table, resolved_global, resolved_export, resolved_elem, resolved_data, resolved_func, tag_shifted}
use Rattle.w_linked.specs.Definitions.{Definitions, type_count}
use Rattle.w_linked.specs.Imports.{TypeTests, Address, function, table, memory, global, tag, Placed, Imported, all, missing, imports_of}

-- ## Instances

-- how many of each the files before define, and how many functions of the host they name
pub record Before : Type 0 where
  pub types : ℕ
  pub printers : ℕ
  pub functions : ℕ
  pub tables : ℕ
  pub memories : ℕ
  pub globals : ℕ
  pub tags : ℕ
  pub elements : ℕ
  pub datas : ℕ

-- before the first file; its functions come behind all those of the host
abbrev pub at_first : ℕ → Before
at_first hosts = record { types = 0; printers = 0; functions = hosts; tables = 0; memories = 0; globals = 0; tags = 0; elements = 0; datas = 0 }

abbrev pub and_file : Before → ℕ → Module → Before
and_file b printers m = record {
  types = b.types + type_count m;
  printers = printers;
  functions = b.functions + length m.functions;
  tables = b.tables + length m.tables;
  memories = b.memories + length m.memories;
  globals = b.globals + length m.globals;
  tags = b.tags + length m.tags;
  elements = b.elements + length m.elements;
  datas = b.datas + length m.datas;
}

abbrev pub as_function : Address → List ℕ
as_function (function a) = a ∷ []
as_function x = []

abbrev pub as_table : Address → List ℕ
as_table (table a) = a ∷ []
as_table x = []

abbrev pub as_memory : Address → List ℕ
as_memory (memory a) = a ∷ []
as_memory x = []

abbrev pub as_global : Address → List ℕ
as_global (global a) = a ∷ []
as_global x = []

abbrev pub as_tag : Address → List ℕ
as_tag (tag a) = a ∷ []
as_tag x = []

-- the instance of a file, by the addresses of its imports: behind them stand its own definitions
abbrev pub instance_of : Before → List Address → Module → Instance
instance_of b found m = record {
  types = b.types;
  functions = flat_map as_function found ++ range_with_len b.functions (length m.functions);
  tables = flat_map as_table found ++ range_with_len b.tables (length m.tables);
  memories = flat_map as_memory found ++ range_with_len b.memories (length m.memories);
  globals = flat_map as_global found ++ range_with_len b.globals (length m.globals);
  tags = flat_map as_tag found ++ range_with_len b.tags (length m.tags);
  elements = b.elements;
  datas = b.datas;
}

-- all files with their instances, or the file and the import for which there is nothing
pub data Placing : Type 0 where
  placed : List Placed → Placing
  no_import : (file import : ℕ) → Placing

-- file f, and those behind it
abbrev pub and_files : ℕ → Before → Module → Imported → (Before → Placed → Placing) → Placing
and_files f b m (missing j) rest = no_import f j
and_files f b m (all found k) rest = rest (and_file b k m) (record { source = m; instance = instance_of b found m })

abbrev pub placing : TypeTests → Definitions → List Placed → Before → List Module → Placing
placing tests d earlier b [] = placed earlier
placing tests d earlier b (m ∷ ms) =
    and_files (length earlier) b m (imports_of tests d earlier m b.types b.printers m.imports) (λ c p. placing tests d (earlier ++ p ∷ []) c ms)

-- ## What a file is with addresses

abbrev pub host_import : ℕ → Import → ExternType → Option Printer → List Import
host_import n i (imported.Func x) (Some p) = record i { kind = imported.Func (n + x) } ∷ []
host_import n i e o = []

abbrev pub host_imports : ℕ → Module → List Import → List Import
host_imports n m [] = []
host_imports n m (i ∷ is) = host_import n i i.kind (printer_of m i) ++ host_imports n m is

-- ## All files together

abbrev pub of_placed : {A : Type 0} → (Instance → Module → List A) → List Placed → List A
of_placed f ps = flat_map (λ (p : Placed). f p.instance p.source) ps

-- ## The functions that run before main, in order

abbrev pub and_start : Option ℕ → Instance → List ℕ → List ℕ
and_start (Some x) i found = at i.functions x ∷ found
and_start None i found = found

abbrev pub all_starts : List Placed → List ℕ
all_starts [] = []
all_starts (p ∷ ps) = and_start p.source.start p.instance (all_starts ps)

abbrev pub first_of : List ℕ → Option ℕ
first_of [] = None
first_of (a ∷ found) = Some a

-- the functions that it imports are the host's
abbrev pub linked : List Placed → Module
linked ps = record {
  types = of_placed (λ i m. map (group_shifted i.types) m.types) ps;
  imports = of_placed (λ i m. host_imports i.types m m.imports) ps;
  functions = of_placed (λ i m. map (λ (x : ℕ). i.types + x) m.functions) ps;
  tables = of_placed (λ i m. map (resolved_table i) m.tables) ps;
  memories = of_placed (λ i m. m.memories) ps;
  tags = of_placed (λ i m. map (tag_shifted i.types) m.tags) ps;
  globals = of_placed (λ i m. map (resolved_global i) m.globals) ps;
  exports = of_placed (λ i m. map (resolved_export i) m.exports) ps;
  start = first_of (all_starts ps);
  elements = of_placed (λ i m. map (resolved_elem i) m.elements) ps;
  codes = of_placed (λ i m. map (resolved_func i) m.codes) ps;
  datas = of_placed (λ i m. map (resolved_data i) m.datas) ps;
}
