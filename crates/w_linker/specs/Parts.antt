-- The parts of the module that files make.
use Rattle.std.specs.Prelude.{◌≡◌, ℕ, ◌+◌, List, [], ◌∷◌, ◌++◌, map, Option}
use Rattle.w_syntax.specs.declared.module.Module.{Module}
use Rattle.w_rules.specs.Facts.{AreMeasures}
use Rattle.w_rules.specs.Limits.{Within}
use Rattle.w_rules.specs.Valid.{Valid}
use Rattle.w_link.specs.Shifted.{group_shifted}
use Rattle.w_link.specs.Resolved.{Instance, at}
use Rattle.w_link.specs.Items.{resolved_table, resolved_global, resolved_export, resolved_elem, resolved_data, resolved_func, tag_shifted}
use Rattle.w_linked.specs.Imports.{Placed}
use Rattle.w_linked.specs.Linked.{host_imports, of_placed}
use Rattle.w_linker.specs.declared.program.Contents as contents
use Rattle.w_linker.specs.declared.program.Declarations as declarations
use Rattle.w_linker.specs.declared.program.Parts as parts
use Rattle.w_linker.specs.declared.program.Stored as stored

-- a valid module within its limits
pub record IsAccepted (m : Module) : Type 0 where
  pub within : Within m
  pub valid : Valid m

-- ## Those of a file more

pub record Declares (i : Instance) (m : Module) (old new : declarations.Declarations) : Type 0 where
  pub imports : new.imports.items ≡ old.imports.items ++ host_imports i.types m m.imports
  pub types : new.types.items ≡ old.types.items ++ map (group_shifted i.types) m.types
  pub functions : new.functions.items ≡ old.functions.items ++ map (λ (x : ℕ). i.types + x) m.functions
  pub exports : new.exports.items ≡ old.exports.items ++ map (resolved_export i) m.exports

pub record Stores (i : Instance) (m : Module) (old new : stored.Stored) : Type 0 where
  pub tables : new.tables.items ≡ old.tables.items ++ map (resolved_table i) m.tables
  pub memories : new.memories.items ≡ old.memories.items ++ m.memories
  pub tags : new.tags.items ≡ old.tags.items ++ map (tag_shifted i.types) m.tags
  pub globals : new.globals.items ≡ old.globals.items ++ map (resolved_global i) m.globals

pub record Contains (i : Instance) (m : Module) (old new : contents.Contents) : Type 0 where
  pub elements : new.elements.items ≡ old.elements.items ++ map (resolved_elem i) m.elements
  pub codes : new.codes.items ≡ old.codes.items ++ map (resolved_func i) m.codes
  pub datas : new.datas.items ≡ old.datas.items ++ map (resolved_data i) m.datas

-- these heights and depths, and nothing else
pub record Measures (hs ds : List ℕ) (old new : contents.Contents) : Type 0 where
  pub heights : new.heights.items ≡ old.heights.items ++ hs
  pub depths : new.depths.items ≡ old.depths.items ++ ds
  pub elements : new.elements.items ≡ old.elements.items
  pub codes : new.codes.items ≡ old.codes.items
  pub datas : new.datas.items ≡ old.datas.items

-- all of it
pub record AddsFile (p : Placed) (old new : parts.Parts) : Type 0 where
  pub declares : Declares p.instance p.source old.declarations new.declarations
  pub stores : Stores p.instance p.source old.stored new.stored
  pub contains : Contains p.instance p.source old.contents new.contents
  pub heights : List ℕ
  pub depths : List ℕ
  pub measures : AreMeasures p.source heights depths
  pub adds_heights : new.contents.heights.items ≡ old.contents.heights.items ++ heights
  pub adds_depths : new.contents.depths.items ≡ old.contents.depths.items ++ depths

-- ## Those of all files

-- heights and depths of codes, file by file
pub data Measured : List Placed → List ℕ → List ℕ → Type 0 where
  no_file : Measured [] [] []
  a_file : {p : Placed} {ps : List Placed} {h d hs ds : List ℕ} → AreMeasures p.source h d → Measured ps hs ds → Measured (p ∷ ps) (h ++ hs) (d ++ ds)

pub record ArePartsOf (ps : List Placed) (x : parts.Parts) : Type 0 where
  pub imports : x.declarations.imports.items ≡ of_placed (λ i m. host_imports i.types m m.imports) ps
  pub types : x.declarations.types.items ≡ of_placed (λ i m. map (group_shifted i.types) m.types) ps
  pub functions : x.declarations.functions.items ≡ of_placed (λ i m. map (λ (n : ℕ). i.types + n) m.functions) ps
  pub exports : x.declarations.exports.items ≡ of_placed (λ i m. map (resolved_export i) m.exports) ps
  pub tables : x.stored.tables.items ≡ of_placed (λ i m. map (resolved_table i) m.tables) ps
  pub memories : x.stored.memories.items ≡ of_placed (λ i m. m.memories) ps
  pub tags : x.stored.tags.items ≡ of_placed (λ i m. map (tag_shifted i.types) m.tags) ps
  pub globals : x.stored.globals.items ≡ of_placed (λ i m. map (resolved_global i) m.globals) ps
  pub elements : x.contents.elements.items ≡ of_placed (λ i m. map (resolved_elem i) m.elements) ps
  pub codes : x.contents.codes.items ≡ of_placed (λ i m. map (resolved_func i) m.codes) ps
  pub datas : x.contents.datas.items ≡ of_placed (λ i m. map (resolved_data i) m.datas) ps
  pub measured : Measured ps x.contents.heights.items x.contents.depths.items

-- the module of these parts
abbrev pub module_of : parts.Parts → Option ℕ → Module
module_of x start = record {
  types = x.declarations.types.items;
  imports = x.declarations.imports.items;
  functions = x.declarations.functions.items;
  tables = x.stored.tables.items;
  memories = x.stored.memories.items;
  tags = x.stored.tags.items;
  globals = x.stored.globals.items;
  exports = x.declarations.exports.items;
  start = start;
  elements = x.contents.elements.items;
  codes = x.contents.codes.items;
  datas = x.contents.datas.items;
}

-- ## The last file

-- the address of a function in the last of these instances
abbrev pub in_last_of : List Instance → ℕ → ℕ
in_last_of [] x = 0
in_last_of (i ∷ []) x = at i.functions x
in_last_of (i ∷ j ∷ is) x = in_last_of (j ∷ is) x
