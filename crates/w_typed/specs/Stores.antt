-- Stores of a module's types (Core, appendix, soundness: store validity and module instances).
use Rattle.std.specs.Prelude.{◌≡◌, ◌⊎◌, ◌≤◌, ℕ, List, [], ◌∷◌, ◌++◌, length, map, Option, Some, None}
use Rattle.w_types.specs.declared.types.FuncType.{FuncType}
use Rattle.w_types.specs.declared.types.RefType.{RefType}
use Rattle.w_types.specs.declared.types.ValType.{ValType}
use Rattle.w_types.specs.declared.types.ValType.TheVariants as type
use Rattle.w_syntax.specs.Functions.{func_type}
use Rattle.w_syntax.specs.declared.module.Data.{Data}
use Rattle.w_syntax.specs.declared.module.Elem.{Elem}
use Rattle.w_syntax.specs.declared.module.GlobalType.{GlobalType}
use Rattle.w_syntax.specs.declared.module.Limits.{Limits}
use Rattle.w_syntax.specs.declared.module.Module.{Module}
use Rattle.w_syntax.specs.declared.module.TableType.{TableType}
use Rattle.w_syntax.specs.declared.module.Tag.{Tag}
use Rattle.w_memory.specs.Memory.{Memory, IsWhole, page_count, most_pages}
use Rattle.w_rules.specs.Spaces.{as_function, imports_by, tables_of, memories_of, globals_of, tags_of}
use Rattle.w_tables.specs.Elements.{most_elements}
use Rattle.w_tables.specs.declared.entries.FuncEntry.{FuncEntry}
use Rattle.w_tables.specs.declared.entries.FuncEntry.TheVariants as entry
use Rattle.w_tables.specs.declared.entries.Printer.{Printer}
use Rattle.w_tables.specs.declared.entries.Printer.TheVariants as printer
use Rattle.w_reduce.specs.Values.{Val}
use Rattle.w_reduce.specs.Start.{own}
use Rattle.w_reduce.specs.Store.{Store, Table}
use Rattle.w_reduce.specs.Terms.{Continuation}
use Rattle.w_typed.specs.Ranges.{AreBytes, NumbersFit}
use Rattle.w_typed.specs.Values.{Arrows, ValueTyped, AllTyped}
use Rattle.w_typed.specs.Contexts.{KeptTyped}

-- instances of declarations, each related to its own
pub data Instances {A B : Type 0} (R : A → B → Type 0) : List A → List B → Type 0 where
  no_instance : Instances R [] []
  instances : {x : A} {y : B} {xs : List A} {ys : List B} → R x y → Instances R xs ys → Instances R (x ∷ xs) (y ∷ ys)

-- ## Functions

-- what a function of the host takes
abbrev pub printed_type : Printer → ValType
printed_type printer.I32 = type.I32
printed_type printer.I64 = type.I64
printed_type printer.Byte = type.I32

-- a function of the host is of the type of this index: it takes what it prints, and gives nothing
pub record PrinterTyped (m : Module) (p : Printer) (x : ℕ) : Type 0 where
  pub type : FuncType
  pub has_type : func_type m x ≡ Some type
  pub params : type.params ≡ printed_type p ∷ []
  pub results : type.results ≡ []

-- a function of the host for each import, and behind them the module's own in order
pub record FunctionsTyped (m : Module) (functions : List FuncEntry) : Type 0 where
  pub host : List Printer
  pub are : functions ≡ map (λ (p : Printer). entry.Printer p) host ++ own (length m.functions)
  pub typed : Instances (PrinterTyped m) host (imports_by as_function m)

-- ## Tables and memories

-- A table has the declared maximum, at least as many elements as the declared minimum, at most as many as a table of that maximum may
-- come to, and each is of the declared type.
pub record TableTyped (m : Module) (K : Arrows) (t : Table) (u : TableType) : Type 0 where
  pub max : t.max ≡ u.limits.max
  pub least : u.limits.min ≤ length t.elements
  pub most : length t.elements ≤ most_elements u.limits.max
  pub elements : AllTyped m K (type.Ref u.element) t.elements

-- A memory has the declared maximum, and is whole pages: at least as many as the declared minimum, and at most as many as a memory of
-- that maximum may come to.
pub record MemoryTyped (m : Module) (n : Memory) (l : Limits) : Type 0 where
  pub max : n.max ≡ l.max
  pub whole : IsWhole n.bytes
  pub least : l.min ≤ page_count n
  pub most : page_count n ≤ most_pages l.max
  pub bytes : NumbersFit m → AreBytes n.bytes

-- ## Globals, segments and continuations

abbrev pub GlobalTyped : Module → Arrows → Val → GlobalType → Type 0
GlobalTyped m K v g = ValueTyped m K v g.kind

-- a segment that was dropped has nothing left
abbrev pub SegmentTyped : Module → Arrows → List Val → RefType → Type 0
SegmentTyped m K vs r = AllTyped m K (type.Ref r) vs

-- a data segment is the module's, or was dropped
abbrev pub DataTyped : List ℕ → Data → Type 0
DataTyped bytes d = (bytes ≡ d.bytes) ⊎ (bytes ≡ [])

-- a continuation of a function type, and one of that type that was consumed
pub data ContTyped (m : Module) (K : Arrows) : Option Continuation → FuncType → Type 0 where
  consumed : {t : FuncType} → ContTyped m K None t
  kept : {k : Continuation} {t : FuncType} → KeptTyped m K k t → ContTyped m K (Some k) t

-- ## Stores

-- each part is the module's, of its type
pub record StoreTyped (m : Module) (K : Arrows) (s : Store) : Type 0 where
  pub functions : FunctionsTyped m s.functions
  pub tables : Instances (TableTyped m K) s.tables (tables_of m)
  pub memories : Instances (MemoryTyped m) s.memories (memories_of m)
  pub globals : Instances (GlobalTyped m K) s.globals (globals_of m)
  pub tags : s.tags ≡ map (λ (t : Tag). t.type_index) (tags_of m)
  pub elements : Instances (SegmentTyped m K) s.elements (map (λ (e : Elem). e.kind) m.elements)
  pub datas : Instances DataTyped s.datas m.datas
  pub conts : Instances (ContTyped m K) s.conts K
