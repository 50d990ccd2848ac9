-- Validity of a module, by item (Core, validation, modules).
use Rattle.std.specs.Prelude.{◌≡◌, ◌⊎◌, ℕ, ◌<◌, ◌≤◌, All, IsTrue, List, [], length, Option, Some, None, IsSome, slice_get, option_map}
use Rattle.w_types.specs.declared.types.SubType.{SubType}
use Rattle.w_types.specs.declared.types.FuncType.{FuncType}
use Rattle.w_types.specs.declared.types.RefType.{RefType}
use Rattle.w_types.specs.declared.types.ValType.TheVariants.{I32, Ref}
use Rattle.w_types.specs.Groups.{types_of}
use Rattle.w_syntax.specs.Code.{Code}
use Rattle.w_syntax.specs.Functions.{func_type, type_of_function, code_of_function}
use Rattle.w_syntax.specs.declared.locals.LocalRun.{LocalRun}
use Rattle.w_syntax.specs.declared.module.Data.{Data}
use Rattle.w_syntax.specs.declared.module.DataMode.{DataMode}
use Rattle.w_syntax.specs.declared.module.DataMode.TheVariants as datas
use Rattle.w_syntax.specs.declared.module.Elem.{Elem}
use Rattle.w_syntax.specs.declared.module.ElemMode.{ElemMode}
use Rattle.w_syntax.specs.declared.module.ElemMode.TheVariants as elements
use Rattle.w_syntax.specs.declared.module.Export.{Export}
use Rattle.w_syntax.specs.declared.module.ExternIndex.{ExternIndex}
use Rattle.w_syntax.specs.declared.module.ExternIndex.TheVariants as extern
use Rattle.w_syntax.specs.declared.module.ExternType.{ExternType}
use Rattle.w_syntax.specs.declared.module.ExternType.TheVariants as imported
use Rattle.w_syntax.specs.declared.module.Func.{Func}
use Rattle.w_syntax.specs.declared.module.GlobalVariable.{GlobalVariable}
use Rattle.w_syntax.specs.declared.module.Import.{Import}
use Rattle.w_syntax.specs.declared.module.Limits.{Limits}
use Rattle.w_syntax.specs.declared.module.Module.{Module}
use Rattle.w_syntax.specs.declared.module.Table.{Table}
use Rattle.w_syntax.specs.declared.module.TableType.{TableType}
use Rattle.w_syntax.specs.declared.module.Tag.{Tag}
use Rattle.w_canon.specs.Matching.{RefMatches}
use Rattle.w_rules.specs.Bodies.{BodyTyped, ConstTyped}
use Rattle.w_rules.specs.Conditions.{Holds}
use Rattle.w_rules.specs.Context.{type_of_func}
use Rattle.w_rules.specs.Spaces.{context_of, context_below, functions_of, tables_of, memories_of, globals_of, tags_of}
use Rattle.w_rules.specs.Types.{IsValidHeap, IsValidType, IsValidCompType, AreSupertypes, with_ends}

-- An item of a module, by its index in its section; a type by its index through all groups. All memories are one item.
pub data Item : Type 0 where
  TypeItem : ℕ → Item
  ImportItem : ℕ → Item
  TableItem : ℕ → Item
  MemoryItem : Item
  TagItem : ℕ → Item
  GlobalItem : ℕ → Item
  ElementItem : ℕ → Item
  DataItem : ℕ → Item
  StartItem : Item
  ExportItem : ℕ → Item
  FunctionItem : ℕ → Item

-- type i: its indices are below the end of its group, and it has at most one supertype, which it matches
pub record TypeValid (m : Module) (i : ℕ) : Type 0 where
  pub type : SubType
  pub end : ℕ
  pub is : slice_get (with_ends 0 m.types) i ≡ Some (end, type)
  pub valid : IsValidCompType (types_of m.types) end type.composite
  pub supertypes : AreSupertypes m.types i type.composite type.supertypes

-- ## What a module has by its type (Core, validation, types)

-- the least size is at most the greatest, and each is at most this number
abbrev pub IsMaxValid : ℕ → ℕ → Option ℕ → Type 0
IsMaxValid bound min (Some max) = (min ≤ max) × (max ≤ bound)
IsMaxValid bound min None = Unit {0}

pub record AreLimitsValid (bound : ℕ) (l : Limits) : Type 0 where
  pub min : l.min ≤ bound
  pub max : IsMaxValid bound l.min l.max

-- the most elements of a table, and the most pages of a memory
abbrev pub most_elements : ℕ
most_elements = 4294967295

abbrev pub most_pages : ℕ
most_pages = 65536

pub record IsTableTypeValid (m : Module) (t : TableType) : Type 0 where
  pub limits : AreLimitsValid most_elements t.limits
  pub element : IsValidHeap (length (types_of m.types)) t.element.heap

-- the index is that of a function type
pub record IsFunctionType (m : Module) (x : ℕ) : Type 0 where
  pub type : FuncType
  pub has_type : func_type m x ≡ Some type

abbrev pub IsExternValid : Module → ExternType → Type 0
IsExternValid m (imported.Func x) = IsFunctionType m x
IsExternValid m (imported.Table t) = IsTableTypeValid m t
IsExternValid m (imported.Memory l) = AreLimitsValid most_pages l
IsExternValid m (imported.Global g) = IsValidType (length (types_of m.types)) g.kind
IsExternValid m (imported.Tag t) = IsFunctionType m t.type_index

-- ## Items

-- import i: what it names is valid
pub record ImportValid (m : Module) (i : ℕ) : Type 0 where
  pub value : Import
  pub is : slice_get m.imports i ≡ Some value
  pub valid : IsExternValid m value.kind

-- what the elements of a table begin with: null where nothing is said
abbrev pub IsInitValid : Module → RefType → Option Code → Type 0
IsInitValid m r (Some k) = ConstTyped (context_of m) k (Ref r)
IsInitValid m r None = IsTrue r.nullable

-- table i: its type is valid, and what its elements begin with is constant and of their type
pub record TableValid (m : Module) (i : ℕ) : Type 0 where
  pub table : Table
  pub is : slice_get m.tables i ≡ Some table
  pub valid : IsTableTypeValid m table.kind
  pub init : IsInitValid m table.kind.element table.init

-- memories: there is at most one with those imported, and its limits are valid
pub record MemoryValid (m : Module) : Type 0 where
  pub one : length (memories_of m) ≤ 1
  pub limits : All (AreLimitsValid most_pages) m.memories

-- tag i: its index is that of a function type, which may have results
pub record TagValid (m : Module) (i : ℕ) : Type 0 where
  pub tag : Tag
  pub type : FuncType
  pub is : slice_get m.tags i ≡ Some tag
  pub has_type : func_type m tag.type_index ≡ Some type

-- global i: its type is valid, and what it begins with is constant and of this type, by globals of lower index
pub record GlobalValid (m : Module) (i : ℕ) : Type 0 where
  pub global : GlobalVariable
  pub is : slice_get m.globals i ≡ Some global
  pub valid : IsValidType (length (types_of m.types)) global.kind.kind
  pub init : ConstTyped (context_below m i) global.init global.kind.kind

-- an active segment's table is there, its type matches, and its offset is a constant i32
abbrev pub IsElemModeValid : Module → RefType → ElemMode → Type 0
IsElemModeValid m r (elements.Active x k) = Holds (slice_get (tables_of m) x) (λ (t : TableType). RefMatches m.types r t.element)
    × ConstTyped (context_of m) k I32
IsElemModeValid m r elements.Passive = Unit {0}
IsElemModeValid m r elements.Declarative = Unit {0}

-- element segment i: its type is valid, its items are constant and of this type, and where it is active it fits its table
pub record ElementValid (m : Module) (i : ℕ) : Type 0 where
  pub element : Elem
  pub is : slice_get m.elements i ≡ Some element
  pub valid : IsValidHeap (length (types_of m.types)) element.kind.heap
  pub mode : IsElemModeValid m element.kind element.mode
  pub items : All (λ (k : Code). ConstTyped (context_of m) k (Ref element.kind)) element.items

abbrev pub IsDataModeValid : Module → DataMode → Type 0
IsDataModeValid m (datas.Active x k) = (x < length (memories_of m)) × ConstTyped (context_of m) k I32
IsDataModeValid m datas.Passive = Unit {0}

-- data segment i: where it is active its memory is there, and its offset is a constant i32
pub record DataValid (m : Module) (i : ℕ) : Type 0 where
  pub segment : Data
  pub is : slice_get m.datas i ≡ Some segment
  pub mode : IsDataModeValid m segment.mode

-- the start: the function is there and of type [] to []
pub record StartValid (m : Module) : Type 0 where
  pub function : ℕ
  pub type : FuncType
  pub is : m.start ≡ Some function
  pub has_type : type_of_func (context_of m) function ≡ Some type
  pub no_params : type.params ≡ []
  pub no_results : type.results ≡ []

-- what is exported is there
abbrev pub IsThere : Module → ExternIndex → Type 0
IsThere m (extern.Func x) = x < length (functions_of m)
IsThere m (extern.Table x) = x < length (tables_of m)
IsThere m (extern.Memory x) = x < length (memories_of m)
IsThere m (extern.Global x) = x < length (globals_of m)
IsThere m (extern.Tag x) = x < length (tags_of m)

-- the name of the export of this index
abbrev pub name_of_export : Module → ℕ → Option (List ℕ)
name_of_export m i = option_map (λ (e : Export). e.name) (slice_get m.exports i)

-- export i: what it exports is there, and its name stands at no lower index
pub record ExportValid (m : Module) (i : ℕ) : Type 0 where
  pub export : Export
  pub is : slice_get m.exports i ≡ Some export
  pub there : IsThere m export.index
  pub alone : (j : ℕ) → j < i → name_of_export m j ≡ Some export.name → ⊥

-- function i of those that the module defines: it has a function type and valid locals, and its body takes no operands to the type's
-- results
pub record FunctionValid (m : Module) (i : ℕ) : Type 0 where
  pub type : FuncType
  pub func : Func
  pub has_type : type_of_function m i ≡ Some type
  pub has_code : code_of_function m i ≡ Some func
  pub locals : All (λ (run : LocalRun). IsValidType (length (types_of m.types)) run.kind) func.locals
  pub body : BodyTyped (context_of m) type.params func.locals type.results func.body

-- a rule derives the item
abbrev pub ItemValid : Module → Item → Type 0
ItemValid m (TypeItem i) = TypeValid m i
ItemValid m (ImportItem i) = ImportValid m i
ItemValid m (TableItem i) = TableValid m i
ItemValid m MemoryItem = MemoryValid m
ItemValid m (TagItem i) = TagValid m i
ItemValid m (GlobalItem i) = GlobalValid m i
ItemValid m (ElementItem i) = ElementValid m i
ItemValid m (DataItem i) = DataValid m i
ItemValid m StartItem = StartValid m
ItemValid m (ExportItem i) = ExportValid m i
ItemValid m (FunctionItem i) = FunctionValid m i

-- the module has the item: a function has a type or code; the memories are an item of every module
abbrev pub IsItem : Module → Item → Type 0
IsItem m (TypeItem i) = i < length (types_of m.types)
IsItem m (ImportItem i) = i < length m.imports
IsItem m (TableItem i) = i < length m.tables
IsItem m MemoryItem = Unit {0}
IsItem m (TagItem i) = i < length m.tags
IsItem m (GlobalItem i) = i < length m.globals
IsItem m (ElementItem i) = i < length m.elements
IsItem m (DataItem i) = i < length m.datas
IsItem m StartItem = IsSome m.start
IsItem m (ExportItem i) = i < length m.exports
IsItem m (FunctionItem i) = (i < length m.functions) ⊎ (i < length m.codes)

-- where an item stands in the order: the number of its kind, and its index
abbrev pub place_of : Item → ℕ × ℕ
place_of (TypeItem i) = (0, i)
place_of (ImportItem i) = (1, i)
place_of (TableItem i) = (2, i)
place_of MemoryItem = (3, 0)
place_of (TagItem i) = (4, i)
place_of (GlobalItem i) = (5, i)
place_of (ElementItem i) = (6, i)
place_of (DataItem i) = (7, i)
place_of StartItem = (8, 0)
place_of (ExportItem i) = (9, i)
place_of (FunctionItem i) = (10, i)

-- the items are in order by kind, and those of one kind by index
abbrev pub Before : Item → Item → Type 0
Before x y = ((place_of x).0 < (place_of y).0) ⊎ (((place_of x).0 ≡ (place_of y).0) × ((place_of x).1 < (place_of y).1))

-- each item of the module has a derivation
abbrev pub Valid : Module → Type 0
Valid m = (x : Item) → IsItem m x → ItemValid m x

-- the least item without one
pub record IsInvalidAt (m : Module) (x : Item) : Type 0 where
  pub item : IsItem m x
  pub invalid : ItemValid m x → ⊥
  pub least : (y : Item) → IsItem m y → Before y x → ItemValid m y
