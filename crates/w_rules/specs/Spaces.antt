-- The context of a module (Core, validation, modules): in each list what is imported stands in front of what the module defines.
use Rattle.std.specs.Prelude.{ℕ, ◌<◌, Contains, Bool, true, false, List, [], ◌∷◌, ◌++◌, map, flat_map, replicate, take, length, slice_set}
use Rattle.w_types.specs.declared.types.RefType.{RefType}
use Rattle.w_types.specs.declared.types.ValType.{ValType}
use Rattle.lists.specs.Rows.{ε, row_of}
use Rattle.w_syntax.specs.Code.{Code, Done, Plain, Block, If, IfElse}
use Rattle.w_syntax.specs.declared.instructions.Op.{Op}
use Rattle.w_syntax.specs.declared.instructions.Op.TheVariants as op
use Rattle.w_syntax.specs.declared.instructions.ReferenceOp.TheVariants as reference
use Rattle.w_syntax.specs.declared.module.Elem.{Elem}
use Rattle.w_syntax.specs.declared.module.Export.{Export}
use Rattle.w_syntax.specs.declared.module.ExternIndex.{ExternIndex}
use Rattle.w_syntax.specs.declared.module.ExternIndex.TheVariants as extern
use Rattle.w_syntax.specs.declared.module.ExternType.{ExternType}
use Rattle.w_syntax.specs.declared.module.ExternType.TheVariants as imported
use Rattle.w_syntax.specs.declared.module.GlobalType.{GlobalType}
use Rattle.w_syntax.specs.declared.module.GlobalVariable.{GlobalVariable}
use Rattle.w_syntax.specs.declared.module.Import.{Import}
use Rattle.w_syntax.specs.declared.module.Limits.{Limits}
use Rattle.w_syntax.specs.declared.module.Module.{Module}
use Rattle.w_syntax.specs.declared.module.Table.{Table}
use Rattle.w_syntax.specs.declared.module.TableType.{TableType}
use Rattle.w_syntax.specs.declared.module.Tag.{Tag}
use Rattle.w_rules.specs.Context.{Context}
use Rattle.std.specs.Prelude.{Option, Some, None}

-- ## What is imported, of each kind

abbrev pub as_function : ExternType → List ℕ
as_function (imported.Func x) = x ∷ []
as_function e = []

abbrev pub as_table : ExternType → List TableType
as_table (imported.Table t) = t ∷ []
as_table e = []

abbrev pub as_memory : ExternType → List Limits
as_memory (imported.Memory l) = l ∷ []
as_memory e = []

abbrev pub as_global : ExternType → List GlobalType
as_global (imported.Global g) = g ∷ []
as_global e = []

abbrev pub as_tag : ExternType → List Tag
as_tag (imported.Tag t) = t ∷ []
as_tag e = []

abbrev pub imports_by : {A : Type 0} → (ExternType → List A) → Module → List A
imports_by f m = flat_map (λ (i : Import). f i.kind) m.imports

-- ## All of each kind

abbrev pub functions_of : Module → List ℕ
functions_of m = imports_by as_function m ++ m.functions

abbrev pub tables_of : Module → List TableType
tables_of m = imports_by as_table m ++ map (λ (t : Table). t.kind) m.tables

abbrev pub memories_of : Module → List Limits
memories_of m = imports_by as_memory m ++ m.memories

-- what is imported, and the first n that the module defines
abbrev pub globals_below : Module → ℕ → List GlobalType
globals_below m n = imports_by as_global m ++ take n (map (λ (g : GlobalVariable). g.kind) m.globals)

abbrev pub globals_of : Module → List GlobalType
globals_of m = imports_by as_global m ++ map (λ (g : GlobalVariable). g.kind) m.globals

abbrev pub tags_of : Module → List Tag
tags_of m = imports_by as_tag m ++ m.tags

-- the type of each element segment
abbrev pub elements_of : Module → List RefType
elements_of m = map (λ (e : Elem). e.kind) m.elements

-- ## Declared functions: those in exports, elements and the expressions of globals and tables

abbrev pub named_by : Op → List ℕ
named_by (op.Reference (reference.Func x)) = x ∷ []
named_by o = []

-- the functions that an expression names
abbrev pub named_in : Code → List ℕ
named_in Done = []
named_in (Plain o k) = named_by o ++ named_in k
named_in (Block kind x b k) = named_in b ++ named_in k
named_in (If x b k) = named_in b ++ named_in k
named_in (IfElse x b d k) = named_in b ++ (named_in d ++ named_in k)

abbrev pub named_in_some : Option Code → List ℕ
named_in_some (Some k) = named_in k
named_in_some None = []

abbrev pub exported : ExternIndex → List ℕ
exported (extern.Func x) = x ∷ []
exported e = []

abbrev pub named_of : Module → List ℕ
named_of m =
    flat_map (λ (e : Export). exported e.index) m.exports
    ++ (flat_map (λ (e : Elem). flat_map named_in e.items) m.elements
    ++ (flat_map (λ (g : GlobalVariable). named_in g.init) m.globals
    ++ flat_map (λ (t : Table). named_in_some t.init) m.tables))

-- with a mark at each of these places
abbrev pub marked : List Bool → List ℕ → List Bool
marked s [] = s
marked s (x ∷ xs) = marked (slice_set s x true) xs

abbrev pub declared_of : Module → List Bool
declared_of m = marked (replicate (length (functions_of m)) false) (named_of m)

-- ref.func may name the function: an export, an element segment, or the expression of a global or a table names it (Core, validation,
-- modules: C.refs)
pub record IsDeclared (m : Module) (x : ℕ) : Type 0 where
  pub is_there : x < length (functions_of m)
  pub is_named : Contains (named_of m) x

-- ## The context

abbrev pub context_of : Module → Context
context_of m = record {
  types = m.types;
  functions = functions_of m;
  tables = tables_of m;
  memories = memories_of m;
  globals = globals_of m;
  tags = tags_of m;
  elements = elements_of m;
  datas = length m.datas;
  declared = declared_of m;
  locals = [];
  results = ε;
  labels = [];
}

-- the context in which the n-th global is typed: it gets only globals of lower index
abbrev pub context_below : Module → ℕ → Context
context_below m n = record (context_of m) { globals = globals_below m n }

-- inside a body with these locals, its parameters among them, and these results
abbrev pub in_body : Context → List ValType → List ValType → Context
in_body c locals results = record c { locals = locals; results = row_of results; labels = row_of results ∷ [] }
