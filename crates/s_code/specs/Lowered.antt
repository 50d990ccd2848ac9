-- The module of a script. Each effect is a tag; each function is a function; each handler is one function, which runs what it handles and
-- its clauses; slots are a table. Numbers are i64, and resumptions and coroutines are references to continuations.
use Rattle.std.specs.Prelude.{ℕ, true, false, List, [], ◌∷◌, ◌++◌, map, take, drop, codes, Some, None}
use Rattle.w_types.specs.declared.types.CompType.{CompType}
use Rattle.w_types.specs.declared.types.RecGroup.{RecGroup}
use Rattle.w_types.specs.declared.types.HeapType.TheVariants as heap
use Rattle.w_syntax.specs.declared.module.Table.{Table}
use Rattle.w_syntax.specs.declared.module.Tag.{Tag}
use Rattle.w_syntax.specs.declared.module.Import.{Import}
use Rattle.w_syntax.specs.declared.module.ExternType.TheVariants as extern
use Rattle.w_syntax.specs.declared.module.Export.{Export}
use Rattle.w_syntax.specs.declared.module.ExternIndex.TheVariants as index
use Rattle.w_syntax.specs.declared.module.Elem.{Elem}
use Rattle.w_syntax.specs.declared.module.ElemMode.TheVariants as mode
use Rattle.w_syntax.specs.declared.module.Func.{Func}
use Rattle.w_syntax.specs.declared.module.Module.{Module}
use Rattle.w_syntax.specs.Items.{reference_to}
use Rattle.w_syntax.specs.Types.{alone_of}
use Rattle.s_syntax.specs.declared.name.Name.{Name}
use Rattle.s_syntax.specs.declared.script.Function.{Function}
use Rattle.s_syntax.specs.declared.script.Handler.{Handler}
use Rattle.s_syntax.specs.declared.script.Slots.{Slots}
use Rattle.s_syntax.specs.declared.script.Definition.{Definition}
use Rattle.s_syntax.specs.declared.script.Definition.TheVariants as definition
use Rattle.s_syntax.specs.declared.script.Declaration.{Declaration}
use Rattle.s_syntax.specs.declared.script.Script.{Script}
use Rattle.s_index.specs.Handled.{handled}
use Rattle.s_index.specs.Indices.{type_table, function_type_index, handler_type_index, effect_type_index}
use Rattle.s_index.specs.Numbers.{function_index}
use Rattle.s_index.specs.Types.{group_tag_type, printer_type, resumption_type}
use Rattle.s_code.specs.Handlers.{handler_body}
use Rattle.s_code.specs.Statements.{body}
use Rattle.s_code.specs.Places.{function_layout, function_locals, return_layout, placed_clauses, handler_locals}

-- ## Functions and handlers

abbrev pub function_code : List Declaration → Function → Func
function_code ds f = record { locals = function_locals ds f; body = body ds (function_layout ds f) 0 f.body }

abbrev pub handler_code : List Declaration → Name → Handler → Func
handler_code ds h i = record { locals = handler_locals ds h i; body = handler_body ds (return_layout ds h i) i (placed_clauses ds h i) }

-- ## Slots

-- all places are empty at first
abbrev pub slots_table : Slots → Table
slots_table s = record {
  kind = record { element = record { nullable = true; heap = heap.Index resumption_type }; limits = record { min = s.places.value; max = Some s.places.value } };
  init = None;
}

-- ## What each declaration adds

abbrev pub function_type_of : List Declaration → Definition → List ℕ
function_type_of ds (definition.Effect n) = []
function_type_of ds (definition.Function f) = function_type_index ds f.parameters ∷ []
function_type_of ds (definition.Handler i) = []
function_type_of ds (definition.Slots s) = []

abbrev pub handler_type_of : List Declaration → Definition → List ℕ
handler_type_of ds (definition.Effect n) = []
handler_type_of ds (definition.Function f) = []
handler_type_of ds (definition.Handler i) = handler_type_index ds i.parameters ∷ []
handler_type_of ds (definition.Slots s) = []

abbrev pub table_of : Definition → List Table
table_of (definition.Effect n) = []
table_of (definition.Function f) = []
table_of (definition.Handler i) = []
table_of (definition.Slots s) = slots_table s ∷ []

abbrev pub tag_of : List Declaration → Definition → List Tag
tag_of ds (definition.Effect n) = record { type_index = effect_type_index ds n.value } ∷ []
tag_of ds (definition.Function f) = []
tag_of ds (definition.Handler i) = []
tag_of ds (definition.Slots s) = []

abbrev pub function_code_of : List Declaration → Definition → List Func
function_code_of ds (definition.Effect n) = []
function_code_of ds (definition.Function f) = function_code ds f ∷ []
function_code_of ds (definition.Handler i) = []
function_code_of ds (definition.Slots s) = []

abbrev pub handler_code_of : List Declaration → Name → Definition → List Func
handler_code_of ds h (definition.Effect n) = []
handler_code_of ds h (definition.Function f) = []
handler_code_of ds h (definition.Handler i) = handler_code ds h i ∷ []
handler_code_of ds h (definition.Slots s) = []

-- what all declarations of a list add, in order
abbrev pub for_each : {A : Type 0} → (Declaration → List A) → List Declaration → List A
for_each make [] = []
for_each make (d ∷ ds) = make d ++ for_each make ds

-- ## The module

-- a type that is final, without supertypes, in a group of its own
abbrev pub group : CompType → RecGroup
group t = record { types = alone_of t ∷ [] }

abbrev pub printer_import : Import
printer_import = record { module_name = codes "host"; item_name = codes "print_i64"; kind = extern.Func printer_type }

abbrev pub main_export : List Declaration → Export
main_export ds = record { name = codes "main"; index = index.Func (function_index ds (codes "main")) }

-- the first two of these types in one group, and the others each in a group of its own
abbrev pub pair_first : List CompType → List RecGroup
pair_first ts = record { types = map alone_of (take 2 ts) } ∷ map group (drop 2 ts)

-- The types in groups: behind the first five stand that of the functions of coroutines and that of coroutines, which name each other.
abbrev pub grouped : List CompType → List RecGroup
grouped ts = map group (take 5 ts) ++ pair_first (drop 5 ts)

-- the tag that coroutines switch on
abbrev pub group_tag : Tag
group_tag = record { type_index = group_tag_type }

-- the functions that are handled are declared, so that code may refer to them
abbrev pub declared : List Declaration → List Declaration → List Elem
declared ds [] = []
declared ds (e ∷ es) = record {
  kind = record { nullable = false; heap = heap.Func };
  items = map (λ (d : Declaration). reference_to (function_index ds d.name)) (e ∷ es);
  mode = mode.Declarative;
} ∷ []

abbrev pub lowered_all : List Declaration → Module
lowered_all ds = record {
  types = grouped (type_table ds);
  imports = printer_import ∷ [];
  functions = for_each (λ d. function_type_of ds d.definition) ds ++ for_each (λ d. handler_type_of ds d.definition) ds;
  tables = for_each (λ d. table_of d.definition) ds;
  memories = [];
  tags = for_each (λ d. tag_of ds d.definition) ds ++ group_tag ∷ [];
  globals = [];
  exports = main_export ds ∷ [];
  start = None;
  elements = declared ds (handled ds);
  codes = for_each (λ d. function_code_of ds d.definition) ds ++ for_each (λ d. handler_code_of ds d.name d.definition) ds;
  datas = [];
}

abbrev pub lowered : Script → Module
lowered p = lowered_all p.declarations
