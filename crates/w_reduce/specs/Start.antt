-- Where a run begins (Core, execution, instantiation): its store and its term, or the first reason why there are none.
-- Instantiation takes no reduction.
use Rattle.std.specs.Prelude.{ℕ, zero, suc, nat_eq, nat_le, Bool, true, false, ◌&&◌, List, [], ◌∷◌, ◌++◌, length, map, codes, replicate, if◌then◌else◌, Option, Some, None, slice_get}
use Rattle.std.specs.Str.{bytes_eq}
use Rattle.w_types.specs.declared.types.FuncType.{FuncType}
use Rattle.w_types.specs.declared.types.ValType.{ValType}
use Rattle.w_types.specs.declared.types.ValType.TheVariants as val
use Rattle.lists.specs.Rows.{ε}
use Rattle.w_syntax.specs.Code.{Code, Done}
use Rattle.w_syntax.specs.Functions.{type_at}
use Rattle.w_syntax.specs.declared.module.Data as syntax_data
use Rattle.w_syntax.specs.declared.module.Elem as syntax_elem
use Rattle.w_syntax.specs.declared.module.DataMode.{DataMode}
use Rattle.w_syntax.specs.declared.module.DataMode.TheVariants as data_mode
use Rattle.w_syntax.specs.declared.module.ElemMode.{ElemMode}
use Rattle.w_syntax.specs.declared.module.ElemMode.TheVariants as elem_mode
use Rattle.w_syntax.specs.declared.module.Export.{Export}
use Rattle.w_syntax.specs.declared.module.ExternIndex.{ExternIndex}
use Rattle.w_syntax.specs.declared.module.ExternIndex.TheVariants as index
use Rattle.w_syntax.specs.declared.module.GlobalVariable.{GlobalVariable}
use Rattle.w_syntax.specs.declared.module.Limits.{Limits}
use Rattle.w_syntax.specs.declared.module.Module.{Module}
use Rattle.w_syntax.specs.declared.module.Table as syntax_table
use Rattle.w_syntax.specs.declared.module.Tag.{Tag}
use Rattle.w_memory.specs.Memory.{Memory, fresh, page_limit, init}
use Rattle.w_tables.specs.Elements.{table_limit, copied}
use Rattle.w_tables.specs.declared.entries.FuncEntry.{FuncEntry}
use Rattle.w_tables.specs.declared.entries.FuncEntry.TheVariants as function
use Rattle.w_tables.specs.declared.entries.Printer.{Printer}
use Rattle.w_rules.specs.Spaces.{functions_of}
use Rattle.w_reduce.specs.declared.limit.StartLimit.{StartLimit}
use Rattle.w_reduce.specs.declared.limit.StartLimit.TheVariants as limit
use Rattle.w_reduce.specs.declared.trap.Trap.{Trap}
use Rattle.w_reduce.specs.declared.trap.Trap.TheVariants as trap
use Rattle.w_reduce.specs.Values.{Val, Null}
use Rattle.w_reduce.specs.Store.{Store, Table}
use Rattle.w_reduce.specs.Terms.{Administrative, Invoke, Term}
use Rattle.w_reduce.specs.Program.{Program}
use Rattle.w_reduce.specs.Imports.{Found, All, Missing, printers_of}
use Rattle.w_reduce.specs.Constants.{value_of, number_in}
use Rattle.w_reduce.specs.Memories.{with_memory, without_data}
use Rattle.w_reduce.specs.Tables.{with_elements, without_elements}

-- what instantiation comes to
pub data Started : Type 0 where
  Ready : Store → Term → Started
  -- no function of the host is there for the import of this number
  NoPrinter : ℕ → Started
  -- there is no main
  NoEntry : Started
  -- what the module asks for at first passes this limit
  Exceeds : StartLimit → Started
  StartTraps : Trap → Started

-- ## main

-- the type is [] to integers
abbrev pub are_integers : List ValType → Bool
are_integers [] = true
are_integers (val.Ref r ∷ ts) = false
are_integers (t ∷ ts) = are_integers ts

abbrev pub is_entry_type : FuncType → Bool
is_entry_type t = nat_eq (length t.params) 0 && are_integers t.results

-- the function i, where its type is [] to integers
abbrev pub entry_at : ℕ → Option FuncType → Option ℕ
entry_at i (Some t) = if is_entry_type t then Some i else None
entry_at i None = None

-- what is exported, where that is a function
abbrev pub entry_of : Module → ExternIndex → Option ℕ
entry_of m (index.Func x) = entry_at x (type_at m (slice_get (functions_of m) x))
entry_of m x = None

abbrev pub entry_in : Module → List Export → Option ℕ
entry_in m [] = None
entry_in m (e ∷ es) = if bytes_eq e.name (codes "main") then entry_of m e.index else entry_in m es

-- main: the function that is exported under this name, where its type is [] to integers
abbrev pub entry : Module → Option ℕ
entry m = entry_in m m.exports

-- ## Limits

abbrev pub none_above : ℕ → List ℕ → Bool
none_above most [] = true
none_above most (n ∷ ns) = nat_le n most && none_above most ns

-- the memory's minimum is looked at before those of tables
abbrev pub exceeded : Module → Option StartLimit
exceeded m =
    if none_above page_limit (map (λ (l : Limits). l.min) m.memories)
    then (if none_above table_limit (map (λ (t : syntax_table.Table). t.kind.limits.min) m.tables) then None else Some limit.Table)
    else Some limit.Memory

-- ## The first store

-- the module's own functions, the first n of them
abbrev pub own : ℕ → List FuncEntry
own zero = []
own (suc n) = own n ++ function.Own n ∷ []

-- functions, memories, tags and data segments, which ask for no value
abbrev pub bare : Module → List Printer → Store
bare m ps = record {
  functions = map (λ (p : Printer). function.Printer p) ps ++ own (length m.functions);
  tables = [];
  memories = map (λ (l : Limits). fresh l.min l.max) m.memories;
  globals = [];
  tags = map (λ (t : Tag). t.type_index) m.tags;
  elements = [];
  datas = map (λ (d : syntax_data.Data). d.bytes) m.datas;
  conts = [];
}

-- each global has its value by those before it
abbrev pub with_globals : Program → Store → List GlobalVariable → Store
with_globals p s [] = s
with_globals p s (g ∷ gs) = with_globals p (record s { globals = s.globals ++ value_of p s g.init ∷ [] }) gs

-- what a table is filled with
abbrev pub filling : Program → Store → Option Code → Val
filling p s None = Null
filling p s (Some c) = value_of p s c

abbrev pub table_of : Program → Store → syntax_table.Table → Table
table_of p s t = record { elements = replicate t.kind.limits.min (filling p s t.init); max = t.kind.limits.max }

abbrev pub with_tables : Program → Store → Store
with_tables p s = record s { tables = map (table_of p s) p.source.tables }

-- the values of all element segments
abbrev pub with_segments : Program → Store → Store
with_segments p s = record s { elements = map (λ (e : syntax_elem.Elem). map (value_of p s) e.items) p.source.elements }

abbrev pub allocated : Program → List Printer → Store
allocated p ps = with_segments p (with_tables p (with_globals p (bare p.source ps) p.source.globals))

-- ## Active segments

abbrev pub elements_put : Store → ℕ → ℕ → Table → List Val → Option (List Val) → Option Store
elements_put s x y t segment None = None
elements_put s x y t segment (Some vs) = Some (without_elements (with_elements s x t vs) y)

-- element segment y is copied into table x at d, and dropped; None where it passes the end
abbrev pub elements_copied : Store → ℕ → ℕ → ℕ → Option Table → Option (List Val) → Option Store
elements_copied s x y d (Some t) (Some segment) = elements_put s x y t segment (copied t.elements segment d 0 (length segment))
elements_copied s x y d t segment = None

abbrev pub element_started : Program → Store → ℕ → ElemMode → Option Store
element_started p s y (elem_mode.Active x offset) = elements_copied s x y (number_in (value_of p s offset)) (slice_get s.tables x) (slice_get s.elements y)
element_started p s y elem_mode.Passive = Some s
element_started p s y elem_mode.Declarative = Some (without_elements s y)

abbrev pub data_put : Store → ℕ → ℕ → Option Memory → Option Store
data_put s x y None = None
data_put s x y (Some m) = Some (without_data (with_memory s x m) y)

-- data segment y is copied into memory x at d, and dropped; None where it passes the end
abbrev pub data_copied : Store → ℕ → ℕ → ℕ → Option Memory → Option (List ℕ) → Option Store
data_copied s x y d (Some m) (Some bytes) = data_put s x y (init m bytes d 0 (length bytes))
data_copied s x y d m bytes = None

abbrev pub data_started : Program → Store → ℕ → DataMode → Option Store
data_started p s y (data_mode.Active x offset) = data_copied s x y (number_in (value_of p s offset)) (slice_get s.memories x) (slice_get s.datas y)
data_started p s y data_mode.Passive = Some s

-- in order, from number y on, until one passes an end
abbrev pub in_order : {A : Type 0} → (Store → ℕ → A → Option Store) → Option Store → ℕ → List A → Option Store
in_order f None y xs = None
in_order f (Some s) y [] = Some s
in_order f (Some s) y (x ∷ xs) = in_order f (f s y x) (suc y) xs

-- ## The first term

-- the invokes of the functions of these addresses
abbrev pub invokes : List ℕ → List Administrative
invokes addresses = map (λ (a : ℕ). Invoke a) addresses

-- the invokes of functions that run before main, and then that of main
abbrev pub first_term : List ℕ → ℕ → Term
first_term starts main = record { around = []; operands = ε; rest = record { ahead = invokes starts ++ Invoke main ∷ []; code = Done } }

-- the start function, where there is one
abbrev pub starts_of : Option ℕ → List ℕ
starts_of (Some a) = a ∷ []
starts_of None = []

-- the first term of a module: its start function runs before main
abbrev pub start_term : Module → ℕ → Term
start_term m main = first_term (starts_of m.start) main

-- ## All in order

abbrev pub with_datas : Program → ℕ → Option Store → Started
with_datas p main None = StartTraps trap.MemoryOutOfBounds
with_datas p main (Some s) = Ready s (start_term p.source main)

abbrev pub with_elements_in : Program → ℕ → Option Store → Started
with_elements_in p main None = StartTraps trap.TableOutOfBounds
with_elements_in p main (Some s) = with_datas p main (in_order (λ s y (d : syntax_data.Data). data_started p s y d.mode) (Some s) 0 p.source.datas)

abbrev pub within_limits : Program → List Printer → ℕ → Option StartLimit → Started
within_limits p ps main (Some l) = Exceeds l
within_limits p ps main None =
    with_elements_in p main (in_order (λ s y (e : syntax_elem.Elem). element_started p s y e.mode) (Some (allocated p ps)) 0 p.source.elements)

abbrev pub with_entry : Program → List Printer → Option ℕ → Started
with_entry p ps None = NoEntry
with_entry p ps (Some main) = within_limits p ps main (exceeded p.source)

abbrev pub with_imports : Program → Found → Started
with_imports p (Missing i) = NoPrinter i
with_imports p (All ps) = with_entry p ps (entry p.source)

-- the start of a run
abbrev pub Start : Program → Started
Start p = with_imports p (printers_of p.source p.source.imports)
