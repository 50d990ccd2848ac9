-- The items of a module, and their lines.
use Rattle.std.specs.Prelude.{ℕ, true, false, List, [], ◌∷◌, ◌++◌, length, map, Option, Some, None}
use Rattle.std.specs.List.{flat_map}
use Rattle.w_types.specs.declared.types.RefType.{RefType}
use Rattle.w_types.specs.declared.types.SubType.{SubType}
use Rattle.w_syntax.specs.declared.instructions.Token.TheVariants as tok
use Rattle.w_syntax.specs.declared.locals.LocalRun.{LocalRun}
use Rattle.w_syntax.specs.declared.module.TableType.{TableType}
use Rattle.w_syntax.specs.declared.module.GlobalType.{GlobalType}
use Rattle.w_syntax.specs.declared.module.ElemMode.{ElemMode}
use Rattle.w_syntax.specs.declared.module.ElemMode.TheVariants as elem_mode
use Rattle.w_syntax.specs.declared.module.DataMode.{DataMode}
use Rattle.w_syntax.specs.declared.module.DataMode.TheVariants as data_mode
use Rattle.w_syntax.specs.declared.module.Func.{Func}
use Rattle.w_syntax.specs.declared.module.Module.{Module}
use Rattle.w_syntax.specs.Code.{Code}
use Rattle.w_syntax.specs.Expr.{tokens}
use Rattle.w_lines.specs.declared.line.Mode.{Mode}
use Rattle.w_lines.specs.declared.line.Mode.TheVariants as mode
use Rattle.w_lines.specs.declared.line.Line.{Line}
use Rattle.w_lines.specs.declared.line.Line.TheVariants as line
use Rattle.w_text.specs.declared.item.Item.{Item}
use Rattle.w_text.specs.declared.item.Item.TheVariants.{Group, Imported, TableItem, Memory, TagItem, Global, Exported, Start, Elements, Bytes, Function}

-- ## Items

-- instructions, and then `end`
unfoldable pub expr_lines : Code → List Line
expr_lines c = map line.Token (tokens c ++ tok.End ∷ [])

unfoldable pub exprs_lines : List Code → List Line
exprs_lines cs = flat_map expr_lines cs

-- a group of one is its type line alone
unfoldable pub group_lines : List SubType → List Line
group_lines [] = line.Group 0 ∷ []
group_lines (t ∷ []) = line.Type t ∷ []
group_lines (t ∷ u ∷ ts) = line.Group (length (t ∷ u ∷ ts)) ∷ map line.Type (t ∷ u ∷ ts)

-- the lines of what has expressions, in front of these
pub data Head : Type 0 where
  TableHead : TableType → Head
  GlobalHead : GlobalType → Head
  ElemHead : Mode → RefType → ℕ → Head
  DataHead : ℕ → List ℕ → Head
  FunctionHead : ℕ → List LocalRun → Head

unfoldable pub head_lines : Head → List Line
head_lines (TableHead t) = line.Table t true ∷ []
head_lines (GlobalHead g) = line.Global g ∷ []
head_lines (ElemHead m r k) = line.Elements m r k ∷ []
head_lines (DataHead x b) = line.Data (Some x) b ∷ []
head_lines (FunctionHead x ls) = line.Function x ∷ map line.Local ls

-- the lines of what has expressions
abbrev pub headed : Head → List Code → List Line
headed h cs = head_lines h ++ exprs_lines cs

abbrev pub table_lines : TableType → Option Code → List Line
table_lines t None = line.Table t false ∷ []
table_lines t (Some c) = headed (TableHead t) (c ∷ [])

abbrev pub elem_lines : ElemMode → RefType → List Code → List Line
elem_lines (elem_mode.Active x c) r cs = headed (ElemHead (mode.Active x) r (length cs)) (c ∷ cs)
elem_lines elem_mode.Passive r cs = headed (ElemHead mode.Passive r (length cs)) cs
elem_lines elem_mode.Declarative r cs = headed (ElemHead mode.Declarative r (length cs)) cs

abbrev pub data_lines : DataMode → List ℕ → List Line
data_lines (data_mode.Active x c) b = headed (DataHead x b) (c ∷ [])
data_lines data_mode.Passive b = line.Data None b ∷ []

unfoldable pub item_lines : Item → List Line
item_lines (Group g) = group_lines g.types
item_lines (Imported i) = line.Import i ∷ []
item_lines (TableItem t) = table_lines t.kind t.init
item_lines (Memory l) = line.Memory l ∷ []
item_lines (TagItem t) = line.Tag t ∷ []
item_lines (Global g) = headed (GlobalHead g.kind) (g.init ∷ [])
item_lines (Exported e) = line.Export e ∷ []
item_lines (Start x) = line.Start x ∷ []
item_lines (Elements e) = elem_lines e.mode e.kind e.items
item_lines (Bytes d) = data_lines d.mode d.bytes
item_lines (Function x f) = headed (FunctionHead x f.locals) (f.body ∷ [])

-- ## Modules

abbrev pub start_items : Option ℕ → List Item
start_items None = []
start_items (Some x) = Start x ∷ []

-- each function's type with its code
unfoldable pub function_items : List ℕ → List Func → List Item
function_items [] fs = []
function_items (x ∷ xs) [] = []
function_items (x ∷ xs) (f ∷ fs) = Function x f ∷ function_items xs fs

-- the items of a module, list by list
unfoldable pub lists : Module → List (List Item)
lists m =
    map Group m.types
    ∷ map Imported m.imports
    ∷ map TableItem m.tables
    ∷ map Memory m.memories
    ∷ map TagItem m.tags
    ∷ map Global m.globals
    ∷ map Exported m.exports
    ∷ start_items m.start
    ∷ map Elements m.elements
    ∷ map Bytes m.datas
    ∷ function_items m.functions m.codes
    ∷ []

unfoldable pub joined_lists : List (List Item) → List Item
joined_lists [] = []
joined_lists (xs ∷ xss) = xs ++ joined_lists xss

abbrev pub items : Module → List Item
items m = joined_lists (lists m)

-- the lines of a module
abbrev pub module_lines : Module → List Line
module_lines m = line.Module ∷ flat_map item_lines (items m)
