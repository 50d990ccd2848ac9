-- Items as they are written.
use Rattle.std.specs.Prelude.{ℕ, true, false, List, [], ◌∷◌, ◌++◌, length, Option, Some, None}
use Rattle.std.specs.List.{flat_map}
use Rattle.w_types.specs.declared.types.RefType.{RefType}
use Rattle.w_types.specs.declared.types.SubType.{SubType}
use Rattle.w_syntax.specs.declared.locals.LocalRun.{LocalRun}
use Rattle.w_syntax.specs.declared.module.TableType.{TableType}
use Rattle.w_syntax.specs.declared.module.ElemMode.{ElemMode}
use Rattle.w_syntax.specs.declared.module.ElemMode.TheVariants as elem_mode
use Rattle.w_syntax.specs.declared.module.DataMode.{DataMode}
use Rattle.w_syntax.specs.declared.module.DataMode.TheVariants as data_mode
use Rattle.w_syntax.specs.Code.{Code}
use Rattle.w_lines.specs.declared.line.Mode.TheVariants as mode
use Rattle.w_lines.specs.declared.line.Line.TheVariants as line
use Rattle.w_lines.specs.Spelling.{line_bytes}
use Rattle.w_lines.specs.Written.{code_bytes}
use Rattle.w_text.specs.declared.item.Item.{Item}
use Rattle.w_text.specs.declared.item.Item.TheVariants.{Group, Imported, TableItem, Memory, TagItem, Global, Exported, Start, Elements, Bytes, Function}

abbrev pub type_bytes : SubType → List ℕ
type_bytes t = line_bytes (line.Type t)

abbrev pub local_bytes : LocalRun → List ℕ
local_bytes r = line_bytes (line.Local r)

abbrev pub group_bytes : List SubType → List ℕ
group_bytes [] = line_bytes (line.Group 0)
group_bytes (t ∷ []) = type_bytes t
group_bytes (t ∷ u ∷ ts) = line_bytes (line.Group (length (t ∷ u ∷ ts))) ++ flat_map type_bytes (t ∷ u ∷ ts)

abbrev pub table_bytes : TableType → Option Code → List ℕ
table_bytes t None = line_bytes (line.Table t false)
table_bytes t (Some c) = line_bytes (line.Table t true) ++ code_bytes c

-- in front of the items of a segment
abbrev pub elements_head : ElemMode → RefType → ℕ → List ℕ
elements_head (elem_mode.Active x c) r k = line_bytes (line.Elements (mode.Active x) r k) ++ code_bytes c
elements_head elem_mode.Passive r k = line_bytes (line.Elements mode.Passive r k)
elements_head elem_mode.Declarative r k = line_bytes (line.Elements mode.Declarative r k)

abbrev pub elements_bytes : ElemMode → RefType → List Code → List ℕ
elements_bytes m r cs = elements_head m r (length cs) ++ flat_map code_bytes cs

abbrev pub data_bytes : DataMode → List ℕ → List ℕ
data_bytes (data_mode.Active x c) b = line_bytes (line.Data (Some x) b) ++ code_bytes c
data_bytes data_mode.Passive b = line_bytes (line.Data None b)

-- the bytes of an item's lines
abbrev pub item_bytes : Item → List ℕ
item_bytes (Group g) = group_bytes g.types
item_bytes (Imported i) = line_bytes (line.Import i)
item_bytes (TableItem t) = table_bytes t.kind t.init
item_bytes (Memory l) = line_bytes (line.Memory l)
item_bytes (TagItem t) = line_bytes (line.Tag t)
item_bytes (Global g) = line_bytes (line.Global g.kind) ++ code_bytes g.init
item_bytes (Exported e) = line_bytes (line.Export e)
item_bytes (Start x) = line_bytes (line.Start x)
item_bytes (Elements e) = elements_bytes e.mode e.kind e.items
item_bytes (Bytes d) = data_bytes d.mode d.bytes
item_bytes (Function x f) = line_bytes (line.Function x) ++ (flat_map local_bytes f.locals ++ code_bytes f.body)
