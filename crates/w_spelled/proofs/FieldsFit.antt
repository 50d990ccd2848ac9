-- Fields of a module whose lines are all in their ranges.
use Rattle.std.proofs.Common.{ℕ, List, [], ◌∷◌, ◌++◌, map, Some}
use Rattle.std.specs.List.{flat_map}
use Rattle.hex.specs.Hex.{IsBytes}
use Rattle.w_types.specs.declared.types.RefType.{RefType}
use Rattle.w_types.specs.declared.types.SubType.{SubType}
use Rattle.w_types.specs.declared.types.RecGroup.{RecGroup}
use Rattle.w_syntax.specs.declared.instructions.Token.TheVariants as tok
use Rattle.w_syntax.specs.declared.locals.LocalRun.{LocalRun}
use Rattle.w_syntax.specs.declared.module.Limits.{Limits}
use Rattle.w_syntax.specs.declared.module.TableType.{TableType}
use Rattle.w_syntax.specs.declared.module.GlobalType.{GlobalType}
use Rattle.w_syntax.specs.declared.module.Import.{Import}
use Rattle.w_syntax.specs.declared.module.Table.{Table}
use Rattle.w_syntax.specs.declared.module.Tag.{Tag}
use Rattle.w_syntax.specs.declared.module.GlobalVariable.{GlobalVariable}
use Rattle.w_syntax.specs.declared.module.Export.{Export}
use Rattle.w_syntax.specs.declared.module.Elem.{Elem}
use Rattle.w_syntax.specs.declared.module.Data.{Data}
use Rattle.w_syntax.specs.declared.module.Func.{Func}
use Rattle.w_syntax.specs.declared.module.DataMode.TheVariants as data_mode
use Rattle.w_syntax.specs.Code.{Code}
use Rattle.w_syntax.specs.Expr.{tokens}
use Rattle.w_syntax.specs.Fields.{active, passive, declarative}
use Rattle.w_words.specs.Words.{Each}
use Rattle.w_words.specs.Numbers.{Index32}
use Rattle.w_words.specs.Types.{RefFits, ValFits}
use Rattle.w_lines.specs.declared.line.Line.{Line}
use Rattle.w_lines.specs.declared.line.Line.TheVariants as line
use Rattle.w_lines.specs.Instructions.{TokenFits}
use Rattle.w_lines.specs.Spelling.{LineFits, TypeFits, TableFits as TypeOfTableFits}
use Rattle.w_text.specs.Parts.{LocalsFit}
use Rattle.w_text.specs.Items.{GlobalHead, FunctionHead, expr_lines, exprs_lines, group_lines, head_lines, headed, table_lines, elem_lines, data_lines}

-- ## Lists

pub each_append : {A : Type 0} (P : A → Type 0) (xs ys : List A) → Each P xs → Each P ys → Each P (xs ++ ys)
each_append P [] ys f g = g
each_append P (x ∷ xs) ys f g = (f.0, each_append P xs ys f.1 g)

pub each_map : {A B : Type 0} (P : B → Type 0) (make : A → B) (xs : List A) → Each (λ x. P (make x)) xs → Each P (map make xs)
each_map P make [] f = tt
each_map P make (x ∷ xs) f = (f.0, each_map P make xs f.1)

pub each_flat_map : {A B : Type 0} (P : B → Type 0) (make : A → List B) (xs : List A) → Each (λ x. Each P (make x)) xs → Each P (flat_map make xs)
each_flat_map P make [] f = tt
each_flat_map P make (x ∷ xs) f = each_append P (make x) (flat_map make xs) f.0 (each_flat_map P make xs f.1)

-- ## Expressions

-- each of the lines of x is in its range
abbrev pub AllFit : {A : Type 0} → (A → List Line) → A → Type 0
AllFit lines x = Each LineFits (lines x)

abbrev pub ExprFits : Code → Type 0
ExprFits c = AllFit expr_lines c

pub expr_fits : (c : Code) → Each TokenFits (tokens c ++ tok.End ∷ []) → ExprFits c
unfolding expr_lines
expr_fits c f = each_map LineFits line.Token (tokens c ++ tok.End ∷ []) f

exprs_fit : (cs : List Code) → Each ExprFits cs → AllFit exprs_lines cs
unfolding exprs_lines
exprs_fit cs f = each_flat_map LineFits expr_lines cs f

-- ## Fields, by their lines

abbrev pub GroupFits : RecGroup → Type 0
GroupFits g = AllFit group_lines g.types

abbrev pub ImportFits : Import → Type 0
ImportFits i = Each LineFits (line.Import i ∷ [])

abbrev pub TableFits : Table → Type 0
TableFits t = Each LineFits (table_lines t.kind t.init)

abbrev pub MemoryFits : Limits → Type 0
MemoryFits l = Each LineFits (line.Memory l ∷ [])

abbrev pub TagFits : Tag → Type 0
TagFits t = Each LineFits (line.Tag t ∷ [])

abbrev pub GlobalFits : GlobalVariable → Type 0
GlobalFits g = Each LineFits (headed (GlobalHead g.kind) (g.init ∷ []))

abbrev pub ExportFits : Export → Type 0
ExportFits e = Each LineFits (line.Export e ∷ [])

abbrev pub ElemFits : Elem → Type 0
ElemFits e = Each LineFits (elem_lines e.mode e.kind e.items)

abbrev pub DataFits : Data → Type 0
DataFits d = Each LineFits (data_lines d.mode d.bytes)

pub group_fits : (ts : List SubType) → Each TypeFits ts → AllFit group_lines ts
unfolding group_lines
group_fits [] f = (tt, tt)
group_fits (t ∷ []) f = f
group_fits (t ∷ u ∷ ts) f = (tt, each_map LineFits line.Type (t ∷ u ∷ ts) f)

pub table_fits : (t : TableType) (c : Code) → TypeOfTableFits t → ExprFits c → Each LineFits (table_lines t (Some c))
unfolding head_lines
table_fits t c f g = (f, exprs_fit (c ∷ []) (g, tt))

pub global_fits : (t : GlobalType) (c : Code) → ValFits t.kind → ExprFits c → Each LineFits (headed (GlobalHead t) (c ∷ []))
unfolding head_lines
global_fits t c f g = (f, exprs_fit (c ∷ []) (g, tt))

pub active_fits : (x : ℕ) (c : Code) (r : RefType) (cs : List Code) → Index32 x → ExprFits c → RefFits r → Each ExprFits cs → ElemFits (active x c r cs)
unfolding head_lines
active_fits x c r cs f g h k = ((f, h), exprs_fit (c ∷ cs) (g, k))

pub passive_fits : (r : RefType) (cs : List Code) → RefFits r → Each ExprFits cs → ElemFits (passive r cs)
unfolding head_lines
passive_fits r cs h k = ((tt, h), exprs_fit cs k)

pub declarative_fits : (r : RefType) (cs : List Code) → RefFits r → Each ExprFits cs → ElemFits (declarative r cs)
unfolding head_lines
declarative_fits r cs h k = ((tt, h), exprs_fit cs k)

pub data_fits : (x : ℕ) (c : Code) (b : List ℕ) → Index32 x → ExprFits c → IsBytes b → Each LineFits (data_lines (data_mode.Active x c) b)
unfolding head_lines
data_fits x c b f g i = ((f, i), exprs_fit (c ∷ []) (g, tt))

-- ## Functions

abbrev pub LocalFits : LocalRun → Type 0
LocalFits r = Index32 r.count × ValFits r.kind

-- its locals are joined and few, and each of its lines is in its range
abbrev pub CodeFits : Func → Type 0
CodeFits f = LocalsFit f.locals × Each LocalFits f.locals × ExprFits f.body

pub function_fits : (x : ℕ) (f : Func) → Index32 x → CodeFits f → Each LineFits (headed (FunctionHead x f.locals) (f.body ∷ []))
unfolding head_lines
function_fits x f i g = (i, each_append LineFits (map line.Local f.locals) (exprs_lines (f.body ∷ [])) (each_map LineFits line.Local f.locals g.1) (exprs_fit (f.body ∷ []) (g.2, tt)))
