-- The canonical spelling of the fields of a module.
use Rattle.std.specs.Prelude.{ℕ, zero, Bool, true, false, ◌&&◌, not, cond, List, [], ◌∷◌, ◌++◌, Option, Some, None, is_some, length}
use Rattle.w_leb.specs.Number.{shortest}
use Rattle.w_leb.specs.CanonicalLaws.{vec_written}
use Rattle.w_types.specs.declared.types.HeapType.{HeapType}
use Rattle.w_types.specs.declared.types.HeapType.TheVariants as heap
use Rattle.w_types.specs.declared.types.RefType.{RefType}
use Rattle.w_syntax.specs.Code.{Code, Done, Plain}
use Rattle.w_syntax.specs.declared.instructions.Op.{Op}
use Rattle.w_syntax.specs.declared.instructions.Op.TheVariants as op
use Rattle.w_syntax.specs.declared.instructions.ReferenceOp.TheVariants as reference
use Rattle.w_syntax.specs.declared.module.Tag.{Tag}
use Rattle.w_syntax.specs.declared.module.ExternType.{ExternType}
use Rattle.w_syntax.specs.declared.module.ExternType.TheVariants as extern
use Rattle.w_syntax.specs.declared.module.Import.{Import}
use Rattle.w_syntax.specs.declared.module.TableType.{TableType}
use Rattle.w_syntax.specs.declared.module.Table.{Table}
use Rattle.w_syntax.specs.declared.module.GlobalVariable.{GlobalVariable}
use Rattle.w_syntax.specs.declared.module.ExternIndex.{ExternIndex}
use Rattle.w_syntax.specs.declared.module.ExternIndex.TheVariants as index
use Rattle.w_syntax.specs.declared.module.Export.{Export}
use Rattle.w_syntax.specs.declared.module.ElemMode.{ElemMode}
use Rattle.w_syntax.specs.declared.module.ElemMode.TheVariants as elem_mode
use Rattle.w_syntax.specs.declared.module.Elem.{Elem}
use Rattle.w_syntax.specs.declared.module.DataMode.{DataMode}
use Rattle.w_syntax.specs.declared.module.DataMode.TheVariants as data_mode
use Rattle.w_syntax.specs.declared.module.Data.{Data}
use Rattle.w_encode.specs.TypesWritten.{reftype_written, limits_written, tabletype_written, globaltype_written}
use Rattle.w_encode.specs.InstructionsWritten.{expr_written}

-- bytes behind their number
abbrev pub bytes_written : List ℕ → List ℕ
bytes_written b = shortest (length b) ++ b

-- ## Imports and exports

abbrev pub tag_written : Tag → List ℕ
tag_written t = 0x00 ∷ shortest t.type_index

abbrev pub externtype_written : ExternType → List ℕ
externtype_written (extern.Func x) = 0x00 ∷ shortest x
externtype_written (extern.Table t) = 0x01 ∷ tabletype_written t
externtype_written (extern.Memory l) = 0x02 ∷ limits_written l
externtype_written (extern.Global g) = 0x03 ∷ globaltype_written g
externtype_written (extern.Tag t) = 0x04 ∷ tag_written t

abbrev pub import_written : Import → List ℕ
import_written i = bytes_written i.module_name ++ (bytes_written i.item_name ++ externtype_written i.kind)

abbrev pub externidx_written : ExternIndex → List ℕ
externidx_written (index.Func x) = 0x00 ∷ shortest x
externidx_written (index.Table x) = 0x01 ∷ shortest x
externidx_written (index.Memory x) = 0x02 ∷ shortest x
externidx_written (index.Global x) = 0x03 ∷ shortest x
externidx_written (index.Tag x) = 0x04 ∷ shortest x

abbrev pub export_written : Export → List ℕ
export_written e = bytes_written e.name ++ externidx_written e.index

-- ## Tables and globals

-- with what its elements begin with exactly where the module has that
abbrev pub table_with : TableType → Option Code → List ℕ
table_with t None = tabletype_written t
table_with t (Some c) = 0x40 ∷ 0x00 ∷ (tabletype_written t ++ expr_written c)

abbrev pub table_written : Table → List ℕ
table_written t = table_with t.kind t.init

abbrev pub global_written : GlobalVariable → List ℕ
global_written g = globaltype_written g.kind ++ expr_written g.init

-- ## Element segments

-- the function that an instruction refers to
abbrev pub referred_by : Op → Option ℕ
referred_by (op.Reference (reference.Func x)) = Some x
referred_by _ = None

-- the function of one `ref.func x`
abbrev pub function_of : Code → Option ℕ
function_of (Plain o Done) = referred_by o
function_of _ = None

-- each is one `ref.func x`
abbrev pub are_functions : List Code → Bool
are_functions [] = true
are_functions (c ∷ cs) = is_some (function_of c) && are_functions cs

-- the index of a function
abbrev pub if_function : Option ℕ → List ℕ
if_function None = []
if_function (Some x) = shortest x

abbrev pub function_written : Code → List ℕ
function_written c = if_function (function_of c)

abbrev pub is_func : HeapType → Bool
is_func heap.Func = true
is_func _ = false

-- `(ref func)`
abbrev pub is_ref_func : RefType → Bool
is_ref_func r = is_func r.heap && not r.nullable

-- `funcref`
abbrev pub is_funcref : RefType → Bool
is_funcref r = is_func r.heap && r.nullable

-- functions by their indices, by the mode
abbrev pub index_form : ElemMode → List ℕ → List ℕ
index_form (elem_mode.Active zero c) functions = 0x00 ∷ (expr_written c ++ functions)
index_form (elem_mode.Active t c) functions = 0x02 ∷ (shortest t ++ (expr_written c ++ 0x00 ∷ functions))
index_form elem_mode.Passive functions = 0x01 ∷ 0x00 ∷ functions
index_form elem_mode.Declarative functions = 0x03 ∷ 0x00 ∷ functions

-- expressions, by the mode and the type
abbrev pub active_form : Bool → ℕ → Code → RefType → List ℕ → List ℕ
active_form true t c r items = 0x04 ∷ (expr_written c ++ items)
active_form false t c r items = 0x06 ∷ (shortest t ++ (expr_written c ++ (reftype_written r ++ items)))

abbrev pub expression_form : ElemMode → RefType → List ℕ → List ℕ
expression_form (elem_mode.Active zero c) r items = active_form (is_funcref r) 0 c r items
expression_form (elem_mode.Active t c) r items = active_form false t c r items
expression_form elem_mode.Passive r items = 0x05 ∷ (reftype_written r ++ items)
expression_form elem_mode.Declarative r items = 0x07 ∷ (reftype_written r ++ items)

-- by indices exactly where the type is `(ref func)` and each item is one `ref.func x`
abbrev pub elem_written : Elem → List ℕ
elem_written e = cond (is_ref_func e.kind && are_functions e.items)
    (index_form e.mode (vec_written function_written e.items))
    (expression_form e.mode e.kind (vec_written expr_written e.items))

-- ## Data segments

abbrev pub data_form : DataMode → List ℕ → List ℕ
data_form (data_mode.Active zero c) b = 0x00 ∷ (expr_written c ++ b)
data_form (data_mode.Active x c) b = 0x02 ∷ (shortest x ++ (expr_written c ++ b))
data_form data_mode.Passive b = 0x01 ∷ b

abbrev pub data_written : Data → List ℕ
data_written d = data_form d.mode (bytes_written d.bytes)
