-- How the fields of a module are spelled (Core, binary format, modules).
use Rattle.std.specs.Prelude.{◌≡◌, ℕ, ◌^◌, nat_lt, List, [], ◌∷◌, ◌++◌, Some, None}
use Rattle.std.specs.Str.{is_utf8}
use Rattle.w_leb.specs.Format.{Format, IsSolid}
use Rattle.w_leb.specs.Formats.{constant, ◌⊗◌, ◌⇒◌, such_that, table_or, table, choice, number, vec, bytes, sized}
use Rattle.w_types.specs.declared.types.HeapType.TheVariants as heap
use Rattle.w_types.specs.declared.types.RefType.{RefType}
use Rattle.w_syntax.specs.Code.{Code, Done, Plain}
use Rattle.w_syntax.specs.Expr.{Expr, read_expr}
use Rattle.w_syntax.specs.ExprLaws.{expr_exact}
use Rattle.w_syntax.specs.Types.{nullable_to, non_null_to, reftype, valtype, limits, tabletype, globaltype}
use Rattle.w_syntax.specs.Locals.{total, joined}
use Rattle.w_syntax.specs.declared.instructions.Op.TheVariants as op
use Rattle.w_syntax.specs.declared.instructions.ReferenceOp.TheVariants as reference
use Rattle.w_syntax.specs.declared.module.Tag.{Tag}
use Rattle.w_syntax.specs.declared.module.ExternType.{ExternType}
use Rattle.w_syntax.specs.declared.module.ExternType.TheVariants as extern
use Rattle.w_syntax.specs.declared.module.Import.{Import}
use Rattle.w_syntax.specs.declared.module.Table.{Table}
use Rattle.w_syntax.specs.declared.module.GlobalVariable.{GlobalVariable}
use Rattle.w_syntax.specs.declared.module.ExternIndex.{ExternIndex}
use Rattle.w_syntax.specs.declared.module.ExternIndex.TheVariants as index
use Rattle.w_syntax.specs.declared.module.Export.{Export}
use Rattle.w_syntax.specs.declared.module.ElemMode.TheVariants as elem_mode
use Rattle.w_syntax.specs.declared.module.Elem.{Elem}
use Rattle.w_syntax.specs.declared.module.DataMode.TheVariants as data_mode
use Rattle.w_syntax.specs.declared.module.Data.{Data}
use Rattle.w_syntax.specs.declared.locals.LocalRun.{LocalRun}
use Rattle.w_syntax.specs.declared.module.Func.{Func}

-- ## Imports and exports

-- bytes that are UTF-8 (Core, binary format, values)
unfoldable pub name : Format (List ℕ)
name = such_that is_utf8 bytes

-- a byte 00, and a tag's type
unfoldable pub tag : Format Tag
tag = table ((0x00, number 32 ⇒ λ x. record { type_index = x }) ∷ [])

abbrev pub externtypes : List (ℕ × Format ExternType)
externtypes =
    (0x00, number 32 ⇒ extern.Func)
    ∷ (0x01, tabletype ⇒ extern.Table)
    ∷ (0x02, limits ⇒ extern.Memory)
    ∷ (0x03, globaltype ⇒ extern.Global)
    ∷ (0x04, tag ⇒ extern.Tag)
    ∷ []

unfoldable pub externtype : Format ExternType
externtype = table externtypes

unfoldable pub import : Format Import
import = name ⊗ name ⊗ externtype ⇒ λ p. record { module_name = p.0; item_name = p.1.0; kind = p.1.1 }

abbrev pub externindices : List (ℕ × Format ExternIndex)
externindices =
    (0x00, number 32 ⇒ index.Func)
    ∷ (0x01, number 32 ⇒ index.Table)
    ∷ (0x02, number 32 ⇒ index.Memory)
    ∷ (0x03, number 32 ⇒ index.Global)
    ∷ (0x04, number 32 ⇒ index.Tag)
    ∷ []

unfoldable pub externidx : Format ExternIndex
externidx = table externindices

unfoldable pub export : Format Export
export = name ⊗ externidx ⇒ λ p. record { name = p.0; index = p.1 }

-- ## Tables and globals

unfoldable pub expr : Format Code
expr = record { Spells = Expr; read = read_expr; exact = expr_exact }

begins_solid : (x y : List ℕ) (r : RefType) → [] ≡ x ++ y → reftype.Spells x r → ⊥
unfolding reftype
begins_solid [] y r e h = h
begins_solid (k ∷ x) y r e h = absurd cc

pub tabletype_solid : IsSolid tabletype.Spells
unfolding tabletype
tabletype_solid t h = begins_solid h.1.0 h.1.1 h.0.0 h.1.2 h.1.3

-- a table's type, behind 40 00 with what its elements begin with
abbrev pub tables : List (ℕ × Format Table)
tables = (0x40, table ((0x00, tabletype ⊗ expr ⇒ λ p. record { kind = p.0; init = Some p.1 }) ∷ [])) ∷ []

unfoldable pub table_of : Format Table
table_of =
    table_or tables
    (tabletype ⇒ λ t. record { kind = t; init = None }) (λ x h. tabletype_solid h.0 h.1)

unfoldable pub global : Format GlobalVariable
global = globaltype ⊗ expr ⇒ λ p. record { kind = p.0; init = p.1 }

-- ## Segments (Core, binary format, element section and data section)

-- the kind of an element segment that lists functions
unfoldable pub elemkind : Format RefType
elemkind = table ((0x00, constant (non_null_to heap.Func)) ∷ [])

-- a function's index stands for a reference to it
unfoldable pub function_item : Format Code
function_item = number 32 ⇒ λ x. Plain (op.Reference (reference.Func x)) Done

abbrev pub active : ℕ → Code → RefType → List Code → Elem
active t place kind items = record { kind = kind; items = items; mode = elem_mode.Active t place }

abbrev pub passive : RefType → List Code → Elem
passive kind items = record { kind = kind; items = items; mode = elem_mode.Passive }

abbrev pub declarative : RefType → List Code → Elem
declarative kind items = record { kind = kind; items = items; mode = elem_mode.Declarative }

abbrev pub elems : List (ℕ × Format Elem)
elems =
    (0, expr ⊗ vec function_item ⇒ λ p. active 0 p.0 (non_null_to heap.Func) p.1)
    ∷ (1, elemkind ⊗ vec function_item ⇒ λ p. passive p.0 p.1)
    ∷ (2, number 32 ⊗ expr ⊗ elemkind ⊗ vec function_item ⇒ λ p. active p.0 p.1.0 p.1.1.0 p.1.1.1)
    ∷ (3, elemkind ⊗ vec function_item ⇒ λ p. declarative p.0 p.1)
    ∷ (4, expr ⊗ vec expr ⇒ λ p. active 0 p.0 (nullable_to heap.Func) p.1)
    ∷ (5, reftype ⊗ vec expr ⇒ λ p. passive p.0 p.1)
    ∷ (6, number 32 ⊗ expr ⊗ reftype ⊗ vec expr ⇒ λ p. active p.0 p.1.0 p.1.1.0 p.1.1.1)
    ∷ (7, reftype ⊗ vec expr ⇒ λ p. declarative p.0 p.1)
    ∷ []

unfoldable pub elem : Format Elem
elem = choice (number 32) elems

abbrev pub data_segments : List (ℕ × Format Data)
data_segments =
    (0, expr ⊗ bytes ⇒ λ p. record { bytes = p.1; mode = data_mode.Active 0 p.0 })
    ∷ (1, bytes ⇒ λ b. record { bytes = b; mode = data_mode.Passive })
    ∷ (2, number 32 ⊗ expr ⊗ bytes ⇒ λ p. record { bytes = p.1.1; mode = data_mode.Active p.0 p.1.0 })
    ∷ []

unfoldable pub data_segment : Format Data
data_segment = choice (number 32) data_segments

-- ## Code (Core, binary format, code section)

-- so many locals of one type
unfoldable pub run : Format LocalRun
run = number 32 ⊗ valtype ⇒ λ p. record { count = p.0; kind = p.1 }

-- fewer than 2^32 locals
unfoldable pub locals : Format (List LocalRun)
locals = such_that (λ ls. nat_lt (total ls) (2 ^ 32)) (vec run) ⇒ joined

unfoldable pub func : Format Func
func = locals ⊗ expr ⇒ λ p. record { locals = p.0; body = p.1 }

-- behind its size, which it fills
unfoldable pub code : Format Func
code = sized func
