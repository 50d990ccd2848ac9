-- What the formats of the fields of a module give: that their lines are in their ranges.
use Rattle.std.proofs.Common.{arith}
use Rattle.w_leb.specs.Formats.{vec}
use Rattle.w_leb.specs.CanonicalTableLaws.{◌&◌}
use Rattle.w_types.specs.declared.types.HeapType.TheVariants as heap
use Rattle.w_syntax.specs.Expr.{Expr, tokens}
use Rattle.w_syntax.specs.Types.{rectype, limits, nullable_to, non_null_to}
use Rattle.w_syntax.specs.Fields.{name, tag, externtypes, externtype, import, externindices, externidx, export, expr, tables, table_of, global, elemkind, function_item, elems, elem, data_segments, data_segment, func, code}
use Rattle.w_words.specs.Words.{Each}
use Rattle.w_words.specs.Numbers.{Index32}
use Rattle.w_words.specs.Hexadecimal.{NameFits}
use Rattle.w_words.specs.Types.{RefFits}
use Rattle.w_lines.specs.Spelling.{ExternFits, ExternIndexFits}
use Rattle.w_text.specs.Items.{expr_lines}
use Rattle.w_spelled.proofs.Given.{Gives, weaker, each_given, of_constant, of_number, of_image, of_pair, of_such, of_vec, of_bytes, of_sized, of_table, of_entry, of_table_or, of_choice}
use Rattle.w_spelled.proofs.TypesGiven.{reftype_given, rectype_given, limits_given, tabletype_given, globaltype_given}
use Rattle.w_spelled.proofs.InstructionsGiven.{token_given}
use Rattle.w_spelled.proofs.LocalsGiven.{locals_given}
use Rattle.w_spelled.proofs.FieldsFit.{ExprFits, expr_fits, GroupFits, ImportFits, TableFits, MemoryFits, TagFits, GlobalFits, ExportFits, ElemFits, DataFits, group_fits, table_fits, global_fits, active_fits, passive_fits, declarative_fits, data_fits, CodeFits}

-- ## Types, imports and exports

pub group_given : Gives rectype GroupFits
group_given = weaker (λ g h. group_fits g.types h) rectype_given

name_given : Gives name NameFits
unfolding name
name_given = of_such of_bytes

tag_given : Gives tag (λ t. Index32 t.type_index)
unfolding tag
tag_given = of_entry 0x00 (of_image (of_number 32))

externtype_given : Gives externtype ExternFits
unfolding externtype
externtype_given = of_table externtypes
    (of_image (of_number 32)
    & of_image tabletype_given
    & of_image limits_given
    & of_image globaltype_given
    & of_image tag_given
    & tt)

pub import_given : Gives import ImportFits
unfolding import
import_given = of_image (weaker (λ p h. ((h.0, h.1.0, h.1.1), tt)) (of_pair name_given (of_pair name_given externtype_given)))

externidx_given : Gives externidx ExternIndexFits
unfolding externidx
externidx_given = of_table externindices
    (of_image (of_number 32)
    & of_image (of_number 32)
    & of_image (of_number 32)
    & of_image (of_number 32)
    & of_image (of_number 32)
    & tt)

pub export_given : Gives export ExportFits
unfolding export
export_given = of_image (weaker (λ p h. (h, tt)) (of_pair name_given externidx_given))

-- ## Tables, memories, tags and globals

expr_given : Gives expr ExprFits
unfolding expr Expr
expr_given = record { holds = λ b c i h. expr_fits c (each_given token_given b _ i h) }

pub table_given : Gives table_of TableFits
unfolding table_of
table_given = of_table_or tables _
    (of_entry 0x00 (of_image (weaker (λ p h. table_fits p.0 p.1 h.0 h.1) (of_pair tabletype_given expr_given))) & tt)
    (of_image (weaker (λ t h. (h, tt)) tabletype_given))

pub memory_given : Gives limits MemoryFits
memory_given = weaker (λ l h. (h, tt)) limits_given

pub tag_item_given : Gives tag TagFits
tag_item_given = weaker (λ t h. (h, tt)) tag_given

pub global_given : Gives global GlobalFits
unfolding global
global_given = of_image (weaker (λ p h. global_fits p.0 p.1 h.0 h.1) (of_pair globaltype_given expr_given))

-- ## Segments

elemkind_given : Gives elemkind RefFits
unfolding elemkind
elemkind_given = of_entry 0x00 (of_constant tt)

function_item_given : Gives function_item ExprFits
unfolding function_item expr_lines tokens
function_item_given = of_image (weaker (λ x h. (h, (tt, tt))) (of_number 32))

functions_given : Gives (vec function_item) (Each ExprFits)
functions_given = of_vec function_item_given

exprs_given : Gives (vec expr) (Each ExprFits)
exprs_given = of_vec expr_given

pub elem_given : Gives elem ElemFits
unfolding elem
elem_given = of_choice elems
    (of_image (weaker (λ p h. active_fits 0 p.0 (non_null_to heap.Func) p.1 (omega arith) h.0 tt h.1) (of_pair expr_given functions_given))
    & of_image (weaker (λ p h. passive_fits p.0 p.1 h.0 h.1) (of_pair elemkind_given functions_given))
    & of_image (weaker (λ p h. active_fits p.0 p.1.0 p.1.1.0 p.1.1.1 h.0 h.1.0 h.1.1.0 h.1.1.1) (of_pair (of_number 32) (of_pair expr_given (of_pair elemkind_given functions_given))))
    & of_image (weaker (λ p h. declarative_fits p.0 p.1 h.0 h.1) (of_pair elemkind_given functions_given))
    & of_image (weaker (λ p h. active_fits 0 p.0 (nullable_to heap.Func) p.1 (omega arith) h.0 tt h.1) (of_pair expr_given exprs_given))
    & of_image (weaker (λ p h. passive_fits p.0 p.1 h.0 h.1) (of_pair reftype_given exprs_given))
    & of_image (weaker (λ p h. active_fits p.0 p.1.0 p.1.1.0 p.1.1.1 h.0 h.1.0 h.1.1.0 h.1.1.1) (of_pair (of_number 32) (of_pair expr_given (of_pair reftype_given exprs_given))))
    & of_image (weaker (λ p h. declarative_fits p.0 p.1 h.0 h.1) (of_pair reftype_given exprs_given))
    & tt)

pub data_given : Gives data_segment DataFits
unfolding data_segment
data_given = of_choice data_segments
    (of_image (weaker (λ p h. data_fits 0 p.0 p.1 (omega arith) h.0 h.1) (of_pair expr_given of_bytes))
    & of_image (weaker (λ b h. ((tt, h), tt)) of_bytes)
    & of_image (weaker (λ p h. data_fits p.0 p.1.0 p.1.1 h.0 h.1.0 h.1.1) (of_pair (of_number 32) (of_pair expr_given of_bytes)))
    & tt)

-- ## Code

func_given : Gives func CodeFits
unfolding func
func_given = of_image (weaker (λ p h. (h.0.0, h.0.1, h.1)) (of_pair locals_given expr_given))

pub code_given : Gives code CodeFits
unfolding code
code_given = of_sized func_given
