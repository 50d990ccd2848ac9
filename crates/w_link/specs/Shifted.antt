-- Types of one file among those of all files (Core, execution, modules). All groups stand in one list, and an index is counted on from
-- the n types of the files before.
use Rattle.std.specs.Prelude.{ℕ, ◌+◌, List, ◌++◌, map}
use Rattle.w_types.specs.declared.types.CompType.{CompType}
use Rattle.w_types.specs.declared.types.CompType.TheVariants as comp
use Rattle.w_types.specs.declared.types.FuncType.{FuncType}
use Rattle.w_types.specs.declared.types.HeapType.{HeapType}
use Rattle.w_types.specs.declared.types.HeapType.TheVariants as heap
use Rattle.w_types.specs.declared.types.RecGroup.{RecGroup}
use Rattle.w_types.specs.declared.types.RefType.{RefType}
use Rattle.w_types.specs.declared.types.SubType.{SubType}
use Rattle.w_types.specs.declared.types.ValType.{ValType}
use Rattle.w_types.specs.declared.types.ValType.TheVariants as val
use Rattle.lists.specs.Rows.{Row, ε, ◌▹◌}
use Rattle.w_canon.specs.Classed.{count}
use Rattle.w_rules.specs.Operands.{Operand}
use Rattle.w_rules.specs.Operands.{Known, Bottom, BottomRef}

abbrev pub heap_shifted : ℕ → HeapType → HeapType
heap_shifted n heap.Func = heap.Func
heap_shifted n heap.NoFunc = heap.NoFunc
heap_shifted n heap.Cont = heap.Cont
heap_shifted n heap.NoCont = heap.NoCont
heap_shifted n (heap.Index x) = heap.Index (n + x)

abbrev pub ref_shifted : ℕ → RefType → RefType
ref_shifted n r = record { nullable = r.nullable; heap = heap_shifted n r.heap }

abbrev pub type_shifted : ℕ → ValType → ValType
type_shifted n val.I32 = val.I32
type_shifted n val.I64 = val.I64
type_shifted n (val.Ref r) = val.Ref (ref_shifted n r)

abbrev pub types_shifted : ℕ → List ValType → List ValType
types_shifted n = map (type_shifted n)

abbrev pub func_shifted : ℕ → FuncType → FuncType
func_shifted n t = record { params = types_shifted n t.params; results = types_shifted n t.results }

abbrev pub comp_shifted : ℕ → CompType → CompType
comp_shifted n (comp.Func t) = comp.Func (func_shifted n t)
comp_shifted n (comp.Cont x) = comp.Cont (n + x)

-- with the supertypes that it is declared to match
abbrev pub sub_shifted : ℕ → SubType → SubType
sub_shifted n t = record { is_final = t.is_final; supertypes = map (λ (x : ℕ). n + x) t.supertypes; composite = comp_shifted n t.composite }

abbrev pub group_shifted : ℕ → RecGroup → RecGroup
group_shifted n g = record { types = map (sub_shifted n) g.types }

-- the groups of a file among all: behind those of the files before, and in front of those of the files behind
abbrev pub among : List RecGroup → List RecGroup → List RecGroup → List RecGroup
among front gs back = front ++ (map (group_shifted (count front)) gs ++ back)

-- ## Rows of types, and of operands

abbrev pub row_shifted : ℕ → Row ValType → Row ValType
row_shifted n ε = ε
row_shifted n (ts ▹ t) = row_shifted n ts ▹ type_shifted n t

abbrev pub rows_shifted : ℕ → List (Row ValType) → List (Row ValType)
rows_shifted n = map (row_shifted n)

abbrev pub operand_shifted : ℕ → Operand → Operand
operand_shifted n (Known t) = Known (type_shifted n t)
operand_shifted n Bottom = Bottom
operand_shifted n (BottomRef b) = BottomRef b

abbrev pub operands_shifted : ℕ → Row Operand → Row Operand
operands_shifted n ε = ε
operands_shifted n (ts ▹ t) = operands_shifted n ts ▹ operand_shifted n t
