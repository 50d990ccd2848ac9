-- How some parts of modules are written that no valid module has, computed by the definition: `build` refuses these.
use Rattle.std.proofs.Common.{◌≡◌, [], ◌∷◌, Some, refl, pos, false, true}
use Rattle.w_leb.specs.Number.{shortest_in, signed_in}
use Rattle.w_types.specs.declared.types.HeapType.TheVariants as heap
use Rattle.w_syntax.specs.declared.module.DataMode.TheVariants as data_mode
use Rattle.w_syntax.specs.declared.module.ElemMode.TheVariants as elem_mode
use Rattle.w_syntax.specs.declared.instructions.Op.TheVariants as op
use Rattle.w_syntax.specs.declared.instructions.ReferenceOp.TheVariants as reference
use Rattle.w_syntax.specs.declared.numeric.NumericOp.TheVariants as numeric
use Rattle.w_syntax.specs.Code.{Code, Done, Plain}
use Rattle.w_syntax.specs.Expr.{tokens}
use Rattle.w_encode.specs.TypesWritten.{heaptype_written, limits_written}
use Rattle.w_encode.specs.FieldsWritten.{data_written, elem_written}

greatest_index : heaptype_written (heap.Index 4294967295) ≡ 0xFF ∷ 0xFF ∷ 0xFF ∷ 0xFF ∷ 0x0F ∷ []
unfolding signed_in
greatest_index = refl

limits_past_32_bits : limits_written (record { min = 1; max = Some 4294967296 }) ≡ 0x01 ∷ 0x01 ∷ 0x80 ∷ 0x80 ∷ 0x80 ∷ 0x80 ∷ 0x10 ∷ []
unfolding shortest_in
limits_past_32_bits = refl

-- i32.const 3
three : Code
three = Plain (op.Numeric (numeric.I32Const (pos 3))) Done

data_for_memory_1 : data_written (record { bytes = 0x61 ∷ 0x62 ∷ []; mode = data_mode.Active 1 three })
    ≡ 0x02 ∷ 0x01 ∷ 0x41 ∷ 0x03 ∷ 0x0B ∷ 0x02 ∷ 0x61 ∷ 0x62 ∷ []
unfolding shortest_in signed_in tokens three
data_for_memory_1 = refl

-- ## Element segments with items of another type

-- ref.func 5, and ref.as_non_null
fifth : Code
fifth = Plain (op.Reference (reference.Func 5)) Done

non_null : Code
non_null = Plain (op.Reference reference.AsNonNull) Done

functions_among_continuations : elem_written (record { kind = record { nullable = true; heap = heap.Cont }; items = fifth ∷ []; mode = elem_mode.Active 0 three })
    ≡ 0x06 ∷ 0x00 ∷ 0x41 ∷ 0x03 ∷ 0x0B ∷ 0x63 ∷ 0x68 ∷ 0x01 ∷ 0xD2 ∷ 0x05 ∷ 0x0B ∷ []
unfolding shortest_in signed_in tokens three fifth
functions_among_continuations = refl

items_that_are_no_functions : elem_written (record { kind = record { nullable = false; heap = heap.Func }; items = fifth ∷ non_null ∷ []; mode = elem_mode.Passive })
    ≡ 0x05 ∷ 0x64 ∷ 0x70 ∷ 0x02 ∷ 0xD2 ∷ 0x05 ∷ 0x0B ∷ 0xD4 ∷ 0x0B ∷ []
unfolding shortest_in tokens fifth non_null
items_that_are_no_functions = refl
