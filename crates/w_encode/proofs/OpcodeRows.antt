-- The opcodes of the standard's table of instructions, and the order of immediates, computed by the definition. What `build` writes
-- shows neither: a name that has another's opcode where instructions are read and where they are written would come out the same.
use Rattle.std.proofs.Common.{◌≡◌, [], ◌∷◌, map, refl}
use Rattle.w_leb.specs.Number.{shortest_in, signed_in}
use Rattle.w_types.specs.declared.types.HeapType.TheVariants as heap
use Rattle.w_syntax.specs.declared.numeric.IntType.TheVariants as int
use Rattle.w_syntax.specs.declared.numeric.Unop.TheVariants as unary
use Rattle.w_syntax.specs.declared.numeric.Binop.TheVariants as binary
use Rattle.w_syntax.specs.declared.numeric.Relop.TheVariants as compare
use Rattle.w_syntax.specs.declared.numeric.Cvtop.TheVariants as convert
use Rattle.w_syntax.specs.declared.memory_instructions.LoadOp.TheVariants as load
use Rattle.w_syntax.specs.declared.memory_instructions.StoreOp.TheVariants as store
use Rattle.w_syntax.specs.declared.memory_instructions.MemoryOp.TheVariants as memory
use Rattle.w_syntax.specs.declared.instructions.ControlOp.TheVariants as control
use Rattle.w_syntax.specs.declared.instructions.VariableOp.TheVariants as variable
use Rattle.w_syntax.specs.declared.instructions.TableOp.TheVariants as table_op
use Rattle.w_syntax.specs.declared.instructions.ReferenceOp.TheVariants as reference
use Rattle.w_syntax.specs.declared.instructions.Clause.TheVariants as clause
use Rattle.w_syntax.specs.declared.instructions.SwitchingOp.TheVariants as switching
use Rattle.w_syntax.specs.declared.instructions.BlockKind.TheVariants as kind
use Rattle.w_encode.specs.InstructionsWritten.{eqz_code, compare_code, unary_code, binary_code, convert_code, load_code, store_code, control_written, variable_written, table_op_written, reference_written, memory_written, switching_written, kind_code}

-- i32.eq to i32.ge_u
comparisons_of_i32 : map (compare_code int.I32) (compare.Eq ∷ compare.Ne ∷ compare.LtS ∷ compare.LtU ∷ compare.GtS ∷ compare.GtU ∷ compare.LeS ∷ compare.LeU ∷ compare.GeS ∷ compare.GeU ∷ [])
    ≡ 0x46 ∷ 0x47 ∷ 0x48 ∷ 0x49 ∷ 0x4A ∷ 0x4B ∷ 0x4C ∷ 0x4D ∷ 0x4E ∷ 0x4F ∷ []
comparisons_of_i32 = refl

-- i64.eq to i64.ge_u
comparisons_of_i64 : map (compare_code int.I64) (compare.Eq ∷ compare.Ne ∷ compare.LtS ∷ compare.LtU ∷ compare.GtS ∷ compare.GtU ∷ compare.LeS ∷ compare.LeU ∷ compare.GeS ∷ compare.GeU ∷ [])
    ≡ 0x51 ∷ 0x52 ∷ 0x53 ∷ 0x54 ∷ 0x55 ∷ 0x56 ∷ 0x57 ∷ 0x58 ∷ 0x59 ∷ 0x5A ∷ []
comparisons_of_i64 = refl

-- i32.clz to i32.popcnt
unary_of_i32 : map (unary_code int.I32) (unary.Clz ∷ unary.Ctz ∷ unary.Popcnt ∷ [])
    ≡ 0x67 ∷ 0x68 ∷ 0x69 ∷ []
unary_of_i32 = refl

-- i64.clz to i64.popcnt
unary_of_i64 : map (unary_code int.I64) (unary.Clz ∷ unary.Ctz ∷ unary.Popcnt ∷ [])
    ≡ 0x79 ∷ 0x7A ∷ 0x7B ∷ []
unary_of_i64 = refl

-- i32.add to i32.rotr
binary_of_i32 : map (binary_code int.I32) (binary.Add ∷ binary.Sub ∷ binary.Mul ∷ binary.DivS ∷ binary.DivU ∷ binary.RemS ∷ binary.RemU ∷ binary.And ∷ binary.Or ∷ binary.Xor ∷ binary.Shl ∷ binary.ShrS ∷ binary.ShrU ∷ binary.Rotl ∷ binary.Rotr ∷ [])
    ≡ 0x6A ∷ 0x6B ∷ 0x6C ∷ 0x6D ∷ 0x6E ∷ 0x6F ∷ 0x70 ∷ 0x71 ∷ 0x72 ∷ 0x73 ∷ 0x74 ∷ 0x75 ∷ 0x76 ∷ 0x77 ∷ 0x78 ∷ []
binary_of_i32 = refl

-- i64.add to i64.rotr
binary_of_i64 : map (binary_code int.I64) (binary.Add ∷ binary.Sub ∷ binary.Mul ∷ binary.DivS ∷ binary.DivU ∷ binary.RemS ∷ binary.RemU ∷ binary.And ∷ binary.Or ∷ binary.Xor ∷ binary.Shl ∷ binary.ShrS ∷ binary.ShrU ∷ binary.Rotl ∷ binary.Rotr ∷ [])
    ≡ 0x7C ∷ 0x7D ∷ 0x7E ∷ 0x7F ∷ 0x80 ∷ 0x81 ∷ 0x82 ∷ 0x83 ∷ 0x84 ∷ 0x85 ∷ 0x86 ∷ 0x87 ∷ 0x88 ∷ 0x89 ∷ 0x8A ∷ []
binary_of_i64 = refl

-- i32.eqz and i64.eqz
tests_for_zero : map eqz_code (int.I32 ∷ int.I64 ∷ [])
    ≡ 0x45 ∷ 0x50 ∷ []
tests_for_zero = refl

-- i32.wrap_i64, i64.extend_i32_s and _u, i32.extend8_s and 16_s, i64.extend8_s, 16_s and 32_s
conversions : map convert_code (convert.I32WrapI64 ∷ convert.I64ExtendI32S ∷ convert.I64ExtendI32U ∷ convert.I32Extend8S ∷ convert.I32Extend16S ∷ convert.I64Extend8S ∷ convert.I64Extend16S ∷ convert.I64Extend32S ∷ [])
    ≡ 0xA7 ∷ 0xAC ∷ 0xAD ∷ 0xC0 ∷ 0xC1 ∷ 0xC2 ∷ 0xC3 ∷ 0xC4 ∷ []
conversions = refl

-- i32.load to i64.load32_u
loads : map load_code (load.I32Load ∷ load.I64Load ∷ load.I32Load8S ∷ load.I32Load8U ∷ load.I32Load16S ∷ load.I32Load16U ∷ load.I64Load8S ∷ load.I64Load8U ∷ load.I64Load16S ∷ load.I64Load16U ∷ load.I64Load32S ∷ load.I64Load32U ∷ [])
    ≡ 0x28 ∷ 0x29 ∷ 0x2C ∷ 0x2D ∷ 0x2E ∷ 0x2F ∷ 0x30 ∷ 0x31 ∷ 0x32 ∷ 0x33 ∷ 0x34 ∷ 0x35 ∷ []
loads = refl

-- i32.store to i64.store32
stores : map store_code (store.I32Store ∷ store.I64Store ∷ store.I32Store8 ∷ store.I32Store16 ∷ store.I64Store8 ∷ store.I64Store16 ∷ store.I64Store32 ∷ [])
    ≡ 0x36 ∷ 0x37 ∷ 0x3A ∷ 0x3B ∷ 0x3C ∷ 0x3D ∷ 0x3E ∷ []
stores = refl

-- unreachable, nop, br, br_if, return, call, call_indirect, return_call, return_call_indirect, call_ref, return_call_ref, br_on_null, br_on_non_null
control_instructions : map control_written (control.Unreachable ∷ control.Nop ∷ (control.Br 5) ∷ (control.BrIf 5) ∷ control.Return ∷ (control.Call 5) ∷ (control.CallIndirect 5 6) ∷ (control.ReturnCall 5) ∷ (control.ReturnCallIndirect 5 6) ∷ (control.CallRef 5) ∷ (control.ReturnCallRef 5) ∷ (control.BrOnNull 5) ∷ (control.BrOnNonNull 5) ∷ [])
    ≡ (0x00 ∷ []) ∷ (0x01 ∷ []) ∷ (0x0C ∷ 0x05 ∷ []) ∷ (0x0D ∷ 0x05 ∷ []) ∷ (0x0F ∷ []) ∷ (0x10 ∷ 0x05 ∷ []) ∷ (0x11 ∷ 0x05 ∷ 0x06 ∷ []) ∷ (0x12 ∷ 0x05 ∷ []) ∷ (0x13 ∷ 0x05 ∷ 0x06 ∷ []) ∷ (0x14 ∷ 0x05 ∷ []) ∷ (0x15 ∷ 0x05 ∷ []) ∷ (0xD5 ∷ 0x05 ∷ []) ∷ (0xD6 ∷ 0x05 ∷ []) ∷ []
unfolding shortest_in signed_in
control_instructions = refl

-- local.get, local.set, local.tee, global.get, global.set
variables : map variable_written ((variable.LocalGet 5) ∷ (variable.LocalSet 5) ∷ (variable.LocalTee 5) ∷ (variable.GlobalGet 5) ∷ (variable.GlobalSet 5) ∷ [])
    ≡ (0x20 ∷ 0x05 ∷ []) ∷ (0x21 ∷ 0x05 ∷ []) ∷ (0x22 ∷ 0x05 ∷ []) ∷ (0x23 ∷ 0x05 ∷ []) ∷ (0x24 ∷ 0x05 ∷ []) ∷ []
unfolding shortest_in signed_in
variables = refl

-- table.get, table.set, table.init, elem.drop, table.copy, table.grow, table.size, table.fill
tables : map table_op_written ((table_op.Get 5) ∷ (table_op.Set 5) ∷ (table_op.Init 5 6) ∷ (table_op.ElemDrop 5) ∷ (table_op.Copy 5 6) ∷ (table_op.Grow 5) ∷ (table_op.Size 5) ∷ (table_op.Fill 5) ∷ [])
    ≡ (0x25 ∷ 0x05 ∷ []) ∷ (0x26 ∷ 0x05 ∷ []) ∷ (0xFC ∷ 0x0C ∷ 0x05 ∷ 0x06 ∷ []) ∷ (0xFC ∷ 0x0D ∷ 0x05 ∷ []) ∷ (0xFC ∷ 0x0E ∷ 0x05 ∷ 0x06 ∷ []) ∷ (0xFC ∷ 0x0F ∷ 0x05 ∷ []) ∷ (0xFC ∷ 0x10 ∷ 0x05 ∷ []) ∷ (0xFC ∷ 0x11 ∷ 0x05 ∷ []) ∷ []
unfolding shortest_in signed_in
tables = refl

-- ref.null, ref.is_null, ref.func, ref.as_non_null
references : map reference_written ((reference.Null heap.Func) ∷ reference.IsNull ∷ (reference.Func 5) ∷ reference.AsNonNull ∷ [])
    ≡ (0xD0 ∷ 0x70 ∷ []) ∷ (0xD1 ∷ []) ∷ (0xD2 ∷ 0x05 ∷ []) ∷ (0xD4 ∷ []) ∷ []
unfolding shortest_in signed_in
references = refl

-- memory.size, memory.grow, memory.init, data.drop, memory.copy, memory.fill; also of memories past the first
memories : map memory_written ((memory.Size 5) ∷ (memory.Grow 5) ∷ (memory.Init 5 6) ∷ (memory.DataDrop 5) ∷ (memory.Copy 5 6) ∷ (memory.Fill 5) ∷ [])
    ≡ (0x3F ∷ 0x05 ∷ []) ∷ (0x40 ∷ 0x05 ∷ []) ∷ (0xFC ∷ 0x08 ∷ 0x05 ∷ 0x06 ∷ []) ∷ (0xFC ∷ 0x09 ∷ 0x05 ∷ []) ∷ (0xFC ∷ 0x0A ∷ 0x05 ∷ 0x06 ∷ []) ∷ (0xFC ∷ 0x0B ∷ 0x05 ∷ []) ∷ []
unfolding shortest_in signed_in
memories = refl

-- cont.new, cont.bind, suspend, switch, and resume with both kinds of clause
switching_stacks : map switching_written ((switching.ContNew 5) ∷ (switching.ContBind 5 6) ∷ (switching.Suspend 5) ∷ (switching.Switch 5 6) ∷ (switching.Resume 5 (clause.Label 6 7 ∷ clause.Switch 8 ∷ [])) ∷ [])
    ≡ (0xE0 ∷ 0x05 ∷ []) ∷ (0xE1 ∷ 0x05 ∷ 0x06 ∷ []) ∷ (0xE2 ∷ 0x05 ∷ []) ∷ (0xE6 ∷ 0x05 ∷ 0x06 ∷ []) ∷ (0xE3 ∷ 0x05 ∷ 0x02 ∷ 0x00 ∷ 0x06 ∷ 0x07 ∷ 0x01 ∷ 0x08 ∷ []) ∷ []
unfolding shortest_in signed_in
switching_stacks = refl

-- block and loop
blocks : map kind_code (kind.Block ∷ kind.Loop ∷ [])
    ≡ 0x02 ∷ 0x03 ∷ []
blocks = refl
