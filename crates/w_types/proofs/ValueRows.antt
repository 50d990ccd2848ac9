-- What locals begin with, computed by the definition.
use Rattle.std.proofs.Common.{◌≡◌, Some, None, true, false, refl}
use Rattle.w_types.specs.declared.types.HeapType.{HeapType}
use Rattle.w_types.specs.declared.types.ValType.TheVariants as val
use Rattle.w_types.specs.declared.value.Value.TheVariants.{I32, I64, Null}
use Rattle.w_types.specs.Values.{default_of}

i32_begins_with_zero : default_of val.I32 ≡ Some (I32 0)
i32_begins_with_zero = refl

i64_begins_with_zero : default_of val.I64 ≡ Some (I64 0)
i64_begins_with_zero = refl

nullable_reference_begins_with_null : (h : HeapType) → default_of (val.Ref (record { nullable = true; heap = h })) ≡ Some Null
nullable_reference_begins_with_null h = refl

other_reference_begins_with_nothing : (h : HeapType) → default_of (val.Ref (record { nullable = false; heap = h })) ≡ None
other_reference_begins_with_nothing h = refl
