-- What the two numbers of a packed type stand for.
use Rattle.std.specs.Prelude.{◌≡◌, refl}
use Rattle.w_types.specs.PackedTypes.{IsPacked, type_at, kind_of, index_of}
use Rattle.w_types.specs.declared.packed_type.PackedType.TheInside.{Inside}
use Rattle.w_types.specs.declared.types.ValType.{ValType}

abbrev pub whole : Inside → ValType
whole a = type_at a.kind a.index

abbrev pub IsPackedInside : Inside → Type 0
IsPackedInside a = IsPacked a.kind a.index

abbrev pub packed : ValType → Inside
packed t = record { kind = kind_of t; index = index_of t }

pub packed_whole : (a : Inside) → IsPackedInside a → packed (whole a) ≡ a
packed_whole a h = rw (h.kind, h.index) refl
