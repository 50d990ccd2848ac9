-- Values (Core, execution, values).
use Rattle.std.specs.Prelude.{Option, Some, None, if◌then◌else◌}
use Rattle.w_types.specs.declared.types.ValType.{ValType}
use Rattle.w_types.specs.declared.types.ValType.TheVariants as val
use Rattle.w_types.specs.declared.value.Value.{Value}
use Rattle.w_types.specs.declared.value.Value.TheVariants.{I32, I64, Null}

-- the default value of a type (Core, execution, default values)
abbrev pub default_of : ValType → Option Value
default_of val.I32 = Some (I32 0)
default_of val.I64 = Some (I64 0)
default_of (val.Ref r) = if r.nullable then Some Null else None
