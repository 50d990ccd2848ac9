-- References among the values.
use Rattle.std.specs.Prelude.{Bool, true, false, ⊤}
use Rattle.w_types.specs.declared.value.Value.{Value}
use Rattle.w_types.specs.declared.value.Value.TheVariants as value

-- whether it is the null reference
abbrev pub is_null : Value → Bool
is_null value.Null = true
is_null _ = false

-- it is a reference
abbrev pub IsReference : Value → Type 0
IsReference (value.I32 n) = ⊥
IsReference (value.I64 n) = ⊥
IsReference _ = ⊤
