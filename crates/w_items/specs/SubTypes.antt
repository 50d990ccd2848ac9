-- Validity of a type by its index, where its group ends (Core, validation, types).
use Rattle.std.specs.Prelude.{ℕ}
use Rattle.w_types.specs.declared.types.SubType.{SubType}
use Rattle.w_types.specs.Groups.{types_of}
use Rattle.w_syntax.specs.declared.module.Module.{Module}
use Rattle.w_rules.specs.Types.{IsValidCompType, AreSupertypes}

-- the indices of type i are below this end, and it has at most one supertype, which it matches
abbrev pub IsValidSubType : Module → ℕ → ℕ → SubType → Type 0
IsValidSubType m end i t = IsValidCompType (types_of m.types) end t.composite × AreSupertypes m.types i t.composite t.supertypes
