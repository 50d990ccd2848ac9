-- How types of two rows are compared.
use Rattle.std.specs.Prelude.{◌≡◌, ◌⊎◌, Bool, List}
use Rattle.w_types.specs.declared.types.ValType.{ValType}
use Rattle.w_canon.specs.declared.entry.Entry.{Entry}
use Rattle.w_canon.specs.declared.rows.Comparison.{Comparison}
use Rattle.w_canon.specs.declared.rows.Comparison.TheVariants.{Matching, Equality}
use Rattle.w_canon.specs.declared.rows.Pair.{Pair}
use Rattle.w_canon.specs.Tests.{val_test, val_same_test}

-- types match, or are equal
abbrev pub compared : List Entry → Comparison → ValType → ValType → Bool
compared es Matching = val_test es
compared es Equality = val_same_test es

-- types are the same, or those of a pair
abbrev pub IsAlike : Pair → ValType → ValType → Type 0
IsAlike p t u = (t ≡ u) ⊎ ((t ≡ p.one) × (u ≡ p.other))
