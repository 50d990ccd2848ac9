-- What supertypes keep.
use Rattle.std.specs.Prelude.{◌≡◌, ℕ, List, Some, option_map, slice_get}
use Rattle.w_types.specs.declared.types.CompType.{CompType}
use Rattle.w_types.specs.declared.types.RecGroup.{RecGroup}
use Rattle.w_types.specs.Groups.{types_of}
use Rattle.w_canon.specs.Entries.{kind_of}
use Rattle.w_canon.specs.Equivalence.{SameIndex}
use Rattle.w_canon.specs.Matching.{HasSupertype, CompMatches}

-- each supertype is of the kind of the type below it, as those of valid types are
abbrev pub KeepsKinds : List RecGroup → Type 0
KeepsKinds gs = (x z : ℕ) → HasSupertype gs x z → option_map kind_of (slice_get (types_of gs) x) ≡ option_map kind_of (slice_get (types_of gs) z)

-- composite types match those of equivalent types and of supertypes, as those of valid types do
pub record KeepsComposites (gs : List RecGroup) : Type 0 where
  pub equal : (x y : ℕ) (a b : CompType) → SameIndex gs x y → slice_get (types_of gs) x ≡ Some a → slice_get (types_of gs) y ≡ Some b → CompMatches gs a b
  pub super : (x z : ℕ) (a b : CompType) → HasSupertype gs x z → slice_get (types_of gs) x ≡ Some a → slice_get (types_of gs) z ≡ Some b → CompMatches gs a b
