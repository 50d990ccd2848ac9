-- The types of a module in its groups (Core, types, recursive types). An index counts the types through all groups.
use Rattle.std.specs.Prelude.{ℕ, zero, suc, List, [], ◌∷◌, ◌++◌, length, map, Option, Some, None, slice_get}
use Rattle.w_types.specs.declared.types.CompType.{CompType}
use Rattle.w_types.specs.declared.types.SubType.{SubType}
use Rattle.w_types.specs.declared.types.RecGroup.{RecGroup}
use Rattle.w_types.specs.declared.groups.Place.{Place}

-- the types of the groups, in order, with their supertypes
unfoldable pub subtypes_of : List RecGroup → List SubType
subtypes_of [] = []
subtypes_of (g ∷ gs) = g.types ++ subtypes_of gs

abbrev pub composite_of : SubType → CompType
composite_of t = t.composite

-- their composite types
abbrev pub types_of : List RecGroup → List CompType
types_of gs = map composite_of (subtypes_of gs)

-- the places of n types of group g, the first at position p
unfoldable pub places_in : ℕ → ℕ → ℕ → List Place
places_in g p zero = []
places_in g p (suc n) = record { group = g; position = p } ∷ places_in g (suc p) n

-- the places of all types, where the first group has number g
unfoldable pub places_of : ℕ → List RecGroup → List Place
places_of g [] = []
places_of g (x ∷ xs) = places_in g 0 (length x.types) ++ places_of (suc g) xs

abbrev pub in_group : Option RecGroup → ℕ → Option SubType
in_group (Some x) p = slice_get x.types p
in_group None p = None

-- the type at a place
abbrev pub type_at : List RecGroup → Place → Option SubType
type_at gs q = in_group (slice_get gs q.group) q.position
