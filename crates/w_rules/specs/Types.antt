-- Validity of types (Core, validation, types; the explainer, validation).
use Rattle.std.specs.Prelude.{◌≡◌, ℕ, ◌+◌, ◌<◌, nat_lt, Bool, true, false, IsTrue, All, List, [], ◌∷◌, ◌++◌, map, length, Some, slice_get}
use Rattle.w_types.specs.declared.types.HeapType.{HeapType}
use Rattle.w_types.specs.declared.types.HeapType.TheVariants as heap
use Rattle.w_types.specs.declared.types.ValType.{ValType}
use Rattle.w_types.specs.declared.types.ValType.TheVariants as val
use Rattle.w_types.specs.declared.types.CompType.{CompType}
use Rattle.w_types.specs.declared.types.CompType.TheVariants as comp
use Rattle.w_types.specs.declared.types.FuncType.{FuncType}
use Rattle.w_types.specs.declared.types.SubType.{SubType}
use Rattle.w_types.specs.declared.types.RecGroup.{RecGroup}
use Rattle.w_types.specs.Groups.{subtypes_of}
use Rattle.w_canon.specs.Matching.{CompMatches}

-- the heap type is there, among so many types
abbrev pub has_heap : ℕ → HeapType → Bool
has_heap end heap.Func = true
has_heap end heap.NoFunc = true
has_heap end heap.Cont = true
has_heap end heap.NoCont = true
has_heap end (heap.Index x) = nat_lt x end

-- the value type is
abbrev pub has_type : ℕ → ValType → Bool
has_type end val.I32 = true
has_type end val.I64 = true
has_type end (val.Ref r) = has_heap end r.heap

abbrev pub IsValidHeap : ℕ → HeapType → Type 0
IsValidHeap end h = IsTrue (has_heap end h)

abbrev pub IsValidType : ℕ → ValType → Type 0
IsValidType end t = IsTrue (has_type end t)

-- the composite type is valid, where the types are these: a continuation type is of a function type
abbrev pub IsValidCompType : List CompType → ℕ → CompType → Type 0
IsValidCompType ts end (comp.Func t) = All (IsValidType end) t.params × All (IsValidType end) t.results
IsValidCompType ts end (comp.Cont x) = (x < end) × (t : FuncType) × (slice_get ts x ≡ Some (comp.Func t))

-- z is a supertype of type i, whose composite type is c: it stands in front of it, is open, and is matched by c
pub record IsSupertype (gs : List RecGroup) (i : ℕ) (c : CompType) (z : ℕ) : Type 0 where
  pub type : SubType
  pub is : slice_get (subtypes_of gs) z ≡ Some type
  pub before : z < i
  pub is_open : type.is_final ≡ false
  pub matches : CompMatches gs c type.composite

-- type i has at most one supertype, and it is one
abbrev pub AreSupertypes : List RecGroup → ℕ → CompType → List ℕ → Type 0
AreSupertypes gs i c [] = Unit {0}
AreSupertypes gs i c (z ∷ []) = IsSupertype gs i c z
AreSupertypes gs i c (z ∷ y ∷ zs) = ⊥

-- each type of the groups, with the number of types up to the end of its group, where so many types stand before them
unfoldable pub with_ends : ℕ → List RecGroup → List (ℕ × SubType)
with_ends start [] = []
with_ends start (g ∷ gs) = map (λ t. (start + length g.types, t)) g.types ++ with_ends (start + length g.types) gs
