-- The forest of classes: above the first type of a class stands the first of the class of its supertype.
use Rattle.std.specs.Prelude.{ℕ, suc, nat_lt, cond, List, [], ◌∷◌, Option, None, slice_get, option_map}
use Rattle.w_types.specs.declared.types.SubType.{SubType}
use Rattle.w_canon.specs.declared.entry.Entry.{Entry}
use Rattle.w_canon.specs.IsClassesOf.{first_of}

-- the first type of the class of type z
abbrev pub first_at : List Entry → ℕ → Option ℕ
first_at es z = option_map (λ (e : Entry). first_of e.class) (slice_get es z)

-- what stands above type x, which has these supertypes
abbrev pub parent_by : List Entry → ℕ → List ℕ → Option ℕ
parent_by es x [] = None
parent_by es x (z ∷ []) = cond (nat_lt z x) (first_at es z) None
parent_by es x (z ∷ y ∷ zs) = None

-- of types, the first of them type x
abbrev pub parents_from : List Entry → ℕ → List SubType → List (Option ℕ)
parents_from es x [] = []
parents_from es x (t ∷ ts) = parent_by es x t.supertypes ∷ parents_from es (suc x) ts
