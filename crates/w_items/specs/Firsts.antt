-- The first items without a derivation.
use Rattle.std.specs.Prelude.{◌≡◌, ℕ, ◌<◌, List, Option, Some, None, slice_get}
use Rattle.w_syntax.specs.declared.module.Module.{Module}
use Rattle.w_rules.specs.Valid.{Item, ItemValid, IsItem, Before}
use Rattle.w_items.specs.declared.fault.ValidFault.{ValidFault}
use Rattle.w_items.specs.Faults.{IsFaultOf}

-- of the items of one kind, this is the first without a derivation, or there is none
abbrev pub IsFirst : Module → (ℕ → Item) → Option ℕ → Type 0
IsFirst m item None = (j : ℕ) → IsItem m (item j) → ItemValid m (item j)
IsFirst m item (Some i) = IsItem m (item i) × (ItemValid m (item i) → ⊥) × ((j : ℕ) → j < i → IsItem m (item j) → ItemValid m (item j))

-- of a list, this is the index of the first item that fails, or none does
abbrev pub IsFirstFailing : {A : Type 0} → (ℕ → A → Type 0) → List A → Option ℕ → Type 0
IsFirstFailing {A} Holds xs None = (i : ℕ) (x : A) → slice_get xs i ≡ Some x → Holds i x
IsFirstFailing {A} Holds xs (Some k) = (x : A) × (slice_get xs k ≡ Some x) × (Holds k x → ⊥) × ((i : ℕ) (y : A) → i < k → slice_get xs i ≡ Some y → Holds i y)

-- the fault is that of the module, or each item before z has a derivation
abbrev pub IsFaultBefore : Module → Item → Option ValidFault → Type 0
IsFaultBefore m z None = (x : Item) → Before x z → IsItem m x → ItemValid m x
IsFaultBefore m z (Some fault) = IsFaultOf m fault
