-- What holds of every value is kept: so each reference to a continuation stays one of the store that it came from.
use Rattle.std.specs.Prelude.{◌≡◌, ℕ, Bool, true, List, [], ◌∷◌, ⊤}
use Rattle.w_types.specs.declared.value.Value.{Value}
use Rattle.w_types.specs.declared.value.Value.TheVariants as value
use Rattle.w_segment.specs.Shape.{Shape}
use Rattle.w_segment.specs.Holds.{AllOf, Holds}
use Rattle.w_tables.specs.Store as instances

-- a test that every value passes which is no reference to a continuation
pub record OnPlain (test : Value → Bool) : Type 0 where
  pub i32 : (n : ℕ) → test (value.I32 n) ≡ true
  pub i64 : (n : ℕ) → test (value.I64 n) ≡ true
  pub null : test value.Null ≡ true
  pub functions : (a : ℕ) → test (value.Func a) ≡ true

-- a fact of all values of a store
module _ (P : Value → Type 0) where
  abbrev pub TablesHold : List instances.Table → Type 0
  TablesHold [] = ⊤
  TablesHold (t ∷ ts) = AllOf P t.elements × TablesHold ts

  abbrev pub SegmentsHold : List (List Value) → Type 0
  SegmentsHold [] = ⊤
  SegmentsHold (vs ∷ vss) = AllOf P vs × SegmentsHold vss

  pub record StoreHolds (u : instances.Store) : Type 0 where
    pub tables : TablesHold u.tables
    pub globals : AllOf P u.globals
    pub segments : SegmentsHold u.elems

-- of a stack alone
abbrev pub Keeps : Shape → Shape → Type 0
Keeps s s' = (test : Value → Bool) → OnPlain test → Holds (λ v. test v ≡ true) s → Holds (λ v. test v ≡ true) s'

-- and of a store with it
abbrev pub KeepsAll : instances.Store → Shape → instances.Store → Shape → Type 0
KeepsAll u s u' s' = (test : Value → Bool) → OnPlain test → StoreHolds (λ v. test v ≡ true) u → Holds (λ v. test v ≡ true) s →
    StoreHolds (λ v. test v ≡ true) u' × Holds (λ v. test v ≡ true) s'
