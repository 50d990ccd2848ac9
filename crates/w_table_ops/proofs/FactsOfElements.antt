-- What holds of all values still holds when a table, a segment or a global changes.
use Rattle.std.proofs.Common.{◌≡◌, ℕ, zero, suc, ◌+◌, Bool, true, false, ◌&&◌, if◌then◌else◌, List, [], ◌∷◌, ◌++◌, length, take, drop, Option, Some, None, ap, subst}
use Rattle.std.specs.Prelude.{⊤, ℤ, nat_le, nat_lt, replicate, slice_get, slice_set}
use Rattle.w_memory.specs.Parts.{is_within, part, written}
use Rattle.w_types.specs.declared.value.Value.{Value}
use Rattle.w_segment.specs.Shape.{Shape}
use Rattle.w_segment.specs.Holds.{AllOf, Holds}
use Rattle.w_segment.proofs.FactsOfValues.{all_append, all_drop, all_take}
use Rattle.w_tables.specs.Elements.{replaced, filled, copied, most_elements, grown}
use Rattle.w_tables.specs.Outcomes.{outcome, growth}
use Rattle.w_tables.specs.Operations as on
use Rattle.w_tables.specs.Store as instances
use Rattle.w_stands.specs.Keeps.{OnPlain, TablesHold, SegmentsHold, StoreHolds, KeepsAll}
use Rattle.w_stands.specs.GoingOn.{IsBehind}
use Rattle.w_stands.proofs.NextInstructions.{behind_holds}

module _ (P : Value → Type 0) where
  -- ## Of lists

  -- one that is read
  pub all_get : (vs : List Value) (x : ℕ) (v : Value) → AllOf P vs → slice_get vs x ≡ Some v → P v
  all_get [] x v h e = absurd cc
  all_get (w ∷ ws) zero v h e = let q : w ≡ v = cc in subst P q h.0
  all_get (w ∷ ws) (suc x) v h e = all_get ws x v h.1 e

  -- one that is set
  pub all_set : (vs : List Value) (x : ℕ) (v : Value) → AllOf P vs → P v → AllOf P (slice_set vs x v)
  all_set [] x v h g = tt
  all_set (w ∷ ws) zero v h g = (g, h.1)
  all_set (w ∷ ws) (suc x) v h g = (h.0, all_set ws x v h.1 g)

  -- of the same value, again and again
  all_same : (n : ℕ) (v : Value) → P v → AllOf P (replicate n v)
  all_same zero v g = tt
  all_same (suc n) v g = (g, all_same n v g)

  -- of a list with others in place of a part
  all_written : (vs : List Value) (at : ℕ) (new : List Value) → AllOf P vs → AllOf P new → AllOf P (written vs at new)
  all_written vs at new h g =
      all_append P (take at vs ++ new) (drop (at + length new) vs) (all_append P (take at vs) new (all_take P at vs h) g) (all_drop P (at + length new) vs h)

  -- ## Of what an operation makes

  -- of the elements, where there are any
  abbrev pub MadeOf : Option (List Value) → Type 0
  MadeOf None = ⊤
  MadeOf (Some vs) = AllOf P vs

  made_if : (b : Bool) (vs : List Value) → AllOf P vs → MadeOf (if b then Some vs else None)
  made_if true vs h = h
  made_if false vs h = tt

  -- each operation keeps what holds of all
  pub replaced_made : (vs : List Value) (x : ℕ) (v : Value) → AllOf P vs → P v → MadeOf (replaced vs x v)
  replaced_made vs x v h g = made_if (nat_lt x (length vs)) (slice_set vs x v) (all_set vs x v h g)

  pub filled_made : (vs : List Value) (x : ℕ) (v : Value) (n : ℕ) → AllOf P vs → P v → MadeOf (filled vs x v n)
  filled_made vs x v n h g = made_if (is_within x n vs) (written vs x (replicate n v)) (all_written vs x (replicate n v) h (all_same n v g))

  pub copied_made : (vs ws : List Value) (d j n : ℕ) → AllOf P vs → AllOf P ws → MadeOf (copied vs ws d j n)
  copied_made vs ws d j n h g =
      made_if (is_within d n vs && is_within j n ws) (written vs d (part ws j n)) (all_written vs d (part ws j n) h (all_take P n (drop j ws) (all_drop P j ws g)))

  pub grown_made : (vs : List Value) (max : Option ℕ) (v : Value) (n : ℕ) → AllOf P vs → P v → MadeOf (grown vs max v n)
  grown_made vs max v n h g = made_if (nat_le (length vs + n) (most_elements max)) (vs ++ replicate n v) (all_append P vs (replicate n v) h (all_same n v g))

  -- ## Of stores

  -- where a table or a segment is set
  tables_set : (ts : List instances.Table) (x : ℕ) (t : instances.Table) → TablesHold P ts → AllOf P t.elements → TablesHold P (slice_set ts x t)
  tables_set [] x t h g = tt
  tables_set (y ∷ ts) zero t h g = (g, h.1)
  tables_set (y ∷ ts) (suc x) t h g = (h.0, tables_set ts x t h.1 g)

  segments_set : (vss : List (List Value)) (y : ℕ) (vs : List Value) → SegmentsHold P vss → AllOf P vs → SegmentsHold P (slice_set vss y vs)
  segments_set [] y vs h g = tt
  segments_set (ws ∷ vss) zero vs h g = (g, h.1)
  segments_set (ws ∷ vss) (suc y) vs h g = (h.0, segments_set vss y vs h.1 g)

  -- of the elements of a table
  pub table_holds : (ts : List instances.Table) (x : ℕ) → TablesHold P ts → AllOf P (on.elements_at ts x)
  table_holds [] x h = tt
  table_holds (t ∷ ts) zero h = h.0
  table_holds (t ∷ ts) (suc x) h = table_holds ts x h.1

  -- of a segment
  pub segment_holds : (vss : List (List Value)) (y : ℕ) → SegmentsHold P vss → AllOf P (on.elem_at vss y)
  segment_holds [] y h = tt
  segment_holds (vs ∷ vss) zero h = h.0
  segment_holds (vs ∷ vss) (suc y) h = segment_holds vss y h.1

  -- where a table has other elements
  elements_hold : (u : instances.Store) (x : ℕ) (new : List Value) → AllOf P new → StoreHolds P u → StoreHolds P (on.with_elements u x new)
  elements_hold u x new g h = record { tables = tables_set u.tables x (record (on.table_at u.tables x) { elements = new }) h.tables g; globals = h.globals; segments = h.segments }

  -- whatever an operation answered
  pub outcome_holds : (u u' : instances.Store) (x : ℕ) (made : Option (List Value)) (r : Option (Unit {0})) → outcome u (on.with_elements u x) made ≡ (r, u') → MadeOf made →
      StoreHolds P u → StoreHolds P u'
  outcome_holds u u' x None r e g h = subst (StoreHolds P) (ap (λ (p : Option (Unit {0}) × instances.Store). p.1) e) h
  outcome_holds u u' x (Some new) r e g h = subst (StoreHolds P) (ap (λ (p : Option (Unit {0}) × instances.Store). p.1) e) (elements_hold u x new g h)

  pub growth_holds : (u u' : instances.Store) (x k : ℕ) (made : Option (List Value)) (r : ℤ) → growth k u (on.with_elements u x) made ≡ (r, u') → MadeOf made →
      StoreHolds P u → StoreHolds P u'
  growth_holds u u' x k None r e g h = subst (StoreHolds P) (ap (λ (p : ℤ × instances.Store). p.1) e) h
  growth_holds u u' x k (Some new) r e g h = subst (StoreHolds P) (ap (λ (p : ℤ × instances.Store). p.1) e) (elements_hold u x new g h)

  -- where a segment was dropped
  pub dropped_holds : (u : instances.Store) (y : ℕ) → StoreHolds P u → StoreHolds P (on.elem_drop u y)
  dropped_holds u y h = record { tables = h.tables; globals = h.globals; segments = segments_set u.elems y [] h.segments tt }

  -- where a global was set
  pub set_holds : (u : instances.Store) (x : ℕ) (v : Value) → P v → StoreHolds P u → StoreHolds P (on.global_set u x v)
  set_holds u x v g h = record { tables = h.tables; globals = all_set u.globals x v h.globals g; segments = h.segments }

  -- of the topmost operands
  pub tops_hold : (s : Shape) (args rest : List Value) → s.operands ≡ args ++ rest → Holds P s → AllOf P (args ++ rest)
  tops_hold s args rest is h = subst (AllOf P) is h.operands

-- of a store and a stack behind an instruction
pub keeps_behind : (u u' : instances.Store) (s s' : Shape) (n : ℕ) (given : List Value) → IsBehind n given s s' →
    ((test : Value → Bool) → OnPlain test → StoreHolds (λ v. test v ≡ true) u → Holds (λ v. test v ≡ true) s → StoreHolds (λ v. test v ≡ true) u' × AllOf (λ v. test v ≡ true) given) →
    KeepsAll u s u' s'
keeps_behind u u' s s' n given b holds = λ test plain h g. let q = holds test plain h g in (q.0, behind_holds (λ v. test v ≡ true) n given s s' b q.1 g)
