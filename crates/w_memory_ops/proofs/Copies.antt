-- What a copy of one memory to another left of the store.
use Rattle.std.proofs.Common.{◌≡◌, ℕ, zero, suc, List, [], ◌∷◌, drop, Option, Some, None, Bool, true, slice_get, refl, sym, ap, ◌∙◌, subst}
use Rattle.std.specs.Prelude.{IfNone}
use Rattle.std.proofs.lemmas.Option.{get_or_from_slice_get}
use Rattle.w_types.specs.declared.value.Value.{Value}
use Rattle.w_memory.specs.Memory.{Memory, left_by, init}
use Rattle.w_tables.specs.Store as instances
use Rattle.w_tables.specs.Outcomes.{outcome}
use Rattle.w_tables.specs.Operations.{memory_at, memory_copy, with_memory}
use Rattle.w_segment.specs.Shape.{Shape}
use Rattle.w_segment.specs.Holds.{AllOf, Holds}
use Rattle.w_stands.specs.Keeps.{StoreHolds}
use Rattle.w_memory_ops.specs.Changing.{finished}
use Rattle.w_memory_ops.proofs.Parts.{same_memory}

-- the memory that it left at its address
pub record Copied (u v : instances.Store) (x : ℕ) (memory : Memory) (made : Option Memory) (done : Option (Unit {0})) : Type 0 where
  pub memory' : Memory
  pub is_left : made ≡ left_by done memory'
  pub unchanged : IfNone done (memory' ≡ memory)
  pub store : v ≡ with_memory u x memory'

-- an outcome is of such a memory
left_by_outcome : (u v : instances.Store) (x : ℕ) (memory : Memory) (made : Option Memory) (done : Option (Unit {0})) → slice_get u.memories x ≡ Some memory → outcome u (with_memory u x) made ≡ (done, v)
    → Copied u v x memory made done
left_by_outcome u v x memory (Some m) (Some d) there e = record { memory' = m; is_left = refl; unchanged = tt; store = sym (ap (λ (p : Option (Unit {0}) × instances.Store). p.1) e) }
left_by_outcome u v x memory (Some m) None there e = absurd (let f : Some tt ≡ None = ap (λ (p : Option (Unit {0}) × instances.Store). p.0) e in cc)
left_by_outcome u v x memory None (Some d) there e = absurd (let f : None ≡ Some d = ap (λ (p : Option (Unit {0}) × instances.Store). p.0) e in cc)
left_by_outcome u v x memory None None there e =
    record { memory' = memory; is_left = refl; unchanged = refl; store = sym (ap (λ (p : Option (Unit {0}) × instances.Store). p.1) e) ∙ sym (same_memory u x memory there) }

-- so is a copy's
pub copied : (u v : instances.Store) (x y to from n : ℕ) (memory source : Memory) (done : Option (Unit {0})) → slice_get u.memories x ≡ Some memory → slice_get u.memories y ≡ Some source
    → memory_copy u x y to from n ≡ (done, v) → Copied u v x memory (init memory source.bytes to from n) done
unfolding memory_copy
copied u v x y to from n memory source done there from_there e =
    let a : memory_at u.memories x ≡ memory = get_or_from_slice_get u.memories x memory _ there in
    let b : memory_at u.memories y ≡ source = get_or_from_slice_get u.memories y source _ from_there in
    left_by_outcome u v x memory _ done there
    (subst (λ (l : Memory). outcome u (with_memory u x) (init l source.bytes to from n) ≡ (done, v)) a (subst (λ (l : Memory). outcome u (with_memory u x) (init (memory_at u.memories x) l.bytes to from n) ≡ (done, v)) b e))

-- operands that are left hold what they held
left_hold : (P : Value → Type 0) (n : ℕ) (vs : List Value) → AllOf P vs → AllOf P (drop n vs)
left_hold P zero vs h = h
left_hold P (suc n) [] h = h
left_hold P (suc n) (v ∷ vs) h = left_hold P n vs h.1

-- so does a stack on which it finished
pub finished_holds : (test : Value → Bool) (done : Option (Unit {0})) (n : ℕ) (s : Shape) → Holds (λ a. test a ≡ true) s → Holds (λ a. test a ≡ true) (finished done n s)
finished_holds test (Some d) n s h = record { operands = left_hold (λ a. test a ≡ true) n s.operands h.operands; levels = h.levels }
finished_holds test None n s h = h

-- a copy changes memories alone
others_hold : (u v : instances.Store) (x : ℕ) (made : Option Memory) (answer : Option (Unit {0})) → outcome u (with_memory u x) made ≡ (answer, v)
    → (test : Value → Bool) → StoreHolds (λ a. test a ≡ true) u → StoreHolds (λ a. test a ≡ true) v
others_hold u v x (Some m) answer e test h =
    let f : with_memory u x m ≡ v = ap (λ (p : Option (Unit {0}) × instances.Store). p.1) e in
    subst (λ (z : instances.Store). StoreHolds (λ a. test a ≡ true) z) f (record { tables = h.tables; globals = h.globals; segments = h.segments })
others_hold u v x None answer e test h =
    let f : u ≡ v = ap (λ (p : Option (Unit {0}) × instances.Store). p.1) e in
    subst (λ (z : instances.Store). StoreHolds (λ a. test a ≡ true) z) f h

pub copy_holds : (u v : instances.Store) (x y to from n : ℕ) (done : Option (Unit {0})) (test : Value → Bool) → memory_copy u x y to from n ≡ (done, v)
    → StoreHolds (λ a. test a ≡ true) u → StoreHolds (λ a. test a ≡ true) v
unfolding memory_copy
copy_holds u v x y to from n done test e h = others_hold u v x _ done e test h
