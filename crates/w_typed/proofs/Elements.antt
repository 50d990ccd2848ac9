-- Values that are all of one type, and what the operations on the elements of a table make of them.
use Rattle.std.proofs.Common.{◌≡◌, ℕ, zero, suc, ◌+◌, Bool, true, false, List, [], ◌∷◌, ◌++◌, length, take, drop, replicate, subst}
use Rattle.std.specs.Prelude.{◌&&◌, nat_le, nat_lt, if◌then◌else◌, Option, Some, None, slice_get, slice_set}
use Rattle.w_types.specs.declared.types.ValType.{ValType}
use Rattle.w_syntax.specs.declared.module.Module.{Module}
use Rattle.w_canon.specs.Matching.{ValMatches}
use Rattle.w_canon.specs.Supertypes.{KeepsKinds}
use Rattle.w_memory.specs.Parts.{is_within, part, written}
use Rattle.w_tables.specs.Elements.{filled, copied, replaced, grown, most_elements}
use Rattle.w_reduce.specs.Values.{Val}
use Rattle.w_typed.specs.Values.{Arrows, ValueTyped, AllTyped}
use Rattle.w_typed.proofs.Subsumption.{value_sub}

-- values of a type are values of each type that it matches
pub all_sub : (m : Module) → KeepsKinds m.types → (K : Arrows) (t u : ValType) (vs : List Val) → ValMatches m.types t u → AllTyped m K t vs → AllTyped m K u vs
all_sub m keeps K t u [] k h = tt
all_sub m keeps K t u (v ∷ vs) k h = (value_sub m keeps k h.0, all_sub m keeps K t u vs k h.1)

module _ (m : Module) (K : Arrows) (t : ValType) where
  -- values beside values
  pub all_append : (vs ws : List Val) → AllTyped m K t vs → AllTyped m K t ws → AllTyped m K t (vs ++ ws)
  all_append [] ws h k = k
  all_append (v ∷ vs) ws h k = (h.0, all_append vs ws h.1 k)

  -- the first n
  pub all_take : (n : ℕ) (vs : List Val) → AllTyped m K t vs → AllTyped m K t (take n vs)
  all_take zero vs h = tt
  all_take (suc n) [] h = tt
  all_take (suc n) (v ∷ vs) h = (h.0, all_take n vs h.1)

  -- those after the first n
  pub all_drop : (n : ℕ) (vs : List Val) → AllTyped m K t vs → AllTyped m K t (drop n vs)
  all_drop zero vs h = h
  all_drop (suc n) [] h = tt
  all_drop (suc n) (v ∷ vs) h = all_drop n vs h.1

  -- one value n times
  pub all_replicate : (n : ℕ) (v : Val) → ValueTyped m K v t → AllTyped m K t (replicate n v)
  all_replicate zero v h = tt
  all_replicate (suc n) v h = (h, all_replicate n v h)

  -- another value in one's place
  pub all_set : (i : ℕ) (v : Val) (vs : List Val) → AllTyped m K t vs → ValueTyped m K v t → AllTyped m K t (slice_set vs i v)
  all_set i v [] h k = tt
  all_set zero v (w ∷ vs) h k = (k, h.1)
  all_set (suc i) v (w ∷ vs) h k = (h.0, all_set i v vs h.1 k)

  -- the value at a place
  pub all_get : (i : ℕ) (v : Val) (vs : List Val) → AllTyped m K t vs → slice_get vs i ≡ Some v → ValueTyped m K v t
  all_get i v [] h is = absurd (cc)
  all_get zero v (w ∷ vs) h is = subst (λ x. ValueTyped m K x t) (cc) h.0
  all_get (suc i) v (w ∷ vs) h is = all_get i v vs h.1 is

  -- n values from a place on
  pub all_part : (from n : ℕ) (vs : List Val) → AllTyped m K t vs → AllTyped m K t (part vs from n)
  all_part from n vs h = all_take n (drop from vs) (all_drop from vs h)

  -- others in place of those from a place on
  pub all_written : (to : ℕ) (vs ws : List Val) → AllTyped m K t vs → AllTyped m K t ws → AllTyped m K t (written vs to ws)
  all_written to vs ws h k =
      all_append (take to vs ++ ws) (drop (to + length ws) vs) (all_append (take to vs) ws (all_take to vs h) k) (all_drop (to + length ws) vs h)

  -- what a test lets through
  all_if : (b : Bool) (vs new : List Val) → (if b then Some vs else None) ≡ Some new → AllTyped m K t vs → AllTyped m K t new
  all_if true vs new is h = subst (λ ws. AllTyped m K t ws) (cc) h
  all_if false vs new is h = absurd (cc)

  -- a value written n times
  pub all_filled : (to : ℕ) (v : Val) (n : ℕ) (vs new : List Val) → AllTyped m K t vs → ValueTyped m K v t → filled vs to v n ≡ Some new
      → AllTyped m K t new
  all_filled to v n vs new h k is =
      all_if (is_within to n vs) (written vs to (replicate n v)) new is (all_written to vs (replicate n v) h (all_replicate n v k))

  -- n values of another list
  pub all_copied : (to from n : ℕ) (vs source new : List Val) → AllTyped m K t vs → AllTyped m K t source → copied vs source to from n ≡ Some new
      → AllTyped m K t new
  all_copied to from n vs source new h k is =
      all_if (is_within to n vs && is_within from n source) (written vs to (part source from n)) new is
      (all_written to vs (part source from n) h (all_part from n source k))

  -- one value
  pub all_replaced : (i : ℕ) (v : Val) (vs new : List Val) → AllTyped m K t vs → ValueTyped m K v t → replaced vs i v ≡ Some new → AllTyped m K t new
  all_replaced i v vs new h k is = all_if (nat_lt i (length vs)) (slice_set vs i v) new is (all_set i v vs h k)

  -- a value n times more
  pub all_grown : (max : Option ℕ) (v : Val) (n : ℕ) (vs new : List Val) → AllTyped m K t vs → ValueTyped m K v t → grown vs max v n ≡ Some new
      → AllTyped m K t new
  all_grown max v n vs new h k is =
      all_if (nat_le (length vs + n) (most_elements max)) (vs ++ replicate n v) new is (all_append vs (replicate n v) h (all_replicate n v k))
