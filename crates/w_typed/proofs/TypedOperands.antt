-- Operands that a rule takes are there, and of their types: so it goes on, and is not stuck.
use Rattle.std.proofs.Common.{◌≡◌, ℕ, zero, suc, ◌<◌, ◌^◌, Option, Some, None, refl}
use Rattle.w_types.specs.declared.types.ValType.TheVariants as type
use Rattle.lists.specs.Rows.{Row, ε, ◌▹◌, ◌⧺◌, size}
use Rattle.w_syntax.specs.declared.numeric.IntType.{IntType}
use Rattle.w_syntax.specs.declared.numeric.IntType.TheVariants as int
use Rattle.w_syntax.specs.declared.module.Module.{Module}
use Rattle.w_rules.specs.InstructionTypes.{of_int}
use Rattle.w_rules.specs.Operands.{Operand}
use Rattle.w_rules.specs.Operands.{Known}
use Rattle.w_reduce.specs.Numeric.{width}
use Rattle.w_reduce.specs.Values.{Val, I32}
use Rattle.w_reduce.specs.Reduced.{Reduced, take_values, take_number, number, or_trap}
use Rattle.w_reduce.specs.declared.trap.Trap.{Trap}
use Rattle.w_typed.specs.Ranges.{IsBelow}
use Rattle.w_typed.specs.Values.{Arrows, an_i32, an_i64, OperandTyped, a_value, ValuesTyped, no_values, values}
use Rattle.w_typed.specs.Configurations.{IsSafe, traps}

module _ (m : Module) {K : Arrows} (us : Row Operand) where
  -- n operands
  pub values_taken : (n : ℕ) (vs : Row Val) (beneath ins : Row Operand) (go : Row Val × Row Val → Reduced) → n ≡ size ins → ValuesTyped m K vs (beneath ⧺ ins)
      → ((below args : Row Val) → ValuesTyped m K below beneath → ValuesTyped m K args ins → IsSafe m K us (go (below, args))) → IsSafe m K us (take_values n vs go)
  values_taken zero vs beneath ε go e h k = k vs ε h no_values
  values_taken zero vs beneath (ins ▹ t) go e h k = absurd (cc)
  values_taken (suc n) vs beneath ε go e h k = absurd (cc)
  values_taken (suc n) ε beneath (ins ▹ t) go e h k = elim h [ ]
  values_taken (suc n) (vs ▹ v) beneath (ins ▹ t) go e (values h w) k =
      values_taken n vs beneath ins (λ p. go (p.0, p.1 ▹ v)) (cc) h (λ below args b a. k below (args ▹ v) b (values a w))

  -- a number, in its range
  pub number_in_range : (i : IntType) (vs : Row Val) (beneath : Row Operand) (go : Row Val × ℕ → Reduced) → ValuesTyped m K vs (beneath ▹ Known (of_int i))
      → ((below : Row Val) (n : ℕ) → ValuesTyped m K below beneath → IsBelow m n (width i) → IsSafe m K us (go (below, n))) → IsSafe m K us (take_number i vs go)
  number_in_range int.I32 _ beneath go (values {vs = vs} h (a_value (an_i32 {n} r))) k = k vs n h r
  number_in_range int.I64 _ beneath go (values {vs = vs} h (a_value (an_i64 {n} r))) k = k vs n h r

  -- or any
  pub number_taken : (i : IntType) (vs : Row Val) (beneath : Row Operand) (go : Row Val × ℕ → Reduced) → ValuesTyped m K vs (beneath ▹ Known (of_int i))
      → ((below : Row Val) (n : ℕ) → ValuesTyped m K below beneath → IsSafe m K us (go (below, n))) → IsSafe m K us (take_number i vs go)
  number_taken i vs beneath go h k = number_in_range i vs beneath go h (λ below n b r. k below n b)

  -- what there may not be
  pub trapped_or : {A : Type 0} (t : Trap) (o : Option A) (go : A → Reduced) → ((a : A) → o ≡ Some a → IsSafe m K us (go a)) → IsSafe m K us (or_trap t o go)
  trapped_or t None go k = traps
  trapped_or t (Some a) go k = k a refl

-- a number in its range is of its type
pub number_typed : (m : Module) {K : Arrows} (i : IntType) (n : ℕ) → IsBelow m n (width i) → OperandTyped m K (number i n) (Known (of_int i))
number_typed m int.I32 n r = a_value (an_i32 r)
number_typed m int.I64 n r = a_value (an_i64 r)

-- so is one that is in range whatever the module's are
pub small_typed : (m : Module) {K : Arrows} (n : ℕ) → n < 2 ^ 32 → OperandTyped m K (I32 n) (Known type.I32)
small_typed m n h = a_value (an_i32 (λ f. h))
