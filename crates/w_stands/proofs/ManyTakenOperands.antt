-- The topmost operands, so many, as a rule takes them.
use Rattle.std.proofs.Common.{◌≡◌, ℕ, zero, suc, ◌≤◌, List, [], ◌∷◌, ◌++◌, length, refl, ap, arith, drop, take}
use Rattle.std.specs.Prelude.{◌≢◌}
use Rattle.lists.specs.Rows.{Row, ◌▹◌, ◌⧺◌}
use Rattle.w_types.specs.declared.value.Value.{Value}
use Rattle.w_reduce.specs.Values.{Val, val}
use Rattle.w_reduce.specs.Reduced.{Reduced, Stuck, take_values}
use Rattle.w_stands.specs.Values.{stack}

-- where there are so many, a rule goes on with them and those beneath
pub stack_take : (n : ℕ) (vs : List Value) (go : Row Val × Row Val → Reduced) → n ≤ length vs → take_values n (stack vs) go ≡ go (stack (drop n vs), stack (take n vs))
stack_take zero vs go h = refl
stack_take (suc n) [] go h = absurd (omega arith)
stack_take (suc n) (v ∷ vs) go h = stack_take n vs (λ p. go (p.0, p.1 ▹ val v)) (omega arith)

-- a rule applies only where there are so many
pub stack_enough : (n : ℕ) (vs : List Value) (go : Row Val × Row Val → Reduced) → take_values n (stack vs) go ≢ Stuck → n ≤ length vs
stack_enough zero vs go h = omega arith
stack_enough (suc n) [] go h = absurd (h refl)
stack_enough (suc n) (v ∷ vs) go h = let r = stack_enough n vs (λ p. go (p.0, p.1 ▹ val v)) h in omega arith

-- operands on others
pub stack_append : (vs ws : List Value) → stack (vs ++ ws) ≡ stack ws ⧺ stack vs
stack_append [] ws = refl
stack_append (v ∷ vs) ws = ap (λ (r : Row Val). r ▹ val v) (stack_append vs ws)
