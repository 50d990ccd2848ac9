-- Operands that a rule takes.
use Rattle.std.proofs.Common.{◌≡◌, ℕ, List, ◌∷◌, sym, ap, ◌∙◌}
use Rattle.std.specs.Prelude.{◌≢◌}
use Rattle.lists.specs.Rows.{Row}
use Rattle.w_types.specs.declared.value.Value.{Value}
use Rattle.w_syntax.specs.declared.numeric.IntType.{IntType}
use Rattle.w_reduce.specs.Values.{Val}
use Rattle.w_reduce.specs.Reduced.{Reduced, Stuck, take_number}
use Rattle.w_stands.specs.Values.{stack}
use Rattle.w_stands.specs.Numbers.{IsNumber, bits_in}
use Rattle.w_stands.proofs.Numbers.{number_there, number_taken, number_top}

-- a list has one first item, and one rest
pub same_top : (vs : List Value) (a b : Value) (xs ys : List Value) → vs ≡ a ∷ xs → vs ≡ b ∷ ys → (a ≡ b) × (xs ≡ ys)
same_top vs a b xs ys e g = let h : a ∷ xs ≡ b ∷ ys = sym e ∙ g in (cc h, cc h)

-- the two topmost operands are numbers of the type
pub record TakesTwo (t : IntType) (vs : List Value) : Type 0 where
  pub below : Value
  pub top : Value
  pub rest : List Value
  pub is : vs ≡ top ∷ below ∷ rest
  pub one : IsNumber t below
  pub other : IsNumber t top

-- where a rule takes two numbers, there are two
pub two_there : (t : IntType) (vs : List Value) (go : (Row Val × ℕ) → ℕ → Reduced) →
    take_number t (stack vs) (λ p. take_number t p.0 (λ q. go q p.1)) ≢ Stuck → TakesTwo t vs
two_there t vs go h =
    let a = number_there t vs (λ p. take_number t p.0 (λ q. go q p.1)) h in
    let k : take_number t (stack a.rest) (λ q. go q (bits_in a.top)) ≢ Stuck = λ e. h (number_taken t vs (λ p. take_number t p.0 (λ q. go q p.1)) a ∙ e) in
    let b = number_there t a.rest (λ q. go q (bits_in a.top)) k in
    record { below = b.top; top = a.top; rest = b.rest; is = a.is ∙ ap (λ (l : List Value). a.top ∷ l) b.is; one = b.number; other = a.number }

pub two_taken : (t : IntType) (vs : List Value) (go : (Row Val × ℕ) → ℕ → Reduced) (h : TakesTwo t vs) →
    take_number t (stack vs) (λ p. take_number t p.0 (λ q. go q p.1)) ≡ go (stack h.rest, bits_in h.below) (bits_in h.top)
two_taken t vs go h =
    ap (λ (l : List Value). take_number t (stack l) (λ p. take_number t p.0 (λ q. go q p.1))) h.is
    ∙ number_top t h.top (h.below ∷ h.rest) (λ p. take_number t p.0 (λ q. go q p.1)) h.other
    ∙ number_top t h.below h.rest (λ q. go q (bits_in h.top)) h.one
