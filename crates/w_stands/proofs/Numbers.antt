-- Numbers that a rule takes.
use Rattle.std.proofs.Common.{◌≡◌, ℕ, List, [], ◌∷◌, refl, ap, ◌∙◌}
use Rattle.std.specs.Prelude.{◌≢◌}
use Rattle.lists.specs.Rows.{Row}
use Rattle.w_types.specs.declared.value.Value.{Value}
use Rattle.w_types.specs.declared.value.Value.TheVariants as value
use Rattle.w_syntax.specs.declared.numeric.IntType.{IntType}
use Rattle.w_syntax.specs.declared.numeric.IntType.TheVariants as int
use Rattle.w_reduce.specs.Values.{Val, val}
use Rattle.w_reduce.specs.Reduced.{Reduced, Stuck, take_number, number}
use Rattle.w_stands.specs.Values.{stack}
use Rattle.w_stands.specs.Numbers.{IsNumber, bits_in, value_of}

-- the topmost operand is a number of the type
pub record TakesNumber (t : IntType) (vs : List Value) : Type 0 where
  pub top : Value
  pub rest : List Value
  pub is : vs ≡ top ∷ rest
  pub number : IsNumber t top

-- where a rule takes a number, there is one
pub number_there : (t : IntType) (vs : List Value) (go : Row Val × ℕ → Reduced) → take_number t (stack vs) go ≢ Stuck → TakesNumber t vs
number_there t [] go h = absurd (h refl)
number_there int.I32 (value.I32 n ∷ vs) go h = record { top = value.I32 n; rest = vs; is = refl; number = tt }
number_there int.I32 (value.I64 n ∷ vs) go h = absurd (h refl)
number_there int.I32 (value.Null ∷ vs) go h = absurd (h refl)
number_there int.I32 (value.Func a ∷ vs) go h = absurd (h refl)
number_there int.I32 (value.Cont r ∷ vs) go h = absurd (h refl)
number_there int.I64 (value.I64 n ∷ vs) go h = record { top = value.I64 n; rest = vs; is = refl; number = tt }
number_there int.I64 (value.I32 n ∷ vs) go h = absurd (h refl)
number_there int.I64 (value.Null ∷ vs) go h = absurd (h refl)
number_there int.I64 (value.Func a ∷ vs) go h = absurd (h refl)
number_there int.I64 (value.Cont r ∷ vs) go h = absurd (h refl)

-- and the rule goes on with its bits
pub number_top : (t : IntType) (v : Value) (vs : List Value) (go : Row Val × ℕ → Reduced) → IsNumber t v → take_number t (stack (v ∷ vs)) go ≡ go (stack vs, bits_in v)
number_top int.I32 (value.I32 n) vs go h = refl
number_top int.I64 (value.I64 n) vs go h = refl
number_top int.I32 (value.I64 n) vs go h = absurd h
number_top int.I32 value.Null vs go h = absurd h
number_top int.I32 (value.Func a) vs go h = absurd h
number_top int.I32 (value.Cont r) vs go h = absurd h
number_top int.I64 (value.I32 n) vs go h = absurd h
number_top int.I64 value.Null vs go h = absurd h
number_top int.I64 (value.Func a) vs go h = absurd h
number_top int.I64 (value.Cont r) vs go h = absurd h

pub number_taken : (t : IntType) (vs : List Value) (go : Row Val × ℕ → Reduced) (h : TakesNumber t vs) → take_number t (stack vs) go ≡ go (stack h.rest, bits_in h.top)
number_taken t vs go h = ap (λ (l : List Value). take_number t (stack l) go) h.is ∙ number_top t h.top h.rest go h.number

-- a number of the definitions is that of the program
pub number_val : (t : IntType) (n : ℕ) → val (value_of t n) ≡ number t n
number_val int.I32 n = refl
number_val int.I64 n = refl
