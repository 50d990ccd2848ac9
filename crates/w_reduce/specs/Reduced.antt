-- What one reduction comes to, and taking operands (Core, execution, conventions).
use Rattle.std.specs.Prelude.{ℕ, zero, suc, List, [], Option, Some, None, Result, Ok, Err, slice_get}
use Rattle.lists.specs.Rows.{Row, ε, ◌▹◌}
use Rattle.w_num.specs.declared.fault.NumFault.{NumFault}
use Rattle.w_num.specs.declared.fault.NumFault.TheVariants as fault
use Rattle.w_syntax.specs.declared.numeric.IntType.{IntType}
use Rattle.w_syntax.specs.declared.numeric.IntType.TheVariants as int
use Rattle.w_reduce.specs.declared.limit.RunLimit.{RunLimit}
use Rattle.w_reduce.specs.declared.trap.Trap.{Trap}
use Rattle.w_reduce.specs.declared.trap.Trap.TheVariants as trap
use Rattle.w_reduce.specs.Values.{Val, I32, I64, Null, Func, Cont}
use Rattle.w_reduce.specs.Store.{Store}
use Rattle.w_reduce.specs.Terms.{Rest, Context, Term, Continuation}

-- what one reduction comes to
pub data Reduced : Type 0 where
  -- it prints these bytes
  Went : (printed : List ℕ) → Store → Term → Reduced
  Trapped : Trap → Reduced
  -- the result passes this limit
  Limited : RunLimit → Reduced
  -- the term is values
  Ended : Row Val → Reduced
  -- no rule applies
  Stuck : Reduced

abbrev pub steps_to : Store → Context → Row Val → Rest → Reduced
steps_to s e vs r = Went [] s (record { around = e; operands = vs; rest = r })

-- `x ← e` goes on with what e took or found
infixl 1 ◌>>=◌
abbrev pub ◌>>=◌ : {A : Type 0} → ((A → Reduced) → Reduced) → (A → Reduced) → Reduced
e >>= go = e go

-- ## Looking up, and taking operands; where it fails no rule applies

abbrev pub or_stuck : {A : Type 0} → Option A → (A → Reduced) → Reduced
or_stuck None go = Stuck
or_stuck (Some a) go = go a

-- the topmost operand, and those beneath
abbrev pub take_value : Row Val → (Row Val × Val → Reduced) → Reduced
take_value ε go = Stuck
take_value (vs ▹ v) go = go (vs, v)

-- the n topmost operands, and those beneath
abbrev pub take_values : ℕ → Row Val → (Row Val × Row Val → Reduced) → Reduced
take_values zero vs go = go (vs, ε)
take_values (suc n) ε go = Stuck
take_values (suc n) (vs ▹ v) go = take_values n vs (λ p. go (p.0, p.1 ▹ v))

-- ## Numbers

abbrev pub as_i32 : Val → (ℕ → Reduced) → Reduced
as_i32 (I32 n) go = go n
as_i32 _ go = Stuck

abbrev pub as_i64 : Val → (ℕ → Reduced) → Reduced
as_i64 (I64 n) go = go n
as_i64 _ go = Stuck

-- a number of this type
abbrev pub as_number : IntType → Val → (ℕ → Reduced) → Reduced
as_number int.I32 v go = as_i32 v go
as_number int.I64 v go = as_i64 v go

abbrev pub number : IntType → ℕ → Val
number int.I32 n = I32 n
number int.I64 n = I64 n

-- the topmost operand, a number of this type, and those beneath
abbrev pub take_number : IntType → Row Val → (Row Val × ℕ → Reduced) → Reduced
take_number t ε go = Stuck
take_number t (vs ▹ v) go = as_number t v (λ n. go (vs, n))

abbrev pub take_i32 : Row Val → (Row Val × ℕ → Reduced) → Reduced
take_i32 vs go = take_number int.I32 vs go

abbrev pub take_i64 : Row Val → (Row Val × ℕ → Reduced) → Reduced
take_i64 vs go = take_number int.I64 vs go

-- ## Traps

abbrev pub or_trap : {A : Type 0} → Trap → Option A → (A → Reduced) → Reduced
or_trap t None go = Trapped t
or_trap t (Some a) go = go a

abbrev pub trap_of : NumFault → Trap
trap_of fault.DivZero = trap.DivideByZero
trap_of fault.Overflow = trap.IntegerOverflow

-- the number, where the operation has one
abbrev pub unless_fault : Result ℕ NumFault → (ℕ → Reduced) → Reduced
unless_fault (Ok n) go = go n
unless_fault (Err f) go = Trapped (trap_of f)

-- the address of a function, and a trap at null
abbrev pub as_function : Trap → Val → (ℕ → Reduced) → Reduced
as_function t Null go = Trapped t
as_function t (Func a) go = go a
as_function t _ go = Stuck

abbrev pub unless_consumed : Option (Option Continuation) → (Continuation → Reduced) → Reduced
unless_consumed None go = Stuck
unless_consumed (Some None) go = Trapped trap.ConsumedContinuation
unless_consumed (Some (Some k)) go = go k

-- the address of a continuation, and what it keeps; a trap at null, and else where it was consumed
abbrev pub as_continuation : Store → Val → (ℕ × Continuation → Reduced) → Reduced
as_continuation s Null go = Trapped trap.NullReference
as_continuation s (Cont a) go = unless_consumed (slice_get s.conts a) (λ k. go (a, k))
as_continuation s _ go = Stuck
