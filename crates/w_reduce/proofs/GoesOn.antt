-- A rule that goes on with what it took or found has a property where what it goes on with has it: once for each way of going on.
-- First of two rules that go on alike, and then of one.
use Rattle.std.proofs.Common.{◌≡◌, ℕ, zero, suc, Bool, true, false, Option, Some, None, Result, Ok, Err, refl}
use Rattle.std.specs.Prelude.{if◌then◌else◌, slice_get}
use Rattle.lists.specs.Rows.{Row, ε, ◌▹◌}
use Rattle.w_syntax.specs.declared.numeric.IntType.{IntType}
use Rattle.w_syntax.specs.declared.numeric.IntType.TheVariants as int
use Rattle.w_num.specs.declared.fault.NumFault.{NumFault}
use Rattle.w_num.specs.declared.fault.NumFault.TheVariants as fault
use Rattle.w_reduce.specs.declared.trap.Trap.{Trap}
use Rattle.w_reduce.specs.declared.trap.Trap.TheVariants as trap
use Rattle.w_reduce.specs.Control.{unless_zero}
use Rattle.w_reduce.specs.Handlers.{Handler}
use Rattle.w_reduce.specs.Reduced.{Reduced, Trapped, Stuck, or_stuck, or_trap, take_value, take_values, take_number, unless_fault, trap_of, as_function, unless_consumed, as_continuation}
use Rattle.w_reduce.specs.Reference.{by_null}
use Rattle.w_reduce.specs.Store.{Store}
use Rattle.w_reduce.specs.Switching.{or_unhandled}
use Rattle.w_reduce.specs.Terms.{Continuation}
use Rattle.w_reduce.specs.Unhandled.{is_unhandled}
use Rattle.w_reduce.specs.Values.{Val, I32, I64, Null, Func, Cont}

-- two rules that have no rule to go on by, or that trap, are related, but where nothing handles a tag
pub record Relates (P : Reduced → Reduced → Type 0) : Type 0 where
  pub stuck : P Stuck Stuck
  pub traps : (t : Trap) → is_unhandled t ≡ false → P (Trapped t) (Trapped t)

-- a fault of a number traps, and not so
fault_trap : (f : NumFault) → is_unhandled (trap_of f) ≡ false
fault_trap fault.DivZero = refl
fault_trap fault.Overflow = refl

module _ {P : Reduced → Reduced → Type 0} (c : Relates P) where
  -- looking up
  pub both_or_stuck : {A : Type 0} (o : Option A) (go go' : A → Reduced) → ((a : A) → P (go a) (go' a)) → P (or_stuck o go) (or_stuck o go')
  both_or_stuck None go go' h = c.stuck
  both_or_stuck (Some a) go go' h = h a

  -- looking up, or a trap
  pub both_or_trap : {A : Type 0} (t : Trap) → is_unhandled t ≡ false → (o : Option A) (go go' : A → Reduced) → ((a : A) → P (go a) (go' a)) → P (or_trap t o go) (or_trap t o go')
  both_or_trap t is None go go' h = c.traps t is
  both_or_trap t is (Some a) go go' h = h a

  -- a number, or a fault
  pub both_unless_fault : (r : Result ℕ NumFault) (go go' : ℕ → Reduced) → ((n : ℕ) → P (go n) (go' n)) → P (unless_fault r go) (unless_fault r go')
  both_unless_fault (Ok n) go go' h = h n
  both_unless_fault (Err f) go go' h = c.traps (trap_of f) (fault_trap f)

  -- taking an operand
  pub both_take_value : (vs : Row Val) (go go' : Row Val × Val → Reduced) → ((q : Row Val × Val) → P (go q) (go' q)) → P (take_value vs go) (take_value vs go')
  both_take_value ε go go' h = c.stuck
  both_take_value (vs ▹ v) go go' h = h (vs, v)

  -- taking n operands
  pub both_take_values : (n : ℕ) (vs : Row Val) (go go' : Row Val × Row Val → Reduced) → ((q : Row Val × Row Val) → P (go q) (go' q)) → P (take_values n vs go) (take_values n vs go')
  both_take_values zero vs go go' h = h (vs, ε)
  both_take_values (suc n) ε go go' h = c.stuck
  both_take_values (suc n) (vs ▹ v) go go' h = both_take_values n vs (λ p. go (p.0, p.1 ▹ v)) (λ p. go' (p.0, p.1 ▹ v)) (λ p. h (p.0, p.1 ▹ v))

  -- taking a number
  pub both_take_number : (i : IntType) (vs : Row Val) (go go' : Row Val × ℕ → Reduced) → ((q : Row Val × ℕ) → P (go q) (go' q)) → P (take_number i vs go) (take_number i vs go')
  both_take_number i ε go go' h = c.stuck
  both_take_number int.I32 (vs ▹ I32 n) go go' h = h (vs, n)
  both_take_number int.I32 (vs ▹ I64 n) go go' h = c.stuck
  both_take_number int.I32 (vs ▹ Null) go go' h = c.stuck
  both_take_number int.I32 (vs ▹ Func a) go go' h = c.stuck
  both_take_number int.I32 (vs ▹ Cont a) go go' h = c.stuck
  both_take_number int.I64 (vs ▹ I32 n) go go' h = c.stuck
  both_take_number int.I64 (vs ▹ I64 n) go go' h = h (vs, n)
  both_take_number int.I64 (vs ▹ Null) go go' h = c.stuck
  both_take_number int.I64 (vs ▹ Func a) go go' h = c.stuck
  both_take_number int.I64 (vs ▹ Cont a) go go' h = c.stuck

  -- taking three numbers
  pub both_take_three : (vs : Row Val) (go go' : Row Val × ℕ → Row Val × ℕ → Row Val × ℕ → Reduced) → ((p q r : Row Val × ℕ) → P (go p q r) (go' p q r))
      → P (take_number int.I32 vs (λ p. take_number int.I32 p.0 (λ q. take_number int.I32 q.0 (λ r. go p q r))))
      (take_number int.I32 vs (λ p. take_number int.I32 p.0 (λ q. take_number int.I32 q.0 (λ r. go' p q r))))
  both_take_three vs go go' h = both_take_number int.I32 vs _ _ (λ p. both_take_number int.I32 p.0 _ _ (λ q. both_take_number int.I32 q.0 _ _ (λ r. h p q r)))

  -- the address of a function, or a trap
  pub both_as_function : (t : Trap) → is_unhandled t ≡ false → (v : Val) (go go' : ℕ → Reduced) → ((a : ℕ) → P (go a) (go' a)) → P (as_function t v go) (as_function t v go')
  both_as_function t is (I32 n) go go' h = c.stuck
  both_as_function t is (I64 n) go go' h = c.stuck
  both_as_function t is Null go go' h = c.traps t is
  both_as_function t is (Func a) go go' h = h a
  both_as_function t is (Cont a) go go' h = c.stuck

  -- what a continuation keeps, or a trap where it was consumed
  pub both_unless_consumed : (o : Option (Option Continuation)) (go go' : Continuation → Reduced) → ((k : Continuation) → P (go k) (go' k)) → P (unless_consumed o go) (unless_consumed o go')
  both_unless_consumed None go go' h = c.stuck
  both_unless_consumed (Some None) go go' h = c.traps trap.ConsumedContinuation refl
  both_unless_consumed (Some (Some k)) go go' h = h k

  -- the address of a continuation, and what it keeps, or a trap
  pub both_as_continuation : (s : Store) (v : Val) (go go' : ℕ × Continuation → Reduced) → ((q : ℕ × Continuation) → P (go q) (go' q)) → P (as_continuation s v go) (as_continuation s v go')
  both_as_continuation s (I32 n) go go' h = c.stuck
  both_as_continuation s (I64 n) go go' h = c.stuck
  both_as_continuation s Null go go' h = c.traps trap.NullReference refl
  both_as_continuation s (Func a) go go' h = c.stuck
  both_as_continuation s (Cont a) go go' h = both_unless_consumed (slice_get s.conts a) (λ k. go (a, k)) (λ k. go' (a, k)) (λ k. h (a, k))

  -- both ways of a test
  pub both_if : (b : Bool) (one other one' other' : Reduced) → P one one' → P other other' → P (if b then one else other) (if b then one' else other')
  both_if true one other one' other' h k = h
  both_if false one other one' other' h k = k

  -- both ways of a number
  pub both_unless_zero : (n : ℕ) (one other one' other' : Reduced) → P one one' → P other other' → P (unless_zero n one other) (unless_zero n one' other')
  both_unless_zero zero one other one' other' h k = k
  both_unless_zero (suc n) one other one' other' h k = h

  -- both ways of a reference
  pub both_by_null : (v : Val) (null other null' other' : Reduced) → P null null' → P other other' → P (by_null v null other) (by_null v null' other')
  both_by_null (I32 n) null other null' other' h k = c.stuck
  both_by_null (I64 n) null other null' other' h k = c.stuck
  both_by_null Null null other null' other' h k = h
  both_by_null (Func a) null other null' other' h k = k
  both_by_null (Cont a) null other null' other' h k = k

-- ## One rule: what holds of it is a relation to itself

pub record Allows (P : Reduced → Type 0) : Type 0 where
  pub stuck : P Stuck
  pub traps : (t : Trap) → P (Trapped t)

module _ {P : Reduced → Type 0} (c : Allows P) where
  alone : Relates (λ r r'. P r)
  alone = record { stuck = c.stuck; traps = λ t is. c.traps t }

  pub allows_or_stuck : {A : Type 0} (o : Option A) (go : A → Reduced) → ((a : A) → P (go a)) → P (or_stuck o go)
  allows_or_stuck o go h = both_or_stuck alone o go go h

  pub allows_take_value : (vs : Row Val) (go : Row Val × Val → Reduced) → ((q : Row Val × Val) → P (go q)) → P (take_value vs go)
  allows_take_value vs go h = both_take_value alone vs go go h

  pub allows_take_values : (n : ℕ) (vs : Row Val) (go : Row Val × Row Val → Reduced) → ((q : Row Val × Row Val) → P (go q)) → P (take_values n vs go)
  allows_take_values n vs go h = both_take_values alone n vs go go h

  pub allows_as_function : (t : Trap) (v : Val) (go : ℕ → Reduced) → ((a : ℕ) → P (go a)) → P (as_function t v go)
  allows_as_function t (I32 n) go h = c.stuck
  allows_as_function t (I64 n) go h = c.stuck
  allows_as_function t Null go h = c.traps t
  allows_as_function t (Func a) go h = h a
  allows_as_function t (Cont a) go h = c.stuck

  pub allows_as_continuation : (s : Store) (v : Val) (go : ℕ × Continuation → Reduced) → ((q : ℕ × Continuation) → P (go q)) → P (as_continuation s v go)
  allows_as_continuation s v go h = both_as_continuation alone s v go go h

  -- the handle of a tag, or a trap
  pub allows_or_unhandled : {A : Type 0} (x : ℕ) (o : Option (Handler A)) (go : Handler A → Reduced) → ((a : Handler A) → P (go a)) → P (or_unhandled x o go)
  allows_or_unhandled x None go h = c.traps (trap.Unhandled x)
  allows_or_unhandled x (Some a) go h = h a
