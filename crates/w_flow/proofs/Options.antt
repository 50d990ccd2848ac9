-- What holds of the value of an option, where there is one.
use Rattle.std.proofs.Common.{◌≡◌, Bool, true, false, Option, Some, None, IsTrue, if◌then◌else◌, refl}
use Rattle.w_rules.specs.Conditions.{Holds}
use Rattle.w_flow.specs.Flow.{◌>>=◌}

module _ {A : Type 0} where
  -- where the test holds, what holds of the value still does
  pub guard_in : (b : Bool) (o : Option A) (P : A → Type 0) → IsTrue b → Holds o P → Holds (if b then o else None) P
  guard_in true o P h k = k
  guard_in false o P h k = absurd (cc)

  -- and what holds of a value behind a test, with the test
  pub guard_out : (b : Bool) (o : Option A) (P : A → Type 0) → Holds (if b then o else None) P → IsTrue b × Holds o P
  guard_out true o P h = (refl, h)
  guard_out false o P h = absurd h

  -- what holds of the value, and what follows from it
  pub holds_map : (o : Option A) (P Q : A → Type 0) → Holds o P → ((x : A) → P x → Q x) → Holds o Q
  holds_map None P Q h f = h
  holds_map (Some x) P Q h f = f x h

  -- with the value at hand, as a variable
  pub with_value : (o : Option A) (P : A → Type 0) (G : Type 0) → Holds o P → ((x : A) → P x → o ≡ Some x → G) → G
  with_value None P G h f = absurd h
  with_value (Some x) P G h f = f x h refl

  -- what does not speak of the value
  pub left_of : (o : Option A) (P : A → Type 0) (Q : Type 0) → Holds o (λ x. P x × Q) → Holds o P × Q
  left_of None P Q h = absurd h
  left_of (Some x) P Q h = h

module _ {A B : Type 0} where
  -- what holds of the value of what follows
  pub bind_in : (o : Option A) (f : A → Option B) (P : B → Type 0) → Holds o (λ x. Holds (f x) P) → Holds (o >>= f) P
  bind_in None f P h = h
  bind_in (Some x) f P h = h

  -- and back
  pub bind_out : (o : Option A) (f : A → Option B) (P : B → Type 0) → Holds (o >>= f) P → Holds o (λ x. Holds (f x) P)
  bind_out None f P h = h
  bind_out (Some x) f P h = h
