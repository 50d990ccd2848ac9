-- What holds of a value that may not be there, and what holds of it if it is.
use Rattle.std.proofs.Common.{◌≡◌, ℕ, Bool, true, false, Option, Some, None, if◌then◌else◌, refl, sym, subst}
use Rattle.w_rules.specs.Conditions.{Holds}
use Rattle.w_rules.specs.Peak.{or_none}
use Rattle.w_flow.specs.Flow.{◌>>=◌}

-- ## It is there, and this holds of it

-- a fact that does not depend on the value
pub held_fact : {A : Type 0} (o : Option A) (P : A → Type 0) (G : Type 0) → Holds o P → ((a : A) → P a → G) → G
held_fact None P G h f = absurd h
held_fact (Some a) P G h f = f a h

-- where the value is there, it holds of the value
pub held_at : {A : Type 0} (o : Option A) (a : A) (P : A → Type 0) → o ≡ Some a → Holds o P → P a
held_at {A} o a P e h = let Q : Option A → Type 0 = λ q. Holds q P in subst Q e h

-- and the other way
pub at_held : {A : Type 0} (o : Option A) (a : A) (P : A → Type 0) → o ≡ Some a → P a → Holds o P
at_held {A} o a P e h = let Q : Option A → Type 0 = λ q. Holds q P in subst Q (sym e) h

-- of no value it does not hold
pub held_none : {A : Type 0} (o : Option A) (P : A → Type 0) → o ≡ None → Holds o P → ⊥
held_none {A} o P e h = let Q : Option A → Type 0 = λ q. Holds q P in subst Q e h

-- ## This holds of it, if it is there

abbrev pub Whenever : {A : Type 0} → Option A → (A → Type 0) → Type 0
Whenever None P = Unit {0}
Whenever (Some x) P = P x

-- of a value that comes from another
pub whenever_bind : {A B : Type 0} (o : Option A) (f : A → Option B) (P : B → Type 0) → Whenever o (λ (x : A). Whenever (f x) P) → Whenever (o >>= f) P
whenever_bind None f P h = tt
whenever_bind (Some x) f P h = h

-- what follows from it
pub whenever_map : {A : Type 0} (o : Option A) (P Q : A → Type 0) → Whenever o P → ((x : A) → P x → Q x) → Whenever o Q
whenever_map None P Q h f = tt
whenever_map (Some x) P Q h f = f x h

-- what holds of each value
pub always : {A : Type 0} (o : Option A) (P : A → Type 0) → ((x : A) → P x) → Whenever o P
always None P f = tt
always (Some x) P f = f x

-- of no value
pub whenever_none : {A B : Type 0} (o : Option A) (P : B → Type 0) → Whenever (o >>= λ a. None) P
whenever_none None P = tt
whenever_none (Some a) P = tt

-- with the equation
pub whenever_eq : {A : Type 0} (o : Option A) (P : A → Type 0) → ((x : A) → o ≡ Some x → P x) → Whenever o P
whenever_eq None P f = tt
whenever_eq (Some x) P f = f x refl

-- behind a test
pub when_if : {A : Type 0} (b : Bool) (o : Option A) (P : A → Type 0) → Whenever o P → Whenever (if b then o else None) P
when_if true o P h = h
when_if false o P h = tt

-- of the value that is there
pub at_whenever : {A : Type 0} (o : Option A) (P : A → Type 0) (x : A) → o ≡ Some x → Whenever o P → P x
at_whenever {A} o P x e h = let Q : Option A → Type 0 = λ q. Whenever q P in subst Q e h

-- one value from another, and a third from that
pub bind_assoc : {A B C : Type 0} (o : Option A) (f : A → Option B) (g : B → Option C) → ((o >>= f) >>= g) ≡ (o >>= λ x. f x >>= g)
bind_assoc None f g = refl
bind_assoc (Some x) f g = refl

-- from the same values
pub bind_same : {A B : Type 0} (o : Option A) (f g : A → Option B) → ((x : A) → f x ≡ g x) → (o >>= f) ≡ (o >>= g)
bind_same None f g e = refl
bind_same (Some x) f g e = e x

-- a number that may not be there
pub or_same : (o : Option ℕ) (f g : ℕ → ℕ) → ((h : ℕ) → f h ≡ g h) → or_none o f ≡ or_none o g
or_same None f g e = refl
or_same (Some h) f g e = e h
