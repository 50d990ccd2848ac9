-- Reading between brackets, step by step.
use Rattle.std.proofs.Common.{◌≡◌, ℕ, zero, suc, ◌-◌, Bool, true, false, if◌then◌else◌, List, [], ◌∷◌, drop, Option, Some, None, Result, Err, refl, sym, ap, subst, ◌∙◌, arith}
use Rattle.s_syntax.specs.declared.token.Kind.{Kind}
use Rattle.s_syntax.specs.declared.token.Token.{Token}
use Rattle.s_grammar.specs.Kinds.{is}
use Rattle.s_grammar.specs.Reading.{Reading, Why, Refused, Wrong, TooDeep, Answer, Got, behind, opened, between, inside, and_then, closed}
use Rattle.s_grammar.specs.Reads.{key}
use Rattle.s_expr.specs.Places.{StopsAt, ReadsAs}
use Rattle.s_expr.specs.declared.stop.Stop.{Stop}
use Rattle.s_expr.specs.declared.stop.Stop.TheVariants as stop

-- a refusal passed on
pub stop_as : {A B : Type 0} (r : Reading A) (s : Reading B) (ts : List Token) (at to : ℕ) → ((w : Why) (rest : List Token) → r (drop at ts) ≡ Refused w rest → s (drop to ts) ≡ Refused w rest) → (e : Stop) → StopsAt r ts at e → StopsAt s ts to e
stop_as r s ts at to f (stop.Wrong a) h = (f Wrong (drop a ts) h.0, h.1)
stop_as r s ts at to f (stop.TooDeep a) h = (f TooDeep (drop a ts) h.0, h.1)
stop_as r s ts at to f stop.Memory h = tt

-- an error that a ? passes on
pub passed_on : {X A : Type 0} (view : X → A) (s : Reading A) (ts : List Token) (to : ℕ) (r : Result (X × ℕ) Stop) (e : Stop) → (y : Stop) × (r ≡ Err y) × (y ≡ e) → StopsAt s ts to e → ReadsAs view s ts to r
passed_on view s ts to r e p h = subst (ReadsAs view s ts to) (sym (p.1 ∙ ap (λ (z : Stop). Err z) p.2)) h

-- what is read behind the bracket that opens
after_key : {A : Type 0} → Kind → Option (Reading A) → List Token → Answer Token → Answer A
after_key c r ts (Got t l) = behind c r ts l
after_key c r ts (Refused w l) = Refused w l

-- by whether it opens
opened_is : {A : Type 0} (c : Kind) (r : Option (Reading A)) (t : Token) (l : List Token) (v : Bool) → opened v c r (t ∷ l) l ≡ after_key c r (t ∷ l) (if v then Got t l else Refused Wrong (t ∷ l))
unfolding after_key
opened_is c r t l true = refl
opened_is c r t l false = refl

-- reading between brackets is reading the bracket, and what follows
between_is : {A : Type 0} (o c : Kind) (r : Option (Reading A)) (ts : List Token) → between o c r ts ≡ after_key c r ts (key o ts)
unfolding after_key
between_is o c r [] = refl
between_is o c r (t ∷ l) = opened_is c r t l (is o t.kind)

-- no bracket opens
shut : {A : Type 0} (o c : Kind) (r : Option (Reading A)) (ts rest : List Token) (w : Why) → key o ts ≡ Refused w rest → between o c r ts ≡ Refused w rest
unfolding after_key
shut o c r ts rest w e = between_is o c r ts ∙ ap (after_key c r ts) e

-- one does
open_in : {A : Type 0} (o c : Kind) (r : Option (Reading A)) (ts rest : List Token) (t : Token) → key o ts ≡ Got t rest → between o c r ts ≡ behind c r ts rest
unfolding after_key
open_in o c r ts rest t e = between_is o c r ts ∙ ap (after_key c r ts) e

-- no more may be opened
inside_none : {A : Type 0} (r : ℕ → Reading A) (n : ℕ) → n ≡ 0 → inside r n ≡ None
inside_none r zero h = refl
inside_none r (suc n) h = absurd (omega arith)

-- one more may
inside_some : {A : Type 0} (r : ℕ → Reading A) (n : ℕ) → (n ≡ 0 → ⊥) → inside r n ≡ Some (r (n - 1))
inside_some r zero h = absurd (h refl)
inside_some r (suc n) h = let e : n ≡ suc n - 1 = omega arith in ap (λ (k : ℕ). Some (r k)) e

-- a refusal where no bracket opens
pub enclosed_shut : {A : Type 0} (o c : Kind) (r : ℕ → Reading A) (n : ℕ) (ts rest : List Token) (w : Why) → key o ts ≡ Refused w rest → between o c (inside r n) ts ≡ Refused w rest
enclosed_shut o c r n ts rest w e = shut o c (inside r n) ts rest w e

-- a bracket is one too many
pub enclosed_deep : {A : Type 0} (o c : Kind) (r : ℕ → Reading A) (n : ℕ) (ts rest : List Token) (t : Token) → key o ts ≡ Got t rest → n ≡ 0 → between o c (inside r n) ts ≡ Refused TooDeep ts
enclosed_deep o c r n ts rest t e h = open_in o c (inside r n) ts rest t e ∙ ap (λ (i : Option (Reading _)). behind c i ts rest) (inside_none r n h)

-- what stands within is read, and the bracket that closes
enclosed_in : {A : Type 0} (o c : Kind) (r : ℕ → Reading A) (n : ℕ) (ts rest : List Token) (t : Token) → key o ts ≡ Got t rest → (n ≡ 0 → ⊥) → between o c (inside r n) ts ≡ and_then (r (n - 1) rest) (closed c)
enclosed_in o c r n ts rest t e h = open_in o c (inside r n) ts rest t e ∙ ap (λ (i : Option (Reading _)). behind c i ts rest) (inside_some r n h)

-- a refusal within
pub enclosed_inner : {A : Type 0} (o c : Kind) (r : ℕ → Reading A) (n : ℕ) (ts rest more : List Token) (t : Token) (w : Why) → key o ts ≡ Got t rest → (n ≡ 0 → ⊥) → r (n - 1) rest ≡ Refused w more → between o c (inside r n) ts ≡ Refused w more
enclosed_inner o c r n ts rest more t w e h f = enclosed_in o c r n ts rest t e h ∙ ap (λ (a : Answer _). and_then a (closed c)) f

-- a refusal where the bracket does not close
pub enclosed_open : {A : Type 0} (o c : Kind) (r : ℕ → Reading A) (n : ℕ) (ts rest more last : List Token) (t : Token) (x : A) (w : Why) → key o ts ≡ Got t rest → (n ≡ 0 → ⊥) → r (n - 1) rest ≡ Got x more → key c more ≡ Refused w last → between o c (inside r n) ts ≡ Refused w last
enclosed_open o c r n ts rest more last t x w e h f g = enclosed_in o c r n ts rest t e h ∙ ap (λ (a : Answer _). and_then a (closed c)) f ∙ ap (λ (a : Answer Token). and_then a (λ _ z. Got x z)) g

-- all of it is read
pub enclosed_got : {A : Type 0} (o c : Kind) (r : ℕ → Reading A) (n : ℕ) (ts rest more last : List Token) (t u : Token) (x : A) → key o ts ≡ Got t rest → (n ≡ 0 → ⊥) → r (n - 1) rest ≡ Got x more → key c more ≡ Got u last → between o c (inside r n) ts ≡ Got x last
enclosed_got o c r n ts rest more last t u x e h f g = enclosed_in o c r n ts rest t e h ∙ ap (λ (a : Answer _). and_then a (closed c)) f ∙ ap (λ (a : Answer Token). and_then a (λ _ z. Got x z)) g
