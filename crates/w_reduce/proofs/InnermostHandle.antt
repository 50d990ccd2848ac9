-- What is found of a tag's handle is the innermost one.
use Rattle.std.proofs.Common.{◌≡◌, List, [], ◌∷◌, ◌++◌, Option, Some, None, option_map, refl, ap, ◌∙◌, subst}
use Rattle.lists.specs.Rows.{Row}
use Rattle.w_syntax.specs.Code.{Code}
use Rattle.w_syntax.specs.declared.instructions.Clause.{Clause}
use Rattle.w_reduce.specs.Values.{Val}
use Rattle.w_reduce.specs.Terms.{Layer, Label, Frame, Handle, Context}
use Rattle.w_reduce.specs.Handlers.{Handler, one_more, here_or, find, Inner, IsInnermost, Finds, FindsNone}

some_injective : {B : Type 0} {x y : B} → Some x ≡ Some y → x ≡ y
some_injective p = cc

module _ {A : Type 0} (answer : List Clause → Option A) where
  -- one layer more
  more_found : (layer : Layer) (e : Context) (o : Option (Handler A)) (h : Handler A) → ((i : Context) → Inner answer i → Inner answer (layer ∷ i))
      → ((g : Handler A) → o ≡ Some g → IsInnermost answer e g) → option_map (one_more layer) o ≡ Some h → IsInnermost answer (layer ∷ e) h
  more_found layer e None h put k p = absurd (cc)
  more_found layer e (Some g) h put k p =
      let q : one_more layer g ≡ h = some_injective p in
      let c = k g refl in
      subst (λ (x : Handler A). IsInnermost answer (layer ∷ e) x) q
      (record { context = ap (λ (x : Context). layer ∷ x) c.context; answers = c.answers; inner = put g.inner c.inner })

  here_found : (below : Row Val) (hs : List Clause) (rest : Code) (e : Context) (far : Option (Handler A)) (h : Handler A)
      → ((g : Handler A) → far ≡ Some g → IsInnermost answer e g)
      → (o : Option A) → answer hs ≡ o → here_or o below hs rest e far ≡ Some h → IsInnermost answer (Handle below hs rest ∷ e) h
  here_found below hs rest e far h k (Some a) q p =
      subst (λ (x : Handler A). IsInnermost answer (Handle below hs rest ∷ e) x) (some_injective p) (record { context = refl; answers = q; inner = tt })
  here_found below hs rest e far h k None q p = more_found (Handle below hs rest) e far h (λ i x. (q, x)) k p

  -- what is found is the innermost one
  found : (e : Context) (h : Handler A) → find answer e ≡ Some h → IsInnermost answer e h
  found [] h p = absurd (cc)
  found (Label below n again rest ∷ e) h p = more_found (Label below n again rest) e (find answer e) h (λ i x. x) (found e) p
  found (Frame below n f locals rest ∷ e) h p = more_found (Frame below n f locals rest) e (find answer e) h (λ i x. x) (found e) p
  found (Handle below hs rest ∷ e) h p = here_found below hs rest e (find answer e) h (found e) (answer hs) refl p

  -- the handle h, with the layers i inside it
  with_inner : Context → Handler A → Handler A
  with_inner i h = record h { inner = i }

  -- the innermost one is found
  finds : (i : Context) (h : Handler A) → Inner answer i → answer h.clauses ≡ Some h.answer → find answer (i ++ Handle h.below h.clauses h.rest ∷ h.outer) ≡ Some (with_inner i h)
  unfolding with_inner
  finds [] h x p = rw p refl
  finds (Label below n again rest ∷ i) h x p = ap (λ (o : Option (Handler A)). option_map (one_more (Label below n again rest)) o) (finds i h x p)
  finds (Frame below n f locals rest ∷ i) h x p = ap (λ (o : Option (Handler A)). option_map (one_more (Frame below n f locals rest)) o) (finds i h x p)
  finds (Handle below hs rest ∷ i) h x p = rw x.0 (ap (λ (o : Option (Handler A)). option_map (one_more (Handle below hs rest)) o) (finds i h x.1 p))

  no_more : (layer : Layer) (o : Option (Handler A)) → option_map (one_more layer) o ≡ None → o ≡ None
  no_more layer None p = refl
  no_more layer (Some g) p = cc

  here_none : (below : Row Val) (hs : List Clause) (rest : Code) (e : Context) (far : Option (Handler A)) (o : Option A)
      → here_or o below hs rest e far ≡ None → (o ≡ None) × (far ≡ None)
  here_none below hs rest e far None p = (refl, no_more (Handle below hs rest) far p)
  here_none below hs rest e far (Some a) p = absurd (cc)

  -- where none is found none answers, and the other way round
  none_inner : (e : Context) → find answer e ≡ None → Inner answer e
  none_inner [] p = tt
  none_inner (Label below n again rest ∷ e) p = none_inner e (no_more (Label below n again rest) (find answer e) p)
  none_inner (Frame below n f locals rest ∷ e) p = none_inner e (no_more (Frame below n f locals rest) (find answer e) p)
  none_inner (Handle below hs rest ∷ e) p = let r = here_none below hs rest e (find answer e) (answer hs) p in (r.0, none_inner e r.1)

  inner_none : (e : Context) → Inner answer e → find answer e ≡ None
  inner_none [] x = refl
  inner_none (Label below n again rest ∷ e) x = ap (λ (o : Option (Handler A)). option_map (one_more (Label below n again rest)) o) (inner_none e x)
  inner_none (Frame below n f locals rest ∷ e) x = ap (λ (o : Option (Handler A)). option_map (one_more (Frame below n f locals rest)) o) (inner_none e x)
  inner_none (Handle below hs rest ∷ e) x = rw x.0 (ap (λ (o : Option (Handler A)). option_map (one_more (Handle below hs rest)) o) (inner_none e x.1))

pub finding : (A : Type 0) → Finds A
unfolding with_inner
finding A answer e h = (λ p. found answer e h p, λ c. ap (λ (x : Context). find answer x) c.context ∙ finds answer h.inner h c.inner c.answers)

pub finding_none : (A : Type 0) → FindsNone A
finding_none A answer e = (none_inner answer e, inner_none answer e)
