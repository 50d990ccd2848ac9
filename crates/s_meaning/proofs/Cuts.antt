-- A context is cut at the innermost place that answers a question.
use Rattle.std.proofs.Common.{◌≡◌, [], ◌∷◌, ◌++◌, Option, Some, None, refl, ap, subst}
use Rattle.s_meaning.specs.Terms.{Place, Context}
use Rattle.s_meaning.specs.Steps.{Cut, inward, here_or, cut_at}

-- no place answers
pub data Silent {A : Type 0} (test : Place → Option A) : Context → Type 0 where
  no_places : Silent test []
  silent : {place : Place} {κ : Context} → test place ≡ None → Silent test κ → Silent test (place ∷ κ)

-- what a cut is: a context in two parts, with a place between them that answers, and none before it that does
pub record IsCut {A : Type 0} (test : Place → Option A) (κ : Context) (c : Cut A) : Type 0 where
  pub place : Place
  pub split : κ ≡ c.inner ++ place ∷ c.outer
  pub answers : test place ≡ Some c.answer
  pub before : Silent test c.inner

module _ {A : Type 0} (test : Place → Option A) where
  cut_by : (place : Place) (κ : Context) (c : Cut A) (o : Option A) → test place ≡ o → (farther : Option (Cut A)) → ((d : Cut A) → farther ≡ Some d → IsCut test κ d)
      → here_or place κ o farther ≡ Some c → IsCut test (place ∷ κ) c
  cut_by place κ c (Some a) q farther rest e =
      let same : record { inner = []; answer = a; outer = κ } ≡ c = cc e in
      subst (λ (z : Cut A). IsCut test (place ∷ κ) z) same (record { place = place; split = refl; answers = q; before = no_places })
  cut_by place κ c None q None rest e = absurd (cc e)
  cut_by place κ c None q (Some d) rest e =
      let i = rest d refl in
      let same : inward place d ≡ c = cc e in
      subst (λ (z : Cut A). IsCut test (place ∷ κ) z) same
      (record { place = i.place; split = ap (λ (z : Context). place ∷ z) i.split; answers = i.answers; before = silent q i.before })

  pub cut_is : (κ : Context) (c : Cut A) → cut_at test κ ≡ Some c → IsCut test κ c
  cut_is [] c e = absurd (cc e)
  cut_is (place ∷ κ) c e = cut_by place κ c (test place) refl (cut_at test κ) (λ d q. cut_is κ d q) e

  uncut_by : (place : Place) (κ : Context) (o : Option A) → test place ≡ o → (farther : Option (Cut A)) → (farther ≡ None → Silent test κ) → here_or place κ o farther ≡ None
      → Silent test (place ∷ κ)
  uncut_by place κ (Some a) q farther rest e = absurd (cc e)
  uncut_by place κ None q (Some d) rest e = absurd (cc e)
  uncut_by place κ None q None rest e = silent q (rest refl)

  -- where there is no cut no place answers
  pub uncut_is : (κ : Context) → cut_at test κ ≡ None → Silent test κ
  uncut_is [] e = no_places
  uncut_is (place ∷ κ) e = uncut_by place κ (test place) refl (cut_at test κ) (λ q. uncut_is κ q) e
