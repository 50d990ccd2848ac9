-- What stands ready for the types of a module.
use Rattle.std.proofs.Common.{◌≡◌, ℕ, zero, suc, ◌+◌, ◌<◌, ◌≤◌, List, [], ◌∷◌, ◌++◌, length, length-take, take, get_or, slice_get, Some, sym, ap, ◌∙◌, subst, arith}
use Rattle.std.proofs.lemmas.List.{take_more, take_all}
use Rattle.std.proofs.lemmas.Option.{slice_get-get_or}
use Rattle.w_types.specs.declared.types.CompType.{CompType}
use Rattle.w_types.specs.declared.types.CompType.TheVariants as comp
use Rattle.w_types.specs.declared.types.FuncType.{FuncType}
use Rattle.w_syntax.specs.Functions.{function_type}
use Rattle.w_canon.specs.declared.entry.Entry.{Entry}
use Rattle.w_rows.specs.TypeRows.{HasReady, AreReadyTypes}
use Rattle.w_rows.specs.declared.type_rows.ReadyType.{ReadyType}

module _ (es : List Entry) where
  behind : (ts : List CompType) (rs : List ReadyType) (t : CompType) (r : ReadyType) → length rs ≡ length ts → AreReadyTypes es ts rs → HasReady es t r → AreReadyTypes es (ts ++ t ∷ []) (rs ++ r ∷ [])
  behind [] [] t r l a h = (h, tt)
  behind [] (q ∷ rs) t r l a h = absurd a
  behind (u ∷ ts) [] t r l a h = absurd (omega arith)
  behind (u ∷ ts) (q ∷ rs) t r l a h = (a.0, behind ts rs t r (omega arith) a.1 h)

  within : (ts : List CompType) (x : ℕ) (t : CompType) → slice_get ts x ≡ Some t → x < length ts
  within [] x t e = absurd (cc)
  within (u ∷ ts) zero t e = omega arith
  within (u ∷ ts) (suc x) t e = let h = within ts x t e in omega arith

  -- one type more
  pub ready_types_more : (n : ℕ) (ts : List CompType) (rs new : List ReadyType) (r : ReadyType) (t : CompType) → new ≡ rs ++ r ∷ [] → slice_get ts n ≡ Some t →
      HasReady es t r → length rs ≡ n → AreReadyTypes es (take n ts) rs → AreReadyTypes es (take (n + 1) ts) new
  ready_types_more n ts rs new r t e at h l a =
      let lt = within ts n t at in
      let here : get_or ts n t ≡ t = let s : Some (get_or ts n t) ≡ Some t = sym (slice_get-get_or ts n t lt) ∙ at in cc in
      subst (λ (us : List CompType). AreReadyTypes es us new) (sym (take_more ts n t lt ∙ ap (λ (u : CompType). take n ts ++ u ∷ []) here))
      (subst (AreReadyTypes es (take n ts ++ t ∷ [])) (sym e) (behind (take n ts) rs t r (omega (arith, l, lt, length-take n ts)) a h))

  -- all, behind the last
  pub ready_types_all : (n : ℕ) (ts : List CompType) (rs : List ReadyType) → length ts ≤ n → AreReadyTypes es (take n ts) rs → AreReadyTypes es ts rs
  ready_types_all n ts rs h a = subst (λ (us : List CompType). AreReadyTypes es us rs) (take_all n ts h) a

  -- none stands ready
  pub none_ready : (ts : List CompType) → AreReadyTypes es ts []
  none_ready [] = tt
  none_ready (t ∷ ts) = tt

  -- what stands ready for a function type is what its rows need
  pub ready_types_at : (ts : List CompType) (rs : List ReadyType) (x : ℕ) (f : FuncType) (r : ReadyType) → AreReadyTypes es ts rs → function_type (slice_get ts x) ≡ Some f → x < length rs → r ≡ get_or rs x r →
      HasReady es (comp.Func f) r
  ready_types_at [] rs x f r a e l k = absurd (cc)
  ready_types_at (t ∷ ts) [] x f r a e l k = absurd (omega arith)
  ready_types_at (comp.Func g ∷ ts) (q ∷ rs) zero f r a e l k =
      let same : g ≡ f = cc in
      subst (λ (z : FuncType). HasReady es (comp.Func z) r) same (subst (λ (z : ReadyType). HasReady es (comp.Func g) z) (sym k) a.0)
  ready_types_at (comp.Cont y ∷ ts) (q ∷ rs) zero f r a e l k = absurd (cc)
  ready_types_at (t ∷ ts) (q ∷ rs) (suc x) f r a e l k = ready_types_at ts rs x f r a.1 e (omega arith) k
