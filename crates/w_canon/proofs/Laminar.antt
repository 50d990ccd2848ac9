-- Intervals that lie inside those of parents, and apart where nodes have one parent or none, tell which node stands under which.
use Rattle.std.proofs.Common.{◌≡◌, ◌⊎◌, inl, inr, ℕ, zero, suc, ◌+◌, ◌<◌, ◌≤◌, List, [], ◌∷◌, length, Option, Some, None, slice_get, refl, sym, ap, subst, arith}
use Rattle.std.proofs.lemmas.Bool.{cases_lt}
use Rattle.std.proofs.lemmas.Option.{slice_get_within}
use Rattle.w_canon.specs.Forest.{IsParent, IsForest, IsUnder, itself, above}

-- an item stands at each place of a list
pub item_at : {A : Type 0} (xs : List A) (i : ℕ) → i < length xs → (a : A) × (slice_get xs i ≡ Some a)
item_at [] i h = absurd (omega arith)
item_at (x ∷ xs) zero h = (x, refl)
item_at (x ∷ xs) (suc i) h = item_at xs i (omega arith)

module _ (ps : List (Option ℕ)) (F T : ℕ → ℕ) (forest : IsForest ps)
    (proper : (x : ℕ) (o : Option ℕ) → slice_get ps x ≡ Some o → F x < T x)
    (nested : (x p : ℕ) → IsParent ps x p → (F p < F x) × (T x ≤ T p))
    (apart : (x y : ℕ) (o : Option ℕ) → x < y → slice_get ps x ≡ Some o → slice_get ps y ≡ Some o → T y ≤ F x) where
  -- what stands under a node lies inside its interval
  pub under_within : {x y : ℕ} → IsUnder ps x y → (F y ≤ F x) × (T x ≤ T y)
  under_within itself = (omega arith, omega arith)
  under_within (above {x} {p} is u) = let n = nested x p is in let w = under_within u in (omega (arith, n.0, w.0), omega (arith, n.1, w.1))

  -- and begins behind it, where it is another
  strictly : {x y : ℕ} → IsUnder ps x y → (x ≡ y) ⊎ (F y < F x)
  strictly itself = inl refl
  strictly (above {x} {p} is u) = let n = nested x p is in let w = under_within u in inr (omega (arith, n.0, w.0))

  -- a node that another stands under is it, or has a child that this one stands under
  child : {y p : ℕ} → IsUnder ps y p → (y ≡ p) ⊎ ((w : ℕ) × IsUnder ps y w × IsParent ps w p)
  child itself = inl refl
  child (above {x = y} is u) = elim (child u) [
    | inl e ↦ inr (y, itself, subst (IsParent ps y) e is)
    | inr c ↦ inr (c.0, above is c.1, c.2)
  ]

  -- each node stands under a root, or is one
  root : (k y : ℕ) → y < k → (o : Option ℕ) → slice_get ps y ≡ Some o → (w : ℕ) × IsUnder ps y w × (slice_get ps w ≡ Some None)
  root zero y lt o is = absurd (omega arith)
  root (suc k) y lt None is = (y, itself, is)
  root (suc k) y lt (Some p) is =
      let before = forest y p is in
      let q = item_at ps p (omega (arith, before, slice_get_within ps y (Some p) is)) in
      let r = root k p (omega (arith, before)) q.0 q.1 in
      (r.0, above is r.1, r.2)

  -- x begins inside y, which stands under a node w of one parent with x: then w is x, and so is y
  beside : (x y w : ℕ) (o : Option ℕ) → slice_get ps x ≡ Some o → slice_get ps w ≡ Some o → IsUnder ps y w → F y ≤ F x → F x < T y → IsUnder ps x y
  beside x y w o is there u le lt =
      let v = under_within u in
      elim (cases_lt x w) [
        | inl less ↦ absurd (let a = apart x w o less is there in omega (arith, a, v.1))
        | inr more ↦ elim (cases_lt w x) [
          | inl less ↦ absurd (let a = apart w x o less there is in let q = proper x o is in omega (arith, a, v.0, q))
          | inr same ↦
              let e : w ≡ x = omega arith in
              elim (strictly (subst (IsUnder ps y) e u)) [
                | inl f ↦ subst (IsUnder ps x) (sym f) itself
                | inr l ↦ absurd (omega arith)
              ]
        ]
      ]

  -- what begins inside the interval of a node stands under it
  found : (k x y : ℕ) → x + y < k → (o q : Option ℕ) → slice_get ps x ≡ Some o → slice_get ps y ≡ Some q → F y ≤ F x → F x < T y → IsUnder ps x y
  found zero x y few o q is there le lt = absurd (omega arith)
  found (suc k) x y few None q is there le lt = let r = root (suc y) y (omega arith) q there in beside x y r.0 None is r.2 r.1 le lt
  found (suc k) x y few (Some p) q is there le lt =
      let before = forest x p is in
      let n = nested x p is in
      let own = proper x (Some p) is in
      let at = item_at ps p (omega (arith, before, slice_get_within ps x (Some p) is)) in
      elim (cases_lt (F p) (F y)) [
        | inl behind ↦ elim (child (found k y p (omega (arith, before)) q at.0 there at.1 (omega arith) (omega (arith, n.1, own)))) [
          | inl e ↦ absurd (let f = ap F e in omega (arith, f))
          | inr c ↦ beside x y c.0 (Some p) is c.2 c.1 le lt
        ]
        | inr front ↦ above is (found k p y (omega (arith, before)) at.0 q at.1 there front (omega (arith, n.0)))
      ]

  -- a node stands under another exactly where it begins inside its interval
  pub inside_decided : (x y : ℕ) (o q : Option ℕ) → slice_get ps x ≡ Some o → slice_get ps y ≡ Some q
      → ((F y ≤ F x) × (F x < T y) → IsUnder ps x y) × (IsUnder ps x y → (F y ≤ F x) × (F x < T y))
  inside_decided x y o q is there = (
    λ h. found (suc (x + y)) x y (omega arith) o q is there h.0 h.1,
    λ u. let w = under_within u in let own = proper x o is in (w.0, omega (arith, own, w.1)),
  )
