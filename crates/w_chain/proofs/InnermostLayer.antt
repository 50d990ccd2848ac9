-- Finding the innermost layer.
use Rattle.std.proofs.Common.{◌≡◌, ℕ, suc, ◌+◌, Bool, true, false, List, [], ◌∷◌, take, Option, Some, None, if◌then◌else◌, refl, sym, ◌∙◌, subst, arith}
use Rattle.std.specs.Prelude.{All, option_map, slice_get}
use Rattle.std.proofs.lemmas.List.Elements.{All-nil, All-cons}
use Rattle.w_syntax.specs.declared.module.Module.{Module}
use Rattle.w_segment.specs.Link.{Link, rest}
use Rattle.w_chain.specs.Layers.{farther, here_or, first_layer, first_passing, label_for, switches_for, first_label, first_switch, IsFirstLabel, IsFirstSwitch}

some_is : {A : Type 0} {x y : A} → Some x ≡ Some y → x ≡ y
some_is e = cc

-- ## A suspend

farther_none : (n : ℕ) (r : Option (ℕ × ℕ)) → farther n r ≡ None → r ≡ None
farther_none n None e = refl
farther_none n (Some p) e = absurd cc

first_none : (c : Link → Option ℕ) (xs : List Link) → first_layer c xs ≡ None → All (λ y. c y ≡ None) xs
first_none c [] e = All-nil (λ y. c y ≡ None)
first_none c (y ∷ ys) e = cases (c y) refl e (first_none c ys)
  where
    cases : (o : Option ℕ) → c y ≡ o → here_or o (first_layer c ys) ≡ None → (first_layer c ys ≡ None → All (λ x. c x ≡ None) ys) → All (λ x. c x ≡ None) (y ∷ ys)
    cases None h f g = All-cons (λ x. c x ≡ None) y ys h (g (farther_none 1 (first_layer c ys) f))
    cases (Some l) h f g = absurd cc

pub label_none : (m : Module) (e : ℕ) (xs : List Link) → None ≡ first_label m e xs → All (λ y. label_for m e y ≡ None) (rest xs)
label_none m e xs h = first_none (label_for m e) (rest xs) (sym h)

record Found (c : Link → Option ℕ) (xs : List Link) (n l : ℕ) : Type 0 where
  waiting : Link
  stands : slice_get xs n ≡ Some waiting
  label : c waiting ≡ Some l
  inside : All (λ y. c y ≡ None) (take n xs)

found_more : (c : Link → Option ℕ) (y : Link) (ys : List Link) (n l : ℕ) → c y ≡ None → Found c ys n l → Found c (y ∷ ys) (suc n) l
found_more c y ys n l h f = record { waiting = f.waiting; stands = f.stands; label = f.label; inside = All-cons (λ x. c x ≡ None) y (take n ys) h f.inside }

first_found : (c : Link → Option ℕ) (xs : List Link) (q : ℕ × ℕ) → first_layer c xs ≡ Some q → Found c xs q.0 q.1
first_found c [] q e = absurd cc
first_found c (y ∷ ys) q e = cases (c y) refl (first_layer c ys) refl e (first_found c ys)
  where
    cases : (o : Option ℕ) → c y ≡ o → (r : Option (ℕ × ℕ)) → first_layer c ys ≡ r → here_or o r ≡ Some q → ((p : ℕ × ℕ) → first_layer c ys ≡ Some p → Found c ys p.0 p.1) → Found c (y ∷ ys) q.0 q.1
    cases (Some l) h r k f g = subst (λ (p : ℕ × ℕ). Found c (y ∷ ys) p.0 p.1) (some_is f) (record { waiting = y; stands = refl; label = h; inside = All-nil (λ x. c x ≡ None) })
    cases None h None k f g = absurd cc
    cases None h (Some p) k f g =
        let s : suc p.0 ≡ 1 + p.0 = omega arith in
        subst (λ (p : ℕ × ℕ). Found c (y ∷ ys) p.0 p.1) (some_is f) (subst (λ (i : ℕ). Found c (y ∷ ys) i p.1) s (found_more c y ys p.0 p.1 h (g p k)))

pub label_found : (m : Module) (e n l : ℕ) (xs : List Link) → Some (n, l) ≡ first_label m e xs → IsFirstLabel m e n l xs
label_found m e n l xs h =
    let f = first_found (label_for m e) (rest xs) (n, l) (sym h) in
    record { waiting = f.waiting; stands = f.stands; label = f.label; inside = f.inside }

-- ## A switch

abbrev after : ℕ → Option ℕ → Option ℕ
after n r = option_map (λ k. n + k) r

abbrev here_if : Bool → Option ℕ → Option ℕ
here_if b r = if b then Some 0 else after 1 r

after_none : (n : ℕ) (r : Option ℕ) → after n r ≡ None → r ≡ None
after_none n None e = refl
after_none n (Some p) e = absurd cc

none_passes : (c : Link → Bool) (xs : List Link) → first_passing c xs ≡ None → All (λ y. c y ≡ false) xs
none_passes c [] e = All-nil (λ y. c y ≡ false)
none_passes c (y ∷ ys) e = cases (c y) refl e (none_passes c ys)
  where
    cases : (b : Bool) → c y ≡ b → here_if b (first_passing c ys) ≡ None → (first_passing c ys ≡ None → All (λ x. c x ≡ false) ys) → All (λ x. c x ≡ false) (y ∷ ys)
    cases false h f g = All-cons (λ x. c x ≡ false) y ys h (g (after_none 1 (first_passing c ys) f))
    cases true h f g = absurd cc

pub switch_none : (m : Module) (e : ℕ) (xs : List Link) → None ≡ first_switch m e xs → All (λ y. switches_for m e y ≡ false) (rest xs)
switch_none m e xs h = none_passes (switches_for m e) (rest xs) (sym h)

record Passes (c : Link → Bool) (xs : List Link) (n : ℕ) : Type 0 where
  waiting : Link
  stands : slice_get xs n ≡ Some waiting
  switches : c waiting ≡ true
  inside : All (λ y. c y ≡ false) (take n xs)

passes_more : (c : Link → Bool) (y : Link) (ys : List Link) (n : ℕ) → c y ≡ false → Passes c ys n → Passes c (y ∷ ys) (suc n)
passes_more c y ys n h f = record { waiting = f.waiting; stands = f.stands; switches = f.switches; inside = All-cons (λ x. c x ≡ false) y (take n ys) h f.inside }

first_passes : (c : Link → Bool) (xs : List Link) (n : ℕ) → first_passing c xs ≡ Some n → Passes c xs n
first_passes c [] n e = absurd cc
first_passes c (y ∷ ys) n e = cases (c y) refl (first_passing c ys) refl e (first_passes c ys)
  where
    cases : (b : Bool) → c y ≡ b → (r : Option ℕ) → first_passing c ys ≡ r → here_if b r ≡ Some n → ((p : ℕ) → first_passing c ys ≡ Some p → Passes c ys p) → Passes c (y ∷ ys) n
    cases true h r k f g = subst (λ (p : ℕ). Passes c (y ∷ ys) p) (some_is f) (record { waiting = y; stands = refl; switches = h; inside = All-nil (λ x. c x ≡ false) })
    cases false h None k f g = absurd cc
    cases false h (Some p) k f g =
        let s : suc p ≡ 1 + p = omega arith in
        subst (λ (p : ℕ). Passes c (y ∷ ys) p) (s ∙ some_is f) (passes_more c y ys p h (g p k))

pub switch_found : (m : Module) (e n : ℕ) (xs : List Link) → Some n ≡ first_switch m e xs → IsFirstSwitch m e n xs
switch_found m e n xs h =
    let f = first_passes (switches_for m e) (rest xs) n (sym h) in
    record { waiting = f.waiting; stands = f.stands; switches = f.switches; inside = f.inside }
