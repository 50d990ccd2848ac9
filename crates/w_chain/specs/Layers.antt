-- Finding the handle of a suspend or a switch (stack-switching explainer, suspend and switch): the innermost one that has a clause of the
-- right kind for the tag. Layer n is the handle whose clauses are those at which segment n + 1 waits.
use Rattle.std.specs.Prelude.{◌≡◌, ℕ, ◌+◌, Bool, true, false, List, [], ◌∷◌, Option, Some, None, option_map, slice_get, take, All, if◌then◌else◌}
use Rattle.w_syntax.specs.declared.module.Module.{Module}
use Rattle.w_segment.specs.Link.{Link, rest}
use Rattle.w_reduce.specs.Handlers.{label_clause, has_switch}
use Rattle.w_chain.specs.ClauseLists.{clauses_of}

-- the label of the first label clause for a tag at which a segment waits
abbrev pub label_for : Module → ℕ → Link → Option ℕ
label_for m e y = label_clause e (clauses_of m y)

-- whether it waits at a switch clause for a tag
abbrev pub switches_for : Module → ℕ → Link → Bool
switches_for m e y = has_switch e (clauses_of m y)

-- ## A suspend

abbrev pub farther : ℕ → Option (ℕ × ℕ) → Option (ℕ × ℕ)
farther n r = option_map (λ (p : ℕ × ℕ). (n + p.0, p.1)) r

abbrev pub here_or : Option ℕ → Option (ℕ × ℕ) → Option (ℕ × ℕ)
here_or (Some l) r = Some (0, l)
here_or None r = farther 1 r

-- the first of these for which there is a label, and that label
abbrev pub first_layer : (Link → Option ℕ) → List Link → Option (ℕ × ℕ)
first_layer label [] = None
first_layer label (y ∷ ys) = here_or (label y) (first_layer label ys)

-- the innermost layer with a label clause for a tag, and the label
abbrev pub first_label : Module → ℕ → List Link → Option (ℕ × ℕ)
first_label m e xs = first_layer (label_for m e) (rest xs)

-- layer n has a label clause for a tag, with this label first, and no layer inside has one
pub record IsFirstLabel (m : Module) (e n l : ℕ) (xs : List Link) : Type 0 where
  pub waiting : Link
  pub stands : slice_get (rest xs) n ≡ Some waiting
  pub label : label_for m e waiting ≡ Some l
  pub inside : All (λ y. label_for m e y ≡ None) (take n (rest xs))

-- ## A switch

-- the first of these that passes
abbrev pub first_passing : (Link → Bool) → List Link → Option ℕ
first_passing test [] = None
first_passing test (y ∷ ys) = if test y then Some 0 else option_map (λ n. 1 + n) (first_passing test ys)

-- the innermost layer with a switch clause for a tag
abbrev pub first_switch : Module → ℕ → List Link → Option ℕ
first_switch m e xs = first_passing (switches_for m e) (rest xs)

-- layer n has a switch clause for a tag, and no layer inside has one
pub record IsFirstSwitch (m : Module) (e n : ℕ) (xs : List Link) : Type 0 where
  pub waiting : Link
  pub stands : slice_get (rest xs) n ≡ Some waiting
  pub switches : switches_for m e waiting ≡ true
  pub inside : All (λ y. switches_for m e y ≡ false) (take n (rest xs))
