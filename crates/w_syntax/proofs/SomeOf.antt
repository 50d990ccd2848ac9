-- Whether some item of a list has a property, one item after another. f says it of lists, and p of one item.
use Rattle.std.proofs.Common.{◌≡◌, ℕ, ◌+◌, Bool, true, false, ◌||◌, ◌<◌, ◌≤◌, List, [], ◌∷◌, length, drop, get_or, sym, ap, ◌∙◌}
use Rattle.std.proofs.lemmas.List.{drop_more, drop_all}

-- the first item decides, or else the others
abbrev pub Steps : {A : Type 0} → (List A → Bool) → (A → Bool) → Type 0
Steps {A} f p = (x : A) (xs : List A) → f (x ∷ xs) ≡ (p x || f xs)

left : {A : Type 0} (xs : List A) (i : ℕ) (x : A) → i < length xs → x ≡ get_or xs i x → drop i xs ≡ x ∷ drop (i + 1) xs
left {A = A} xs i x lt e = drop_more xs i x lt ∙ ap (λ (y : A). y ∷ drop (i + 1) xs) (sym e)

-- item i has it
pub one_has : {A : Type 0} (f : List A → Bool) (p : A → Bool) → Steps f p → (xs : List A) (i : ℕ) (x : A) → i < length xs → x ≡ get_or xs i x → p x ≡ true → f (drop i xs) ≡ true
one_has f p s xs i x lt e t = ap f (left xs i x lt e) ∙ s x (drop (i + 1) xs) ∙ ap (λ (b : Bool). b || f (drop (i + 1) xs)) t

-- item i does not have it, and those behind it decide
pub others_have : {A : Type 0} (f : List A → Bool) (p : A → Bool) → Steps f p → (xs : List A) (i : ℕ) (x : A) → i < length xs → x ≡ get_or xs i x → p x ≡ false → f (drop i xs) ≡ f (drop (i + 1) xs)
others_have f p s xs i x lt e t = ap f (left xs i x lt e) ∙ s x (drop (i + 1) xs) ∙ ap (λ (b : Bool). b || f (drop (i + 1) xs)) t

-- no item is left
pub none_has : {A : Type 0} (f : List A → Bool) → f [] ≡ false → (xs : List A) (i : ℕ) → length xs ≤ i → f (drop i xs) ≡ false
none_has f e xs i le = ap f (drop_all i xs le) ∙ e
