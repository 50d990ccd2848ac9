-- Instances of lists that stand beside each other, or are made of another.
use Rattle.std.proofs.Common.{◌≡◌, ℕ, zero, suc, List, [], ◌∷◌, ◌++◌, length, map, Some, slice_get, refl}
use Rattle.w_typed.specs.Stores.{Instances, no_instance, instances}

-- the item behind a front
pub seam : {A : Type 0} (xs : List A) (y : A) (ys : List A) → slice_get (xs ++ y ∷ ys) (length xs) ≡ Some y
seam [] y ys = refl
seam (x ∷ xs) y ys = seam xs y ys

-- those of one list, and of another
pub instances_beside : {A B : Type 0} {R : A → B → Type 0} {xs zs : List A} {ys ws : List B} → Instances R xs ys → Instances R zs ws
    → Instances R (xs ++ zs) (ys ++ ws)
instances_beside no_instance k = k
instances_beside (instances r h) k = instances r (instances_beside h k)

-- what is made of each item of a list
pub instances_made : {A B C : Type 0} {R : A → B → Type 0} (f : C → A) (g : C → B) (xs : List C)
    → ((i : ℕ) (x : C) → slice_get xs i ≡ Some x → R (f x) (g x)) → Instances R (map f xs) (map g xs)
instances_made f g [] h = no_instance
instances_made f g (x ∷ xs) h = instances (h zero x refl) (instances_made f g xs (λ i. h (suc i)))

-- or of a list that are its own declarations
pub instances_of : {A B : Type 0} {R : A → B → Type 0} (f : B → A) (xs : List B) → ((i : ℕ) (x : B) → slice_get xs i ≡ Some x → R (f x) x) → Instances R (map f xs) xs
instances_of f [] h = no_instance
instances_of f (x ∷ xs) h = instances (h zero x refl) (instances_of f xs (λ i. h (suc i)))

-- those of one relation are those of another that follows from it
pub instances_each : {A B : Type 0} {R Q : A → B → Type 0} {xs : List A} {ys : List B} → ((x : A) (y : B) → R x y → Q x y) → Instances R xs ys
    → Instances Q xs ys
instances_each f no_instance = no_instance
instances_each f (instances {x = x} {y = y} r h) = instances (f x y r) (instances_each f h)
