-- Lists whose elements are changed where they lie, one after the other.
use Rattle.std.proofs.Common.{◌≡◌, ℕ, zero, suc, ◌+◌, ◌<◌, ◌≤◌, List, [], ◌∷◌, ◌++◌, map, length, get_or, set, take, refl, sym, ap, ◌∙◌, add-one, arith}

-- the first k elements are changed
unfoldable pub changed : {A : Type 0} → (A → A) → ℕ → List A → List A
changed f zero xs = xs
changed f (suc k) [] = []
changed f (suc k) (x ∷ xs) = f x ∷ changed f k xs

-- none is
pub begins : {A : Type 0} (f : A → A) (xs : List A) → xs ≡ changed f 0 xs
unfolding changed
begins f xs = refl

-- all are
pub ends : {A : Type 0} (f : A → A) (xs : List A) → changed f (length xs) xs ≡ map f xs
unfolding changed
ends f [] = refl
ends f (x ∷ xs) = ap (λ ys. f x ∷ ys) (ends f xs)

length_same : {A : Type 0} (f : A → A) (k : ℕ) (xs : List A) → length (changed f k xs) ≡ length xs
unfolding changed
length_same f zero xs = refl
length_same f (suc k) [] = refl
length_same f (suc k) (x ∷ xs) = ap suc (length_same f k xs)

one_more : {A : Type 0} (f : A → A) (k : ℕ) (xs : List A) (d : A) → k < length xs → set (changed f k xs) k (f (get_or (changed f k xs) k d)) ≡ changed f (suc k) xs
unfolding changed
one_more f k [] d lt = absurd (omega (arith, lt))
one_more f zero (y ∷ xs) d lt = refl
one_more f (suc k) (y ∷ xs) d lt = ap (λ ys. f y ∷ ys) (one_more f k xs d (omega (arith, lt)))

-- one more element is changed
pub goes_on : {A : Type 0} (f : A → A) (k : ℕ) (xs ys : List A) (d y : A) → ys ≡ changed f k xs → k < length ys → y ≡ f (get_or ys k d) → set ys k y ≡ changed f (k + 1) xs
goes_on f k xs ys d y e lt made =
    let within : k < length xs = omega (arith, lt, ap length e, length_same f k xs) in
    ap (λ z. set ys k z) made ∙ ap (λ zs. set zs k (f (get_or zs k d))) e ∙ one_more f k xs d within ∙ ap (λ n. changed f n xs) (rw add-one refl)

take_front : {A : Type 0} (xs zs : List A) → take (length xs) (xs ++ zs) ≡ xs
take_front [] zs = refl
take_front (x ∷ xs) zs = ap (λ ys. x ∷ ys) (take_front xs zs)

-- a vector of so many elements, behind a slice of as many
pub front_whole : {A : Type 0} (n : ℕ) (xs zs : List A) → length xs ≡ n → take n (xs ++ zs) ≡ xs
front_whole n xs zs many = ap (λ m. take m (xs ++ zs)) (sym many) ∙ take_front xs zs

-- where no element is left, all are changed
pub all_changed : {A : Type 0} (f : A → A) (k : ℕ) (xs ys : List A) → ys ≡ changed f k xs → k ≤ length xs → length xs ≤ k → ys ≡ map f xs
all_changed f k xs ys e le ge = e ∙ ap (λ m. changed f m xs) (let here : k ≡ length xs = omega (arith, le, ge) in here) ∙ ends f xs

-- a vector of so many elements, which are now all changed
pub ends_in_place : {A : Type 0} (f : A → A) (k n : ℕ) (xs ys zs : List A) → ys ≡ changed f k xs → k ≤ length xs → length xs ≤ k → length xs ≡ n → take n (ys ++ zs) ≡ map f xs
ends_in_place f k n xs ys zs e le ge size = front_whole n ys zs (ap length e ∙ length_same f k xs ∙ size) ∙ all_changed f k xs ys e le ge
