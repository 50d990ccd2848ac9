-- Lists of at most n of some kinds: how many they are, and where each stands among them.
use Rattle.std.proofs.Common.{◌≡◌, ℕ, zero, suc, ◌+◌, ◌*◌, ◌≤◌, List, [], ◌∷◌, ◌++◌, map, length, Option, Some, refl, ap, ◌∙◌, arith, length-append}
use Rattle.std.specs.Prelude.{slice_get, option_map}
use Rattle.std.proofs.lemmas.List.{length-map}
use Rattle.std.proofs.lemmas.Option.{slice_get-map}
use Rattle.std.proofs.Math.Nat.{suc-mul}
use Rattle.s_valid.proofs.NumbersInModules.{get_left, get_right}

-- 1 + k + .. + k ^ n: how many lists there are of at most n of k kinds
abbrev pub how_many : ℕ → ℕ → ℕ
how_many k zero = 1
how_many k (suc n) = suc (k * how_many k n)

-- what is made of an item stands at its place
pub map_at : {A B : Type 0} (f : A → B) (xs : List A) (k : ℕ) (x : A) → slice_get xs k ≡ Some x → slice_get (map f xs) k ≡ Some (f x)
map_at f xs k x e = slice_get-map f xs k ∙ ap (λ (o : Option _). option_map f o) e

module _ {A : Type 0} where
  -- each of the lists behind each of the kinds
  abbrev behind_each : List A → List (List A) → List (List A)
  behind_each [] ls = []
  behind_each (k ∷ ks) ls = map (λ (l : List A). k ∷ l) ls ++ behind_each ks ls

  -- the lists of at most n of these kinds
  abbrev pub lists : List A → ℕ → List (List A)
  lists ks zero = [] ∷ []
  lists ks (suc n) = [] ∷ behind_each ks (lists ks n)

  -- so many times as many
  behind_length : (ks : List A) (ls : List (List A)) → length (behind_each ks ls) ≡ length ks * length ls
  behind_length [] ls = omega arith
  behind_length (k ∷ ks) ls =
      let a = length-append (map (λ (l : List A). k ∷ l) ls) (behind_each ks ls) in
      let m = length-map ls (λ (l : List A). k ∷ l) in
      let q = behind_length ks ls in
      let s = suc-mul (length ks) (length ls) in
      omega (arith, a, m, q, s)

  -- so they are as many as that
  pub lists_length : (ks : List A) (n : ℕ) → length (lists ks n) ≡ how_many (length ks) n
  lists_length ks zero = refl
  lists_length ks (suc n) = ap suc (behind_length ks (lists ks n) ∙ ap (λ (m : ℕ). length ks * m) (lists_length ks n))

  -- a list behind a kind has its place
  behind_at : (ks : List A) (ls : List (List A)) (i j : ℕ) (k : A) (l : List A) → slice_get ks i ≡ Some k → slice_get ls j ≡ Some l → (n : ℕ) × (slice_get (behind_each ks ls) n ≡ Some (k ∷ l))
  behind_at [] ls i j k l e f = absurd (cc)
  behind_at (c ∷ ks) ls zero j k l e f =
      let same : c ≡ k = cc in (
        j,
        get_left (map (λ (m : List A). c ∷ m) ls) (behind_each ks ls) j (k ∷ l) (map_at (λ (m : List A). c ∷ m) ls j l f ∙ ap (λ (x : A). Some (x ∷ l)) same),
      )
  behind_at (c ∷ ks) ls (suc i) j k l e f =
      let q = behind_at ks ls i j k l e f in (
        length (map (λ (m : List A). c ∷ m) ls) + q.0,
        get_right (map (λ (m : List A). c ∷ m) ls) (behind_each ks ls) q.0 (length (map (λ (m : List A). c ∷ m) ls) + q.0) (k ∷ l) refl q.1,
      )

-- where each item has one of the kinds, the kinds of at most n items have their place
module _ {A B : Type 0} (kinds : List A) (kind : B → A) (stands : (b : B) → (i : ℕ) × (slice_get kinds i ≡ Some (kind b))) where
  pub list_at : (n : ℕ) (bs : List B) → length bs ≤ n → (i : ℕ) × (slice_get (lists kinds n) i ≡ Some (map kind bs))
  list_at zero [] h = (0, refl)
  list_at (suc n) [] h = (0, refl)
  list_at zero (b ∷ bs) h = absurd (omega (arith, h))
  list_at (suc n) (b ∷ bs) h =
      let k = stands b in
      let q = list_at n bs (omega (arith, h)) in
      let r = behind_at kinds (lists kinds n) k.0 q.0 (kind b) (map kind bs) k.1 q.1 in
      (suc r.0, r.1)
