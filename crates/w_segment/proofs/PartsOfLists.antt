-- Lists in two parts, reversed, and read from their end.
use Rattle.std.proofs.Common.{◌≡◌, ℕ, zero, suc, ◌+◌, ◌-◌, ◌<◌, ◌≤◌, List, [], ◌∷◌, ◌++◌, reverse, length, take, drop, Some, slice_get, get_or, refl, sym, ap, ◌∙◌, subst, arith, length-append, length-drop, take-append-drop, inl, inr}
use Rattle.std.proofs.lemmas.List.{reverse-append, length-reverse, get_or-drop, get_or-take, get_or_append_left, get_or-append_right, length-take-le, get_or-reverse}
use Rattle.std.proofs.lemmas.Bool.{cases_lt}
use Rattle.std.proofs.lemmas.Option.{slice_get_within, get_or_from_slice_get, slice_get_read}
use Rattle.std.proofs.Math.Seq.{take-append_seam, drop-append_seam, take-length}

-- an item at the end comes first in the other order
pub reverse_push : {A : Type 0} (xs : List A) (x : A) → reverse (xs ++ x ∷ []) ≡ x ∷ reverse xs
reverse_push xs x = reverse-append xs (x ∷ [])

-- a first part of a longer first part
pub take_take : {A : Type 0} (n m : ℕ) (xs : List A) → n ≤ m → take n (take m xs) ≡ take n xs
take_take zero m xs h = refl
take_take (suc n) zero xs h = absurd (omega arith)
take_take (suc n) (suc m) [] h = refl
take_take (suc n) (suc m) (x ∷ xs) h = ap (λ l. x ∷ l) (take_take n m xs (omega arith))

-- a list in two parts, from a length
pub take_of : {A : Type 0} (xs ys : List A) (n : ℕ) → n ≡ length xs → take n (xs ++ ys) ≡ xs
take_of xs ys n e = ap (λ k. take k (xs ++ ys)) e ∙ take-append_seam xs ys

-- a first part without its last item
pub one_less : {A : Type 0} (xs ys zs : List A) (x : A) (k : ℕ) → k < length xs → ys ≡ take (length xs - k) xs → ys ≡ zs ++ x ∷ [] → zs ≡ take (length xs - (k + 1)) xs
one_less xs ys zs x k h is last =
    let long = length-take-le (length xs - k) xs (omega arith) in
    let a = ap (λ l. length l) is in
    let b = ap (λ l. length l) last in
    let c = length-append zs (x ∷ []) in
    let e : length zs ≡ length xs - (k + 1) = omega (arith, long, a, b, c, h) in
    sym (take_of zs (x ∷ []) (length zs) refl) ∙ ap (take (length zs)) (sym last ∙ is) ∙ take_take (length zs) (length xs - k) xs (omega (arith, e)) ∙ ap (λ n. take n xs) e

-- the second part, from the length of the first
pub drop_of : {A : Type 0} (xs ys : List A) (n : ℕ) → n ≡ length xs → drop n (xs ++ ys) ≡ ys
drop_of xs ys n e = ap (λ k. drop k (xs ++ ys)) e ∙ drop-append_seam xs ys

-- a first part, reversed, is what stands behind the rest of the reversed list
pub reverse_take : {A : Type 0} (k n : ℕ) (xs : List A) → n + k ≡ length xs → reverse (take k xs) ≡ drop n (reverse xs)
reverse_take k n xs h =
    let e : reverse xs ≡ reverse (drop k xs) ++ reverse (take k xs) = ap reverse (sym (take-append-drop k xs)) ∙ reverse-append (take k xs) (drop k xs) in
    let a = length-reverse (drop k xs) in
    let b = length-drop k xs in
    let l : n ≡ length (reverse (drop k xs)) = omega arith in
    sym (ap (drop n) e ∙ drop_of (reverse (drop k xs)) (reverse (take k xs)) n l)

-- the item that stands l places before the last one
pub reverse_get : {A : Type 0} (xs : List A) (l : ℕ) (x d : A) → slice_get (reverse xs) l ≡ Some x → (l < length xs) × (get_or xs (length xs - 1 - l) d ≡ x)
reverse_get xs l x d h =
    let r : l < length xs = subst (λ n. l < n) (length-reverse xs) (slice_get_within (reverse xs) l x h) in
    (r, sym (get_or-reverse xs l d r) ∙ get_or_from_slice_get (reverse xs) l x d h)

-- two values that are there are the same
pub some_is : {A : Type 0} {x y : A} → Some x ≡ Some y → x ≡ y
some_is e = cc

-- the item x of what stands from k on
pub slice_get_drop : {A : Type 0} (xs : List A) (k x : ℕ) (a : A) → k + x < length xs → get_or xs (k + x) a ≡ a → slice_get (drop k xs) x ≡ Some a
slice_get_drop xs k x a h e = slice_get_read (drop k xs) (length (drop k xs)) x a refl (let l = length-drop k xs in omega arith) (sym e ∙ sym (get_or-drop k xs x a))

-- a slice to the end
pub slice_rest : {A : Type 0} (xs : List A) (b : ℕ) → take (length xs - b) (drop b xs) ≡ drop b xs
slice_rest xs b = ap (λ n. take n (drop b xs)) (sym (length-drop b xs)) ∙ take-length (drop b xs)

-- lists with the same items at each place are the same
kept_list_get : {A : Type 0} (xs ys : List A) → length xs ≡ length ys → ((k : ℕ) (d : A) → k < length xs → get_or xs k d ≡ get_or ys k d) → xs ≡ ys
kept_list_get [] [] h g = refl
kept_list_get [] (y ∷ ys) h g = absurd (omega arith)
kept_list_get (x ∷ xs) [] h g = absurd (omega arith)
kept_list_get (x ∷ xs) (y ∷ ys) h g = ap (λ z. z ∷ xs) (g 0 x (omega arith)) ∙ ap (λ l. y ∷ l) (kept_list_get xs ys (omega arith) (λ k d l. g (suc k) d (omega arith)))

-- items from the end that were moved down onto the first b
pub kept_list : {A : Type 0} (xs ys : List A) (b n : ℕ) → b + n ≤ length xs → length ys ≡ length xs → ((k : ℕ) (d : A) → k < b → get_or ys k d ≡ get_or xs k d)
    → ((k : ℕ) (d : A) → k < n → get_or ys (b + k) d ≡ get_or xs (length xs - n + k) d) → take (b + n) ys ≡ take b xs ++ drop (length xs - n) xs
kept_list xs ys b n h l low moved =
    let a = length-take-le (b + n) ys (omega arith) in
    let p = length-take-le b xs (omega arith) in
    let q = length-drop (length xs - n) xs in
    let r = length-append (take b xs) (drop (length xs - n) xs) in
    kept_list_get (take (b + n) ys) (take b xs ++ drop (length xs - n) xs) (omega arith)
    (λ k d i. let j : k < b + n = omega arith in get_or-take (b + n) ys k d j ∙ elim (cases_lt k b) [
      | inl g ↦ low k d g ∙ sym (get_or_append_left (take b xs) (drop (length xs - n) xs) d k (omega arith) ∙ get_or-take b xs k d g)
      | inr g ↦
          let m : k ≡ b + (k - b) = omega arith in
          ap (λ z. get_or ys z d) m ∙ moved (k - b) d (omega arith)
          ∙ sym (get_or-append_right (take b xs) (drop (length xs - n) xs) b k d p g ∙ get_or-drop (length xs - n) xs (k - b) d)
    ])
