-- Two tests that both hold, and the test of all pairs of two lists, pair by pair.
use Rattle.std.proofs.Common.{◌≡◌, ℕ, suc, ◌+◌, ◌<◌, ◌≤◌, drop, get_or, Bool, true, false, IsTrue, ◌&&◌, List, [], ◌∷◌, length, refl, sym, ap, ◌∙◌, arith}
use Rattle.std.proofs.lemmas.Bool.{and_left, and_right}
use Rattle.std.proofs.lemmas.List.{drop_more, drop_all}
use Rattle.w_canon.specs.Tests.{pairwise_test}

pub and_both : (b c : Bool) → IsTrue b → IsTrue c → IsTrue (b && c)
and_both true c p q = q
and_both false c p q = absurd (cc)

-- lists of two lengths fail
pub lengths_differ : {A : Type 0} (f : A → A → Bool) (xs ys : List A) → (length xs ≡ length ys → ⊥) → false ≡ pairwise_test f xs ys
lengths_differ f [] [] h = absurd (h refl)
lengths_differ f [] (y ∷ ys) h = refl
lengths_differ f (x ∷ xs) [] h = refl
lengths_differ f (x ∷ xs) (y ∷ ys) h = sym (and_right (f x y) (pairwise_test f xs ys) (sym (lengths_differ f xs ys (λ e. h (ap suc e)))))

module _ {A : Type 0} (f : A → A → Bool) (xs ys : List A) (i : ℕ) (same : length xs ≡ length ys) (left : pairwise_test f (drop i xs) (drop i ys) ≡ pairwise_test f xs ys) where
  -- the pair at a place, and those behind it
  here : (d e : A) → i < length xs → (f (get_or xs i d) (get_or ys i e) && pairwise_test f (drop (i + 1) xs) (drop (i + 1) ys)) ≡ pairwise_test f xs ys
  here d e lt = sym (let m = drop_more xs i d lt in let n = drop_more ys i e (omega arith) in rw (m, n) refl) ∙ left

  -- a pair that fails
  pub differ_here : (d e : A) → i < length xs → f (get_or xs i d) (get_or ys i e) ≡ false → false ≡ pairwise_test f xs ys
  differ_here d e lt h = sym (and_left (f (get_or xs i d) (get_or ys i e)) (pairwise_test f (drop (i + 1) xs) (drop (i + 1) ys)) h) ∙ here d e lt

  -- a pair that passes
  pub agree_here : (d e : A) → i < length xs → f (get_or xs i d) (get_or ys i e) ≡ true → pairwise_test f (drop (i + 1) xs) (drop (i + 1) ys) ≡ pairwise_test f xs ys
  agree_here d e lt h = sym (ap (λ (b : Bool). b && pairwise_test f (drop (i + 1) xs) (drop (i + 1) ys)) h) ∙ here d e lt

  -- all pairs pass
  pub all_agree : length xs ≤ i → true ≡ pairwise_test f xs ys
  all_agree le = sym (let m = drop_all i xs le in let n = drop_all i ys (omega arith) in rw (m, n) refl) ∙ left
