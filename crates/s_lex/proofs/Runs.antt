-- Runs of bytes that pass a test.
use Rattle.std.proofs.Common.{◌≡◌, ℕ, zero, suc, ◌+◌, ◌<◌, ◌≤◌, Bool, true, false, if◌then◌else◌, List, [], ◌∷◌, length, take, drop, get_or, refl, ap, ◌∙◌, arith, add-one, drop-cons, length-drop}
use Rattle.std.specs.List.{list_all}
use Rattle.s_lex.specs.Pieces.{run}

-- the byte at a place, and those behind it
pub cell : (bs : List ℕ) (at : ℕ) → at < length bs → drop at bs ≡ get_or bs at 0 ∷ drop (at + 1) bs
cell bs at h = rw (add-one, drop-cons bs at 0) refl

run_cons : (test : ℕ → Bool) (b : ℕ) (bs : List ℕ) (v : Bool) → test b ≡ v → run test (b ∷ bs) ≡ (if v then suc (run test bs) else 0)
unfolding run
run_cons test b bs v e = ap (λ (w : Bool). if w then suc (run test bs) else 0) e

-- a byte that passes lengthens the run behind it
pub run_more : (test : ℕ → Bool) (bs : List ℕ) (at : ℕ) → at < length bs → test (get_or bs at 0) ≡ true → run test (drop at bs) ≡ suc (run test (drop (at + 1) bs))
run_more test bs at h e = ap (run test) (cell bs at h) ∙ run_cons test (get_or bs at 0) (drop (at + 1) bs) true e

-- one that does not ends it
pub run_ends : (test : ℕ → Bool) (bs : List ℕ) (at : ℕ) → at < length bs → test (get_or bs at 0) ≡ false → run test (drop at bs) ≡ 0
run_ends test bs at h e = ap (run test) (cell bs at h) ∙ run_cons test (get_or bs at 0) (drop (at + 1) bs) false e

run_none : (test : ℕ → Bool) (l : List ℕ) → length l ≡ 0 → run test l ≡ 0
unfolding run
run_none test [] h = refl
run_none test (b ∷ l) h = absurd (omega (arith, h))

-- and so does the end of the bytes
pub run_done : (test : ℕ → Bool) (bs : List ℕ) (at : ℕ) → length bs ≤ at → run test (drop at bs) ≡ 0
run_done test bs at h = run_none test (drop at bs) (omega (arith, length-drop at bs))

-- a run is no longer than the bytes
pub run_within : (test : ℕ → Bool) (bs : List ℕ) → run test bs ≤ length bs
unfolding run
run_within test [] = omega arith
run_within test (b ∷ bs) = cases (test b) (run_within test bs)
  where
    cases : (v : Bool) → run test bs ≤ length bs → (if v then suc (run test bs) else 0) ≤ suc (length bs)
    cases true h = omega (arith, h)
    cases false h = omega arith

-- the bytes of a run pass
pub run_passes : (test : ℕ → Bool) (bs : List ℕ) → list_all test (take (run test bs) bs) ≡ true
unfolding run
run_passes test [] = refl
run_passes test (b ∷ bs) = cases (test b) refl (run_passes test bs)
  where
    cases : (v : Bool) → test b ≡ v → list_all test (take (run test bs) bs) ≡ true → list_all test (take (if v then suc (run test bs) else 0) (b ∷ bs)) ≡ true
    cases true e h = rw (e, h) refl
    cases false e h = refl

-- more of them do not
pub run_longest : (test : ℕ → Bool) (bs : List ℕ) (m : ℕ) → run test bs < m → m ≤ length bs → list_all test (take m bs) ≡ false
unfolding run
run_longest test [] m h l = absurd (omega (arith, h, l))
run_longest test (b ∷ bs) zero h l = absurd (omega (arith, h))
run_longest test (b ∷ bs) (suc m) h l = cases (test b) refl h (run_longest test bs m)
  where
    cases : (v : Bool) → test b ≡ v → (if v then suc (run test bs) else 0) < suc m → (run test bs < m → m ≤ length bs → list_all test (take m bs) ≡ false) → list_all test (b ∷ take m bs) ≡ false
    cases true e g f = rw (e, f (omega (arith, g)) (omega (arith, l))) refl
    cases false e g f = rw e refl
