-- The longest first bytes that pass a test.
use Rattle.std.proofs.Common.{◌≡◌, ℕ, zero, suc, ◌<◌, ◌≤◌, Bool, true, false, List, [], ◌∷◌, length, take, refl, arith}
use Rattle.std.specs.List.{list_all}
use Rattle.s_lex.specs.Texts.{consists_of}
use Rattle.s_lex.specs.Stands.{IsLongest}
use Rattle.s_lex.specs.Pieces.{run}
use Rattle.s_lex.proofs.Runs.{run_within, run_passes, run_longest}
use Rattle.s_lex.proofs.Tables.{both}

no_longer : (test : List ℕ → Bool) (bs : List ℕ) (n m : ℕ) → IsLongest test bs n → IsLongest test bs m → n < m → ⊥
no_longer test bs n m a b h = let p = b.passes in let q = a.longest m h b.within in absurd cc

-- there is one longest
pub one_longest : (test : List ℕ → Bool) (bs : List ℕ) (n m : ℕ) → IsLongest test bs n → IsLongest test bs m → n ≡ m
one_longest test bs n m a b =
    let p : n < m → ⊥ = no_longer test bs n m a b in
    let q : m < n → ⊥ = no_longer test bs m n b a in
    omega (arith, p, q)

-- it has a byte, where no bytes do not pass
pub longest_some : (test : List ℕ → Bool) (bs : List ℕ) (n : ℕ) → test [] ≡ false → IsLongest test bs n → 0 < n
longest_some test bs zero e a = let p : test [] ≡ true = a.passes in absurd cc
longest_some test bs (suc n) e a = omega arith

-- a byte that passes, with the run behind it, is the longest
pub run_is_longest : (first others : ℕ → Bool) (b : ℕ) (bs : List ℕ) → first b ≡ true → IsLongest (consists_of first others) (b ∷ bs) (suc (run others bs))
run_is_longest first others b bs e = record {
  within = omega (arith, run_within others bs);
  passes = rw (e, run_passes others bs) refl;
  longest = longer;
}
  where
    longer : (m : ℕ) → suc (run others bs) < m → m ≤ suc (length bs) → consists_of first others (take m (b ∷ bs)) ≡ false
    longer zero h l = absurd (omega (arith, h))
    longer (suc m) h l = rw (e, run_longest others bs m (omega (arith, h)) (omega (arith, l))) refl

-- and the longest is no other
pub longest_is_run : (first others : ℕ → Bool) (b : ℕ) (bs : List ℕ) (n : ℕ) → IsLongest (consists_of first others) (b ∷ bs) n → (first b ≡ true) × (n ≡ suc (run others bs))
longest_is_run first others b bs zero a = absurd (let p : false ≡ true = a.passes in cc)
longest_is_run first others b bs (suc n) a =
    let p = both (first b) (list_all others (take n bs)) a.passes in
    (p.0, one_longest (consists_of first others) (b ∷ bs) (suc n) (suc (run others bs)) a (run_is_longest first others b bs p.0))

-- of no bytes there is none
pub none_longest : (test : List ℕ → Bool) (n : ℕ) → test [] ≡ false → IsLongest test [] n → ⊥
none_longest test n e a = absurd (omega (arith, longest_some test [] n e a, a.within))
