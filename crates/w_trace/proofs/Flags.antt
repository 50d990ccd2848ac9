-- Flags by address: one that is set, and one more.
use Rattle.std.proofs.Common.{◌≡◌, ◌≢◌, ℕ, zero, suc, ◌<◌, Bool, true, false, List, [], ◌∷◌, ◌++◌, length, Some, refl, ap, arith, slice_get, slice_set}

pub length-more : {A : Type 0} (xs : List A) (x : A) → length (xs ++ x ∷ []) ≡ suc (length xs)
length-more [] x = refl
length-more (y ∷ xs) x = ap suc (length-more xs x)

pub set_same : (flags : List Bool) (a : ℕ) (x : Bool) → slice_get flags a ≡ Some x → slice_get (slice_set flags a false) a ≡ Some false
set_same [] a x e = absurd (cc)
set_same (f ∷ flags) zero x e = refl
set_same (f ∷ flags) (suc a) x e = set_same flags a x e

-- what isn't live stays so
pub set_keeps : (flags : List Bool) (a b : ℕ) → slice_get flags b ≡ Some false → slice_get (slice_set flags a false) b ≡ Some false
set_keeps [] a b e = absurd (cc)
set_keeps (f ∷ flags) zero zero e = refl
set_keeps (f ∷ flags) zero (suc b) e = e
set_keeps (f ∷ flags) (suc a) zero e = e
set_keeps (f ∷ flags) (suc a) (suc b) e = set_keeps flags a b e

-- and nothing else becomes so
pub set_other : (flags : List Bool) (a b : ℕ) → a ≢ b → slice_get (slice_set flags a false) b ≡ Some false → slice_get flags b ≡ Some false
set_other [] a b apart e = e
set_other (f ∷ flags) zero zero apart e = absurd (apart refl)
set_other (f ∷ flags) zero (suc b) apart e = e
set_other (f ∷ flags) (suc a) zero apart e = e
set_other (f ∷ flags) (suc a) (suc b) apart e = set_other flags a b (λ same. apart (ap suc same)) e

pub below : (flags : List Bool) (a : ℕ) (x : Bool) → slice_get flags a ≡ Some x → a < length flags
below [] a x e = absurd (cc)
below (f ∷ flags) zero x e = omega arith
below (f ∷ flags) (suc a) x e = let i = below flags a x e in omega (arith, i)

pub is_live : (flags : List Bool) (a : ℕ) → a < length flags → slice_get flags a ≢ Some false → slice_get flags a ≡ Some true
is_live [] a h other = absurd (omega (arith, h))
is_live (true ∷ flags) zero h other = refl
is_live (false ∷ flags) zero h other = absurd (other refl)
is_live (f ∷ flags) (suc a) h other = is_live flags a (omega (arith, h)) other

-- one more is live, and all else as it was
pub more_keeps : (flags : List Bool) (b : ℕ) → slice_get flags b ≡ Some false → slice_get (flags ++ true ∷ []) b ≡ Some false
more_keeps [] b e = absurd (cc)
more_keeps (f ∷ flags) zero e = e
more_keeps (f ∷ flags) (suc b) e = more_keeps flags b e

pub more_only : (flags : List Bool) (b : ℕ) → slice_get (flags ++ true ∷ []) b ≡ Some false → slice_get flags b ≡ Some false
more_only [] zero e = absurd (cc)
more_only [] (suc b) e = absurd (cc)
more_only (f ∷ flags) zero e = e
more_only (f ∷ flags) (suc b) e = more_only flags b e
