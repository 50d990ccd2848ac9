-- One more run of locals.
use Rattle.std.proofs.Common.{◌≡◌, ℕ, zero, suc, ◌≤◌, true, List, [], ◌∷◌, ◌++◌, length, ◌-◌, slice_get, Some, None, refl, ap, arith}
use Rattle.std.specs.Prelude.{not}
use Rattle.w_syntax.specs.declared.locals.LocalRun.{LocalRun}
use Rattle.w_syntax.specs.Locals.{same_kind, join_all, total}
use Rattle.w_text.specs.Machine.{unlike_last, may_follow}
use Rattle.w_text.specs.Parts.{LocalsFit}
use Rattle.w_text.proofs.Told.{few_more}
use Rattle.w_text.proofs.Whole.{to_few, from_few}

pub one_more : (ls : List LocalRun) (l : LocalRun) → LocalsFit ls → may_follow ls l ≡ true → LocalsFit (ls ++ l ∷ [])
one_more ls l f e = from_few (ls ++ l ∷ []) (few_more ls l (to_few ls f) e)

-- no runs are few
pub none_yet : LocalsFit []
unfolding total join_all
none_yet = record { alone = refl; few = omega arith }

pub none_total : 0 ≡ total []
unfolding total
none_total = refl

-- a run is of another type than the last of these, if there is one
some_before : (ls : List LocalRun) (k : ℕ) → None ≡ slice_get ls k → length ls ≤ k
some_before [] k e = omega arith
some_before (m ∷ ls) zero e = absurd cc
some_before (m ∷ ls) (suc k) e = omega (arith, some_before ls k e)

pub unlike_none : (ls : List LocalRun) (l : LocalRun) → None ≡ slice_get ls (length ls - 1) → true ≡ unlike_last ls l
unfolding unlike_last
unlike_none [] l e = refl
unlike_none (m ∷ ls) l e = absurd (omega (arith, some_before (m ∷ ls) (length (m ∷ ls) - 1) e))

unlike_at : (ls : List LocalRun) (l m : LocalRun) (k : ℕ) → suc k ≡ length ls → Some m ≡ slice_get ls k → not (same_kind m.kind l.kind) ≡ unlike_last ls l
unfolding unlike_last
unlike_at [] l m k e h = absurd (omega (arith, e))
unlike_at (x ∷ []) l m zero e h = let s : m ≡ x = cc in ap (λ (z : LocalRun). not (same_kind z.kind l.kind)) s
unlike_at (x ∷ []) l m (suc k) e h = absurd (omega (arith, e))
unlike_at (x ∷ y ∷ ls) l m zero e h = absurd (omega (arith, e))
unlike_at (x ∷ y ∷ ls) l m (suc k) e h = unlike_at (y ∷ ls) l m k (omega (arith, e)) h

pub unlike_some : (ls : List LocalRun) (l m : LocalRun) → Some m ≡ slice_get ls (length ls - 1) → not (same_kind m.kind l.kind) ≡ unlike_last ls l
unlike_some [] l m e = absurd cc
unlike_some (x ∷ ls) l m e = unlike_at (x ∷ ls) l m (length (x ∷ ls) - 1) (omega arith) e
