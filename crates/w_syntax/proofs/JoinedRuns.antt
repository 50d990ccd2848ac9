-- One run put before others that are joined, by its cases, and runs joined from the last to the first.
use Rattle.std.proofs.Common.{◌≡◌, ℕ, ◌+◌, true, false, inl, inr, List, [], ◌∷◌, ◌++◌, reverse, refl, ap, eq-eqb}
use Rattle.std.specs.Prelude.{nat_eq}
use Rattle.std.proofs.lemmas.Bool.Decides.{eqb_tells}
use Rattle.std.proofs.lemmas.List.{reverse-append}
use Rattle.w_syntax.specs.Locals.{join, join_all, same_kind}
use Rattle.w_syntax.specs.declared.locals.LocalRun.{LocalRun}

-- the last run stands first in the reverse
pub rev_last : (ns : List LocalRun) (x : LocalRun) → reverse (ns ++ x ∷ []) ≡ x ∷ reverse ns
rev_last ns x = reverse-append ns (x ∷ [])

-- the test of none, where there are none
none_is : (n : ℕ) → n ≡ 0 → nat_eq n 0 ≡ true
none_is n e = eq-eqb n 0 e

-- and where there are some
some_is : (n : ℕ) → (n ≡ 0 → ⊥) → nat_eq n 0 ≡ false
some_is n h = elim (eqb_tells n 0) [ inl p ↦ absurd (h p.1) | inr p ↦ p.0 ]

-- a run of none is dropped
pub join_none : (l : LocalRun) (ms : List LocalRun) → l.count ≡ 0 → ms ≡ join l ms
unfolding join
join_none l [] e = rw (none_is l.count e) refl
join_none l (m ∷ ms) e = rw (none_is l.count e) refl

-- a run before no others
pub join_first : (l : LocalRun) → (l.count ≡ 0 → ⊥) → l ∷ [] ≡ join l []
unfolding join
join_first l h = rw (some_is l.count h) refl

-- a run before one of its type
pub join_same : (l m : LocalRun) (ms : List LocalRun) → (l.count ≡ 0 → ⊥) → same_kind l.kind m.kind ≡ true → record { count = l.count + m.count; kind = m.kind } ∷ ms ≡ join l (m ∷ ms)
unfolding join
join_same l m ms h e = rw (some_is l.count h, e) refl

-- a run before one of another type
pub join_other : (l m : LocalRun) (ms : List LocalRun) → (l.count ≡ 0 → ⊥) → same_kind l.kind m.kind ≡ false → l ∷ m ∷ ms ≡ join l (m ∷ ms)
unfolding join
join_other l m ms h e = rw (some_is l.count h, e) refl

-- of runs that wait, the last is joined next
pub join_last : (ls : List LocalRun) (l : LocalRun) (acc : List LocalRun) → join_all (ls ++ l ∷ []) acc ≡ join_all ls (join l acc)
unfolding join_all
join_last [] l acc = refl
join_last (k ∷ ls) l acc = ap (join k) (join_last ls l acc)

-- none wait
pub join_done : (acc : List LocalRun) → join_all [] acc ≡ acc
unfolding join_all
join_done acc = refl
