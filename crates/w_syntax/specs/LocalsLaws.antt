-- What joining does to locals: nothing is left to join, as many locals stand there, and in no more runs.
use Rattle.std.proofs.Common.{◌≡◌, ℕ, suc, ◌+◌, ◌≤◌, Bool, true, false, inl, inr, List, [], ◌∷◌, length, refl, sym, ap, ◌∙◌, arith, eq-eqb}
use Rattle.std.specs.Prelude.{cond, nat_eq}
use Rattle.std.proofs.lemmas.Bool.Decides.{eqb_tells}
use Rattle.w_syntax.specs.declared.locals.LocalRun.{LocalRun}
use Rattle.w_syntax.specs.Locals.{same_kind, join, join_all, joined, total}

-- no runs of none, no neighbours alike
abbrev pub IsJoined : List LocalRun → Type 0
IsJoined [] = Unit {0}
IsJoined (l ∷ []) = nat_eq l.count 0 ≡ false
IsJoined (l ∷ m ∷ ms) = (nat_eq l.count 0 ≡ false) × (same_kind l.kind m.kind ≡ false) × IsJoined (m ∷ ms)

-- a run before another and more: whether it is of none, and whether the two are alike
abbrev two_joined : Bool → Bool → LocalRun → LocalRun → List LocalRun → List LocalRun
two_joined u v l m ms = cond u (m ∷ ms) (cond v (record { count = l.count + m.count; kind = m.kind } ∷ ms) (l ∷ m ∷ ms))

-- ## Nothing is left to join

-- with some more there are still some
not_none : (m n : ℕ) → nat_eq m 0 ≡ false → nat_eq (n + m) 0 ≡ false
not_none m n h = elim (eqb_tells (n + m) 0) [ inl p ↦ let z : m ≡ 0 = omega (arith, p.1) in let y : true ≡ false = sym (eq-eqb m 0 z) ∙ h in absurd cc | inr p ↦ p.0 ]

-- the first run may grow
joined_again : (l m : LocalRun) (ms : List LocalRun) → IsJoined (m ∷ ms) → IsJoined (record { count = l.count + m.count; kind = m.kind } ∷ ms)
joined_again l m [] h = not_none m.count l.count h
joined_again l m (k ∷ ms) h = (not_none m.count l.count h.0, h.1, h.2)

two_are_joined : (u v : Bool) (l m : LocalRun) (ms : List LocalRun) → nat_eq l.count 0 ≡ u → same_kind l.kind m.kind ≡ v → IsJoined (m ∷ ms) → IsJoined (two_joined u v l m ms)
two_are_joined true v l m ms e f h = h
two_are_joined false true l m ms e f h = joined_again l m ms h
two_are_joined false false l m ms e f h = (e, f, h)

one_is_joined : (u : Bool) (l : LocalRun) → nat_eq l.count 0 ≡ u → IsJoined (cond u [] (l ∷ []))
one_is_joined true l e = tt
one_is_joined false l e = e

-- one run before joined ones
join_joined : (l : LocalRun) (ms : List LocalRun) → IsJoined ms → IsJoined (join l ms)
unfolding join
join_joined l [] h = one_is_joined (nat_eq l.count 0) l refl
join_joined l (m ∷ ms) h = two_are_joined (nat_eq l.count 0) (same_kind l.kind m.kind) l m ms refl refl h

-- what joining makes is joined
pub all_joined : (ls : List LocalRun) → IsJoined (joined ls)
unfolding join_all
all_joined [] = tt
all_joined (l ∷ ls) = join_joined l (joined ls) (all_joined ls)

-- and joining leaves what is joined
pub joined_twice : (ms : List LocalRun) → IsJoined ms → joined ms ≡ ms
unfolding join_all join
joined_twice [] h = refl
joined_twice (l ∷ []) h = rw h refl
joined_twice (l ∷ m ∷ ms) h = ap (join l) (joined_twice (m ∷ ms) h.2) ∙ rw (h.0, h.1) refl

-- ## As many locals

two_total : (u v : Bool) (l m : LocalRun) (ms : List LocalRun) → nat_eq l.count 0 ≡ u → total (two_joined u v l m ms) ≡ l.count + total (m ∷ ms)
unfolding total
two_total true v l m ms e = elim (eqb_tells l.count 0) [ inl p ↦ omega (arith, p.1) | inr p ↦ let z : true ≡ false = sym e ∙ p.0 in absurd cc ]
two_total false true l m ms e = omega arith
two_total false false l m ms e = omega arith

one_total : (u : Bool) (l : LocalRun) → nat_eq l.count 0 ≡ u → total (cond u [] (l ∷ [])) ≡ l.count + 0
unfolding total
one_total true l e = elim (eqb_tells l.count 0) [ inl p ↦ omega (arith, p.1) | inr p ↦ let z : true ≡ false = sym e ∙ p.0 in absurd cc ]
one_total false l e = refl

-- a run that is joined to others adds its locals
pub total_join : (l : LocalRun) (ms : List LocalRun) → total (join l ms) ≡ l.count + total ms
unfolding join total
total_join l [] = one_total (nat_eq l.count 0) l refl
total_join l (m ∷ ms) = two_total (nat_eq l.count 0) (same_kind l.kind m.kind) l m ms refl

-- joining keeps how many locals there are
pub total_joined : (ls : List LocalRun) → total (joined ls) ≡ total ls
unfolding join_all total
total_joined [] = refl
total_joined (l ∷ ls) = total_join l (joined ls) ∙ ap (λ (n : ℕ). l.count + n) (total_joined ls)

-- ## No more runs

two_few : (u v : Bool) (l m : LocalRun) (ms : List LocalRun) → length (two_joined u v l m ms) ≤ suc (length (m ∷ ms))
two_few true v l m ms = omega arith
two_few false true l m ms = omega arith
two_few false false l m ms = omega arith

one_few : (u : Bool) (l : LocalRun) → length (cond u [] (l ∷ [])) ≤ 1
one_few true l = omega arith
one_few false l = omega arith

-- a run that is joined to others makes at most one more
join_few : (l : LocalRun) (ms : List LocalRun) → length (join l ms) ≤ suc (length ms)
unfolding join
join_few l [] = omega (arith, one_few (nat_eq l.count 0) l)
join_few l (m ∷ ms) = two_few (nat_eq l.count 0) (same_kind l.kind m.kind) l m ms

-- joining makes no more runs
pub few_joined : (ls : List LocalRun) → length (joined ls) ≤ length ls
unfolding join_all
few_joined [] = omega arith
few_joined (l ∷ ls) = omega (arith, join_few l (joined ls), few_joined ls)
