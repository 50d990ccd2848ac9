-- How many locals are in parts of a list of runs.
use Rattle.std.proofs.Common.{◌≡◌, ℕ, ◌+◌, ◌<◌, ◌≤◌, List, [], ◌∷◌, ◌++◌, length, drop, get_or, refl, ap, arith}
use Rattle.std.proofs.lemmas.List.{drop_more, drop_all}
use Rattle.w_syntax.specs.Locals.{total}
use Rattle.w_syntax.specs.declared.locals.LocalRun.{LocalRun}

-- no runs
pub total_none : total [] ≡ 0
unfolding total
total_none = refl

-- a first run
pub total_first : (m : LocalRun) (ms : List LocalRun) → total (m ∷ ms) ≡ m.count + total ms
unfolding total
total_first m ms = refl

-- a last run
pub total_last : (ls : List LocalRun) (l : LocalRun) → total (ls ++ l ∷ []) ≡ total ls + l.count
unfolding total
total_last [] l = omega arith
total_last (k ∷ ls) l = omega (arith, total_last ls l)

-- the runs from an index on
pub total_more : (ls : List LocalRun) (i : ℕ) (d : LocalRun) → i < length ls → total (drop i ls) ≡ (get_or ls i d).count + total (drop (i + 1) ls)
unfolding total
total_more ls i d h = ap total (drop_more ls i d h)

-- behind the last run there are none
pub total_past : (ls : List LocalRun) (i : ℕ) → length ls ≤ i → total (drop i ls) ≡ 0
unfolding total
total_past ls i h = ap total (drop_all i ls h)
