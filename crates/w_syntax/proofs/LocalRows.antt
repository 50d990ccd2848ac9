-- What the tree keeps of some runs of locals, computed by the definition.
use Rattle.std.proofs.Common.{◌≡◌, ℕ, [], ◌∷◌, Some, None, refl}
use Rattle.w_types.specs.declared.types.ValType.{ValType}
use Rattle.w_types.specs.declared.types.ValType.TheVariants as val
use Rattle.w_syntax.specs.declared.locals.LocalRun.{LocalRun}
use Rattle.w_syntax.specs.Locals.{joined, join, join_all, total, locals_of_runs}

-- so many locals of a type
abbrev run : ℕ → ValType → LocalRun
run n t = record { count = n; kind = t }

-- runs of none are dropped, wherever they stand, and neighbours of one type are joined
neighbours_are_joined :
    joined (run 0 val.I64 ∷ run 1 val.I32 ∷ run 0 val.I64 ∷ run 2 val.I32 ∷ run 4 val.I64 ∷ run 1 val.I32 ∷ run 0 val.I32 ∷ [])
    ≡ run 3 val.I32 ∷ run 4 val.I64 ∷ run 1 val.I32 ∷ []
unfolding join join_all
neighbours_are_joined = refl

nothing_is_joined : joined [] ≡ []
unfolding join_all
nothing_is_joined = refl

-- there are fewer than 2^32
most_are_kept : locals_of_runs (run 4294967294 val.I32 ∷ run 1 val.I64 ∷ []) ≡ Some (run 4294967294 val.I32 ∷ run 1 val.I64 ∷ [])
unfolding join join_all total
most_are_kept = refl

more_are_not : locals_of_runs (run 4294967295 val.I32 ∷ run 1 val.I64 ∷ []) ≡ None
unfolding join join_all total
more_are_not = refl
