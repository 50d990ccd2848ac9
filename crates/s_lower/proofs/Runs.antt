-- The runs of locals.
use Rattle.std.proofs.Common.{◌≡◌, ℕ, ◌+◌, ◌^◌, ◌≤◌, Bool, true, false, cond, List, [], ◌∷◌, ◌++◌, length, refl, sym, ap, subst, ◌∙◌, arith}
use Rattle.std.proofs.lemmas.Bool.Decides.{nat_tests}
use Rattle.std.specs.Prelude.{nat_lt, Option, Some, None, IsSome}
use Rattle.w_types.specs.declared.types.ValType.TheVariants.{I64}
use Rattle.w_syntax.specs.declared.locals.LocalRun.{LocalRun}
use Rattle.w_syntax.specs.Locals.{total, joined, locals_of_runs}
use Rattle.s_check.specs.Scopes.{Bound}
use Rattle.s_code.specs.Places.{run, name_runs}
use Rattle.s_index.specs.Limits.{number_limit}

total_runs : (bs : List Bound) (n : ℕ) → total (name_runs bs ++ run I64 n ∷ []) ≡ length bs + n
unfolding total
total_runs [] n = omega arith
total_runs (b ∷ bs) n = let q = total_runs bs n in omega (arith, q)

small : (b : Bool) (n : ℕ) → nat_lt n (2 ^ 32) ≡ b → n ≤ number_limit → b ≡ true
small true n e few = refl
small false n e few = absurd (grind (arith, nat_tests))

some_where : (ls : List LocalRun) (b : Bool) → b ≡ true → IsSome (cond b (Some (joined ls)) None)
some_where ls true e = refl
some_where ls false e = absurd (cc)

-- there are few enough
pub some_locals : (ls : List LocalRun) (o : Option (List LocalRun)) (bs : List Bound) (n : ℕ) → o ≡ locals_of_runs ls → ls ≡ name_runs bs ++ run I64 n ∷ [] → length bs + n ≤ number_limit → IsSome o
some_locals ls o bs n is runs few =
    let t : total ls ≡ length bs + n = ap (λ (l : List LocalRun). total l) runs ∙ total_runs bs n in
    let least : total ls ≤ number_limit = omega (arith, t, few) in
    subst (λ (p : Option (List LocalRun)). IsSome p) (sym is) (some_where ls (nat_lt (total ls) (2 ^ 32)) (small (nat_lt (total ls) (2 ^ 32)) (total ls) refl least))
