-- What the format of locals gives: they are few, joined, and in their ranges.
use Rattle.std.proofs.Common.{◌+◌, ◌^◌, ◌<◌, cond, List, [], ◌∷◌, arith}
use Rattle.std.specs.Prelude.{nat_eq}
use Rattle.std.proofs.lemmas.Bool.{ltb-true, cond_both}
use Rattle.w_syntax.specs.declared.locals.LocalRun.{LocalRun}
use Rattle.w_syntax.specs.Locals.{same_kind, join, join_all, joined, total}
use Rattle.w_syntax.specs.LocalsLaws.{all_joined, joined_twice, total_joined}
use Rattle.w_syntax.specs.Fields.{run, locals}
use Rattle.w_words.specs.Words.{Each}
use Rattle.w_words.specs.Types.{ValFits}
use Rattle.w_text.specs.Parts.{LocalsFit}
use Rattle.w_spelled.proofs.Given.{Gives, weaker, of_any, of_image, of_pair, of_such, of_vec}
use Rattle.w_spelled.proofs.TypesGiven.{valtype_given}
use Rattle.w_spelled.proofs.FieldsFit.{LocalFits}

abbrev KindFits : LocalRun → Type 0
KindFits r = ValFits r.kind

-- a run keeps its type where it is joined to others
join_keeps : (l : LocalRun) (ms : List LocalRun) → KindFits l → Each KindFits ms → Each KindFits (join l ms)
unfolding join
join_keeps l [] f g = cond_both (nat_eq l.count 0) [] (l ∷ []) (Each KindFits) (λ e. tt) (λ e. (f, tt))
join_keeps l (m ∷ ms) f g =
    let grown : LocalRun = record { count = l.count + m.count; kind = m.kind } in
    cond_both (nat_eq l.count 0) (m ∷ ms) (cond (same_kind l.kind m.kind) (grown ∷ ms) (l ∷ m ∷ ms)) (Each KindFits) (λ e. g)
    (λ e. cond_both (same_kind l.kind m.kind) (grown ∷ ms) (l ∷ m ∷ ms) (Each KindFits) (λ h. g) (λ h. (f, g)))

joined_keep : (ls : List LocalRun) → Each KindFits ls → Each KindFits (joined ls)
unfolding join_all
joined_keep [] f = tt
joined_keep (l ∷ ls) f = join_keeps l (joined ls) f.0 (joined_keep ls f.1)

-- no run has more locals than all
counts_fit : (ls : List LocalRun) → total ls < 2 ^ 32 → Each KindFits ls → Each LocalFits ls
unfolding total
counts_fit [] lt f = tt
counts_fit (l ∷ ls) lt f = ((omega arith, f.0), counts_fit ls (omega arith) f.1)

-- what the tree keeps of runs
kept_fit : (ls : List LocalRun) → total ls < 2 ^ 32 → Each KindFits ls → LocalsFit (joined ls) × Each LocalFits (joined ls)
kept_fit ls lt f =
    let few : total (joined ls) < 2 ^ 32 = omega (arith, total_joined ls) in
    (record { alone = joined_twice (joined ls) (all_joined ls); few = few }, counts_fit (joined ls) few (joined_keep ls f))

run_given : Gives run KindFits
unfolding run
run_given = of_image (weaker (λ p h. h.1) (of_pair of_any valtype_given))

pub locals_given : Gives locals (λ ls. LocalsFit ls × Each LocalFits ls)
unfolding locals
locals_given = of_image (weaker (λ ls h. kept_fit ls (ltb-true (total ls) (2 ^ 32) h.1) h.0) (of_such (of_vec run_given)))
