-- Runs of locals, whose types are shifted: which are alike stays, and so what is joined.
use Rattle.std.proofs.Common.{◌≡◌, ℕ, ◌+◌, Bool, true, false, List, [], ◌∷◌, map, Some, None, refl, ap, ◌∙◌, arith}
use Rattle.std.specs.Prelude.{cond, not, ◌&&◌, nat_eq}
use Rattle.std.proofs.lemmas.Bool.Decides.{nat_tests}
use Rattle.w_types.specs.declared.types.HeapType.{HeapType}
use Rattle.w_types.specs.declared.types.HeapType.TheVariants as heap
use Rattle.w_types.specs.declared.types.ValType.{ValType}
use Rattle.w_types.specs.declared.types.ValType.TheVariants as val
use Rattle.w_syntax.specs.declared.locals.LocalRun.{LocalRun}
use Rattle.w_syntax.specs.Locals.{same_heap, same_kind, join, join_all, joined, locals_of_runs}
use Rattle.w_link.specs.Shifted.{heap_shifted, type_shifted}
use Rattle.w_link.specs.Resolved.{run_shifted}

same_index : (n x y : ℕ) → nat_eq (n + x) (n + y) ≡ nat_eq x y
same_index n x y = grind (arith, nat_tests)

heaps_alike : (n : ℕ) (h k : HeapType) → same_heap (heap_shifted n h) (heap_shifted n k) ≡ same_heap h k
heaps_alike n heap.Func heap.Func = refl
heaps_alike n heap.Func heap.NoFunc = refl
heaps_alike n heap.Func heap.Cont = refl
heaps_alike n heap.Func heap.NoCont = refl
heaps_alike n heap.Func (heap.Index y) = refl
heaps_alike n heap.NoFunc heap.Func = refl
heaps_alike n heap.NoFunc heap.NoFunc = refl
heaps_alike n heap.NoFunc heap.Cont = refl
heaps_alike n heap.NoFunc heap.NoCont = refl
heaps_alike n heap.NoFunc (heap.Index y) = refl
heaps_alike n heap.Cont heap.Func = refl
heaps_alike n heap.Cont heap.NoFunc = refl
heaps_alike n heap.Cont heap.Cont = refl
heaps_alike n heap.Cont heap.NoCont = refl
heaps_alike n heap.Cont (heap.Index y) = refl
heaps_alike n heap.NoCont heap.Func = refl
heaps_alike n heap.NoCont heap.NoFunc = refl
heaps_alike n heap.NoCont heap.Cont = refl
heaps_alike n heap.NoCont heap.NoCont = refl
heaps_alike n heap.NoCont (heap.Index y) = refl
heaps_alike n (heap.Index x) heap.Func = refl
heaps_alike n (heap.Index x) heap.NoFunc = refl
heaps_alike n (heap.Index x) heap.Cont = refl
heaps_alike n (heap.Index x) heap.NoCont = refl
heaps_alike n (heap.Index x) (heap.Index y) = same_index n x y

-- types are alike where they were
kinds_alike : (n : ℕ) (t u : ValType) → same_kind (type_shifted n t) (type_shifted n u) ≡ same_kind t u
kinds_alike n val.I32 val.I32 = refl
kinds_alike n val.I32 val.I64 = refl
kinds_alike n val.I32 (val.Ref s) = refl
kinds_alike n val.I64 val.I32 = refl
kinds_alike n val.I64 val.I64 = refl
kinds_alike n val.I64 (val.Ref s) = refl
kinds_alike n (val.Ref r) val.I32 = refl
kinds_alike n (val.Ref r) val.I64 = refl
kinds_alike n (val.Ref r) (val.Ref s) = ap (λ b. cond r.nullable s.nullable (not s.nullable) && b) (heaps_alike n r.heap s.heap)

map_two : {A B : Type 0} (f : A → B) (u v : Bool) (a b c : List A) → cond u (map f a) (cond v (map f b) (map f c)) ≡ map f (cond u a (cond v b c))
map_two f true v a b c = refl
map_two f false true a b c = refl
map_two f false false a b c = refl

join_shifted : (n : ℕ) (l : LocalRun) (ms : List LocalRun) → join (run_shifted n l) (map (run_shifted n) ms) ≡ map (run_shifted n) (join l ms)
unfolding join
join_shifted n l [] = map_two (run_shifted n) (nat_eq l.count 0) true [] (l ∷ []) []
join_shifted n l (m ∷ ms) =
    rw (kinds_alike n l.kind m.kind)
    (map_two (run_shifted n) (nat_eq l.count 0) (same_kind l.kind m.kind) (m ∷ ms) (record { count = l.count + m.count; kind = m.kind } ∷ ms) (l ∷ m ∷ ms))

joined_shifted : (n : ℕ) (ls : List LocalRun) → joined (map (run_shifted n) ls) ≡ map (run_shifted n) (joined ls)
unfolding join_all
joined_shifted n [] = refl
joined_shifted n (l ∷ ls) = ap (join (run_shifted n l)) (joined_shifted n ls) ∙ join_shifted n l (joined ls)

some_is : (b : Bool) (xs ls : List LocalRun) → Some ls ≡ cond b (Some xs) None → ls ≡ xs
some_is true xs ls e = cc
some_is false xs ls e = absurd (let no : ⊥ = cc in no)

-- what is kept of joined runs, shifted
pub runs_kept : (n : ℕ) (rs ls : List LocalRun) → joined rs ≡ rs → Some ls ≡ locals_of_runs (map (run_shifted n) rs) → ls ≡ map (run_shifted n) rs
runs_kept n rs ls done e = some_is _ (joined (map (run_shifted n) rs)) ls e ∙ joined_shifted n rs ∙ ap (map (run_shifted n)) done
