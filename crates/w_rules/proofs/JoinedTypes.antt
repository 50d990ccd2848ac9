-- Joining runs of locals keeps the type of each local.
use Rattle.std.proofs.Common.{◌≡◌, ◌+◌, Bool, true, false, List, [], ◌∷◌, ◌++◌, replicate, refl, sym, ap, ◌∙◌, append_assoc}
use Rattle.std.specs.Prelude.{cond, not, nat_eq}
use Rattle.std.proofs.lemmas.Bool.{eqb-true}
use Rattle.std.proofs.lemmas.List.{replicate-append-replicate}
use Rattle.w_types.specs.declared.types.HeapType.{HeapType}
use Rattle.w_types.specs.declared.types.HeapType.TheVariants as heap
use Rattle.w_types.specs.declared.types.ValType.{ValType}
use Rattle.w_types.specs.declared.types.ValType.TheVariants as val
use Rattle.lists.proofs.Tests.{each_of}
use Rattle.w_syntax.specs.declared.locals.LocalRun.{LocalRun}
use Rattle.w_syntax.specs.Locals.{same_heap, same_kind, join, join_all, joined}
use Rattle.w_rules.specs.Bodies.{types_of_runs}

-- types that are alike by the test are one

one_heap : (a b : HeapType) → same_heap a b ≡ true → a ≡ b
one_heap heap.Func heap.Func e = refl
one_heap heap.NoFunc heap.NoFunc e = refl
one_heap heap.Cont heap.Cont e = refl
one_heap heap.NoCont heap.NoCont e = refl
one_heap (heap.Index x) (heap.Index y) e = ap heap.Index (eqb-true x y e)
one_heap _ _ e = absurd (cc)

one_nullability : (m n : Bool) → cond m n (not n) ≡ true → m ≡ n
one_nullability true n e = sym e
one_nullability false true e = absurd (cc)
one_nullability false false e = refl

pub one_kind : (t u : ValType) → same_kind t u ≡ true → t ≡ u
one_kind val.I32 val.I32 e = refl
one_kind val.I64 val.I64 e = refl
one_kind (val.Ref r) (val.Ref s) e =
    let both = each_of (cond r.nullable s.nullable (not s.nullable)) (same_heap r.heap s.heap) e in
    ap (λ (n : Bool). val.Ref (record { nullable = n; heap = r.heap })) (one_nullability r.nullable s.nullable both.0)
    ∙ ap (λ (h : HeapType). val.Ref (record { nullable = s.nullable; heap = h })) (one_heap r.heap s.heap both.1)
one_kind _ _ e = absurd (cc)

-- one run before another and more: whether it is of none, and whether the two are alike
types_of_two : (u v : Bool) (l m : LocalRun) (ms : List LocalRun) → nat_eq l.count 0 ≡ u → same_kind l.kind m.kind ≡ v
    → types_of_runs (cond u (m ∷ ms) (cond v (record { count = l.count + m.count; kind = m.kind } ∷ ms) (l ∷ m ∷ ms))) ≡ replicate l.count l.kind ++ types_of_runs (m ∷ ms)
types_of_two true v l m ms e f = let none : l.count ≡ 0 = eqb-true l.count 0 e in rw none refl
types_of_two false true l m ms e f =
    let rest = types_of_runs ms in
    ap (λ (ts : List ValType). ts ++ rest) (sym (replicate-append-replicate l.count m.count m.kind))
    ∙ append_assoc (replicate l.count m.kind) (replicate m.count m.kind) rest
    ∙ ap (λ (t : ValType). replicate l.count t ++ (replicate m.count m.kind ++ rest)) (sym (one_kind l.kind m.kind f))
types_of_two false false l m ms e f = refl

types_of_one : (u : Bool) (l : LocalRun) → nat_eq l.count 0 ≡ u → types_of_runs (cond u [] (l ∷ [])) ≡ replicate l.count l.kind ++ []
types_of_one true l e = let none : l.count ≡ 0 = eqb-true l.count 0 e in rw none refl
types_of_one false l e = refl

-- a run that is joined to others adds its locals in front
types_of-join : (l : LocalRun) (ms : List LocalRun) → types_of_runs (join l ms) ≡ replicate l.count l.kind ++ types_of_runs ms
unfolding join
types_of-join l [] = types_of_one (nat_eq l.count 0) l refl
types_of-join l (m ∷ ms) = types_of_two (nat_eq l.count 0) (same_kind l.kind m.kind) l m ms refl refl

-- joining keeps the types
pub types_of-joined : (ls : List LocalRun) → types_of_runs (joined ls) ≡ types_of_runs ls
unfolding join_all
types_of-joined [] = refl
types_of-joined (l ∷ ls) = types_of-join l (joined ls) ∙ ap (λ (ts : List ValType). replicate l.count l.kind ++ ts) (types_of-joined ls)
