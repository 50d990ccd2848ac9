-- Types that are made once stand at their places.
use Rattle.std.proofs.Common.{◌≡◌, ◌⊎◌, inl, inr, ℕ, zero, suc, ◌<◌, ◌≤◌, Bool, true, false, not, cond, ◌&&◌, List, [], ◌∷◌, ◌++◌, length, Some, if◌then◌else◌, refl, sym, ap, ◌∙◌, subst, arith, length-append}
use Rattle.std.specs.Prelude.{nat_lt, slice_get}
use Rattle.std.proofs.lemmas.Bool.{eqb-true, eq-eqb, ltb-true}
use Rattle.w_types.specs.declared.types.HeapType.{HeapType}
use Rattle.w_types.specs.declared.types.HeapType.TheVariants as heap
use Rattle.w_types.specs.declared.types.ValType.{ValType}
use Rattle.w_types.specs.declared.types.ValType.TheVariants as val
use Rattle.w_types.specs.declared.types.CompType.{CompType}
use Rattle.w_types.specs.declared.types.CompType.TheVariants.{Func, Cont}
use Rattle.lists.proofs.Tests.{each_of}
use Rattle.w_syntax.specs.Locals.{same_heap, same_kind}
use Rattle.w_rules.proofs.JoinedTypes.{one_kind}
use Rattle.s_index.specs.Types.{same_kinds, same_type, place, with_type, with_types}

-- ## Types that are told alike are one

one_kinds : (ts us : List ValType) → same_kinds ts us ≡ true → ts ≡ us
one_kinds [] [] e = refl
one_kinds [] (u ∷ us) e = absurd (cc)
one_kinds (t ∷ ts) [] e = absurd (cc)
one_kinds (t ∷ ts) (u ∷ us) e =
    let both = each_of (same_kind t u) (same_kinds ts us) e in
    ap (λ (v : ValType). v ∷ ts) (one_kind t u both.0) ∙ ap (λ (vs : List ValType). u ∷ vs) (one_kinds ts us both.1)

-- the same by the test is the same
pub one_type : (t u : CompType) → same_type t u ≡ true → t ≡ u
one_type (Func a) (Func b) e =
    let both = each_of (same_kinds a.params b.params) (same_kinds a.results b.results) e in
    ap (λ (ts : List ValType). Func (record { params = ts; results = a.results })) (one_kinds a.params b.params both.0)
    ∙ ap (λ (ts : List ValType). Func (record { params = b.params; results = ts })) (one_kinds a.results b.results both.1)
one_type (Func a) (Cont y) e = absurd (cc)
one_type (Cont x) (Func b) e = absurd (cc)
one_type (Cont x) (Cont y) e = ap Cont (eqb-true x y e)

both_true : (a b : Bool) → a ≡ true → b ≡ true → (a && b) ≡ true
both_true a b e f = ap (λ (c : Bool). c && b) e ∙ f

heap_alike : (a : HeapType) → same_heap a a ≡ true
heap_alike heap.Func = refl
heap_alike heap.NoFunc = refl
heap_alike heap.Cont = refl
heap_alike heap.NoCont = refl
heap_alike (heap.Index x) = eq-eqb x x refl

nullability_alike : (n : Bool) → cond n n (not n) ≡ true
nullability_alike true = refl
nullability_alike false = refl

kind_alike : (t : ValType) → same_kind t t ≡ true
kind_alike val.I32 = refl
kind_alike val.I64 = refl
kind_alike (val.Ref r) = both_true (cond r.nullable r.nullable (not r.nullable)) (same_heap r.heap r.heap) (nullability_alike r.nullable) (heap_alike r.heap)

kinds_alike : (ts : List ValType) → same_kinds ts ts ≡ true
kinds_alike [] = refl
kinds_alike (t ∷ ts) = both_true (same_kind t t) (same_kinds ts ts) (kind_alike t) (kinds_alike ts)

-- each type is the same as itself
pub type_alike : (t : CompType) → same_type t t ≡ true
type_alike (Func a) = both_true (same_kinds a.params a.params) (same_kinds a.results a.results) (kinds_alike a.params) (kinds_alike a.results)
type_alike (Cont x) = eq-eqb x x refl

-- ## Places

-- the type is there
abbrev pub IsThere : CompType → List CompType → Type 0
IsThere t ts = place t ts < length ts

-- what has a place stands at it
pub stands : (t : CompType) (ts : List CompType) → IsThere t ts → slice_get ts (place t ts) ≡ Some t
stands t [] h = absurd (omega (arith, h))
stands t (u ∷ us) h = by (same_type u t) refl h (stands t us)
  where
    by : (b : Bool) → same_type u t ≡ b → (if b then 0 else suc (place t us)) < length (u ∷ us) → (place t us < length us → slice_get us (place t us) ≡ Some t)
        → slice_get (u ∷ us) (if b then 0 else suc (place t us)) ≡ Some t
    by true e l rest = ap Some (one_type u t e)
    by false e l rest = rest (omega (arith, l))

-- the first of a list is there
pub here : (t : CompType) (ts : List CompType) → IsThere t (t ∷ ts)
here t ts = subst (λ (b : Bool). (if b then 0 else suc (place t ts)) < suc (length ts)) (sym (type_alike t)) (omega arith)

-- and what is there behind it
pub behind : (t u : CompType) (us : List CompType) → IsThere t us → IsThere t (u ∷ us)
behind t u us h = by (same_type u t)
  where
    by : (b : Bool) → (if b then 0 else suc (place t us)) < suc (length us)
    by true = omega arith
    by false = omega (arith, h)

-- what is there in a list that begins with another type is there behind it
pub there_cases : (t u : CompType) (us : List CompType) → IsThere t (u ∷ us) → (u ≡ t) ⊎ IsThere t us
there_cases t u us h = by (same_type u t) refl h
  where
    by : (b : Bool) → same_type u t ≡ b → (if b then 0 else suc (place t us)) < suc (length us) → (u ≡ t) ⊎ (place t us < length us)
    by true e l = inl (one_type u t e)
    by false e l = inr (omega (arith, l))

-- so in a list of one it is that one
pub there_only : (t u : CompType) → IsThere t (u ∷ []) → u ≡ t
there_only t u h = elim (there_cases t u [] h) [ inl e ↦ e | inr none ↦ absurd (omega (arith, none)) ]

-- what is there stays at its place where others follow
pub place_stays : (t : CompType) (ts us : List CompType) → IsThere t ts → place t (ts ++ us) ≡ place t ts
place_stays t [] us h = absurd (omega (arith, h))
place_stays t (u ∷ ts) us h = by (same_type u t) h (place_stays t ts us)
  where
    by : (b : Bool) → (if b then 0 else suc (place t ts)) < suc (length ts) → (place t ts < length ts → place t (ts ++ us) ≡ place t ts)
        → (if b then 0 else suc (place t (ts ++ us))) ≡ (if b then 0 else suc (place t ts))
    by true l rest = refl
    by false l rest = ap suc (rest (omega (arith, l)))

pub there_left : (t : CompType) (ts us : List CompType) → IsThere t ts → IsThere t (ts ++ us)
there_left t ts us h = let p = place_stays t ts us h in let l = length-append ts us in omega (arith, p, l, h)

pub there_right : (t : CompType) (ts us : List CompType) → IsThere t us → IsThere t (ts ++ us)
there_right t [] us h = h
there_right t (u ∷ ts) us h = behind t u (ts ++ us) (there_right t ts us h)

pub there_either : (t : CompType) (ts us : List CompType) → IsThere t (ts ++ us) → IsThere t ts ⊎ IsThere t us
there_either t [] us h = inr h
there_either t (u ∷ ts) us h = elim (there_cases t u (ts ++ us) h) [
  | inl e ↦ inl (subst (λ (v : CompType). IsThere t (v ∷ ts)) (sym e) (here t ts))
  | inr r ↦ elim (there_either t ts us r) [ inl l ↦ inl (behind t u ts l) | inr m ↦ inr m ]
]

-- what stands somewhere is there
pub there_at : (t : CompType) (ts : List CompType) (i : ℕ) → slice_get ts i ≡ Some t → IsThere t ts
there_at t [] i e = absurd (cc)
there_at t (u ∷ us) zero e = let same : u ≡ t = cc in subst (λ (v : CompType). IsThere t (v ∷ us)) (sym same) (here t us)
there_at t (u ∷ us) (suc i) e = behind t u us (there_at t us i e)

-- ## Types that are added

one_keeps : (t u : CompType) (ts : List CompType) (b : Bool) → IsThere t ts → (place t (if b then ts else (ts ++ u ∷ [])) ≡ place t ts) × IsThere t (if b then ts else (ts ++ u ∷ []))
one_keeps t u ts true h = (refl, h)
one_keeps t u ts false h = (place_stays t ts (u ∷ []) h, there_left t ts (u ∷ []) h)

-- what is there keeps its place where more types are added
pub keeps : (t : CompType) (ts us : List CompType) → IsThere t ts → (place t (with_types ts us) ≡ place t ts) × IsThere t (with_types ts us)
keeps t ts [] h = (refl, h)
keeps t ts (u ∷ us) h =
    let one = one_keeps t u ts (nat_lt (place u ts) (length ts)) h in
    let rest = keeps t (with_type ts u) us one.1 in
    (rest.0 ∙ one.0, rest.1)

one_added : (u : CompType) (ts : List CompType) → IsThere u (with_type ts u)
one_added u ts = by (nat_lt (place u ts) (length ts)) refl
  where
    by : (b : Bool) → nat_lt (place u ts) (length ts) ≡ b → IsThere u (if b then ts else (ts ++ u ∷ []))
    by true e = ltb-true (place u ts) (length ts) e
    by false e = there_right u ts (u ∷ []) (here u [])

-- what is added is there
pub adds : (t : CompType) (ts us : List CompType) → IsThere t us → IsThere t (with_types ts us)
adds t ts [] h = absurd (omega (arith, h))
adds t ts (u ∷ us) h = elim (there_cases t u us h) [
  | inl e ↦ (keeps t (with_type ts u) us (subst (λ (v : CompType). IsThere v (with_type ts u)) e (one_added u ts))).1
  | inr r ↦ adds t (with_type ts u) us r
]

one_made : (t u : CompType) (ts : List CompType) (b : Bool) → IsThere t (if b then ts else (ts ++ u ∷ [])) → IsThere t ts ⊎ (u ≡ t)
one_made t u ts true h = inl h
one_made t u ts false h = elim (there_either t ts (u ∷ []) h) [
  | inl l ↦ inl l
  | inr r ↦ inr (there_only t u r)
]

-- and nothing else is
pub made_of : (t : CompType) (ts us : List CompType) → IsThere t (with_types ts us) → IsThere t ts ⊎ IsThere t us
made_of t ts [] h = inl h
made_of t ts (u ∷ us) h = elim (made_of t (with_type ts u) us h) [
  | inl l ↦ elim (one_made t u ts (nat_lt (place u ts) (length ts)) l) [ inl a ↦ inl a | inr e ↦ inr (subst (λ (v : CompType). IsThere t (v ∷ us)) (sym e) (here t us)) ]
  | inr r ↦ inr (behind t u us r)
]

-- there are no fewer then
pub more_types : (ts us : List CompType) → length ts ≤ length (with_types ts us)
more_types ts [] = omega arith
more_types ts (u ∷ us) =
    let q = more_types (with_type ts u) us in
    let l = one_more (nat_lt (place u ts) (length ts)) in
    omega (arith, q, l)
  where
    one_more : (b : Bool) → length ts ≤ length (if b then ts else (ts ++ u ∷ []))
    one_more true = omega arith
    one_more false = let l = length-append ts (u ∷ []) in omega (arith, l)
