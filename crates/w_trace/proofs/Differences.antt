-- Two traces are one, or differ in one line first.
use Rattle.std.proofs.Common.{◌≡◌, ◌<◌, ℕ, zero, suc, inl, inr, List, [], ◌∷◌, ◌++◌, take, map, refl, sym, ap, ◌∙◌, arith}
use Rattle.std.specs.Prelude.{slice_get}
use Rattle.std.proofs.lemmas.Bool.{cases_lt}
use Rattle.w_trace.specs.declared.event.Event.{Event}
use Rattle.w_trace.specs.declared.line.Line.{Line}
use Rattle.w_trace.specs.declared.line.Line.TheVariants as line
use Rattle.w_trace.specs.declared.trace.Ending.{Ending}
use Rattle.w_trace.specs.declared.trace.Trace.{Trace}
use Rattle.w_trace.specs.Lines.{lines_of, DifferAt}

-- ## Lines tell a trace

abbrev with_end : List Event → ℕ → Ending → List Line
with_end es n end = map line.Event es ++ line.End n end ∷ []

made_of : List Event → ℕ → Ending → Trace
made_of es n end = record { events = es; taken = n; ending = end }

lines_same : (es fs : List Event) (n m : ℕ) (e f : Ending) → with_end es n e ≡ with_end fs m f → made_of es n e ≡ made_of fs m f
unfolding made_of
lines_same [] [] n m e f same = cc
lines_same [] (y ∷ fs) n m e f same = absurd cc
lines_same (x ∷ es) [] n m e f same = absurd cc
lines_same (x ∷ es) (y ∷ fs) n m e f same =
    let first : x ≡ y = cc in
    let rest : with_end es n e ≡ with_end fs m f = cc in
    let whole = lines_same es fs n m e f rest in
    ap (λ (t : Trace). record t { events = x ∷ t.events }) whole ∙ ap (λ (z : Event). let t : Trace = record { events = z ∷ fs; taken = m; ending = f } in t) first

-- traces with the same lines are one
pub lines_tell : (x y : Trace) → lines_of x ≡ lines_of y → x ≡ y
unfolding made_of
lines_tell x y same = lines_same x.events y.events x.taken y.taken x.ending y.ending same

-- ## The first difference

taken_get : {A : Type 0} (k l : ℕ) (xs : List A) → k < l → slice_get (take l xs) k ≡ slice_get xs k
taken_get k zero xs lt = absurd (omega (arith, lt))
taken_get k (suc l) [] lt = refl
taken_get zero (suc l) (x ∷ xs) lt = refl
taken_get (suc k) (suc l) (x ∷ xs) lt = taken_get k l xs (omega (arith, lt))

-- lists that agree up to l don't differ before
agree_before : {A : Type 0} (k l : ℕ) (xs ys : List A) → k < l → take l xs ≡ take l ys → slice_get xs k ≡ slice_get ys k
agree_before k l xs ys lt e = sym (taken_get k l xs lt) ∙ ap (λ (zs : List _). slice_get zs k) e ∙ taken_get k l ys lt

-- one line alone is the first
pub one_difference : (x y : Trace) (k l : ℕ) → DifferAt x y k → DifferAt x y l → k ≡ l
one_difference x y k l v w = elim (cases_lt k l) [
  | inl lt ↦ absurd (v.here (agree_before k l (lines_of x) (lines_of y) lt w.before))
  | inr ge ↦ elim (cases_lt l k) [ inl lt ↦ absurd (w.here (agree_before l k (lines_of x) (lines_of y) lt v.before)) | inr le ↦ omega arith ]
]

-- a trace doesn't differ from itself
pub no_difference : (x y : Trace) (l : ℕ) → x ≡ y → DifferAt x y l → ⊥
no_difference x y l e d = d.here (ap (λ (z : Trace). slice_get (lines_of z) l) e)

-- lists can't be neither one nor differ somewhere first
one_or_apart : {A : Type 0} (xs ys : List A) → ((l : ℕ) → take l xs ≡ take l ys → (slice_get xs l ≡ slice_get ys l → ⊥) → ⊥) → (xs ≡ ys → ⊥) → ⊥
one_or_apart [] [] apart other = other refl
one_or_apart [] (y ∷ ys) apart other = apart 0 refl (λ e. absurd cc)
one_or_apart (x ∷ xs) [] apart other = apart 0 refl (λ e. absurd cc)
one_or_apart (x ∷ xs) (y ∷ ys) apart other =
    apart 0 refl (λ e.
    let first : x ≡ y = cc in
    one_or_apart xs ys
    (λ l before here. apart (suc l) (ap (λ (zs : List _). x ∷ zs) before ∙ ap (λ (z : _). z ∷ take l ys) first) here)
    (λ rest. other (ap (λ (zs : List _). x ∷ zs) rest ∙ ap (λ (z : _). z ∷ ys) first)))

-- traces can't be neither one nor differ in some line first
pub one_or_differ : (x y : Trace) → ((l : ℕ) → DifferAt x y l → ⊥) → (x ≡ y → ⊥) → ⊥
one_or_differ x y apart other =
    one_or_apart (lines_of x) (lines_of y) (λ l before here. apart l (record { before = before; here = here })) (λ e. other (lines_tell x y e))
