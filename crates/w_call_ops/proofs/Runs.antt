-- Runs of locals: how many locals they are, and what these begin with.
use Rattle.std.proofs.Common.{◌≡◌, ℕ, zero, suc, ◌+◌, ◌<◌, ◌≤◌, List, [], ◌∷◌, ◌++◌, length, take, drop, get_or, Option, refl, sym, ap, ◌∙◌, arith, add-one, append_assoc, append-nil, length-append}
use Rattle.std.specs.Prelude.{replicate}
use Rattle.std.proofs.lemmas.List.{length-replicate}
use Rattle.w_types.specs.Values.{default_of}
use Rattle.w_types.specs.declared.value.Value.{Value}
use Rattle.w_syntax.specs.Locals.{total}
use Rattle.w_syntax.specs.declared.locals.LocalRun.{LocalRun}
use Rattle.w_call_ops.specs.Entering.{first_values}

-- one run more
pub total_more : (rs : List LocalRun) (k : ℕ) (r : LocalRun) → k < length rs → r ≡ get_or rs k r → total (take (k + 1) rs) ≡ total (take k rs) + r.count
unfolding total
total_more [] k r h e = absurd (omega arith)
total_more (x ∷ rs) zero r h e = let g = ap (λ (y : LocalRun). y.count) e in omega (arith, g)
total_more (x ∷ rs) (suc k) r h e =
    let g = total_more rs k r (omega arith) e in
    let t : total (take (suc k) rs) ≡ total (take (k + 1) rs) = ap (λ (n : ℕ). total (take n rs)) (sym (add-one k)) in
    ap (λ (n : ℕ). total (take n (x ∷ rs))) (add-one (suc k)) ∙ omega (arith, g, t)

pub first_values_more : (rs : List LocalRun) (k : ℕ) (r : LocalRun) → k < length rs → r ≡ get_or rs k r →
    first_values (take (k + 1) rs) ≡ first_values (take k rs) ++ replicate r.count (default_of r.kind)
first_values_more [] k r h e = absurd (omega arith)
first_values_more (x ∷ rs) zero r h e = append-nil (replicate x.count (default_of x.kind)) ∙ ap (λ (y : LocalRun). replicate y.count (default_of y.kind)) (sym e)
first_values_more (x ∷ rs) (suc k) r h e =
    ap (λ (n : ℕ). first_values (take n (x ∷ rs))) (add-one (suc k))
    ∙ ap (λ (n : ℕ). replicate x.count (default_of x.kind) ++ first_values (take n rs)) (sym (add-one k))
    ∙ ap (λ (l : List (Option Value)). replicate x.count (default_of x.kind) ++ l) (first_values_more rs k r (omega arith) e)
    ∙ sym (append_assoc (replicate x.count (default_of x.kind)) (first_values (take k rs)) (replicate r.count (default_of r.kind)))

-- all together
pub total_parts : (rs : List LocalRun) (k : ℕ) → total (take k rs) + total (drop k rs) ≡ total rs
unfolding total
total_parts rs zero = omega arith
total_parts [] (suc k) = refl
total_parts (x ∷ rs) (suc k) = let g = total_parts rs k in omega (arith, g)

pub first_values_long : (rs : List LocalRun) → length (first_values rs) ≡ total rs
unfolding total
first_values_long [] = refl
first_values_long (r ∷ rs) =
    let a = length-append (replicate r.count (default_of r.kind)) (first_values rs) in
    let b : length (replicate r.count (default_of r.kind)) ≡ r.count = length-replicate r.count (default_of r.kind) in
    let c = first_values_long rs in
    omega (arith, a, b, c)

pub total_none : 0 ≡ total []
unfolding total
total_none = refl

-- with the run at a place there are no more than all
pub total_within : (rs : List LocalRun) (k : ℕ) (r : LocalRun) → k < length rs → r ≡ get_or rs k r → total (take k rs) + r.count ≤ total rs
total_within rs k r h e = let a = total_more rs k r h e in let b = total_parts rs (k + 1) in omega (arith, a, b)

-- where there are none
no_items : {A : Type 0} (xs : List A) → length xs ≤ 0 → xs ≡ []
no_items [] h = refl
no_items (x ∷ xs) h = absurd (omega arith)

pub first_values_none : (rs : List LocalRun) → total rs ≤ 0 → first_values rs ≡ []
first_values_none rs h = no_items (first_values rs) (let l = first_values_long rs in omega (arith, l, h))
