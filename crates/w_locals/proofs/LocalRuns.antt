-- Where the type of a local stands among the runs.
use Rattle.std.proofs.Common.{◌≡◌, ℕ, zero, suc, ◌+◌, ◌-◌, ◌<◌, ◌≤◌, true, List, [], ◌∷◌, ◌++◌, length, replicate, slice_get, get_or, Some, None, refl, ap, ◌∙◌, subst, arith}
use Rattle.std.specs.List.Sorted.{IsNonDecreasingBy}
use Rattle.std.specs.Option.{option_map}
use Rattle.std.proofs.lemmas.List.{get_or-replicate, length-replicate}
use Rattle.std.proofs.lemmas.Option.{slice_get-get_or, slice_get-map, slice_get_within}
use Rattle.w_types.specs.declared.types.ValType.{ValType}
use Rattle.w_syntax.specs.declared.locals.LocalRun.{LocalRun}
use Rattle.w_rules.specs.Bodies.{types_of_runs, has_default, set_first}
use Rattle.w_locals.specs.Locals.{SplitsAt, ends_from, kind_of}

-- ## Lists one behind the other

-- an item of the first list
get_before : {A : Type 0} (xs ys : List A) (i : ℕ) → i < length xs → slice_get (xs ++ ys) i ≡ slice_get xs i
get_before [] ys i h = absurd (omega (arith, h))
get_before (x ∷ xs) ys zero h = refl
get_before (x ∷ xs) ys (suc i) h = get_before xs ys i (omega (arith, h))

-- an item of the second
get_behind : {A : Type 0} (xs ys : List A) (i j : ℕ) → i ≡ length xs + j → slice_get (xs ++ ys) i ≡ slice_get ys j
get_behind [] ys i j e = let same : i ≡ j = omega (arith, e) in ap (slice_get ys) same
get_behind (x ∷ xs) ys zero j e = absurd (omega (arith, e))
get_behind (x ∷ xs) ys (suc i) j e = get_behind xs ys i j (omega (arith, e))

-- ## Runs

-- a local of a run has its type
in_run : (r : LocalRun) (i : ℕ) → i < r.count → slice_get (replicate r.count r.kind) i ≡ Some r.kind
in_run r i h =
    let within : i < length (replicate r.count r.kind) = omega (arith, h, length-replicate r.count r.kind) in
    slice_get-get_or (replicate r.count r.kind) i r.kind within ∙ ap Some (get_or-replicate r.count i r.kind r.kind h)

-- no end lies below where the runs begin
ends_above : (n : ℕ) (rs : List LocalRun) (k d : ℕ) → k < length (ends_from n rs) → n ≤ get_or (ends_from n rs) k d
ends_above n [] k d h = absurd (omega (arith, h))
ends_above n (r ∷ rs) zero d h = omega arith
ends_above n (r ∷ rs) (suc k) d h = omega (arith, ends_above (n + r.count) rs k d (omega (arith, h)))

-- the ends don't fall
pub ends_rise : (n : ℕ) (rs : List LocalRun) → IsNonDecreasingBy (λ (y : ℕ). y) (ends_from n rs)
ends_rise n [] i j d le h = absurd (omega (arith, h))
ends_rise n (r ∷ rs) zero zero d le h = omega arith
ends_rise n (r ∷ rs) zero (suc j) d le h = ends_above (n + r.count) rs j d (omega (arith, h))
ends_rise n (r ∷ rs) (suc i) zero d le h = absurd (omega (arith, le))
ends_rise n (r ∷ rs) (suc i) (suc j) d le h = ends_rise (n + r.count) rs i j d (omega (arith, le)) (omega (arith, h))

-- the run of the first end past a local has its type; the runs begin at n
run_found : (n x i j : ℕ) (rs : List LocalRun) → x ≡ n + j → ((k : ℕ) → k < i → get_or (ends_from n rs) k 0 ≤ x)
    → ((k : ℕ) → i ≤ k → k < length (ends_from n rs) → x < get_or (ends_from n rs) k 0) → slice_get (types_of_runs rs) j ≡ option_map kind_of (slice_get rs i)
run_found n x i j [] e low high = refl
run_found n x zero j (r ∷ rs) e low high =
    let first : x < n + r.count = high 0 (omega arith) (omega arith) in
    let inside : j < r.count = omega (arith, first, e) in
    get_before (replicate r.count r.kind) (types_of_runs rs) j (omega (arith, inside, length-replicate r.count r.kind)) ∙ in_run r j inside
run_found n x (suc i) j (r ∷ rs) e low high =
    let passed : n + r.count ≤ x = low 0 (omega arith) in
    get_behind (replicate r.count r.kind) (types_of_runs rs) j (j - r.count) (omega (arith, passed, e, length-replicate r.count r.kind))
    ∙ run_found (n + r.count) x i (j - r.count) rs (omega (arith, passed, e)) (λ k h. low (suc k) (omega (arith, h))) (λ k h l. high (suc k) (omega (arith, h)) (omega (arith, l)))

-- where nothing is found the index is past the list
none_past : {A : Type 0} (xs : List A) (i : ℕ) → slice_get xs i ≡ None → length xs ≤ i
none_past [] i e = omega arith
none_past (x ∷ xs) zero e = absurd (cc)
none_past (x ∷ xs) (suc i) e = omega (arith, none_past xs i e)

-- a parameter stands before the runs
pub param_found : (ps : List ValType) (rs : List LocalRun) (x : ℕ) (t : ValType) → slice_get ps x ≡ Some t → slice_get (ps ++ types_of_runs rs) x ≡ Some t
param_found ps rs x t e = get_before ps (types_of_runs rs) x (slice_get_within ps x t e) ∙ e

-- any other local is found by the ends
pub local_found : (ps : List ValType) (rs : List LocalRun) (es : List ℕ) (x i : ℕ) → es ≡ ends_from (length ps) rs → slice_get ps x ≡ None
    → SplitsAt es x i → slice_get (ps ++ types_of_runs rs) x ≡ option_map kind_of (slice_get rs i)
local_found ps rs es x i e none p =
    let behind = none_past ps x none in
    let q = subst (λ (l : List ℕ). SplitsAt l x i) e p in
    get_behind ps (types_of_runs rs) x (x - length ps) (omega (arith, behind))
    ∙ run_found (length ps) x i (x - length ps) rs (omega (arith, behind)) q.0 q.1

-- ## What is set where a body begins

-- a parameter is
pub param_is_set : (ps : List ValType) (rs : List LocalRun) (x : ℕ) → x < length ps → slice_get (set_first ps rs) x ≡ Some true
param_is_set [] rs x h = absurd (omega (arith, h))
param_is_set (p ∷ ps) rs zero h = refl
param_is_set (p ∷ ps) rs (suc x) h = param_is_set ps rs x (omega (arith, h))

-- any other local is where its type has a default value
pub local_is_set : (ps : List ValType) (rs : List LocalRun) (x : ℕ) → length ps ≤ x → slice_get (set_first ps rs) x ≡ option_map has_default (slice_get (ps ++ types_of_runs rs) x)
local_is_set [] rs x h = slice_get-map has_default (types_of_runs rs) x
local_is_set (p ∷ ps) rs zero h = absurd (omega (arith, h))
local_is_set (p ∷ ps) rs (suc x) h = local_is_set ps rs x (omega (arith, h))
