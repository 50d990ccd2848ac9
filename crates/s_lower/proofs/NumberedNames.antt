-- Names with their locals, in two parts, and clauses with where their names are.
use Rattle.std.proofs.Common.{◌≡◌, ℕ, zero, suc, ◌+◌, ◌≤◌, List, [], ◌∷◌, ◌++◌, ◌<◌, length, map, drop, get_or, refl, sym, ap, ◌∙◌, arith, append_assoc, length-append}
use Rattle.std.specs.Prelude.{sum_by, Option, Some, None, slice_get}
use Rattle.std.specs.Option.{option_map}
use Rattle.std.proofs.lemmas.List.{length-map}
use Rattle.std.proofs.lemmas.Option.{slice_get-map}
use Rattle.std.proofs.lemmas.List.Sums.{sum_by-cons}
use Rattle.s_syntax.specs.declared.name.Name.{Name}
use Rattle.s_syntax.specs.declared.script.Function.{Function}
use Rattle.s_syntax.specs.declared.script.Clause.{Clause}
use Rattle.s_syntax.specs.declared.script.Handler.{Handler}
use Rattle.s_syntax.specs.declared.script.Declaration.{Declaration}
use Rattle.s_check.specs.Scopes.{Bound, parameter}
use Rattle.s_check.specs.Size.{block_size, clause_size}
use Rattle.s_code.specs.declared.handler.Placed.{Placed as PlacedHandler}
use Rattle.s_code.specs.Clauses.{placed_in, placed_all, AllFit}
use Rattle.s_code.specs.Handlers.{Placed}
use Rattle.s_code.specs.Layouts.{Local, Owner, Layout, numbered}
use Rattle.s_code.specs.Places.{binds_in, function_names, function_layout, return_names, clause_names, clauses_place, handler_temporaries, layout_at, return_layout, placed_from, placed_clauses}
use Rattle.lists.proofs.Lists.{cell}
use Rattle.s_lower.specs.Views.{layout_of, placed_by}
use Rattle.s_index.specs.Limits.{number_limit}

some_same : {A : Type 0} (a b : A) → Some a ≡ Some b → a ≡ b
some_same a b e = cc

pub numbered_append : (n : ℕ) (bs cs : List Bound) → numbered n (bs ++ cs) ≡ numbered n bs ++ numbered (n + length bs) cs
numbered_append n [] cs = let e : n ≡ n + 0 = omega arith in ap (λ (k : ℕ). numbered k cs) e
numbered_append n (b ∷ bs) cs =
    let e : n + 1 + length bs ≡ n + length (b ∷ bs) = omega arith in
    ap (λ (ls : List Local). record { name = b.name; ty = b.ty; number = n } ∷ ls) (numbered_append (n + 1) bs cs ∙ ap (λ (k : ℕ). numbered (n + 1) bs ++ numbered k cs) e)

-- the clauses of a handler, whose parameters come first
pub placed_of_handler : (ds : List Declaration) (h : Name) (i : Handler) (n : ℕ) (cs : List Clause) → placed_by ds h (map parameter i.parameters) (handler_temporaries ds h i) n cs ≡ placed_from ds h i n cs
placed_of_handler ds h i n [] = refl
placed_of_handler ds h i n (c ∷ cs) =
    ap (λ (k : ℕ). record { clause = c; layout = layout_of (map parameter i.parameters) (clause_names ds h c) n (handler_temporaries ds h i) (Some (record { name = h; parameters = k })) } ∷ placed_by ds h (map parameter i.parameters) (handler_temporaries ds h i) (n + length (clause_names ds h c)) cs)
    (length-map i.parameters parameter)
    ∙ ap (λ (ps : List Placed). record { clause = c; layout = layout_at ds h i n (clause_names ds h c) } ∷ ps) (placed_of_handler ds h i (n + length (clause_names ds h c)) cs)

-- ## Functions and handlers, by their parts

layouts : (ns ms : List Local) (t u : ℕ) (o : Option Owner) → ns ≡ ms → t ≡ u → (let l : Layout = record { names = ns; temporaries = t; owner = o } in l) ≡ record { names = ms; temporaries = u; owner = o }
layouts ns ms t u o n e = ap (λ (ls : List Local). let l : Layout = record { names = ls; temporaries = t; owner = o } in l) n ∙ ap (λ (k : ℕ). let l : Layout = record { names = ms; temporaries = k; owner = o } in l) e

pub function_laid : (ds : List Declaration) (f : Function) (us vs : List Bound) (from temps : ℕ) → us ≡ map parameter f.parameters → vs ≡ binds_in ds f.body → from ≡ length f.parameters → temps ≡ from + length vs
    → layout_of us vs from temps None ≡ function_layout ds f
function_laid ds f us vs from temps u v is t =
    let ps : List Bound = map parameter f.parameters in
    let long : length ps ≡ length f.parameters = length-map f.parameters parameter in
    let start : from ≡ 0 + length ps = omega (arith, is, long) in
    let many : length vs ≡ length (binds_in ds f.body) = ap (λ (xs : List Bound). length xs) v in
    let all : length (function_names ds f) ≡ length ps + length (binds_in ds f.body) = length-append ps (binds_in ds f.body) in
    layouts _ _ _ _ None
    (ap (λ (xs : List Bound). numbered 0 xs ++ numbered from vs) u ∙ ap (λ (xs : List Bound). numbered 0 ps ++ numbered from xs) v
    ∙ ap (λ (k : ℕ). numbered 0 ps ++ numbered k (binds_in ds f.body)) start ∙ sym (numbered_append 0 ps (binds_in ds f.body)))
    (omega (arith, is, long, many, all, t))

-- the clause for return of a handler
pub handler_laid : (ds : List Declaration) (h : Name) (i : Handler) (us vs : List Bound) (first temps : ℕ) → us ≡ map parameter i.parameters → vs ≡ return_names ds i → first ≡ length i.parameters + 1 → temps ≡ handler_temporaries ds h i
    → layout_of us vs first temps (Some (record { name = h; parameters = length i.parameters })) ≡ return_layout ds h i
handler_laid ds h i us vs first temps u v f t =
    layouts _ _ _ _ (Some (record { name = h; parameters = length i.parameters }))
    (ap (λ (xs : List Bound). numbered 0 xs ++ numbered first vs) u ∙ ap (λ (xs : List Bound). numbered 0 (map parameter i.parameters) ++ numbered first xs) v
    ∙ ap (λ (k : ℕ). numbered 0 (map parameter i.parameters) ++ numbered k (return_names ds i)) f) t

-- its clauses
pub handler_placed : (ds : List Declaration) (h : Name) (i : Handler) (us vs : List Bound) (from temps : ℕ) → us ≡ map parameter i.parameters → vs ≡ return_names ds i → from ≡ length i.parameters + 1 + length vs → temps ≡ handler_temporaries ds h i
    → placed_by ds h us temps from i.clauses ≡ placed_clauses ds h i
handler_placed ds h i us vs from temps u v n t =
    let many : length vs ≡ length (return_names ds i) = ap (λ (xs : List Bound). length xs) v in
    let place : from ≡ clauses_place ds i = omega (arith, many, n) in
    ap (λ (xs : List Bound). placed_by ds h xs temps from i.clauses) u ∙ ap (λ (k : ℕ). placed_by ds h (map parameter i.parameters) k from i.clauses) t
    ∙ ap (λ (k : ℕ). placed_by ds h (map parameter i.parameters) (handler_temporaries ds h i) k i.clauses) place
    ∙ placed_of_handler ds h i (clauses_place ds i) i.clauses

-- one clause more
pub placed_more : (ds : List Declaration) (h : Name) (us : List Bound) (temps n m : ℕ) (cs : List Clause) (i : ℕ) (c : Clause) (old new : List PlacedHandler) (all : List Placed) → i < length cs → c ≡ get_or cs i c
    → placed_all new ≡ placed_all old ++ placed_by ds h us temps n (c ∷ []) → m ≡ n + length (clause_names ds h c)
    → placed_all old ++ placed_by ds h us temps n (drop i cs) ≡ all → placed_all new ++ placed_by ds h us temps m (drop (i + 1) cs) ≡ all
placed_more ds h us temps n m cs i c old new all l e made next before =
    ap (λ (ps : List Placed). ps ++ placed_by ds h us temps m (drop (i + 1) cs)) made
    ∙ append_assoc (placed_all old) (placed_by ds h us temps n (c ∷ [])) (placed_by ds h us temps m (drop (i + 1) cs))
    ∙ ap (λ (k : ℕ). placed_all old ++ (placed_by ds h us temps n (c ∷ []) ++ placed_by ds h us temps k (drop (i + 1) cs))) next
    ∙ ap (λ (ks : List Clause). placed_all old ++ placed_by ds h us temps n ks) (sym (cell cs i c l e))
    ∙ before

-- clauses put behind none
pub placed_first : (ds : List Declaration) (old new ks : List PlacedHandler) (h : Name) (us : List Bound) (temps n : ℕ) (cs zs : List Clause) → old ≡ [] → placed_all new ≡ placed_all old ++ placed_by ds h us temps n cs → ks ≡ new → cs ≡ zs
    → placed_all ks ≡ placed_by ds h us temps n zs
placed_first ds old new ks h us temps n cs zs o e k d =
    ap (λ (xs : List PlacedHandler). placed_all xs) k ∙ e ∙ ap (λ (xs : List PlacedHandler). placed_all xs ++ placed_by ds h us temps n cs) o ∙ ap (λ (xs : List Clause). placed_by ds h us temps n xs) d

-- ## Clauses fit

placed_fit : (ds : List Declaration) (h : Name) (us : List Bound) (temps n : ℕ) (cs : List Clause) (k : ℕ) (q : Placed) → slice_get (placed_by ds h us temps n cs) k ≡ Some q
    → (q.layout.temporaries ≡ temps) × (block_size q.clause.body ≤ sum_by clause_size cs)
placed_fit ds h us temps n [] k q is = absurd (cc)
placed_fit ds h us temps n (c ∷ cs) zero q is =
    let one : Placed = record { clause = c; layout = layout_of us (clause_names ds h c) n temps (Some (record { name = h; parameters = length us })) } in
    let same : one ≡ q = some_same one q is in
    let s = sum_by-cons clause_size c cs in
    let b = ap (λ (p : Placed). block_size p.clause.body) same in
    (sym (ap (λ (p : Placed). p.layout.temporaries) same), omega (arith, s, b))
placed_fit ds h us temps n (c ∷ cs) (suc k) q is =
    let r = placed_fit ds h us temps (n + length (clause_names ds h c)) cs k q is in
    let s = sum_by-cons clause_size c cs in
    let l = r.1 in
    (r.0, omega (arith, s, l))

as_many_placed : (ds : List Declaration) (h : Name) (us : List Bound) (temps n : ℕ) (cs : List Clause) → length (placed_by ds h us temps n cs) ≡ length cs
as_many_placed ds h us temps n [] = refl
as_many_placed ds h us temps n (c ∷ cs) = ap suc (as_many_placed ds h us temps (n + length (clause_names ds h c)) cs)

pub as_many_kept : (ds : List Declaration) (ks : List PlacedHandler) (h : Name) (us : List Bound) (temps n : ℕ) (cs : List Clause) → placed_all ks ≡ placed_by ds h us temps n cs → length ks ≡ length cs
as_many_kept ds ks h us temps n cs e = sym (length-map ks placed_in) ∙ ap (λ (ps : List Placed). length ps) e ∙ as_many_placed ds h us temps n cs

pub all_fit : (ds : List Declaration) (ks : List PlacedHandler) (h : Name) (us : List Bound) (temps n : ℕ) (cs : List Clause) → placed_all ks ≡ placed_by ds h us temps n cs → temps + length cs + sum_by clause_size cs ≤ number_limit → AllFit ks
all_fit ds ks h us temps n cs e few k p is =
    let r = placed_fit ds h us temps n cs k (placed_in p) (sym (ap (λ (ps : List Placed). slice_get ps k) e) ∙ slice_get-map placed_in ks k ∙ ap (option_map placed_in) is) in
    let l = as_many_kept ds ks h us temps n cs e in
    let a = r.0 in
    let b = r.1 in
    omega (arith, l, a, b, few)
