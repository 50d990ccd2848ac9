-- Names put behind others, one by one.
use Rattle.std.proofs.Common.{◌≡◌, ℕ, ◌+◌, ◌<◌, List, [], ◌∷◌, ◌++◌, length, map, drop, get_or, refl, sym, ap, ◌∙◌, append_assoc}
use Rattle.w_types.specs.declared.types.ValType.{ValType}
use Rattle.w_syntax.specs.declared.locals.LocalRun.{LocalRun}
use Rattle.s_syntax.specs.declared.name.Name.{Name}
use Rattle.s_syntax.specs.declared.script.Clause.{Clause}
use Rattle.s_syntax.specs.declared.script.Declaration.{Declaration}
use Rattle.s_check.specs.Scopes.{Bound}
use Rattle.s_code.specs.Places.{run, name_runs, clause_names, clauses_names}
use Rattle.s_code.specs.Views.{type_of}
use Rattle.s_index.specs.Types.{val_type}
use Rattle.lists.proofs.Lists.{cell}
use Rattle.s_lower.specs.declared.names.TypedName.{TypedName}
use Rattle.s_lower.specs.Views.{bound_of, bounds_of}

behind : (bs : List TypedName) (b : TypedName) → bounds_of (bs ++ b ∷ []) ≡ bounds_of bs ++ bound_of b ∷ []
behind [] b = refl
behind (c ∷ bs) b = ap (λ (us : List Bound). bound_of c ∷ us) (behind bs b)

-- one item more, which is read as this name
pub pushed : {A : Type 0} (read : A → Bound) (xs : List A) (i : ℕ) (x : A) (old new : List TypedName) (b : TypedName) (all : List Bound) → i < length xs → x ≡ get_or xs i x
    → new ≡ old ++ b ∷ [] → bound_of b ≡ read x → bounds_of old ++ map read (drop i xs) ≡ all → bounds_of new ++ map read (drop (i + 1) xs) ≡ all
pushed read xs i x old new b all h e made is inv =
    ap (λ (bs : List TypedName). bounds_of bs ++ map read (drop (i + 1) xs)) made
    ∙ ap (λ (us : List Bound). us ++ map read (drop (i + 1) xs)) (behind old b)
    ∙ append_assoc (bounds_of old) (bound_of b ∷ []) (map read (drop (i + 1) xs))
    ∙ ap (λ (u : Bound). bounds_of old ++ u ∷ map read (drop (i + 1) xs)) is
    ∙ ap (λ (ys : List _). bounds_of old ++ map read ys) (sym (cell xs i x h e))
    ∙ inv

-- the names of one clause more
pub clause_pushed : (ds : List Declaration) (h : Name) (cs : List Clause) (i : ℕ) (c : Clause) (old new : List TypedName) (all : List Bound) → i < length cs → c ≡ get_or cs i c
    → bounds_of new ≡ bounds_of old ++ clause_names ds h c → bounds_of old ++ clauses_names ds h (drop i cs) ≡ all → bounds_of new ++ clauses_names ds h (drop (i + 1) cs) ≡ all
clause_pushed ds h cs i c old new all l e made inv =
    ap (λ (us : List Bound). us ++ clauses_names ds h (drop (i + 1) cs)) made
    ∙ append_assoc (bounds_of old) (clause_names ds h c) (clauses_names ds h (drop (i + 1) cs))
    ∙ ap (λ (ks : List Clause). bounds_of old ++ clauses_names ds h ks) (sym (cell cs i c l e))
    ∙ inv

-- the local of one name more
pub run_pushed : (bs : List TypedName) (i : ℕ) (b : TypedName) (old new : List LocalRun) (t : ValType) (all : List LocalRun) → i < length bs → b ≡ get_or bs i b
    → new ≡ old ++ run t 1 ∷ [] → t ≡ val_type (type_of b.ty) → old ++ name_runs (bounds_of (drop i bs)) ≡ all → new ++ name_runs (bounds_of (drop (i + 1) bs)) ≡ all
run_pushed bs i b old new t all l e made is inv =
    ap (λ (rs : List LocalRun). rs ++ name_runs (bounds_of (drop (i + 1) bs))) made
    ∙ append_assoc old (run t 1 ∷ []) (name_runs (bounds_of (drop (i + 1) bs)))
    ∙ ap (λ (u : ValType). old ++ run u 1 ∷ name_runs (bounds_of (drop (i + 1) bs))) is
    ∙ ap (λ (cs : List TypedName). old ++ name_runs (bounds_of cs)) (sym (cell bs i b l e))
    ∙ inv
