-- Names are no more than a body is large.
use Rattle.std.proofs.Common.{◌≡◌, ◌+◌, ◌≤◌, List, [], ◌∷◌, ◌++◌, length, map, ap, arith, length-append}
use Rattle.std.specs.Prelude.{sum_by}
use Rattle.std.proofs.lemmas.List.{length-map}
use Rattle.std.proofs.lemmas.List.Sums.{sum_by-cons}
use Rattle.s_syntax.specs.declared.name.Name.{Name}
use Rattle.s_syntax.specs.declared.script.Clause.{Clause}
use Rattle.s_syntax.specs.declared.script.Handler.{Handler}
use Rattle.s_syntax.specs.declared.script.Declaration.{Declaration}
use Rattle.s_check.specs.Scopes.{Bound, number, resumption}
use Rattle.s_check.specs.Size.{block_size, clause_size}
use Rattle.s_code.specs.Places.{binds_in, return_names, clause_names, clauses_names, high_clauses}
use Rattle.s_code.proofs.Binds.{binds_within}
use Rattle.s_code.proofs.Highs.{block_high}
use Rattle.s_lower.specs.declared.names.TypedName.{TypedName}
use Rattle.s_lower.specs.Views.{bound_of, bounds_of}

pub return_within : (ds : List Declaration) (i : Handler) → length (return_names ds i) ≤ 1 + block_size i.return_clause.body
return_within ds i = let q = binds_within ds i.return_clause.body in omega (arith, q)

pub clause_within : (ds : List Declaration) (h : Name) (c : Clause) → length (clause_names ds h c) ≤ clause_size c
clause_within ds h c =
    let q = binds_within ds c.body in let m = length-map c.arguments number in
    let l = length-append (map number c.arguments) (resumption h c.resumption ∷ binds_in ds c.body) in omega (arith, q, m, l)

pub clauses_within : (ds : List Declaration) (h : Name) (cs : List Clause) → length (clauses_names ds h cs) ≤ sum_by clause_size cs
clauses_within ds h [] = omega arith
clauses_within ds h (c ∷ cs) =
    let q = clause_within ds h c in let r = clauses_within ds h cs in let l = length-append (clause_names ds h c) (clauses_names ds h cs) in let s = sum_by-cons clause_size c cs in
    omega (arith, q, r, l, s)

pub clauses_high : (cs : List Clause) → high_clauses cs ≤ sum_by clause_size cs
clauses_high [] = omega arith
clauses_high (c ∷ cs) = let q = block_high c.body in let r = clauses_high cs in let s = sum_by-cons clause_size c cs in omega (arith, q, r, s)

pub clauses_few : (cs : List Clause) → length cs ≤ sum_by clause_size cs
clauses_few [] = omega arith
clauses_few (c ∷ cs) = let r = clauses_few cs in let s = sum_by-cons clause_size c cs in omega (arith, r, s)

-- as many as there are
pub as_many : (bs : List TypedName) (us : List Bound) → bounds_of bs ≡ us → length bs ≡ length us
as_many bs us e = let m = length-map bs bound_of in let l = ap (λ (vs : List Bound). length vs) e in omega (arith, m, l)

-- names put behind others
pub grown : (old new : List TypedName) (us : List Bound) → bounds_of new ≡ bounds_of old ++ us → length new ≡ length old + length us
grown old new us e = let n = as_many new (bounds_of old ++ us) e in let m = length-map old bound_of in let l = length-append (bounds_of old) us in omega (arith, n, m, l)
