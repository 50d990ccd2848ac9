-- The code of functions and handlers of scripts can be spelled.
use Rattle.std.proofs.Common.{◌≡◌, ℕ, ◌+◌, ◌≤◌, max, List, [], ◌∷◌, ◌++◌, map, length, refl, arith, length-append}
use Rattle.std.specs.Prelude.{sum_by}
use Rattle.std.proofs.lemmas.List.{length-map}
use Rattle.std.proofs.lemmas.List.Sums.{sum_by-cons}
use Rattle.w_syntax.specs.Code.{Code, Plain, Block}
use Rattle.w_syntax.specs.declared.instructions.BlockKind.TheVariants as kind
use Rattle.w_syntax.specs.declared.instructions.BlockType.TheVariants as block_type
use Rattle.w_syntax.specs.declared.module.Func.{Func}
use Rattle.s_syntax.specs.declared.name.Name.{Name}
use Rattle.s_syntax.specs.declared.script.Function.{Function}
use Rattle.s_syntax.specs.declared.script.Clause.{Clause}
use Rattle.s_syntax.specs.declared.script.Handler.{Handler}
use Rattle.s_syntax.specs.declared.script.Definition.{Definition}
use Rattle.s_syntax.specs.declared.script.Definition.TheVariants as definition
use Rattle.s_syntax.specs.declared.script.Declaration.{Declaration}
use Rattle.s_syntax.specs.declared.script.Script.{Script}
use Rattle.s_check.specs.Refusal.{Good}
use Rattle.s_check.specs.Scopes.{Bound, number, parameter, resumption}
use Rattle.s_check.specs.Size.{block_size, clause_size, definition_size, Size, size_limit}
use Rattle.s_index.specs.Numbers.{tag_index}
use Rattle.s_index.specs.Types.{computation_type, clause_type}
use Rattle.s_index.specs.Indices.{clause_type_index}
use Rattle.s_index.specs.Limits.{number_limit as limit}
use Rattle.s_code.specs.Instructions.{local_set}
use Rattle.s_code.specs.Layouts.{Layout, local_number}
use Rattle.s_code.specs.Statements.{body}
use Rattle.s_code.specs.Handlers.{set_names, clause_code, blocks, labels, return_code, handling}
use Rattle.s_code.specs.Temporaries.{high_block}
use Rattle.s_code.specs.Places.{binds_in, function_names, function_layout, return_names, clause_names, clauses_names, return_place, clauses_place, handler_temporaries, layout_at, return_layout, placed_from, high_clauses}
use Rattle.s_code.specs.Lowered.{function_code, handler_code, function_code_of, handler_code_of, for_each, lowered}
use Rattle.s_code.proofs.Highs.{block_high}
use Rattle.s_code.proofs.Binds.{binds_within}
use Rattle.w_encode.specs.Spelled.{CodeSpelled, FunctionSpelled, FunctionsSpelled}
use Rattle.s_agrees.proofs.SpelledIndices.{fits, SmallIndices, small_indices, SmallLayout, names_small, both_small, locals_total, runs_spelled, runs_joined}
use Rattle.s_agrees.proofs.SpelledCode.{room, body_spelled}
use Rattle.s_agrees.proofs.SpelledTokens.{ClausesSmall, local_get_spelled, local_set_spelled, resume_spelled, block_spelled}

-- ## Names

-- a clause binds no more than its size
few_names : (ds : List Declaration) (h : Name) (c : Clause) → length (clause_names ds h c) ≤ clause_size c
few_names ds h c =
    let q = binds_within ds c.body in
    let l = length-append (map number c.arguments) (resumption h c.resumption ∷ binds_in ds c.body) in
    let a = length-map c.arguments number in
    omega (arith, q, l, a)

-- and neither do all clauses
all_names : (ds : List Declaration) (h : Name) (cs : List Clause) → length (clauses_names ds h cs) ≤ sum_by clause_size cs
all_names ds h [] = omega arith
all_names ds h (c ∷ cs) =
    let q = all_names ds h cs in
    let r = few_names ds h c in
    let s = sum_by-cons clause_size c cs in
    let l = length-append (clause_names ds h c) (clauses_names ds h cs) in
    omega (arith, q, r, s, l)

-- nor do they take more temporaries
all_high : (cs : List Clause) → high_clauses cs ≤ sum_by clause_size cs
all_high [] = omega arith
all_high (c ∷ cs) = let q = all_high cs in let r = block_high c.body in let s = sum_by-cons clause_size c cs in omega (arith, q, r, s)

-- nor are there more of them
few_clauses : (cs : List Clause) → length cs ≤ sum_by clause_size cs
few_clauses [] = omega arith
few_clauses (c ∷ cs) = let q = few_clauses cs in let s = sum_by-cons clause_size c cs in omega (arith, q, s)

-- ## Functions

-- the names of a function, and its temporaries
function_layout_small : (ds : List Declaration) (f : Function) → definition_size (definition.Function f) ≤ size_limit → SmallLayout (function_layout ds f)
function_layout_small ds f few =
    let q = binds_within ds f.body in
    let l = length-append (map parameter f.parameters) (binds_in ds f.body) in
    let m = length-map f.parameters parameter in
    record { name = names_small (function_names ds f) (omega (arith, few, q, l, m)); temporaries = omega (arith, few, q, l, m); parameters = omega arith }

-- the code of a function that isn't too large
pub function_spelled : (ds : List Declaration) (f : Function) → SmallIndices ds → definition_size (definition.Function f) ≤ size_limit → FunctionSpelled (function_code ds f)
function_spelled ds f S few =
    let q = binds_within ds f.body in
    let h = block_high f.body in
    let t = locals_total (binds_in ds f.body) (high_block f.body) in
    record {
      runs = runs_spelled (binds_in ds f.body) (high_block f.body) (omega (arith, few, q, h));
      alone = runs_joined (binds_in ds f.body) (high_block f.body);
      few = omega (arith, t, few, q, h);
      body = body_spelled ds (function_layout ds f) S (function_layout_small ds f few) f.body 0 (omega (arith, few));
    }

-- ## Handlers

module _ (ds : List Declaration) (Γ : Layout) (S : SmallIndices ds) (L : SmallLayout Γ) where
  -- a name that is set, and several
  name_set : (x : Name) (c : Code) → CodeSpelled c → CodeSpelled (Plain (local_set (local_number Γ x)) c)
  name_set x c h = (local_set_spelled (local_number Γ x) (fits (local_number Γ x) (L.name x)), h)

  names_set : (xs : List Name) (c : Code) → CodeSpelled c → CodeSpelled (set_names Γ xs c)
  names_set [] c h = h
  names_set (x ∷ xs) c h = names_set xs (Plain (local_set (local_number Γ x)) c) (name_set x c h)

  -- a clause, and the return clause
  clause_spelled : (D : ℕ) (c : Clause) → D + block_size c.body ≤ room → CodeSpelled (clause_code ds D (record { clause = c; layout = Γ }))
  clause_spelled D c few =
      name_set c.resumption (set_names Γ c.arguments (body ds Γ D c.body)) (names_set c.arguments (body ds Γ D c.body) (body_spelled ds Γ S L c.body D few))

  returned_spelled : (D : ℕ) (i : Handler) → D + block_size i.return_clause.body ≤ room → CodeSpelled (return_code ds Γ D i)
  returned_spelled D i few = name_set i.return_clause.value (body ds Γ D i.return_clause.body) (body_spelled ds Γ S L i.return_clause.body D few)

-- as many as there are clauses
placed_length : (ds : List Declaration) (h : Name) (i : Handler) (n : ℕ) (cs : List Clause) → length (placed_from ds h i n cs) ≡ length cs
placed_length ds h i n [] = refl
placed_length ds h i n (c ∷ cs) = let q = placed_length ds h i (n + length (clause_names ds h c)) cs in omega (arith, q)

-- each has a label, which is small
labels_length : (ds : List Declaration) (l : ℕ) (cs : List Clause) → length (labels ds l cs) ≡ length cs
labels_length ds l [] = refl
labels_length ds l (c ∷ cs) = let q = labels_length ds (l + 1) cs in omega (arith, q)

labels_small : (ds : List Declaration) → SmallIndices ds → (l : ℕ) (cs : List Clause) → l + length cs ≤ limit → ClausesSmall (labels ds l cs)
labels_small ds S l [] few = tt
labels_small ds S l (c ∷ cs) few = ((fits (tag_index ds c.effect) (S.tag c.effect), omega (arith, few)), labels_small ds S (l + 1) cs (omega (arith, few)))

-- how many locals the names and temporaries of a handler take
handler_few : (ds : List Declaration) (h : Name) (i : Handler) → handler_temporaries ds h i + max (high_block i.return_clause.body) (high_clauses i.clauses) ≤ definition_size (definition.Handler i) + definition_size (definition.Handler i)
handler_few ds h i =
    let q = binds_within ds i.return_clause.body in
    let r = all_names ds h i.clauses in
    let s = block_high i.return_clause.body in
    let t = all_high i.clauses in
    omega (arith, q, r, s, t)

-- the names of a clause lie before the temporaries
layout_small : (ds : List Declaration) (h : Name) (i : Handler) (n : ℕ) (bs : List Bound) → definition_size (definition.Handler i) ≤ size_limit → n + length bs ≤ handler_temporaries ds h i → SmallLayout (layout_at ds h i n bs)
layout_small ds h i n bs few behind =
    let t = handler_few ds h i in
    let m = length-map i.parameters parameter in
    record {
      name = both_small (map parameter i.parameters) n bs (omega (arith, few, m)) (omega (arith, few, t, behind));
      temporaries = omega (arith, few, t);
      parameters = omega (arith, few);
    }

module _ (ds : List Declaration) (h : Name) (i : Handler) (S : SmallIndices ds) (few : definition_size (definition.Handler i) ≤ size_limit) where
  -- the blocks of clauses, the names of the first one being from the local n on
  blocks_spelled : (n : ℕ) (cs : List Clause) (c : Code) → n + length (clauses_names ds h cs) ≤ handler_temporaries ds h i → sum_by clause_size cs ≤ size_limit → CodeSpelled c
      → CodeSpelled (blocks ds (placed_from ds h i n cs) c)
  blocks_spelled n [] c behind size g = g
  blocks_spelled n (k ∷ cs) c behind size g =
      let m = n + length (clause_names ds h k) in
      let ps = placed_from ds h i m cs in
      let x = clause_type_index ds (length k.arguments) in
      let a = length-append (clause_names ds h k) (clauses_names ds h cs) in
      let z = sum_by-cons clause_size k cs in
      let p = placed_length ds h i m cs in
      let l = few_clauses cs in
      let b = clause_spelled ds (layout_at ds h i n (clause_names ds h k)) S (layout_small ds h i n (clause_names ds h k) few (omega (arith, behind, a))) (length ps) k (omega (arith, size, z, p, l)) in
      let t = block_spelled kind.Block (block_type.Index x) (fits x (S.type (clause_type (length k.arguments)))) in
      blocks_spelled m cs (Block kind.Block (block_type.Index x) c (clause_code ds (length ps) (record { clause = k; layout = layout_at ds h i n (clause_names ds h k) })))
      (omega (arith, behind, a)) (omega (arith, size, z)) (t, g, b)

  -- the resume and the return clause
  handling_spelled : CodeSpelled (handling ds (return_layout ds h i) i)
  handling_spelled =
      let hs = labels ds 0 i.clauses in
      let l = labels_length ds 0 i.clauses in
      let n = few_clauses i.clauses in
      let r = returned_spelled ds (return_layout ds h i) S (layout_small ds h i (return_place i) (return_names ds i) few (omega arith)) (length i.clauses) i (omega (arith, few, n)) in (
        local_get_spelled (length i.parameters) (omega (arith, few)),
        (resume_spelled computation_type hs (omega arith) (omega (arith, few, l, n)) (labels_small ds S 0 i.clauses (omega (arith, few, n))), r),
      )

-- the code of a handler that isn't too large
pub handler_spelled : (ds : List Declaration) (h : Name) (i : Handler) → SmallIndices ds → definition_size (definition.Handler i) ≤ size_limit → FunctionSpelled (handler_code ds h i)
handler_spelled ds h i S few =
    let bs = return_names ds i ++ clauses_names ds h i.clauses in
    let k = max (high_block i.return_clause.body) (high_clauses i.clauses) in
    let q = handler_few ds h i in
    let l = length-append (return_names ds i) (clauses_names ds h i.clauses) in
    let t = locals_total bs k in
    let g = handling_spelled ds h i S few in
    record {
      runs = runs_spelled bs k (omega (arith, few, q, l));
      alone = runs_joined bs k;
      few = omega (arith, t, few, q, l);
      body = (
        block_spelled kind.Loop (block_type.Value _) refl,
        blocks_spelled ds h i S few (clauses_place ds i) i.clauses (handling ds (return_layout ds h i) i) (omega arith) (omega (arith, few)) g,
        tt,
      );
    }

-- ## All of a script

-- functions behind others
both_spelled : (fs gs : List Func) → FunctionsSpelled fs → FunctionsSpelled gs → FunctionsSpelled (fs ++ gs)
both_spelled [] gs h i = i
both_spelled (f ∷ fs) gs h i = (h.0, both_spelled fs gs h.1 i)

-- what one declaration adds
function_of_spelled : (ds : List Declaration) (d : Definition) → SmallIndices ds → definition_size d ≤ size_limit → FunctionsSpelled (function_code_of ds d)
function_of_spelled ds (definition.Effect n) S few = tt
function_of_spelled ds (definition.Function f) S few = (function_spelled ds f S few, tt)
function_of_spelled ds (definition.Handler i) S few = tt
function_of_spelled ds (definition.Slots s) S few = tt

handler_of_spelled : (ds : List Declaration) (h : Name) (d : Definition) → SmallIndices ds → definition_size d ≤ size_limit → FunctionsSpelled (handler_code_of ds h d)
handler_of_spelled ds h (definition.Effect n) S few = tt
handler_of_spelled ds h (definition.Function f) S few = tt
handler_of_spelled ds h (definition.Handler i) S few = (handler_spelled ds h i S few, tt)
handler_of_spelled ds h (definition.Slots s) S few = tt

-- how large declarations are
abbrev sizes : List Declaration → ℕ
sizes es = sum_by (λ (d : Declaration). definition_size d.definition) es

-- what all declarations add
each_spelled : (make : Declaration → List Func) → ((d : Declaration) → definition_size d.definition ≤ size_limit → FunctionsSpelled (make d)) → (es : List Declaration)
    → sizes es ≤ size_limit → FunctionsSpelled (for_each make es)
each_spelled make m [] few = tt
each_spelled make m (e ∷ es) few =
    let z = sum_by-cons (λ (d : Declaration). definition_size d.definition) e es in
    both_spelled (make e) (for_each make es) (m e (omega (arith, few, z))) (each_spelled make m es (omega (arith, few, z)))

-- the code of a script that breaks no rule and isn't too large
pub codes_spelled : (p : Script) → Good p → Size p ≤ size_limit → FunctionsSpelled (lowered p).codes
codes_spelled p good few =
    let ds = p.declarations in
    let S = small_indices p good few in
    both_spelled (for_each (λ (d : Declaration). function_code_of ds d.definition) ds) (for_each (λ (d : Declaration). handler_code_of ds d.name d.definition) ds)
    (each_spelled (λ (d : Declaration). function_code_of ds d.definition) (λ d n. function_of_spelled ds d.definition S n) ds few)
    (each_spelled (λ (d : Declaration). handler_code_of ds d.name d.definition) (λ d n. handler_of_spelled ds d.name d.definition S n) ds few)
