-- The module of a script that breaks no rule and isn't too large is within the limits.
use Rattle.std.proofs.Common.{◌≡◌, ℕ, zero, suc, ◌+◌, ◌≤◌, max, Bool, true, false, cond, List, [], ◌∷◌, ◌++◌, map, length, Some, refl, sym, ap, ◌∙◌, subst, arith, length-append}
use Rattle.std.specs.Prelude.{slice_get, sum_by, nat_eq, All}
use Rattle.std.proofs.lemmas.Bool.{eqb-true}
use Rattle.std.proofs.lemmas.List.{length-map}
use Rattle.std.proofs.lemmas.List.Sums.{sum_by-cons}
use Rattle.w_types.specs.declared.types.ValType.TheVariants.{I64}
use Rattle.w_types.specs.declared.types.CompType.{CompType}
use Rattle.w_syntax.specs.Functions.{type_of_function, code_of_function}
use Rattle.w_syntax.specs.Locals.{same_kind, join, join_all, joined, total}
use Rattle.w_syntax.specs.declared.locals.LocalRun.{LocalRun}
use Rattle.w_rules.specs.Limits.{params_in, locals_in, locals_of, IsNarrow, Within}
use Rattle.s_syntax.specs.declared.name.Name.{Name}
use Rattle.s_syntax.specs.declared.script.Parameter.{Parameter}
use Rattle.s_syntax.specs.declared.script.Function.{Function}
use Rattle.s_syntax.specs.declared.script.Clause.{Clause}
use Rattle.s_syntax.specs.declared.script.Handler.{Handler}
use Rattle.s_syntax.specs.declared.script.Definition.{Definition}
use Rattle.s_syntax.specs.declared.script.Definition.TheVariants as definition
use Rattle.s_syntax.specs.declared.script.Declaration.{Declaration}
use Rattle.s_syntax.specs.declared.script.Script.{Script}
use Rattle.s_syntax.specs.ExprTree.{ExprTree, Literal, Read, Unary, Run, Call, Do, Handle, Resume, Group, Exprs, NoExprs, MoreExprs, Operands, NoOperands, MoreOperands}
use Rattle.s_syntax.specs.BlockTree.{StatementTree, BlockTree, Evaluate, If, While, Fail, Spawn, Done, ◌⨟◌}
use Rattle.s_check.specs.Definitions.{definition_of}
use Rattle.s_check.specs.Refusal.{Good}
use Rattle.s_check.specs.Rules.{count}
use Rattle.s_check.specs.Scopes.{Bound, number, resumption, lets_of, lets_in}
use Rattle.s_check.specs.Size.{expr_size, exprs_size, operands_size, statement_size, block_size, clause_size, definition_size, Size, size_limit}
use Rattle.s_index.specs.Types.{val_type, val_types, to_continuation, computation_type}
use Rattle.s_index.specs.Indices.{type_table}
use Rattle.s_code.specs.Lowered.{lowered}
use Rattle.s_code.specs.Places.{run, name_runs, locals_for, binds_in, function_locals, return_names, clause_names, clauses_names, high_clauses, handler_locals}
use Rattle.s_code.specs.Temporaries.{high, high_args, high_aside, high_operands, high_statement, high_block}
use Rattle.s_code.proofs.Binds.{as_many_in}
use Rattle.s_code.proofs.Highs.{lets_by_few, room_few}
use Rattle.s_valid.proofs.Declarations.{Declares, declares}
use Rattle.s_valid.proofs.ManyTypes.{few_in_table}
use Rattle.s_valid.proofs.ModuleItems.{StandsAt, of_function, of_handler, functions_and_codes, stands_at}
use Rattle.s_valid.proofs.NarrowTypes.{all_narrow}
use Rattle.s_valid.proofs.TypeGroups.{types_of_groups}
use Rattle.s_valid.proofs.TypeTable.{is_function, is_handler}

-- ## Temporaries

-- each expression has a size
some_size : (e : ExprTree) → 1 ≤ expr_size e
some_size (Literal n) = omega arith
some_size (Read x) = omega arith
some_size (Unary o e) = omega arith
some_size (Run e ps) = let q = some_size e in omega (arith, q)
some_size (Call f es) = omega arith
some_size (Do op es) = omega arith
some_size (Handle f es h ps) = omega arith
some_size (Resume k e ps) = omega arith
some_size (Group f e) = omega arith

few_arguments : (es : Exprs) → count es ≤ exprs_size es
few_arguments NoExprs = omega arith
few_arguments (MoreExprs e es) = let q = few_arguments es in let s = some_size e in omega (arith, q, s)

-- no more than an expression is large
mutual
  high_expr : (t : ℕ) (e : ExprTree) → high t e ≤ t + expr_size e
  high_expr t (Literal n) = omega arith
  high_expr t (Read x) = omega arith
  high_expr t (Unary o e) = let q = high_expr t e in omega (arith, q)
  high_expr t (Run e ps) = let q = high_expr t e in let r = high_of_operands t ps in omega (arith, q, r)
  high_expr t (Call f es) = let q = high_of_args t es in omega (arith, q)
  high_expr t (Do op es) = let q = high_of_args t es in omega (arith, q)
  high_expr t (Handle f es h ps) = let q = high_of_aside t es in let c = few_arguments es in let r = high_of_args (t + count es) ps in omega (arith, q, c, r)
  high_expr t (Resume k e ps) = let q = high_expr t e in let r = high_of_args (t + 1) ps in omega (arith, q, r)
  high_expr t (Group f e) = let q = high_expr t e in omega (arith, q)

  high_of_args : (t : ℕ) (es : Exprs) → high_args t es ≤ t + exprs_size es
  high_of_args t NoExprs = omega arith
  high_of_args t (MoreExprs e es) = let q = high_expr t e in let r = high_of_args t es in omega (arith, q, r)

  high_of_aside : (t : ℕ) (es : Exprs) → high_aside t es ≤ t + exprs_size es
  high_of_aside t NoExprs = omega arith
  high_of_aside t (MoreExprs e es) = let q = high_expr t e in let r = high_of_aside (t + 1) es in let s = some_size e in omega (arith, q, r, s)

  high_of_operands : (t : ℕ) (ps : Operands) → high_operands t ps ≤ t + operands_size ps
  high_of_operands t NoOperands = omega arith
  high_of_operands t (MoreOperands o e ps) = let q = high_expr t e in let r = high_of_operands t ps in omega (arith, q, r)

-- names and temporaries together, no more than a block is large
mutual
  room_statement : (s : StatementTree) → length (lets_of s) + high_statement s ≤ statement_size s
  room_statement (Evaluate u e) = let q = high_expr 0 e in let r = lets_by_few u in let o = room_few u in let s = some_size e in omega (arith, q, r, o, s)
  room_statement (If c a b) =
      let q = high_expr 0 c in let r = room_block a in let s = room_block b in let l = length-append (lets_in a) (lets_in b) in omega (arith, q, r, s, l)
  room_statement (While c b) = let q = high_expr 0 c in let r = room_block b in omega (arith, q, r)
  room_statement Fail = omega arith
  room_statement (Spawn t f) = omega arith

  room_block : (b : BlockTree) → length (lets_in b) + high_block b ≤ block_size b
  room_block Done = omega arith
  room_block (s ⨟ b) = let q = room_statement s in let r = room_block b in let l = length-append (lets_of s) (lets_in b) in omega (arith, q, r, l)

room_clauses : (ds : List Declaration) (h : Name) (cs : List Clause) → length (clauses_names ds h cs) + high_clauses cs ≤ sum_by clause_size cs
room_clauses ds h [] = omega arith
room_clauses ds h (c ∷ cs) =
    let q = room_clauses ds h cs in
    let r = room_block c.body in
    let s = sum_by-cons clause_size c cs in
    let l = length-append (clause_names ds h c) (clauses_names ds h cs) in
    let m = length-append (map number c.arguments) (resumption h c.resumption ∷ binds_in ds c.body) in
    let a = length-map c.arguments number in
    let b = as_many_in ds c.body in
    omega (arith, q, r, s, l, m, a, b)

-- ## Locals

total_two : (u v : Bool) (l k : LocalRun) (ks : List LocalRun) → nat_eq l.count 0 ≡ u
    → total (cond u (k ∷ ks) (cond v (record { count = l.count + k.count; kind = k.kind } ∷ ks) (l ∷ k ∷ ks))) ≡ l.count + total (k ∷ ks)
unfolding total
total_two true v l k ks e = let none : l.count ≡ 0 = eqb-true l.count 0 e in omega (arith, none)
total_two false true l k ks e = omega arith
total_two false false l k ks e = refl

total_one : (u : Bool) (l : LocalRun) → nat_eq l.count 0 ≡ u → total (cond u [] (l ∷ [])) ≡ l.count + total []
unfolding total
total_one true l e = let none : l.count ≡ 0 = eqb-true l.count 0 e in omega (arith, none)
total_one false l e = refl

total_join : (l : LocalRun) (ks : List LocalRun) → total (join l ks) ≡ l.count + total ks
unfolding join
total_join l [] = total_one (nat_eq l.count 0) l refl
total_join l (k ∷ ks) = total_two (nat_eq l.count 0) (same_kind l.kind k.kind) l k ks refl

total_joined : (ls : List LocalRun) → total (joined ls) ≡ total ls
unfolding join_all total
total_joined [] = refl
total_joined (l ∷ ls) = total_join l (joined ls) ∙ ap (λ (n : ℕ). l.count + n) (total_joined ls)

total_names : (bs : List Bound) (k : ℕ) → total (name_runs bs ++ run I64 k ∷ []) ≡ length bs + k
unfolding total
total_names [] k = omega arith
total_names (b ∷ bs) k = let q = total_names bs k in omega (arith, q)

-- as many as there are names and temporaries
total_locals : (bs : List Bound) (k : ℕ) → total (locals_for bs k) ≡ length bs + k
total_locals bs k = total_joined (name_runs bs ++ run I64 k ∷ []) ∙ total_names bs k

-- with its parameters
function_room : (ds : List Declaration) (f : Function) → length (val_types f.parameters) + total (function_locals ds f) ≤ definition_size (definition.Function f)
function_room ds f =
    let t = total_locals (binds_in ds f.body) (high_block f.body) in
    let q = room_block f.body in
    let a = length-map f.parameters (λ (p : Parameter). val_type p.ty) in
    let b = as_many_in ds f.body in
    omega (arith, t, q, a, b)

handler_room : (ds : List Declaration) (h : Name) (i : Handler) → length (val_types i.parameters ++ to_continuation true computation_type ∷ []) + total (handler_locals ds h i) ≤ definition_size (definition.Handler i)
handler_room ds h i =
    let t = total_locals (return_names ds i ++ clauses_names ds h i.clauses) (max (high_block i.return_clause.body) (high_clauses i.clauses)) in
    let q = room_block i.return_clause.body in
    let r = room_clauses ds h i.clauses in
    let a = length-map i.parameters (λ (p : Parameter). val_type p.ty) in
    let b = length-append (val_types i.parameters) (to_continuation true computation_type ∷ []) in
    let c = length-append (return_names ds i) (clauses_names ds h i.clauses) in
    let d = as_many_in ds i.return_clause.body in
    omega (arith, t, q, r, a, b, c, d)

-- a part of a sum
part : (ds : List Declaration) (k : ℕ) (d : Declaration) → slice_get ds k ≡ Some d → definition_size d.definition ≤ sum_by (λ (e : Declaration). definition_size e.definition) ds
part [] k d e = absurd (cc)
part (c ∷ ds) zero d e = let s = sum_by-cons (λ (x : Declaration). definition_size x.definition) c ds in let same : definition_size c.definition ≡ definition_size d.definition = cc in omega (arith, s, same)
part (c ∷ ds) (suc k) d e = let q = part ds k d e in let s = sum_by-cons (λ (x : Declaration). definition_size x.definition) c ds in omega (arith, q, s)

part_of : (p : Script) (d : Definition) → Declares p.declarations d → definition_size d ≤ Size p
part_of p d k = let q = part p.declarations k.place k.declaration k.is in subst (λ (e : Definition). definition_size e ≤ Size p) k.defines q

locals_by : (p : Script) (i : ℕ) → Size p ≤ size_limit → StandsAt p.declarations i → locals_of (lowered p) i ≤ size_limit
locals_by p i few (of_function f g e t c) =
    let r = function_room p.declarations g in
    let s = part_of p (definition.Function g) (declares p.declarations f (definition.Function g) (is_function (definition_of p.declarations f) g e)) in
    let a : params_in (type_of_function (lowered p) i) ≡ length (val_types g.parameters) = ap params_in t in
    let b : locals_in (code_of_function (lowered p) i) ≡ total (function_locals p.declarations g) = ap locals_in c in
    omega (arith, few, r, s, a, b)
locals_by p i few (of_handler h j e t c) =
    let r = handler_room p.declarations h j in
    let s = part_of p (definition.Handler j) (declares p.declarations h (definition.Handler j) (is_handler (definition_of p.declarations h) j e)) in
    let a : params_in (type_of_function (lowered p) i) ≡ length (val_types j.parameters ++ to_continuation true computation_type ∷ []) = ap params_in t in
    let b : locals_in (code_of_function (lowered p) i) ≡ total (handler_locals p.declarations h j) = ap locals_in c in
    omega (arith, few, r, s, a, b)

-- ## All limits

pub within : (p : Script) → Good p → Size p ≤ size_limit → Within (lowered p)
within p good few = record {
  types = subst (λ (ts : List CompType). length ts ≤ 10000) (sym (types_of_groups (type_table p.declarations))) (few_in_table p good few);
  params = subst (All IsNarrow) (sym (types_of_groups (type_table p.declarations))) (all_narrow p good);
  locals = λ i h. let same = functions_and_codes p.declarations in locals_by p i few (stands_at p good i (omega (arith, same, h)));
}
