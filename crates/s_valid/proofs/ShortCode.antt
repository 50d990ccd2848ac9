-- The code of a script has at most 80 bytes for each unit of the script's size.
use Rattle.std.proofs.Common.{◌≡◌, ℕ, ℤ, zero, suc, pos, negsuc, ◌+◌, ◌*◌, ◌/◌, ◌%◌, ◌-◌, ◌≤◌, Bool, true, false, cond, if◌then◌else◌, List, [], ◌∷◌, ◌++◌, length, refl, arith, length-append}
use Rattle.std.specs.Prelude.{nat_lt, sum_by}
use Rattle.std.specs.List.{flat_map}
use Rattle.std.proofs.lemmas.List.Sums.{sum_by-cons}
use Rattle.w_leb.specs.Number.{shortest_in, shortest, signed_in, shortest_signed}
use Rattle.w_leb.specs.CanonicalLaws.{vec_written}
use Rattle.w_syntax.specs.Code.{Code, Done, Plain, Block, If, IfElse}
use Rattle.w_syntax.specs.Expr.{tokens}
use Rattle.w_syntax.specs.declared.instructions.BlockKind.TheVariants as kind
use Rattle.w_syntax.specs.declared.instructions.BlockType.TheVariants as block_type
use Rattle.w_syntax.specs.declared.instructions.Clause.TheVariants.{Label, Switch}
use Rattle.w_syntax.specs.declared.instructions.Token.{Token}
use Rattle.w_syntax.specs.declared.instructions.Token.TheVariants as tok
use Rattle.w_encode.specs.InstructionsWritten.{op_written, blocktype_written, clause_written, token_written, expr_written}
use Rattle.s_syntax.specs.declared.name.Name.{Name}
use Rattle.s_syntax.specs.declared.operators.UnaryOperator.{UnaryOperator}
use Rattle.s_syntax.specs.declared.operators.UnaryOperator.TheVariants.{Minus, Not}
use Rattle.s_syntax.specs.declared.operators.Connective.TheVariants.{Or, And}
use Rattle.s_syntax.specs.declared.operators.BinaryOperator.{BinaryOperator}
use Rattle.s_syntax.specs.declared.operators.BinaryOperator.TheVariants.{Connects, Compares, Computes}
use Rattle.s_syntax.specs.declared.script.Clause.{Clause}
use Rattle.s_syntax.specs.declared.script.Handler.{Handler}
use Rattle.s_syntax.specs.declared.script.Declaration.{Declaration}
use Rattle.s_syntax.specs.ExprTree.{ExprTree, Literal, Read, Unary, Run, Call, Do, Handle, Resume, Group, Exprs, NoExprs, MoreExprs, Operands, NoOperands, MoreOperands}
use Rattle.s_syntax.specs.declared.statement.Use.TheVariants as use_for
use Rattle.s_syntax.specs.BlockTree.{StatementTree, BlockTree, Evaluate, If as IfStatement, While, Fail, Spawn, Done as NoStatements, ◌⨟◌}
use Rattle.s_check.specs.Rules.{count}
use Rattle.s_check.specs.Size.{expr_size, exprs_size, operands_size, statement_size, block_size, clause_size}
use Rattle.s_index.specs.Numbers.{function_index, handler_index, tag_index, group_tag_index, table_index}
use Rattle.s_index.specs.Indices.{continuation_index, clause_type_index}
use Rattle.s_index.specs.Types.{resumption_type, computation_type, coroutine_type}
use Rattle.s_code.specs.Instructions.{call, return_call, local_get, local_set, table_get, table_set, wrap, null, non_null, nop, bind_continuation, suspend, branch, branch_if, is_zero, leave, dropped, truth, unary_operator, comparison, arithmetic, if_zero, resume}
use Rattle.s_code.specs.Layouts.{Layout, local_number, handler_of_name, stays, slot, is_own, owner_parameters}
use Rattle.s_code.specs.Expressions.{reload, begin, wake, handler_index_of, operator, expr, args, set_aside, operands, set_parameters, tail_resume}
use Rattle.s_code.specs.Slots.{places_of, to_place, store_code, take_code}
use Rattle.s_code.specs.Coroutines.{group_code, spawn_code, switch_code}
use Rattle.s_code.specs.Statements.{printer, return, statement, block, ending, body}
use Rattle.s_code.specs.Handlers.{set_names, clause_code, blocks, labels, return_code, handling, handler_body}
use Rattle.s_code.specs.Places.{layout_at, clause_names, placed_from, placed_clauses, return_layout, clauses_place}

-- ## Numbers

pub either_short : (b : Bool) (xs ys : List ℕ) (m : ℕ) → length xs ≤ m → length ys ≤ m → length (cond b xs ys) ≤ m
either_short true xs ys m h k = h
either_short false xs ys m h k = k

number_short_in : (k n : ℕ) → length (shortest_in k n) ≤ k + 1
unfolding shortest_in
number_short_in zero n = omega arith
number_short_in (suc k) n = let q = number_short_in k (n / 128) in either_short (nat_lt n 128) (n ∷ []) ((n % 128 + 128) ∷ shortest_in k (n / 128)) (suc k + 1) (omega arith) (omega (arith, q))

signed_short_in : (k : ℕ) (z : ℤ) → length (signed_in k z) ≤ k + 1
unfolding signed_in
signed_short_in zero (pos n) = omega arith
signed_short_in zero (negsuc n) = omega arith
signed_short_in (suc k) (pos n) = let q = signed_short_in k (pos (n / 128)) in either_short (nat_lt n 64) (n ∷ []) ((n % 128 + 128) ∷ signed_in k (pos (n / 128))) (suc k + 1) (omega arith) (omega (arith, q))
signed_short_in (suc k) (negsuc n) = let q = signed_short_in k (negsuc (n / 128)) in either_short (nat_lt n 64) ((127 - n) ∷ []) ((255 - n % 128) ∷ signed_in k (negsuc (n / 128))) (suc k + 1) (omega arith) (omega (arith, q))

-- a number has at most ten bytes
pub number_short : (n : ℕ) → length (shortest n) ≤ 10
number_short n = let q = number_short_in 9 n in omega (arith, q)

-- a signed one too
pub signed_short : (z : ℤ) → length (shortest_signed z) ≤ 10
signed_short z = let q = signed_short_in 9 z in omega (arith, q)

past_short : length (shortest_signed (negsuc 0)) ≡ 1
unfolding signed_in
past_short = refl

null_short : length (shortest_signed (pos resumption_type)) ≡ 1
unfolding signed_in
null_short = refl

-- ## Code

-- how many bytes the instructions of code have
abbrev pub code_bytes : Code → ℕ
code_bytes Done = 0
code_bytes (Plain o c) = length (op_written o) + code_bytes c
code_bytes (Block k b x c) = length (blocktype_written b) + 2 + code_bytes x + code_bytes c
code_bytes (If b x c) = length (blocktype_written b) + 2 + code_bytes x + code_bytes c
code_bytes (IfElse b x y c) = length (blocktype_written b) + 3 + code_bytes x + code_bytes y + code_bytes c

flat_length : (ts us : List Token) → length (flat_map token_written (ts ++ us)) ≡ length (flat_map token_written ts) + length (flat_map token_written us)
flat_length [] us = omega arith
flat_length (t ∷ ts) us =
    let q = flat_length ts us in
    let l = length-append (token_written t) (flat_map token_written (ts ++ us)) in
    let r = length-append (token_written t) (flat_map token_written ts) in
    omega (arith, q, l, r)

token_first : (t : Token) (ts : List Token) → length (flat_map token_written (t ∷ ts)) ≡ length (token_written t) + length (flat_map token_written ts)
token_first t ts = length-append (token_written t) (flat_map token_written ts)

tokens_length : (c : Code) → length (flat_map token_written (tokens c)) ≡ code_bytes c
unfolding tokens
tokens_length Done = refl
tokens_length (Plain o c) = let q = tokens_length c in let f = token_first (tok.Plain o) (tokens c) in omega (arith, q, f)
tokens_length (Block k b x c) =
    let q = tokens_length x in let r = tokens_length c in
    let f = token_first (tok.Block k b) (tokens x ++ tok.End ∷ tokens c) in let g = flat_length (tokens x) (tok.End ∷ tokens c) in let h = token_first tok.End (tokens c) in
    omega (arith, q, r, f, g, h)
tokens_length (If b x c) =
    let q = tokens_length x in let r = tokens_length c in
    let f = token_first (tok.If b) (tokens x ++ tok.End ∷ tokens c) in let g = flat_length (tokens x) (tok.End ∷ tokens c) in let h = token_first tok.End (tokens c) in
    omega (arith, q, r, f, g, h)
tokens_length (IfElse b x y c) =
    let q = tokens_length x in let s = tokens_length y in let r = tokens_length c in
    let f = token_first (tok.If b) (tokens x ++ tok.Else ∷ (tokens y ++ tok.End ∷ tokens c)) in let g = flat_length (tokens x) (tok.Else ∷ (tokens y ++ tok.End ∷ tokens c)) in
    let e = token_first tok.Else (tokens y ++ tok.End ∷ tokens c) in
    let i = flat_length (tokens y) (tok.End ∷ tokens c) in let h = token_first tok.End (tokens c) in
    omega (arith, q, r, s, f, g, e, i, h)

-- an expression is written as its instructions, and an end
pub written_length : (c : Code) → length (expr_written c) ≡ code_bytes c + 1
written_length c =
    let q = tokens_length c in
    let f = flat_length (tokens c) (tok.End ∷ []) in
    let g = token_first tok.End [] in
    omega (arith, q, f, g)

-- ## Expressions

get_short : (x : ℕ) (c : Code) → code_bytes (Plain (local_get x) c) ≤ 11 + code_bytes c
get_short x c = let n = number_short x in omega (arith, n)

set_short : (x : ℕ) (c : Code) → code_bytes (Plain (local_set x) c) ≤ 11 + code_bytes c
set_short x c = let n = number_short x in omega (arith, n)

call_short : (x : ℕ) (c : Code) → code_bytes (Plain (call x) c) ≤ 11 + code_bytes c
call_short x c = let n = number_short x in omega (arith, n)

return_call_short : (x : ℕ) (c : Code) → code_bytes (Plain (return_call x) c) ≤ 11 + code_bytes c
return_call_short x c = let n = number_short x in omega (arith, n)

unary_short : (o : UnaryOperator) (c : Code) → code_bytes (unary_operator o c) ≤ 12 + code_bytes c
unary_short Minus c = let n = signed_short (negsuc 0) in omega (arith, n)
unary_short Not c = omega arith

operator_short : (o : BinaryOperator) (right : Code → Code) (s : ℕ) → ((c : Code) → code_bytes (right c) + 22 ≤ s + code_bytes c) → (c : Code) → code_bytes (operator o right c) ≤ 80 + s + code_bytes c
operator_short (Connects And) right s h c = let r = h truth in let n = signed_short (pos 0) in omega (arith, r, n)
operator_short (Connects Or) right s h c = let r = h truth in let n = signed_short (pos 1) in omega (arith, r, n)
operator_short (Compares o) right s h c = let r = h (comparison o c) in omega (arith, r)
operator_short (Computes o) right s h c = let r = h (arithmetic o c) in omega (arith, r)

-- an argument that stays, or is put where it lies
aside_short : (b : Bool) (x : ℕ) (value : Code → Code) (s : ℕ) → ((c : Code) → code_bytes (value c) + 22 ≤ s + code_bytes c) → (c : Code)
    → code_bytes (if b then Plain nop c else value (Plain (local_set x) c)) + 11 ≤ s + code_bytes c
aside_short true x value s h c = let r = h Done in omega (arith, r)
aside_short false x value s h c = let r = h (Plain (local_set x) c) in let q = set_short x c in omega (arith, r, q)

module _ (ds : List Declaration) (Γ : Layout) where
  reload_short : (es : Exprs) (t : ℕ) (c : Code) → code_bytes (reload Γ t es c) ≤ 11 * count es + code_bytes c
  reload_short NoExprs t c = omega arith
  reload_short (MoreExprs e es) t c = let r = reload_short es (t + 1) c in let q = get_short (slot Γ t e) (reload Γ (t + 1) es c) in omega (arith, r, q)

  begin_short : (f : Name) (c : Code) → code_bytes (begin ds f c) ≤ 43 + code_bytes c
  begin_short f c = let a = number_short (function_index ds f) in let b = number_short (continuation_index ds f) in let d = number_short computation_type in
      let l = length-append (shortest (continuation_index ds f)) (shortest computation_type) in omega (arith, a, b, d, l)

  wake_short : (k : Name) (c : Code) → code_bytes (wake Γ k c) ≤ 32 + code_bytes c
  wake_short k c = let a = number_short resumption_type in let d = number_short computation_type in let l = length-append (shortest resumption_type) (shortest computation_type) in
      let q = get_short (local_number Γ k) (Plain (bind_continuation resumption_type computation_type) c) in omega (arith, a, d, l, q)

  -- the one clause of a group
  group_clause_short : length (flat_map clause_written (Switch (group_tag_index ds) ∷ [])) ≤ 11
  group_clause_short = let n = number_short (group_tag_index ds) in let l = length-append (clause_written (Switch (group_tag_index ds))) [] in omega (arith, n, l)

  group_short : (f : Name) (c : Code) → code_bytes (group_code ds f c) ≤ 54 + code_bytes c
  group_short f c =
      let hs = Switch (group_tag_index ds) ∷ [] in
      let a = number_short (function_index ds f) in let b = number_short resumption_type in let d = number_short (length hs) in let e = group_clause_short in
      let l = length-append (shortest resumption_type) (vec_written clause_written hs) in
      let m = length-append (shortest (length hs)) (flat_map clause_written hs) in
      omega (arith, a, b, d, e, l, m)

  spawn_short : (t f : Name) (c : Code) → code_bytes (spawn_code ds Γ t f c) ≤ 33 + code_bytes c
  spawn_short t f c =
      let a = number_short (function_index ds f) in let b = number_short coroutine_type in let q = set_short (local_number Γ t) c in omega (arith, a, b, q)

  switch_short : (x u t : Name) (c : Code) → code_bytes (switch_code ds Γ x u t c) ≤ 54 + code_bytes c
  switch_short x u t c =
      let a = number_short coroutine_type in let b = number_short (group_tag_index ds) in
      let l = length-append (shortest coroutine_type) (shortest (group_tag_index ds)) in
      let p = number_short (local_number Γ t) in
      let q = set_short (local_number Γ u) (Plain (local_set (local_number Γ x)) c) in
      let r = set_short (local_number Γ x) c in
      omega (arith, a, b, l, p, q, r)

  mutual
    expr_short : (x : ExprTree) (t : ℕ) (c : Code) → code_bytes (expr ds Γ t x c) + 22 ≤ 80 * expr_size x + code_bytes c
    expr_short (Literal n) t c = let q = signed_short (pos n.value) in omega (arith, q)
    expr_short (Read x) t c = let q = get_short (local_number Γ x) c in omega (arith, q)
    expr_short (Unary o e) t c = let p = expr_short e t (unary_operator o c) in let q = unary_short o c in omega (arith, p, q)
    expr_short (Run e ps) t c = let p = expr_short e t (operands ds Γ t ps c) in let q = operands_short ps t c in omega (arith, p, q)
    expr_short (Call f es) t c = let p = args_short es t (Plain (call (function_index ds f)) c) in let q = call_short (function_index ds f) c in omega (arith, p, q)
    expr_short (Do o es) t c = let p = args_short es t (Plain (suspend (tag_index ds o)) c) in let q = number_short (tag_index ds o) in omega (arith, p, q)
    expr_short (Handle f es h ps) t c =
        let a = call_short (handler_index ds h) c in
        let b = begin_short f (Plain (call (handler_index ds h)) c) in
        let r = reload_short es t (begin ds f (Plain (call (handler_index ds h)) c)) in
        let p = args_short ps (t + count es) (reload Γ t es (begin ds f (Plain (call (handler_index ds h)) c))) in
        let q = set_aside_short es t (args ds Γ (t + count es) ps (reload Γ t es (begin ds f (Plain (call (handler_index ds h)) c)))) in
        omega (arith, a, b, r, p, q)
    expr_short (Resume k e ps) t c =
        let last : Code = Plain (call (handler_index_of ds (handler_of_name Γ k))) c in
        let a = call_short (handler_index_of ds (handler_of_name Γ k)) c in
        let w = wake_short k last in
        let g = get_short (Γ.temporaries + t) (wake Γ k last) in
        let p = args_short ps (t + 1) (Plain (local_get (Γ.temporaries + t)) (wake Γ k last)) in
        let s = set_short (Γ.temporaries + t) (args ds Γ (t + 1) ps (Plain (local_get (Γ.temporaries + t)) (wake Γ k last))) in
        let q = expr_short e t (Plain (local_set (Γ.temporaries + t)) (args ds Γ (t + 1) ps (Plain (local_get (Γ.temporaries + t)) (wake Γ k last)))) in
        omega (arith, a, w, g, p, s, q)
    expr_short (Group f e) t c = let p = expr_short e t (group_code ds f c) in let q = group_short f c in omega (arith, p, q)

    args_short : (es : Exprs) (t : ℕ) (c : Code) → code_bytes (args ds Γ t es c) ≤ 80 * exprs_size es + code_bytes c
    args_short NoExprs t c = omega arith
    args_short (MoreExprs e es) t c = let p = expr_short e t (args ds Γ t es c) in let q = args_short es t c in omega (arith, p, q)

    -- eleven less for each: it is read later
    set_aside_short : (es : Exprs) (t : ℕ) (c : Code) → code_bytes (set_aside ds Γ t es c) + 11 * count es ≤ 80 * exprs_size es + code_bytes c
    set_aside_short NoExprs t c = omega arith
    set_aside_short (MoreExprs e es) t c =
        let p = aside_short (stays Γ e) (Γ.temporaries + t) (λ (k : Code). expr ds Γ t e k) (80 * expr_size e) (λ k. expr_short e t k) (set_aside ds Γ (t + 1) es c) in
        let q = set_aside_short es (t + 1) c in
        omega (arith, p, q)

    operands_short : (ps : Operands) (t : ℕ) (c : Code) → code_bytes (operands ds Γ t ps c) ≤ 80 * operands_size ps + code_bytes c
    operands_short NoOperands t c = omega arith
    operands_short (MoreOperands o e ps) t c =
        let p = operator_short o (λ (k : Code). expr ds Γ t e k) (80 * expr_size e) (λ k. expr_short e t k) (operands ds Γ t ps c) in
        let q = operands_short ps t c in
        omega (arith, p, q)

-- ## Statements

parameters_short : (n : ℕ) (c : Code) → code_bytes (set_parameters n c) ≤ 11 * n + code_bytes c
parameters_short zero c = omega arith
parameters_short (suc n) c = let p = parameters_short n c in let q = set_short n (set_parameters n c) in omega (arith, p, q)

module _ (ds : List Declaration) (Γ : Layout) (few : owner_parameters Γ.owner ≤ 8) where
  tail_short : (k : Name) (e : ExprTree) (ps : Exprs) (D : ℕ) (c : Code) → code_bytes (tail_resume ds Γ D k e ps c) ≤ 80 * (1 + expr_size (Resume k e ps)) + code_bytes c
  tail_short k e ps D c =
      let n = owner_parameters Γ.owner in
      let b = number_short D in
      let s = parameters_short n (Plain (branch D) c) in
      let o = set_short n (set_parameters n (Plain (branch D) c)) in
      let rest : Code = Plain (local_set n) (set_parameters n (Plain (branch D) c)) in
      let w = wake_short ds Γ k rest in
      let g = get_short Γ.temporaries (wake Γ k rest) in
      let p = args_short ds Γ ps 1 (Plain (local_get Γ.temporaries) (wake Γ k rest)) in
      let t = set_short Γ.temporaries (args ds Γ 1 ps (Plain (local_get Γ.temporaries) (wake Γ k rest))) in
      let q = expr_short ds Γ e 0 (Plain (local_set Γ.temporaries) (args ds Γ 1 ps (Plain (local_get Γ.temporaries) (wake Γ k rest)))) in
      omega (arith, few, b, s, o, w, g, p, t, q)

  -- the place of a number
  place_short : (n : ℕ) (c : Code) → code_bytes (to_place Γ.temporaries n c) ≤ 49 + code_bytes c
  place_short n c =
      let t = number_short Γ.temporaries in let a = signed_short (pos n) in let b = past_short in omega (arith, t, a, b)

  store_short : (s k : Name) (c : Code) → code_bytes (store_code ds Γ s k c) ≤ 71 + code_bytes c
  store_short s k c =
      let k' = number_short (local_number Γ k) in let x = number_short (table_index ds s) in
      let p = place_short (places_of ds s) (Plain (local_get (local_number Γ k)) (Plain (table_set (table_index ds s)) c)) in
      omega (arith, k', x, p)

  take_short : (k s : Name) (c : Code) → code_bytes (take_code ds Γ k s c) ≤ 97 + code_bytes c
  take_short k s c =
      let k' = number_short (local_number Γ k) in let x = number_short (table_index ds s) in let t = number_short Γ.temporaries in let n = null_short in
      let emptied : Code = Plain (local_get Γ.temporaries) (Plain wrap (Plain (null resumption_type) (Plain (table_set (table_index ds s)) c))) in
      let p = place_short (places_of ds s) (Plain (table_get (table_index ds s)) (Plain non_null (Plain (local_set (local_number Γ k)) emptied))) in
      omega (arith, k', x, t, n, p)

  plain_short : (x : ExprTree) (c : Code) → code_bytes (expr ds Γ 0 x (Plain leave c)) ≤ 80 * (1 + expr_size x) + code_bytes c
  plain_short x c = let p = expr_short ds Γ x 0 (Plain leave c) in omega (arith, p)

  resumed_short : (k : Name) (e : ExprTree) (ps : Exprs) (D : ℕ) (c : Code) (b : Bool)
      → code_bytes (if b then tail_resume ds Γ D k e ps c else expr ds Γ 0 (Resume k e ps) (Plain leave c)) ≤ 80 * (1 + expr_size (Resume k e ps)) + code_bytes c
  resumed_short k e ps D c true = tail_short k e ps D c
  resumed_short k e ps D c false = plain_short (Resume k e ps) c

  return_short : (x : ExprTree) (D : ℕ) (c : Code) → code_bytes (return ds Γ D x c) ≤ 80 * (1 + expr_size x) + code_bytes c
  return_short (Literal n) D c = plain_short (Literal n) c
  return_short (Read x) D c = plain_short (Read x) c
  return_short (Unary o e) D c = plain_short (Unary o e) c
  return_short (Run e ps) D c = plain_short (Run e ps) c
  return_short (Call f es) D c = let p = args_short ds Γ es 0 (Plain (return_call (function_index ds f)) c) in let q = return_call_short (function_index ds f) c in omega (arith, p, q)
  return_short (Do o es) D c = plain_short (Do o es) c
  return_short (Handle f es h ps) D c = plain_short (Handle f es h ps) c
  return_short (Group f e) D c = plain_short (Group f e) c
  return_short (Resume k e ps) D c = resumed_short k e ps D c (is_own Γ k)

  mutual
    statement_short : (s : StatementTree) (D : ℕ) (c : Code) → code_bytes (statement ds Γ D s c) ≤ 80 * statement_size s + code_bytes c
    statement_short (Evaluate (use_for.Let x) e) D c = let p = expr_short ds Γ e 0 (Plain (local_set (local_number Γ x)) c) in let q = set_short (local_number Γ x) c in omega (arith, p, q)
    statement_short (Evaluate (use_for.Assign x) e) D c = let p = expr_short ds Γ e 0 (Plain (local_set (local_number Γ x)) c) in let q = set_short (local_number Γ x) c in omega (arith, p, q)
    statement_short (IfStatement e a b) D c =
        let p = expr_short ds Γ e 0 (if_zero (block ds Γ (D + 1) b Done) (block ds Γ (D + 1) a Done) c) in
        let q = block_short a (D + 1) Done in let r = block_short b (D + 1) Done in
        omega (arith, p, q, r)
    statement_short (While e b) D c =
        let n = number_short 0 in let m = number_short 1 in
        let q = block_short b (D + 2) (Plain (branch 0) Done) in
        let p = expr_short ds Γ e 0 (Plain is_zero (Plain (branch_if 1) (block ds Γ (D + 2) b (Plain (branch 0) Done)))) in
        omega (arith, n, m, p, q)
    statement_short (Evaluate use_for.Print e) D c = let p = expr_short ds Γ e 0 (Plain (call printer) c) in let q = call_short printer c in omega (arith, p, q)
    statement_short (Evaluate use_for.Return e) D c = return_short e D c
    statement_short (Evaluate (use_for.Store s k) e) D c = let p = expr_short ds Γ e 0 (store_code ds Γ s k c) in let q = store_short s k c in omega (arith, p, q)
    statement_short (Evaluate (use_for.Take k s) e) D c = let p = expr_short ds Γ e 0 (take_code ds Γ k s c) in let q = take_short k s c in omega (arith, p, q)
    statement_short (Evaluate (use_for.Switch x u t) e) D c = let p = expr_short ds Γ e 0 (switch_code ds Γ x u t c) in let q = switch_short ds Γ x u t c in omega (arith, p, q)
    statement_short (Spawn t f) D c = let q = spawn_short ds Γ t f c in omega (arith, q)
    statement_short Fail D c = omega arith
    statement_short (Evaluate use_for.Drop e) D c = let p = expr_short ds Γ e 0 (Plain dropped c) in omega (arith, p)

    block_short : (b : BlockTree) (D : ℕ) (c : Code) → code_bytes (block ds Γ D b c) ≤ 80 * block_size b + code_bytes c
    block_short NoStatements D c = omega arith
    block_short (s ⨟ b) D c = let p = statement_short s D (block ds Γ D b c) in let q = block_short b D c in omega (arith, p, q)

  -- the code of a body
  pub body_short : (b : BlockTree) (D : ℕ) → code_bytes (body ds Γ D b) ≤ 80 * block_size b + 12
  body_short b D = let p = block_short b D ending in let n = signed_short (pos 0) in omega (arith, p, n)

  -- ## Handlers

  names_short : (xs : List Name) (c : Code) → code_bytes (set_names Γ xs c) ≤ 11 * length xs + code_bytes c
  names_short [] c = omega arith
  names_short (x ∷ xs) c =
      let p = names_short xs (Plain (local_set (local_number Γ x)) c) in let q = set_short (local_number Γ x) c in omega (arith, p, q)

  clause_short : (D : ℕ) (c : Clause) → code_bytes (clause_code ds D (record { clause = c; layout = Γ })) ≤ 11 * length c.arguments + 80 * block_size c.body + 23
  clause_short D c =
      let b = body_short c.body D in
      let n = names_short c.arguments (body ds Γ D c.body) in
      let q = set_short (local_number Γ c.resumption) (set_names Γ c.arguments (body ds Γ D c.body)) in
      omega (arith, b, n, q)

  returned_short : (D : ℕ) (i : Handler) → code_bytes (return_code ds Γ D i) ≤ 80 * block_size i.return_clause.body + 23
  returned_short D i =
      let b = body_short i.return_clause.body D in
      let q = set_short (local_number Γ i.return_clause.value) (body ds Γ D i.return_clause.body) in
      omega (arith, b, q)

blocks_short : (ds : List Declaration) (h : Name) (i : Handler) → length i.parameters ≤ 8 → (n : ℕ) (cs : List Clause) (c : Code)
    → code_bytes (blocks ds (placed_from ds h i n cs) c) + 21 * length cs ≤ 80 * sum_by clause_size cs + code_bytes c
blocks_short ds h i few n [] c = omega arith
blocks_short ds h i few n (k ∷ cs) c =
    let Γ = layout_at ds h i n (clause_names ds h k) in
    let m = n + length (clause_names ds h k) in
    let ps = placed_from ds h i m cs in
    let t = block_type.Index (clause_type_index ds (length k.arguments)) in
    let code = clause_code ds (length ps) (record { clause = k; layout = Γ }) in
    let s = signed_short (pos (clause_type_index ds (length k.arguments))) in
    let q = clause_short ds Γ few (length ps) k in
    let p = blocks_short ds h i few m cs (Block kind.Block t c code) in
    let z = sum_by-cons clause_size k cs in
    omega (arith, s, q, p, z)

labels_short : (ds : List Declaration) (l : ℕ) (cs : List Clause) → length (flat_map clause_written (labels ds l cs)) ≤ 21 * length cs
labels_short ds l [] = omega arith
labels_short ds l (c ∷ cs) =
    let p = labels_short ds (l + 1) cs in
    let a = number_short (tag_index ds c.effect) in let b = number_short l in
    let m = length-append (shortest (tag_index ds c.effect)) (shortest l) in
    let n = length-append (clause_written (Label (tag_index ds c.effect) l)) (flat_map clause_written (labels ds (l + 1) cs)) in
    omega (arith, p, a, b, m, n)

handling_short : (ds : List Declaration) (Γ : Layout) (i : Handler) → owner_parameters Γ.owner ≤ 8
    → code_bytes (handling ds Γ i) ≤ 21 * length i.clauses + 80 * block_size i.return_clause.body + 55
handling_short ds Γ i few =
    let hs = labels ds 0 i.clauses in
    let r = returned_short ds Γ few (length i.clauses) i in
    let l = labels_short ds 0 i.clauses in
    let n = number_short (length hs) in
    let t = number_short computation_type in
    let a = length-append (shortest computation_type) (vec_written clause_written hs) in
    let b = length-append (shortest (length hs)) (flat_map clause_written hs) in
    let g = get_short (length i.parameters) (Plain (resume computation_type hs) (return_code ds Γ (length i.clauses) i)) in
    omega (arith, r, l, n, t, a, b, g)

-- the code of a handler
pub handler_short : (ds : List Declaration) (h : Name) (i : Handler) → length i.parameters ≤ 8
    → code_bytes (handler_body ds (return_layout ds h i) i (placed_clauses ds h i)) ≤ 80 * block_size i.return_clause.body + 80 * sum_by clause_size i.clauses + 58
handler_short ds h i few =
    let Γ = return_layout ds h i in
    let p = handling_short ds Γ i few in
    let q = blocks_short ds h i few (clauses_place ds i) i.clauses (handling ds Γ i) in
    omega (arith, p, q)
