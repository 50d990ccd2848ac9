-- The code of bodies of scripts can be spelled: each of its tokens is, as the numbers in it are small.
use Rattle.std.proofs.Common.{ℕ, zero, suc, ◌+◌, ◌^◌, ◌<◌, ◌≤◌, Bool, true, false, if◌then◌else◌, List, [], ◌∷◌, Option, Some, None, refl, arith}
use Rattle.w_types.specs.declared.types.CompType.TheVariants.{Cont}
use Rattle.w_syntax.specs.Code.{Code, Done, Plain}
use Rattle.w_syntax.specs.declared.instructions.BlockKind.TheVariants as kind
use Rattle.w_syntax.specs.declared.instructions.BlockType.TheVariants as block_type
use Rattle.w_syntax.specs.declared.instructions.Clause.TheVariants.{Switch}
use Rattle.s_syntax.specs.declared.name.Name.{Name}
use Rattle.s_syntax.specs.declared.operators.UnaryOperator.{UnaryOperator}
use Rattle.s_syntax.specs.declared.operators.UnaryOperator.TheVariants.{Minus, Not}
use Rattle.s_syntax.specs.declared.operators.Connective.TheVariants.{Or, And}
use Rattle.s_syntax.specs.declared.operators.BinaryOperator.{BinaryOperator}
use Rattle.s_syntax.specs.declared.operators.BinaryOperator.TheVariants.{Connects, Compares, Computes}
use Rattle.s_syntax.specs.declared.script.Slots.{Slots}
use Rattle.s_syntax.specs.declared.script.Declaration.{Declaration}
use Rattle.s_syntax.specs.ExprTree.{ExprTree, Literal, Read, Unary, Run, Call, Do, Handle, Resume, Group, Exprs, NoExprs, MoreExprs, Operands, NoOperands, MoreOperands}
use Rattle.s_syntax.specs.declared.statement.Use.TheVariants as use_for
use Rattle.s_syntax.specs.BlockTree.{StatementTree, BlockTree, Evaluate, If as IfStatement, While, Fail, Spawn, Done as NoStatements, ◌⨟◌}
use Rattle.s_check.specs.Definitions.{slots_of}
use Rattle.s_check.specs.Rules.{count}
use Rattle.s_check.specs.Size.{expr_size, exprs_size, operands_size, statement_size, block_size}
use Rattle.s_index.specs.Numbers.{function_index, handler_index, tag_index, group_tag_index, table_index}
use Rattle.s_index.specs.Types.{resumption_type, computation_type, coroutine_type}
use Rattle.s_index.specs.Indices.{continuation_index, function_type_index, parameters_of}
use Rattle.s_index.specs.Limits.{number_limit as limit}
use Rattle.s_code.specs.Instructions.{call, return_call, local_get, local_set, table_get, table_set, wrap, null, non_null, nop, suspend, branch, branch_if, is_zero, leave, dropped, truth, unary_operator, comparison, arithmetic, if_zero}
use Rattle.s_code.specs.Layouts.{Layout, local_number, handler_of_name, refers, stays, slot, is_own, owner_parameters}
use Rattle.s_code.specs.Expressions.{reload, begin, wake, handler_index_of, operator, expr, args, set_aside, operands, set_parameters, tail_resume}
use Rattle.s_code.specs.Slots.{places_in, places_of, to_place, store_code, take_code}
use Rattle.s_code.specs.Coroutines.{group_code, spawn_code, switch_code}
use Rattle.s_code.specs.Statements.{printer, return, statement, block, ending, body}
use Rattle.s_code.proofs.Sizes.{some_size, count_within}
use Rattle.w_encode.specs.Spelled.{CodeSpelled}
use Rattle.s_agrees.proofs.SpelledIndices.{fits, SmallIndices, SmallLayout}
use Rattle.s_agrees.proofs.SpelledTokens.{constant_spelled, minus_one_spelled, minus_one_32_spelled, wrap_spelled, below_spelled, select_spelled, table_get_spelled, table_set_spelled, null_spelled, non_null_spelled, is_zero_spelled, is_zero_32_spelled, extend_spelled, unreachable_spelled, nop_spelled, leave_spelled, dropped_spelled, binary_spelled, times_spelled, compare_spelled, branch_spelled, branch_if_spelled, call_spelled, return_call_spelled, local_get_spelled, local_set_spelled, reference_spelled, new_continuation_spelled, suspend_spelled, bind_continuation_spelled, resume_spelled, switch_spelled, block_spelled, if_spelled}

-- ## Operators

-- what tells whether a number is 0
truth_spelled : CodeSpelled truth
truth_spelled = (is_zero_spelled, (is_zero_32_spelled, (extend_spelled, tt)))

-- an operator behind its operand
unary_spelled : (o : UnaryOperator) (c : Code) → CodeSpelled c → CodeSpelled (unary_operator o c)
unary_spelled Minus c h = (minus_one_spelled, (times_spelled, h))
unary_spelled Not c h = (is_zero_spelled, (extend_spelled, h))

-- an operator of two operands, behind the left one
operator_spelled : (o : BinaryOperator) (right : Code → Code) → ((c : Code) → CodeSpelled c → CodeSpelled (right c)) → (c : Code) → CodeSpelled c → CodeSpelled (operator o right c)
operator_spelled (Connects And) right r c h = (is_zero_spelled, (if_spelled (block_type.Value _) refl, (constant_spelled 0 (omega arith), tt), r truth truth_spelled, h))
operator_spelled (Connects Or) right r c h = (is_zero_spelled, (if_spelled (block_type.Value _) refl, r truth truth_spelled, (constant_spelled 1 (omega arith), tt), h))
operator_spelled (Compares o) right r c h = r (comparison o c) (compare_spelled o, (extend_spelled, h))
operator_spelled (Computes o) right r c h = r (arithmetic o c) (binary_spelled o, h)

-- an argument that stays, or is put where it lies
aside_spelled : (b : Bool) (x : ℕ) (value : Code → Code) → ((c : Code) → CodeSpelled c → CodeSpelled (value c)) → x < 2 ^ 32 → (c : Code) → CodeSpelled c
    → CodeSpelled (if b then Plain nop c else value (Plain (local_set x) c))
aside_spelled true x value v few c h = (nop_spelled, h)
aside_spelled false x value v few c h = v (Plain (local_set x) c) (local_set_spelled x few, h)

-- ## Expressions

-- how many temporaries and labels a body may have
abbrev pub room : ℕ
room = 200000

module _ (ds : List Declaration) (Γ : Layout) (S : SmallIndices ds) (L : SmallLayout Γ) where
  -- a name's local
  name_fits : (x : Name) → local_number Γ x < 2 ^ 32
  name_fits x = fits (local_number Γ x) (L.name x)

  -- a temporary
  temporary_fits : (t : ℕ) → t ≤ room → Γ.temporaries + t < 2 ^ 32
  temporary_fits t h = let few = L.temporaries in omega (arith, h, few)

  -- whichever is taken
  either_fits : (b : Bool) (x y : ℕ) → x < 2 ^ 32 → y < 2 ^ 32 → (if b then x else y) < 2 ^ 32
  either_fits true x y h i = h
  either_fits false x y h i = i

  -- where an argument lies
  slot_fits : (e : ExprTree) (t : ℕ) → t ≤ room → slot Γ t e < 2 ^ 32
  slot_fits (Read x) t h = either_fits (refers Γ x) (local_number Γ x) (Γ.temporaries + t) (name_fits x) (temporary_fits t h)
  slot_fits (Literal n) t h = temporary_fits t h
  slot_fits (Unary o e) t h = temporary_fits t h
  slot_fits (Run e ps) t h = temporary_fits t h
  slot_fits (Call f es) t h = temporary_fits t h
  slot_fits (Do o es) t h = temporary_fits t h
  slot_fits (Handle f es i ps) t h = temporary_fits t h
  slot_fits (Resume k e ps) t h = temporary_fits t h
  slot_fits (Group f e) t h = temporary_fits t h

  -- arguments that are put on the stack once more
  reload_spelled : (es : Exprs) (t : ℕ) (c : Code) → t + count es ≤ room → CodeSpelled c → CodeSpelled (reload Γ t es c)
  reload_spelled NoExprs t c few h = h
  reload_spelled (MoreExprs e es) t c few h = (local_get_spelled (slot Γ t e) (slot_fits e t (omega (arith, few))), reload_spelled es (t + 1) c (omega (arith, few)) h)

  -- a computation of a function
  begin_spelled : (f : Name) (c : Code) → CodeSpelled c → CodeSpelled (begin ds f c)
  begin_spelled f c h =
      let t = fits (continuation_index ds f) (S.type (Cont (function_type_index ds (parameters_of ds f)))) in (
        reference_spelled (function_index ds f) (fits (function_index ds f) (S.function f)),
        (new_continuation_spelled (continuation_index ds f) t, (bind_continuation_spelled (continuation_index ds f) computation_type t (omega arith), h)),
      )

  -- a computation of a resumption
  wake_spelled : (k : Name) (c : Code) → CodeSpelled c → CodeSpelled (wake Γ k c)
  wake_spelled k c h = (local_get_spelled (local_number Γ k) (name_fits k), (bind_continuation_spelled resumption_type computation_type (omega arith) (omega arith), h))

  -- the tag of groups
  group_fits : group_tag_index ds < 2 ^ 32
  group_fits = fits (group_tag_index ds) S.group

  -- a group, behind the number that it begins with
  group_spelled : (f : Name) (c : Code) → CodeSpelled c → CodeSpelled (group_code ds f c)
  group_spelled f c h = (
    reference_spelled (function_index ds f) (fits (function_index ds f) (S.function f)),
    (
      new_continuation_spelled resumption_type (omega arith),
      (resume_spelled resumption_type (Switch (group_tag_index ds) ∷ []) (omega arith) (omega arith) (group_fits, tt), h),
    ),
  )

  -- the handler of a resumption
  handler_fits : (o : Option Name) → handler_index_of ds o < 2 ^ 32
  handler_fits None = omega arith
  handler_fits (Some h) = fits (handler_index ds h) (S.handler h)

  -- an expression before what can be spelled, where it has room
  mutual
    pub expr_spelled : (x : ExprTree) (t : ℕ) (c : Code) → t + expr_size x ≤ room → CodeSpelled c → CodeSpelled (expr ds Γ t x c)
    expr_spelled (Literal n) t c few h = (constant_spelled n.value n.small, h)
    expr_spelled (Read x) t c few h = (local_get_spelled (local_number Γ x) (name_fits x), h)
    expr_spelled (Unary o e) t c few h = expr_spelled e t (unary_operator o c) (omega (arith, few)) (unary_spelled o c h)
    expr_spelled (Run e ps) t c few h = expr_spelled e t (operands ds Γ t ps c) (omega (arith, few)) (operands_spelled ps t c (omega (arith, few)) h)
    expr_spelled (Call f es) t c few h =
        args_spelled es t (Plain (call (function_index ds f)) c) (omega (arith, few)) (call_spelled (function_index ds f) (fits (function_index ds f) (S.function f)), h)
    expr_spelled (Do o es) t c few h =
        args_spelled es t (Plain (suspend (tag_index ds o)) c) (omega (arith, few)) (suspend_spelled (tag_index ds o) (fits (tag_index ds o) (S.tag o)), h)
    expr_spelled (Handle f es g ps) t c few h =
        let last : Code = Plain (call (handler_index ds g)) c in
        let n = count_within es in
        let p = begin_spelled f last (call_spelled (handler_index ds g) (fits (handler_index ds g) (S.handler g)), h) in
        let q = reload_spelled es t (begin ds f last) (omega (arith, few, n)) p in
        let r = args_spelled ps (t + count es) (reload Γ t es (begin ds f last)) (omega (arith, few, n)) q in
        set_aside_spelled es t (args ds Γ (t + count es) ps (reload Γ t es (begin ds f last))) (omega (arith, few)) r
    expr_spelled (Resume k e ps) t c few h =
        let x = handler_index_of ds (handler_of_name Γ k) in
        let last : Code = Plain (call x) c in
        let n = some_size e in
        let there : Γ.temporaries + t < 2 ^ 32 = temporary_fits t (omega (arith, few)) in
        let w = wake_spelled k last (call_spelled x (handler_fits (handler_of_name Γ k)), h) in
        let p = args_spelled ps (t + 1) (Plain (local_get (Γ.temporaries + t)) (wake Γ k last)) (omega (arith, few, n)) (local_get_spelled (Γ.temporaries + t) there, w) in
        expr_spelled e t (Plain (local_set (Γ.temporaries + t)) (args ds Γ (t + 1) ps (Plain (local_get (Γ.temporaries + t)) (wake Γ k last)))) (omega (arith, few))
        (local_set_spelled (Γ.temporaries + t) there, p)
    expr_spelled (Group f e) t c few h = expr_spelled e t (group_code ds f c) (omega (arith, few)) (group_spelled f c h)

    args_spelled : (es : Exprs) (t : ℕ) (c : Code) → t + exprs_size es ≤ room → CodeSpelled c → CodeSpelled (args ds Γ t es c)
    args_spelled NoExprs t c few h = h
    args_spelled (MoreExprs e es) t c few h = expr_spelled e t (args ds Γ t es c) (omega (arith, few)) (args_spelled es t c (omega (arith, few)) h)

    set_aside_spelled : (es : Exprs) (t : ℕ) (c : Code) → t + exprs_size es ≤ room → CodeSpelled c → CodeSpelled (set_aside ds Γ t es c)
    set_aside_spelled NoExprs t c few h = h
    set_aside_spelled (MoreExprs e es) t c few h =
        let n = some_size e in
        aside_spelled (stays Γ e) (Γ.temporaries + t) (λ (k : Code). expr ds Γ t e k) (λ k i. expr_spelled e t k (omega (arith, few)) i) (temporary_fits t (omega (arith, few)))
        (set_aside ds Γ (t + 1) es c) (set_aside_spelled es (t + 1) c (omega (arith, few, n)) h)

    operands_spelled : (ps : Operands) (t : ℕ) (c : Code) → t + operands_size ps ≤ room → CodeSpelled c → CodeSpelled (operands ds Γ t ps c)
    operands_spelled NoOperands t c few h = h
    operands_spelled (MoreOperands o e ps) t c few h =
        operator_spelled o (λ (k : Code). expr ds Γ t e k) (λ k i. expr_spelled e t k (omega (arith, few)) i) (operands ds Γ t ps c)
        (operands_spelled ps t c (omega (arith, few)) h)

  -- ## Statements

  -- parameters that are set
  parameters_spelled : (n : ℕ) (c : Code) → n ≤ limit → CodeSpelled c → CodeSpelled (set_parameters n c)
  parameters_spelled zero c few h = h
  parameters_spelled (suc n) c few h = (local_set_spelled n (omega (arith, few)), parameters_spelled n c (omega (arith, few)) h)

  -- the next turn of a handler's loop
  tail_spelled : (k : Name) (e : ExprTree) (ps : Exprs) (D : ℕ) (c : Code) → expr_size (Resume k e ps) ≤ room → D ≤ room → CodeSpelled c
      → CodeSpelled (tail_resume ds Γ D k e ps c)
  tail_spelled k e ps D c few labels h =
      let n = owner_parameters Γ.owner in
      let rest : Code = Plain (local_set n) (set_parameters n (Plain (branch D) c)) in
      let size = some_size e in
      let temporaries = L.temporaries in
      let there : Γ.temporaries < 2 ^ 32 = omega (arith, temporaries) in
      let q = parameters_spelled n (Plain (branch D) c) L.parameters (branch_spelled D (omega (arith, labels)), h) in
      let w = wake_spelled k rest (local_set_spelled n (fits n L.parameters), q) in
      let p = args_spelled ps 1 (Plain (local_get Γ.temporaries) (wake Γ k rest)) (omega (arith, few, size)) (local_get_spelled Γ.temporaries there, w) in
      expr_spelled e 0 (Plain (local_set Γ.temporaries) (args ds Γ 1 ps (Plain (local_get Γ.temporaries) (wake Γ k rest)))) (omega (arith, few))
      (local_set_spelled Γ.temporaries there, p)

  -- what is returned
  plain_spelled : (x : ExprTree) (c : Code) → expr_size x ≤ room → CodeSpelled c → CodeSpelled (expr ds Γ 0 x (Plain leave c))
  plain_spelled x c few h = expr_spelled x 0 (Plain leave c) (omega (arith, few)) (leave_spelled, h)

  resumed_spelled : (b : Bool) (k : Name) (e : ExprTree) (ps : Exprs) (D : ℕ) (c : Code) → expr_size (Resume k e ps) ≤ room → D ≤ room → CodeSpelled c
      → CodeSpelled (if b then tail_resume ds Γ D k e ps c else expr ds Γ 0 (Resume k e ps) (Plain leave c))
  resumed_spelled true k e ps D c few labels h = tail_spelled k e ps D c few labels h
  resumed_spelled false k e ps D c few labels h = plain_spelled (Resume k e ps) c few h

  return_spelled : (x : ExprTree) (D : ℕ) (c : Code) → expr_size x ≤ room → D ≤ room → CodeSpelled c → CodeSpelled (return ds Γ D x c)
  return_spelled (Literal n) D c few labels h = plain_spelled (Literal n) c few h
  return_spelled (Read x) D c few labels h = plain_spelled (Read x) c few h
  return_spelled (Unary o e) D c few labels h = plain_spelled (Unary o e) c few h
  return_spelled (Run e ps) D c few labels h = plain_spelled (Run e ps) c few h
  return_spelled (Call f es) D c few labels h =
      args_spelled es 0 (Plain (return_call (function_index ds f)) c) (omega (arith, few)) (return_call_spelled (function_index ds f) (fits (function_index ds f) (S.function f)), h)
  return_spelled (Do o es) D c few labels h = plain_spelled (Do o es) c few h
  return_spelled (Handle f es g ps) D c few labels h = plain_spelled (Handle f es g ps) c few h
  return_spelled (Resume k e ps) D c few labels h = resumed_spelled (is_own Γ k) k e ps D c few labels h
  return_spelled (Group f e) D c few labels h = plain_spelled (Group f e) c few h

  -- the number of places of slots is one that a script writes
  few_places : (o : Option Slots) → places_in o ≤ 9223372036854775807
  few_places None = omega arith
  few_places (Some s) = s.places.small

  -- the place that a number stands for
  place_spelled : (s : Name) (c : Code) → CodeSpelled c → CodeSpelled (to_place Γ.temporaries (places_of ds s) c)
  place_spelled s c h =
      let few = L.temporaries in
      let there : Γ.temporaries < 2 ^ 32 = omega (arith, few) in (
        local_set_spelled Γ.temporaries there,
        (
          local_get_spelled Γ.temporaries there,
          (wrap_spelled, (minus_one_32_spelled, (local_get_spelled Γ.temporaries there, (constant_spelled (places_of ds s) (few_places (slots_of ds s)), (below_spelled, (select_spelled, h)))))),
        ),
      )

  store_spelled : (s k : Name) (c : Code) → CodeSpelled c → CodeSpelled (store_code ds Γ s k c)
  store_spelled s k c h =
      place_spelled s (Plain (local_get (local_number Γ k)) (Plain (table_set (table_index ds s)) c))
      (local_get_spelled (local_number Γ k) (name_fits k), (table_set_spelled (table_index ds s) (fits (table_index ds s) (S.table s)), h))

  take_spelled : (k s : Name) (c : Code) → CodeSpelled c → CodeSpelled (take_code ds Γ k s c)
  take_spelled k s c h =
      let few = L.temporaries in
      let there : Γ.temporaries < 2 ^ 32 = omega (arith, few) in
      let table = fits (table_index ds s) (S.table s) in
      let emptied : Code = Plain (local_get Γ.temporaries) (Plain wrap (Plain (null resumption_type) (Plain (table_set (table_index ds s)) c))) in
      place_spelled s (Plain (table_get (table_index ds s)) (Plain non_null (Plain (local_set (local_number Γ k)) emptied))) (
        table_get_spelled (table_index ds s) table,
        (
          non_null_spelled,
          (
            local_set_spelled (local_number Γ k) (name_fits k),
            (local_get_spelled Γ.temporaries there, (wrap_spelled, (null_spelled resumption_type (omega arith), (table_set_spelled (table_index ds s) table, h)))),
          ),
        ),
      )

  spawn_spelled : (t f : Name) (c : Code) → CodeSpelled c → CodeSpelled (spawn_code ds Γ t f c)
  spawn_spelled t f c h = (
    reference_spelled (function_index ds f) (fits (function_index ds f) (S.function f)),
    (new_continuation_spelled coroutine_type (omega arith), (local_set_spelled (local_number Γ t) (name_fits t), h)),
  )

  switched_spelled : (x u t : Name) (c : Code) → CodeSpelled c → CodeSpelled (switch_code ds Γ x u t c)
  switched_spelled x u t c h = (
    local_get_spelled (local_number Γ t) (name_fits t),
    (
      switch_spelled coroutine_type (group_tag_index ds) (omega arith) group_fits,
      (local_set_spelled (local_number Γ u) (name_fits u), (local_set_spelled (local_number Γ x) (name_fits x), h)),
    ),
  )

  -- a statement before what can be spelled
  mutual
    statement_spelled : (x : StatementTree) (D : ℕ) (c : Code) → D + statement_size x ≤ room → CodeSpelled c → CodeSpelled (statement ds Γ D x c)
    statement_spelled (Evaluate (use_for.Let x) e) D c few h =
        expr_spelled e 0 (Plain (local_set (local_number Γ x)) c) (omega (arith, few)) (local_set_spelled (local_number Γ x) (name_fits x), h)
    statement_spelled (Evaluate (use_for.Assign x) e) D c few h =
        expr_spelled e 0 (Plain (local_set (local_number Γ x)) c) (omega (arith, few)) (local_set_spelled (local_number Γ x) (name_fits x), h)
    statement_spelled (IfStatement e a b) D c few h =
        let q = block_spelled_before b (D + 1) Done (omega (arith, few)) tt in
        let r = block_spelled_before a (D + 1) Done (omega (arith, few)) tt in
        expr_spelled e 0 (if_zero (block ds Γ (D + 1) b Done) (block ds Γ (D + 1) a Done) c) (omega (arith, few))
        (is_zero_spelled, (if_spelled block_type.Empty tt, q, r, h))
    statement_spelled (While e b) D c few h =
        let n = some_size e in
        let q = block_spelled_before b (D + 2) (Plain (branch 0) Done) (omega (arith, few, n)) (branch_spelled 0 (omega arith), tt) in
        let p = expr_spelled e 0 (Plain is_zero (Plain (branch_if 1) (block ds Γ (D + 2) b (Plain (branch 0) Done)))) (omega (arith, few))
        (is_zero_spelled, (branch_if_spelled 1 (omega arith), q)) in
        (block_spelled kind.Block block_type.Empty tt, (block_spelled kind.Loop block_type.Empty tt, p, tt), h)
    statement_spelled (Evaluate use_for.Print e) D c few h = expr_spelled e 0 (Plain (call printer) c) (omega (arith, few)) (call_spelled printer (omega arith), h)
    statement_spelled (Evaluate use_for.Return e) D c few h = return_spelled e D c (omega (arith, few)) (omega (arith, few)) h
    statement_spelled (Evaluate (use_for.Store s k) e) D c few h = expr_spelled e 0 (store_code ds Γ s k c) (omega (arith, few)) (store_spelled s k c h)
    statement_spelled (Evaluate (use_for.Take k s) e) D c few h = expr_spelled e 0 (take_code ds Γ k s c) (omega (arith, few)) (take_spelled k s c h)
    statement_spelled (Evaluate (use_for.Switch x u t) e) D c few h = expr_spelled e 0 (switch_code ds Γ x u t c) (omega (arith, few)) (switched_spelled x u t c h)
    statement_spelled Fail D c few h = (unreachable_spelled, h)
    statement_spelled (Spawn t f) D c few h = spawn_spelled t f c h
    statement_spelled (Evaluate use_for.Drop e) D c few h = expr_spelled e 0 (Plain dropped c) (omega (arith, few)) (dropped_spelled, h)

    -- a block before what can be spelled
    block_spelled_before : (b : BlockTree) (D : ℕ) (c : Code) → D + block_size b ≤ room → CodeSpelled c → CodeSpelled (block ds Γ D b c)
    block_spelled_before NoStatements D c few h = h
    block_spelled_before (x ⨟ b) D c few h = statement_spelled x D (block ds Γ D b c) (omega (arith, few)) (block_spelled_before b D c (omega (arith, few)) h)

  -- the code of a body
  pub body_spelled : (b : BlockTree) (D : ℕ) → D + block_size b ≤ room → CodeSpelled (body ds Γ D b)
  body_spelled b D few = block_spelled_before b D ending few (constant_spelled 0 (omega arith), (leave_spelled, tt))
