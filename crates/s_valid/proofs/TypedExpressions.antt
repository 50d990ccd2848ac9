-- The code of expressions is typed: where the rest is typed behind the value of an expression, the whole is typed before it.
use Rattle.std.proofs.Common.{◌≡◌, ℕ, ◌+◌, ◌<◌, ◌≤◌, Bool, true, false, pos, negsuc, ◌++◌, List, [], ◌∷◌, Option, Some, if◌then◌else◌, refl, sym, ap, ◌∙◌, subst, arith}
use Rattle.w_types.specs.declared.types.CompType.{CompType}
use Rattle.w_types.specs.declared.types.ValType.{ValType}
use Rattle.w_types.specs.declared.types.ValType.TheVariants.{I64}
use Rattle.lists.specs.Rows.{Row, ε, ◌▹◌, ◌⧺◌, row_of}
use Rattle.lists.proofs.Rows.{row_of-more}
use Rattle.w_syntax.specs.Code.{Code, Plain}
use Rattle.w_syntax.specs.declared.numeric.Binop.TheVariants as binop
use Rattle.w_rules.specs.Operands.{Operand}
use Rattle.w_rules.specs.Operands.{Known}
use Rattle.w_rules.specs.Matching.{known}
use Rattle.w_rules.specs.Context.{Context, labelled, func_at, index_in_cont}
use Rattle.w_rules.specs.InstructionTypes.{nullable}
use Rattle.s_syntax.specs.declared.name.Name.{Name}
use Rattle.s_syntax.specs.declared.operators.UnaryOperator.{UnaryOperator}
use Rattle.s_syntax.specs.declared.operators.UnaryOperator.TheVariants.{Minus, Not}
use Rattle.s_syntax.specs.declared.operators.Connective.TheVariants.{Or, And}
use Rattle.s_syntax.specs.declared.operators.BinaryOperator.{BinaryOperator}
use Rattle.s_syntax.specs.declared.operators.BinaryOperator.TheVariants.{Connects, Compares, Computes}
use Rattle.s_syntax.specs.declared.script.VariableType.{VariableType}
use Rattle.s_syntax.specs.declared.script.VariableType.TheVariants.{Int, Resumption, Coroutine}
use Rattle.s_syntax.specs.declared.script.Function.{Function}
use Rattle.s_syntax.specs.declared.script.Handler.{Handler}
use Rattle.s_syntax.specs.declared.script.Script.{Script}
use Rattle.s_syntax.specs.ExprTree.{ExprTree, Literal, Read, Unary, Run, Call, Do, Handle, Resume, Group, Exprs, NoExprs, MoreExprs, Operands, NoOperands, MoreOperands}
use Rattle.s_check.specs.Definitions.{function_of, handler_of}
use Rattle.s_check.specs.Rules.{is_reference, count}
use Rattle.s_check.specs.Scopes.{Scope, type_in, is_among}
use Rattle.s_index.specs.Handled.{handled_names, handled_in_expr, handled_in_exprs, handled_in_operands}
use Rattle.s_index.specs.Indices.{continuation_index}
use Rattle.s_index.specs.Numbers.{function_index, handler_index, tag_index, group_tag_index}
use Rattle.s_index.specs.Types.{resumption_type, computation_type, to_continuation, val_type, val_types, numbers}
use Rattle.s_code.specs.Instructions.{call, nop, local_get, local_set, truth, unary_operator, binop_of, relop_of}
use Rattle.s_code.specs.Coroutines.{group_code}
use Rattle.s_code.specs.Layouts.{Layout, local_number, stays, slot}
use Rattle.s_code.specs.Temporaries.{high, high_args, high_aside, high_operands}
use Rattle.s_code.specs.Expressions.{expr, args, set_aside, operands, operator, reload, begin, wake, handler_index_of}
use Rattle.s_meaning.specs.Typing.{kinds, ExprTyped, OperandsTyped, ArgsTyped, literal, read, unary, run, call as calls, does, handle, resume, group, no_more, next, no_args, number, resumption, coroutine}
use Rattle.s_meaning.specs.Typing as script
use Rattle.s_valid.proofs.Rests.{Rest, pushed, less_typed, weaker, constant_typed, is_zero_typed, extend_typed, binary_typed, compare_typed, nop_typed, get_typed, set_typed, call_typed, suspend_typed, reference_typed, new_typed, bind_typed, resume_group_typed, number_if_typed, truth_typed, value_typed}
use Rattle.s_valid.proofs.LayoutTypes.{Scoped, inside, local_typed, handler_at, refers_at, types, types_of_kinds, types_of_numbers, pushed_row, AllHandled, handled_left, handled_right, handled_first, handled_later}

-- ## Temporaries

-- no fewer are in use behind arguments
pub least_args : (es : Exprs) (t : ℕ) → t ≤ high_args t es
least_args NoExprs t = omega arith
least_args (MoreExprs e es) t = let h = least_args es t in omega (arith, h)

least_aside : (es : Exprs) (t : ℕ) → t ≤ high_aside t es
least_aside NoExprs t = omega arith
least_aside (MoreExprs e es) t = let h = least_aside es (t + 1) in omega (arith, h)

-- ## Operators

module _ {C : Context} {us : Row Operand} where
  unary_typed : {vs : Row Operand} {c : Code} (o : UnaryOperator) → Rest C c (vs ▹ Known I64) us → Rest C (unary_operator o c) (vs ▹ Known I64) us
  unary_typed {vs} Minus r = constant_typed {vs = vs ▹ Known I64} (negsuc 0) (binary_typed binop.Mul r)
  unary_typed Not r = is_zero_typed (extend_typed r)

  -- an operator whose right operand is typed inside a label too, where it leaves its truth
  operator_typed : {vs : Row Operand} {c : Code} (o : BinaryOperator) (right : Code → Code) → Rest (labelled C (ε ▹ I64)) (right truth) ε (ε ▹ Known I64)
      → ((k : Code) → Rest C k (vs ▹ Known I64 ▹ Known I64) us → Rest C (right k) (vs ▹ Known I64) us) → Rest C c (vs ▹ Known I64) us → Rest C (operator o right c) (vs ▹ Known I64) us
  operator_typed (Connects And) right within behind r = number_if_typed (value_typed (pos 0)) within r
  operator_typed (Connects Or) right within behind r = number_if_typed within (value_typed (pos 1)) r
  operator_typed (Compares o) right within behind r = behind _ (compare_typed (relop_of o) (extend_typed r))
  operator_typed (Computes o) right within behind r = behind _ (binary_typed (binop_of o) r)

-- ## Arguments in their places

module _ {p : Script} {L : Layout} {Γ : Scope} {n D : ℕ} {C : Context} (s : Scoped p.declarations L Γ n D C) where
  -- a number doesn't stay where it is
  number_moves : (e : ExprTree) → ExprTyped p Γ e → stays L e ≡ false
  number_moves (Literal m) t = refl
  number_moves (Read x) (read h) = refers_at s x Int h
  number_moves (Unary o e) t = refl
  number_moves (Run e ps) t = refl
  number_moves (Call f es) t = refl
  number_moves (Do op es) t = refl
  number_moves (Handle f es h ps) t = refl
  number_moves (Resume k e ps) t = refl
  number_moves (Group f e) t = refl

  number_slot : (e : ExprTree) (t : ℕ) → ExprTyped p Γ e → slot L t e ≡ L.temporaries + t
  number_slot (Literal m) t h = refl
  number_slot (Read x) t (read h) = ap (λ (b : Bool). if b then local_number L x else (L.temporaries + t)) (refers_at s x Int h)
  number_slot (Unary o e) t h = refl
  number_slot (Run e ps) t h = refl
  number_slot (Call f es) t h = refl
  number_slot (Do op es) t h = refl
  number_slot (Handle f es h ps) t q = refl
  number_slot (Resume k e ps) t h = refl
  number_slot (Group f e) t h = refl

  -- a resumption and a coroutine do
  reference_stays : (x : Name) (k : VariableType) → type_in Γ x ≡ Some k → is_reference (Some k) ≡ true → stays L (Read x) ≡ true
  reference_stays x k e q = refers_at s x k e ∙ q

  reference_slot : (x : Name) (k : VariableType) (t : ℕ) → type_in Γ x ≡ Some k → is_reference (Some k) ≡ true → slot L t (Read x) ≡ local_number L x
  reference_slot x k t e q = ap (λ (b : Bool). if b then local_number L x else (L.temporaries + t)) (reference_stays x k e q)

  name_typed : {vs us : Row Operand} {c : Code} (x : Name) (t : VariableType) → type_in Γ x ≡ Some t → Rest C c (vs ▹ Known (val_type t)) us
      → Rest C (Plain (local_get (local_number L x)) c) vs us
  name_typed x t e r = get_typed (local_number L x) (local_typed s x t e) r

  -- arguments that lie in their places
  reload_typed : (es : Exprs) {ks : List VariableType} {vs us : Row Operand} {c : Code} (t : ℕ) → ArgsTyped p Γ ks es → high_aside t es ≤ n → Rest C c (pushed vs (types ks)) us
      → Rest C (reload L t es c) vs us
  reload_typed NoExprs t no_args h r = r
  reload_typed (MoreExprs e es) {vs = vs} {us} {c} t (number q a) h r =
      let least = least_aside es (t + 1) in
      let there : t < n = omega (arith, h, least) in
      let P : ℕ → Type 0 = λ x. Rest C (Plain (local_get x) (reload L (t + 1) es c)) vs us in
      subst P (sym (number_slot e t q)) (get_typed (L.temporaries + t) (s.temporaries t there) (reload_typed es (t + 1) a (omega (arith, h)) r))
  reload_typed (MoreExprs (Read x) es) {vs = vs} {us} {c} t (resumption {h = g} e a) h r =
      let P : ℕ → Type 0 = λ y. Rest C (Plain (local_get y) (reload L (t + 1) es c)) vs us in
      subst P (sym (reference_slot x (Resumption g) t e refl)) (name_typed x (Resumption g) e (reload_typed es (t + 1) a (omega (arith, h)) r))
  reload_typed (MoreExprs (Read x) es) {vs = vs} {us} {c} t (coroutine e a) h r =
      let P : ℕ → Type 0 = λ y. Rest C (Plain (local_get y) (reload L (t + 1) es c)) vs us in
      subst P (sym (reference_slot x Coroutine t e refl)) (name_typed x Coroutine e (reload_typed es (t + 1) a (omega (arith, h)) r))

  -- ## Computations that are ready to run

  -- a resumption that is given a number
  pub wake_typed : {vs us : Row Operand} {c : Code} (k h : Name) → type_in Γ k ≡ Some (Resumption h) → Rest C c (vs ▹ Known (nullable computation_type)) us
      → Rest C (wake L k c) (vs ▹ Known I64) us
  wake_typed {vs} {us} {c} k h e r =
      let o = s.offers in
      name_typed k (Resumption h) e
      (bind_typed vs resumption_type (I64 ∷ []) (ap (λ (t : Option CompType). func_at C (index_in_cont t)) o.resumption ∙ o.resumed)
      (ap (λ (t : Option CompType). func_at C (index_in_cont t)) o.computation ∙ o.computed)
      (less_typed o.keeps (weaker C vs computation_type) r))

  -- a function that is given its arguments
  begin_typed : (vs : Row Operand) {us : Row Operand} {c : Code} (f : Name) (g : Function) → function_of p.declarations f ≡ Some g → is_among (handled_names p.declarations) f ≡ true
      → Rest C c (vs ▹ Known (nullable computation_type)) us → Rest C (begin p.declarations f c) (vs ⧺ known (row_of (val_types g.parameters))) us
  begin_typed vs {us} {c} f g is among r =
      let o = s.offers in let q = o.handled f g is among in
      let ts = val_types g.parameters in let y = continuation_index p.declarations f in
      reference_typed (function_index p.declarations f) q.index q.function q.declared
      (less_typed o.keeps (weaker C (vs ⧺ known (row_of ts)) q.index)
      (new_typed y q.index q.continuation
      (less_typed o.keeps (weaker C (vs ⧺ known (row_of ts)) y)
      (bind_typed vs y ts (ap (λ (t : Option CompType). func_at C (index_in_cont t)) q.continuation ∙ q.type)
      (ap (λ (t : Option CompType). func_at C (index_in_cont t)) o.computation ∙ o.computed)
      (less_typed o.keeps (weaker C vs computation_type) r)))))

  -- a function of a number, which runs in a group
  group_typed : {vs us : Row Operand} {c : Code} (f : Name) (g : Function) → function_of p.declarations f ≡ Some g → kinds g.parameters ≡ Int ∷ []
      → is_among (handled_names p.declarations) f ≡ true → Rest C c (vs ▹ Known I64) us → Rest C (group_code p.declarations f c) (vs ▹ Known I64) us
  group_typed {vs} {us} {c} f g is one among r =
      let o = s.offers in let q = o.handled f g is among in
      reference_typed (function_index p.declarations f) 0 (o.grouped f g is one) q.declared
      (less_typed o.keeps (weaker C (vs ▹ Known I64) 0)
      (new_typed resumption_type 0 o.resumption
      (less_typed o.keeps (weaker C (vs ▹ Known I64) resumption_type)
      (resume_group_typed resumption_type (group_tag_index p.declarations) (ap (λ (t : Option CompType). func_at C (index_in_cont t)) o.resumption ∙ o.resumed) o.group r))))

  -- the function of a handler, which takes its parameters and a computation
  under_handler : (vs : Row Operand) {us : Row Operand} {c : Code} (h : Name) (i : Handler) → handler_of p.declarations h ≡ Some i → Rest C c (vs ▹ Known I64) us
      → Rest C (Plain (call (handler_index p.declarations h)) c) ((vs ⧺ known (row_of (val_types i.parameters))) ▹ Known (nullable computation_type)) us
  under_handler vs {us} {c} h i is r =
      let P : Row ValType → Type 0 = λ ts. Rest C (Plain (call (handler_index p.declarations h)) c) (vs ⧺ known ts) us in
      subst P (row_of-more (val_types i.parameters) (to_continuation true computation_type))
      (call_typed vs (handler_index p.declarations h) (val_types i.parameters ++ to_continuation true computation_type ∷ []) (I64 ∷ []) (s.offers.handler h i is) r)

-- arguments of these parameters are on top
pub on_top : {C : Context} (vs : Row Operand) {us : Row Operand} {c : Code} (ks : List VariableType) (ts : List ValType) → types ks ≡ ts → Rest C c (vs ⧺ known (row_of ts)) us → Rest C c (pushed vs (types ks)) us
on_top {C} vs {us} {c} ks ts e r =
    let P : Row Operand → Type 0 = λ ws. Rest C c ws us in
    subst P (sym (pushed_row vs ts) ∙ ap (λ (z : List ValType). pushed vs z) (sym e)) r

-- ## Expressions

module _ {p : Script} {L : Layout} {Γ : Scope} {n : ℕ} where
  mutual
    pub expr_typed : (e : ExprTree) {D : ℕ} {C : Context} {vs us : Row Operand} {c : Code} (t : ℕ) → Scoped p.declarations L Γ n D C → ExprTyped p Γ e → high t e ≤ n
        → AllHandled p.declarations (handled_in_expr e) → Rest C c (vs ▹ Known I64) us → Rest C (expr p.declarations L t e c) vs us
    expr_typed (Literal m) t s literal h a r = constant_typed (pos m.value) r
    expr_typed (Read x) t s (read e) h a r = name_typed {p = p} s x Int e r
    expr_typed (Unary o e) t s (unary q) h a r = expr_typed e t s q h a (unary_typed o r)
    expr_typed (Run e ps) t s (run q qs) h a r =
        expr_typed e t s q (omega (arith, h)) (handled_left (handled_in_expr e) (handled_in_operands ps) a)
        (operands_typed ps t s qs (omega (arith, h)) (handled_right (handled_in_expr e) (handled_in_operands ps) a) r)
    expr_typed (Call f es) {vs = vs} t s (calls {g = g} is q) h a r =
        args_typed es t s q h a (on_top vs (kinds g.parameters) (val_types g.parameters) (types_of_kinds g.parameters)
        (call_typed vs (function_index p.declarations f) (val_types g.parameters) (I64 ∷ []) (s.offers.function f g is) r))
    expr_typed (Do op es) {vs = vs} t s (does {n = m} is q) h a r =
        args_typed es t s q h a (on_top vs (script.numbers m) (numbers m) (types_of_numbers m)
        (suspend_typed vs (tag_index p.declarations op) (numbers m) (I64 ∷ []) (s.offers.effect op m is) r))
    expr_typed (Handle f es g ps) {vs = vs} t s (handle {g = function} {i = i} is there q qs) h a r =
        let B = vs ⧺ known (row_of (val_types i.parameters)) in
        let both = handled_later f (handled_in_exprs es ++ handled_in_exprs ps) a in
        aside_typed es t s q (omega (arith, h)) (handled_left (handled_in_exprs es) (handled_in_exprs ps) both)
        (args_typed ps (t + count es) s qs (omega (arith, h)) (handled_right (handled_in_exprs es) (handled_in_exprs ps) both)
        (on_top vs (kinds i.parameters) (val_types i.parameters) (types_of_kinds i.parameters)
        (reload_typed s es t q (omega (arith, h))
        (on_top B (kinds function.parameters) (val_types function.parameters) (types_of_kinds function.parameters)
        (begin_typed {p = p} s B f function is (handled_first f (handled_in_exprs es ++ handled_in_exprs ps) a)
        (under_handler {p = p} s vs g i there r))))))
    expr_typed (Resume k e ps) {C = C} {vs = vs} {us} {c} t s (resume {h = g} {i = i} is there q qs) h a r =
        let least = least_args ps (t + 1) in
        let free : t < n = omega (arith, h, least) in
        let B = vs ⧺ known (row_of (val_types i.parameters)) in
        let P : Option Name → Type 0 = λ o. Rest C (Plain (call (handler_index_of p.declarations o)) c) (B ▹ Known (nullable computation_type)) us in
        expr_typed e t s q (omega (arith, h)) (handled_left (handled_in_expr e) (handled_in_exprs ps) a)
        (set_typed (L.temporaries + t) (s.temporaries t free)
        (args_typed ps (t + 1) s qs (omega (arith, h)) (handled_right (handled_in_expr e) (handled_in_exprs ps) a)
        (on_top vs (kinds i.parameters) (val_types i.parameters) (types_of_kinds i.parameters)
        (get_typed (L.temporaries + t) (s.temporaries t free)
        (wake_typed {p = p} s k g is
        (subst P (sym (handler_at s k (Resumption g) is)) (under_handler {p = p} s vs g i there r)))))))
    expr_typed (Group f e) t s (group {g = g} is one q) h a r =
        expr_typed e t s q h (handled_later f (handled_in_expr e) a) (group_typed {p = p} s f g is one (handled_first f (handled_in_expr e) a) r)

    pub args_typed : (es : Exprs) {ks : List VariableType} {D : ℕ} {C : Context} {vs us : Row Operand} {c : Code} (t : ℕ) → Scoped p.declarations L Γ n D C → ArgsTyped p Γ ks es
        → high_args t es ≤ n → AllHandled p.declarations (handled_in_exprs es) → Rest C c (pushed vs (types ks)) us → Rest C (args p.declarations L t es c) vs us
    args_typed NoExprs t s no_args h a r = r
    args_typed (MoreExprs e es) t s (number q qs) h a r =
        expr_typed e t s q (omega (arith, h)) (handled_left (handled_in_expr e) (handled_in_exprs es) a)
        (args_typed es t s qs (omega (arith, h)) (handled_right (handled_in_expr e) (handled_in_exprs es) a) r)
    args_typed (MoreExprs (Read x) es) t s (resumption {h = g} e qs) h a r =
        name_typed {p = p} s x (Resumption g) e (args_typed es t s qs (omega (arith, h)) a r)
    args_typed (MoreExprs (Read x) es) t s (coroutine e qs) h a r = name_typed {p = p} s x Coroutine e (args_typed es t s qs (omega (arith, h)) a r)

    -- arguments that are put where they lie until all are there
    aside_typed : (es : Exprs) {ks : List VariableType} {D : ℕ} {C : Context} {vs us : Row Operand} {c : Code} (t : ℕ) → Scoped p.declarations L Γ n D C → ArgsTyped p Γ ks es
        → high_aside t es ≤ n → AllHandled p.declarations (handled_in_exprs es) → Rest C c vs us → Rest C (set_aside p.declarations L t es c) vs us
    aside_typed NoExprs t s no_args h a r = r
    aside_typed (MoreExprs e es) {C = C} {vs = vs} {us} {c} t s (number q qs) h a r =
        let least = least_aside es (t + 1) in
        let free : t < n = omega (arith, h, least) in
        let k = set_aside p.declarations L (t + 1) es c in
        let P : Bool → Type 0 = λ b. Rest C (if b then Plain nop k else expr p.declarations L t e (Plain (local_set (L.temporaries + t)) k)) vs us in
        subst P (sym (number_moves s e q))
        (expr_typed e t s q (omega (arith, h)) (handled_left (handled_in_expr e) (handled_in_exprs es) a)
        (set_typed (L.temporaries + t) (s.temporaries t free)
        (aside_typed es (t + 1) s qs (omega (arith, h)) (handled_right (handled_in_expr e) (handled_in_exprs es) a) r)))
    aside_typed (MoreExprs (Read x) es) {C = C} {vs = vs} {us} {c} t s (resumption {h = g} e qs) h a r =
        let k = set_aside p.declarations L (t + 1) es c in
        let P : Bool → Type 0 = λ b. Rest C (if b then Plain nop k else expr p.declarations L t (Read x) (Plain (local_set (L.temporaries + t)) k)) vs us in
        subst P (sym (reference_stays {p = p} s x (Resumption g) e refl)) (nop_typed (aside_typed es (t + 1) s qs (omega (arith, h)) a r))
    aside_typed (MoreExprs (Read x) es) {C = C} {vs = vs} {us} {c} t s (coroutine e qs) h a r =
        let k = set_aside p.declarations L (t + 1) es c in
        let P : Bool → Type 0 = λ b. Rest C (if b then Plain nop k else expr p.declarations L t (Read x) (Plain (local_set (L.temporaries + t)) k)) vs us in
        subst P (sym (reference_stays {p = p} s x Coroutine e refl)) (nop_typed (aside_typed es (t + 1) s qs (omega (arith, h)) a r))

    operands_typed : (ps : Operands) {D : ℕ} {C : Context} {vs us : Row Operand} {c : Code} (t : ℕ) → Scoped p.declarations L Γ n D C → OperandsTyped p Γ ps → high_operands t ps ≤ n
        → AllHandled p.declarations (handled_in_operands ps) → Rest C c (vs ▹ Known I64) us → Rest C (operands p.declarations L t ps c) (vs ▹ Known I64) us
    operands_typed NoOperands t s no_more h a r = r
    operands_typed (MoreOperands o e ps) {C = C} {vs = vs} {us} {c} t s (next q qs) h a r =
        let low : high t e ≤ n = omega (arith, h) in
        let left = handled_left (handled_in_expr e) (handled_in_operands ps) a in
        operator_typed o (λ (k : Code). expr p.declarations L t e k)
        (expr_typed e t (inside (ε ▹ I64) s) q low left truth_typed)
        (λ k rest. expr_typed e t s q low left rest)
        (operands_typed ps t s qs (omega (arith, h)) (handled_right (handled_in_expr e) (handled_in_operands ps) a) r)
