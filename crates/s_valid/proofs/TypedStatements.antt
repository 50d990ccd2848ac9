-- The code of statements is typed: it takes nothing, and leaves nothing.
use Rattle.std.proofs.Common.{◌≡◌, ℕ, suc, ◌+◌, ◌<◌, ◌≤◌, Bool, true, pos, negsuc, ◌++◌, List, [], ◌∷◌, length, Option, Some, None, slice_get, if◌then◌else◌, refl, sym, ap, ◌∙◌, subst, arith}
use Rattle.std.proofs.lemmas.Bool.{lt-ltb}
use Rattle.std.proofs.lemmas.Option.{slice_get_within}
use Rattle.w_types.specs.declared.types.CompType.{CompType}
use Rattle.w_types.specs.declared.types.CompType.TheVariants.{Cont}
use Rattle.w_types.specs.declared.types.ValType.{ValType}
use Rattle.w_types.specs.declared.types.ValType.TheVariants.{I32, I64}
use Rattle.w_types.specs.Groups.{types_of}
use Rattle.w_syntax.specs.declared.numeric.Relop.TheVariants as relop
use Rattle.lists.specs.Rows.{Row, ε, ◌▹◌, ◌⧺◌, row_of, onto, size}
use Rattle.lists.proofs.Rows.{size-row_of}
use Rattle.w_syntax.specs.Code.{Code, Plain}
use Rattle.w_rules.specs.Operands.{Operand}
use Rattle.w_rules.specs.Operands.{Known}
use Rattle.w_rules.specs.Matching.{known}
use Rattle.w_rules.specs.Context.{Context, labelled, func_at, index_in_cont}
use Rattle.w_rules.specs.InstructionTypes.{nullable}
use Rattle.s_syntax.specs.declared.name.Name.{Name}
use Rattle.s_syntax.specs.declared.script.VariableType.TheVariants.{Int, Resumption, Coroutine}
use Rattle.s_syntax.specs.declared.script.Parameter.{Parameter}
use Rattle.s_syntax.specs.declared.script.Function.{Function}
use Rattle.s_syntax.specs.declared.script.Handler.{Handler}
use Rattle.s_syntax.specs.declared.script.Slots.{Slots}
use Rattle.s_syntax.specs.declared.script.Script.{Script}
use Rattle.s_syntax.specs.ExprTree.{ExprTree, Literal, Read, Unary, Run, Call, Do, Handle, Resume, Group, Exprs}
use Rattle.s_syntax.specs.declared.statement.Use.TheVariants as use_for
use Rattle.s_syntax.specs.BlockTree.{BlockTree, Evaluate, If, While, Fail, Spawn, Done as NoStatements, ◌⨟◌}
use Rattle.s_check.specs.Definitions.{function_of, handler_of, slots_of}
use Rattle.s_check.specs.Rules.{handler_of_slots}
use Rattle.s_check.specs.Scopes.{Scope, type_in, is_among, number as number_name, resumption as resumption_name, coroutine as coroutine_name}
use Rattle.s_index.specs.Handled.{handled_names, handled_in_expr, handled_in_exprs, handled_in_block}
use Rattle.s_index.specs.Numbers.{function_index, group_tag_index, table_index}
use Rattle.s_index.specs.Types.{resumption_type, computation_type, coroutine_type, val_types}
use Rattle.s_code.specs.Instructions.{branch, leave, local_set}
use Rattle.s_code.specs.Layouts.{Layout, Owner, local_number, handler_of_name, is_own, is_same_handler, owner_parameters}
use Rattle.s_code.specs.Temporaries.{high, high_block}
use Rattle.s_code.specs.Expressions.{expr, set_parameters, tail_resume}
use Rattle.s_code.specs.Places.{binds_in}
use Rattle.s_code.specs.Slots.{places_of, to_place, store_code, take_code}
use Rattle.s_code.specs.Coroutines.{spawn_code, switch_code}
use Rattle.s_code.specs.Statements.{return, block, body, ending, printer}
use Rattle.s_meaning.specs.Typing.{kinds, ExprTyped, call as calls, resume, lets, assigns, prints, returns, drops, stores_in, takes_from, switches_to, evaluates, ifs, whiles, fails, spawns, BlockTyped, done, statement}
use Rattle.s_meaning.proofs.Scopes.{same_is, same_refl, bool_of}
use Rattle.s_valid.proofs.Rests.{Rest, is_zero_typed, constant_typed, constant_32_typed, wrap_typed, compare_typed, select_typed, get_typed, set_typed, table_get_typed, table_set_typed, null_typed, checked_typed, less_typed, weaker, reference_typed, new_typed, switch_typed, call_typed, end_typed, if_typed, loop_typed, branch_if_typed, dropped_typed, branch_typed, returned_typed, return_call_typed, unreachable_typed}
use Rattle.s_valid.proofs.LayoutTypes.{Scoped, inside, local_typed, handler_at, bound, types_of_kinds, AllHandled, handled_left, handled_right, handled_first, handled_later, LetsPlaced, lets_left, lets_right, lets_first}
use Rattle.s_valid.proofs.TypedExpressions.{expr_typed, args_typed, least_args, on_top, wake_typed}

-- ## Parameters set from the stack

-- the first locals have these types
data FirstLocals (C : Context) : Row ValType → Type 0 where
  no_locals : FirstLocals C ε
  one_more : {ts : Row ValType} {t : ValType} → FirstLocals C ts → slice_get C.locals (size ts) ≡ Some t → FirstLocals C (ts ▹ t)

first_onto : (C : Context) (ts : Row ValType) (us : List ValType) → FirstLocals C ts → ((n : ℕ) (t : ValType) → slice_get us n ≡ Some t → slice_get C.locals (size ts + n) ≡ Some t)
    → FirstLocals C (onto ts us)
first_onto C ts [] h at = h
first_onto C ts (u ∷ us) h at =
    first_onto C (ts ▹ u) us (one_more h (ap (λ (k : ℕ). slice_get C.locals k) (let e : size ts ≡ size ts + 0 = omega arith in e) ∙ at 0 u refl))
    (λ n t e. ap (λ (k : ℕ). slice_get C.locals k) (let q : suc (size ts) + n ≡ size ts + suc n = omega arith in q) ∙ at (suc n) t e)

set_parameters_typed : {C : Context} {us : Row Operand} {c : Code} (vs : Row Operand) (ts : Row ValType) → FirstLocals C ts → Rest C c vs us → Rest C (set_parameters (size ts) c) (vs ⧺ known ts) us
set_parameters_typed vs ε no_locals r = r
set_parameters_typed vs (ts ▹ t) (one_more h e) r = set_typed (size ts) e (set_parameters_typed vs ts h r)

pub length_types : (ps : List Parameter) → length (val_types ps) ≡ length ps
length_types [] = refl
length_types (p ∷ ps) = ap suc (length_types ps)

-- ## Returns

own_is : (o : Option Owner) (g : Option Name) → is_same_handler o g ≡ true → (w : Owner) × (o ≡ Some w) × (g ≡ Some w.name)
own_is None g e = absurd (cc)
own_is (Some w) None e = absurd (cc)
own_is (Some w) (Some h) e = (w, refl, ap (λ (x : Name). Some x) (sym (same_is w.name h e)))

module _ {p : Script} {L : Layout} {n : ℕ} where
  -- the next turn of the loop
  turn_typed : {Γ : Scope} {D : ℕ} {C : Context} {us : Row Operand} {c : Code} (o : Owner) (i : Handler) → Scoped p.declarations L Γ n D C → L.owner ≡ Some o → handler_of p.declarations o.name ≡ Some i
      → Rest C c ε us → Rest C (Plain (local_set (owner_parameters L.owner)) (set_parameters (owner_parameters L.owner) (Plain (branch D) c))) ((ε ⧺ known (row_of (val_types i.parameters))) ▹ Known (nullable computation_type)) us
  turn_typed {Γ} {D} {C} {us} {c} o i s own is r =
      let q = s.loop o own in
      let same : q.handler ≡ i = let e = q.is in cc in
      let ts = val_types i.parameters in
      let P : Option Owner → Type 0 = λ w. Rest C (Plain (local_set (owner_parameters w)) (set_parameters (owner_parameters w) (Plain (branch D) c))) ((ε ⧺ known (row_of ts)) ▹ Known (nullable computation_type)) us in
      let Q : ℕ → Type 0 = λ k. Rest C (set_parameters k (Plain (branch D) c)) (ε ⧺ known (row_of ts)) us in
      let many : size (row_of ts) ≡ o.parameters = size-row_of ts ∙ length_types i.parameters ∙ ap (λ (j : Handler). length j.parameters) (sym same) ∙ sym q.as_many in
      let firsts : FirstLocals C (row_of ts) =
      first_onto C ε ts no_locals (λ k t e. ap (λ (j : ℕ). slice_get C.locals j) (let z : 0 + k ≡ k = omega arith in z) ∙ q.parameters k t (ap (λ (j : Handler). slice_get (val_types j.parameters) k) same ∙ e)) in
      subst P (sym own) (set_typed o.parameters q.computation (subst Q many (set_parameters_typed ε (row_of ts) firsts (branch_typed {vs = ε} ε D q.loop r))))

  tail_typed : {Γ : Scope} {D : ℕ} {C : Context} {us : Row Operand} {c : Code} (k : Name) (e : ExprTree) (ps : Exprs) → Scoped p.declarations L Γ n D C → ExprTyped p Γ (Resume k e ps)
      → high 0 (Resume k e ps) ≤ n → AllHandled p.declarations (handled_in_expr (Resume k e ps)) → is_own L k ≡ true → Rest C c ε us → Rest C (tail_resume p.declarations L D k e ps c) ε us
  tail_typed {Γ} {D} {C} {us} {c} k e ps s (resume {h = g} {i = i} is there q qs) h a own r =
      let least = least_args ps 1 in
      let free : 0 < n = omega (arith, h, least) in
      let place : slice_get C.locals L.temporaries ≡ Some I64 = ap (λ (x : ℕ). slice_get C.locals x) (let z : L.temporaries ≡ L.temporaries + 0 = omega arith in z) ∙ s.temporaries 0 free in
      let w = own_is L.owner (handler_of_name L k) own in
      let at = handler_at s k (Resumption g) is in
      let named : g ≡ w.0.name = let z = w.2 in cc in
      let is_handler : handler_of p.declarations w.0.name ≡ Some i = ap (λ (x : Name). handler_of p.declarations x) (sym named) ∙ there in
      expr_typed e 0 s q (omega (arith, h)) (handled_left (handled_in_expr e) (handled_in_exprs ps) a)
      (set_typed L.temporaries place
      (args_typed ps 1 s qs (omega (arith, h)) (handled_right (handled_in_expr e) (handled_in_exprs ps) a)
      (on_top ε (kinds i.parameters) (val_types i.parameters) (types_of_kinds i.parameters)
      (get_typed L.temporaries place
      (wake_typed {p = p} s k g is
      (turn_typed w.0 i s w.1 is_handler r))))))

  return_typed : {Γ : Scope} {D : ℕ} {C : Context} {us : Row Operand} {c : Code} (e : ExprTree) → Scoped p.declarations L Γ n D C → ExprTyped p Γ e → high 0 e ≤ n
      → AllHandled p.declarations (handled_in_expr e) → Rest C c ε us → Rest C (return p.declarations L D e c) ε us
  return_typed {D = D} {C} {us} {c} (Resume k e ps) s q h a r =
      bool_of (is_own L k) (λ b. Rest C (if b then tail_resume p.declarations L D k e ps c else expr p.declarations L 0 (Resume k e ps) (Plain leave c)) ε us)
      (λ own. tail_typed k e ps s q h a own r) (λ other. expr_typed (Resume k e ps) 0 s q h a (returned_typed ε s.results r))
  return_typed (Literal m) s q h a r = expr_typed (Literal m) 0 s q h a (returned_typed ε s.results r)
  return_typed (Read x) s q h a r = expr_typed (Read x) 0 s q h a (returned_typed ε s.results r)
  return_typed (Unary o e) s q h a r = expr_typed (Unary o e) 0 s q h a (returned_typed ε s.results r)
  return_typed (Run e ps) s q h a r = expr_typed (Run e ps) 0 s q h a (returned_typed ε s.results r)
  return_typed (Call f es) s (calls {g = g} is q) h a r =
      args_typed es 0 s q h a (on_top ε (kinds g.parameters) (val_types g.parameters) (types_of_kinds g.parameters)
      (return_call_typed ε ε (function_index p.declarations f) (val_types g.parameters) (s.offers.function f g is) s.results r))
  return_typed (Do op es) s q h a r = expr_typed (Do op es) 0 s q h a (returned_typed ε s.results r)
  return_typed (Handle f es g ps) s q h a r = expr_typed (Handle f es g ps) 0 s q h a (returned_typed ε s.results r)
  return_typed (Group f e) s q h a r = expr_typed (Group f e) 0 s q h a (returned_typed ε s.results r)

  -- ## Slots

  -- the first temporary
  temporary : {Γ : Scope} {D : ℕ} {C : Context} → Scoped p.declarations L Γ n D C → 0 < n → slice_get C.locals L.temporaries ≡ Some I64
  temporary {C = C} s free = ap (λ (x : ℕ). slice_get C.locals x) (let z : L.temporaries ≡ L.temporaries + 0 = omega arith in z) ∙ s.temporaries 0 free

  -- the place that a number stands for
  place_typed : {Γ : Scope} {D : ℕ} {C : Context} {us : Row Operand} {c : Code} (m : ℕ) → Scoped p.declarations L Γ n D C → 0 < n → Rest C c (ε ▹ Known I32) us
      → Rest C (to_place L.temporaries m c) (ε ▹ Known I64) us
  place_typed m s free r =
      let number = temporary s free in
      set_typed {vs = ε} L.temporaries number
      (get_typed L.temporaries number
      (wrap_typed {vs = ε}
      (constant_32_typed (negsuc 0)
      (get_typed L.temporaries number
      (constant_typed (pos m)
      (compare_typed {vs = ε ▹ Known I32 ▹ Known I32} relop.LtU
      (select_typed {vs = ε} r)))))))

  store_typed : {Γ : Scope} {D : ℕ} {C : Context} {us : Row Operand} {c : Code} (x k : Name) (d : Slots) → Scoped p.declarations L Γ n D C → 0 < n → slots_of p.declarations x ≡ Some d
      → type_in Γ k ≡ Some (Resumption d.handler) → Rest C c ε us → Rest C (store_code p.declarations L x k c) (ε ▹ Known I64) us
  store_typed x k d s free is named r =
      place_typed (places_of p.declarations x) s free
      (get_typed (local_number L k) (local_typed s k (Resumption d.handler) named)
      (table_set_typed {vs = ε} (table_index p.declarations x) (s.offers.slots x d is) r))

  -- a resumption that is taken gets the local of its name, which is bound already
  take_typed : {Γ : Scope} {D : ℕ} {C : Context} {us : Row Operand} {c : Code} (x k : Name) (d : Slots) → Scoped p.declarations L Γ n D C → 0 < n → slots_of p.declarations x ≡ Some d
      → type_in Γ k ≡ Some (Resumption d.handler) → Rest C c ε us → Rest C (take_code p.declarations L k x c) (ε ▹ Known I64) us
  take_typed {C = C} x k d s free is named r =
      let there = slice_get_within (types_of C.types) resumption_type (Cont 0) s.offers.resumption in
      place_typed (places_of p.declarations x) s free
      (table_get_typed {vs = ε} (table_index p.declarations x) (s.offers.slots x d is)
      (checked_typed {vs = ε} resumption_type
      (less_typed s.offers.keeps (weaker C ε resumption_type)
      (set_typed {vs = ε} (local_number L k) (local_typed s k (Resumption d.handler) named)
      (get_typed L.temporaries (temporary s free)
      (wrap_typed {vs = ε}
      (null_typed resumption_type (lt-ltb resumption_type (length (types_of C.types)) there)
      (table_set_typed {vs = ε} (table_index p.declarations x) (s.offers.slots x d is) r))))))))

  -- ## Coroutines

  -- a coroutine of a function gets the local of its name
  spawn_typed : {Γ : Scope} {D : ℕ} {C : Context} {us : Row Operand} {c : Code} (x f : Name) (g : Function) → Scoped p.declarations L Γ n D C → function_of p.declarations f ≡ Some g
      → kinds g.parameters ≡ Int ∷ Coroutine ∷ [] → is_among (handled_names p.declarations) f ≡ true → type_in Γ x ≡ Some Coroutine → Rest C c ε us → Rest C (spawn_code p.declarations L x f c) ε us
  spawn_typed {C = C} x f g s is two among named r =
      let o = s.offers in let q = o.handled f g is among in
      reference_typed {vs = ε} (function_index p.declarations f) 5 (o.spawned f g is two) q.declared
      (less_typed o.keeps (weaker C ε 5)
      (new_typed {vs = ε} coroutine_type 5 o.coroutine
      (less_typed o.keeps (weaker C ε coroutine_type)
      (set_typed {vs = ε} (local_number L x) (local_typed s x Coroutine named) r))))

  -- what a switch gives gets the locals of two names, each bound in a scope of its own
  switch_code_typed : {Γ Δ Θ : Scope} {D : ℕ} {C : Context} {us : Row Operand} {c : Code} (x u t : Name) → Scoped p.declarations L Γ n D C → Scoped p.declarations L Δ n D C → Scoped p.declarations L Θ n D C
      → type_in Γ t ≡ Some Coroutine → type_in Δ x ≡ Some Int → type_in Θ u ≡ Some Coroutine → Rest C c ε us → Rest C (switch_code p.declarations L x u t c) (ε ▹ Known I64) us
  switch_code_typed {C = C} x u t s s1 s2 target first second r =
      let o = s.offers in
      get_typed (local_number L t) (local_typed s t Coroutine target)
      (switch_typed {vs = ε} coroutine_type (group_tag_index p.declarations) (ap (λ (k : Option CompType). func_at C (index_in_cont k)) o.coroutine ∙ o.switched) o.group
      (set_typed (local_number L u) (local_typed s2 u Coroutine second)
      (set_typed {vs = ε} (local_number L x) (local_typed s1 x Int first) r)))

  -- ## Blocks

  set_name : {Γ : Scope} {D : ℕ} {C : Context} {us : Row Operand} {c : Code} (x : Name) → Scoped p.declarations L Γ n D C → type_in Γ x ≡ Some Int → Rest C c ε us
      → Rest C (Plain (local_set (local_number L x)) c) (ε ▹ Known I64) us
  set_name x s e r = set_typed (local_number L x) (local_typed s x Int e) r

  pub block_typed : (b : BlockTree) {Γ : Scope} {D : ℕ} {C : Context} {us : Row Operand} {c : Code} → Scoped p.declarations L Γ n D C → BlockTyped p Γ b → LetsPlaced L (binds_in p.declarations b)
      → high_block b ≤ n → AllHandled p.declarations (handled_in_block b) → Rest C c ε us → Rest C (block p.declarations L D b c) ε us
  block_typed NoStatements s done l h a r = r
  block_typed (Evaluate (use_for.Let x) e ⨟ b) {Γ = Γ} s (statement (evaluates q (lets fit)) rest) l h a r =
      let s' = bound s (number_name x) (lets_first (number_name x) (binds_in p.declarations b) l) in
      let is_int : type_in (number_name x ∷ Γ) x ≡ Some Int = ap (λ (b : Bool). if b then Some Int else type_in Γ x) (same_refl x) in
      expr_typed e 0 s q (omega (arith, h)) (handled_left (handled_in_expr e) (handled_in_block b) a)
      (set_name x s' is_int
      (block_typed b s' rest (lets_right (number_name x ∷ []) (binds_in p.declarations b) l) (omega (arith, h)) (handled_right (handled_in_expr e) (handled_in_block b) a) r))
  block_typed (Evaluate (use_for.Assign x) e ⨟ b) s (statement (evaluates q (assigns is_int)) rest) l h a r =
      expr_typed e 0 s q (omega (arith, h)) (handled_left (handled_in_expr e) (handled_in_block b) a)
      (set_name x s is_int (block_typed b s rest l (omega (arith, h)) (handled_right (handled_in_expr e) (handled_in_block b) a) r))
  block_typed (If e b d ⨟ k) s (statement (ifs q first second) rest) l h a r =
      let here = handled_left (handled_in_expr e ++ (handled_in_block b ++ handled_in_block d)) (handled_in_block k) a in
      let both = handled_right (handled_in_expr e) (handled_in_block b ++ handled_in_block d) here in
      let within = lets_left (binds_in p.declarations b ++ binds_in p.declarations d) (binds_in p.declarations k) l in
      expr_typed e 0 s q (omega (arith, h)) (handled_left (handled_in_expr e) (handled_in_block b ++ handled_in_block d) here)
      (if_typed
      (block_typed d (inside ε s) second (lets_right (binds_in p.declarations b) (binds_in p.declarations d) within) (omega (arith, h)) (handled_right (handled_in_block b) (handled_in_block d) both) (end_typed ε))
      (block_typed b (inside ε s) first (lets_left (binds_in p.declarations b) (binds_in p.declarations d) within) (omega (arith, h)) (handled_left (handled_in_block b) (handled_in_block d) both) (end_typed ε))
      (block_typed k s rest (lets_right (binds_in p.declarations b ++ binds_in p.declarations d) (binds_in p.declarations k) l) (omega (arith, h)) (handled_right (handled_in_expr e ++ (handled_in_block b ++ handled_in_block d)) (handled_in_block k) a) r))
  block_typed (While e b ⨟ k) {Γ = Γ} {D} {C} s (statement (whiles q inner) rest) l h a r =
      let here = handled_left (handled_in_expr e ++ handled_in_block b) (handled_in_block k) a in
      let P : ℕ → Type 0 = λ d. Scoped p.declarations L Γ n d (labelled (labelled C ε) ε) in
      let s' = subst P (let z : D + 1 + 1 ≡ D + 2 = omega arith in z) (inside ε (inside ε s)) in
      loop_typed
      (expr_typed e 0 s' q (omega (arith, h)) (handled_left (handled_in_expr e) (handled_in_block b) here)
      (is_zero_typed
      (branch_if_typed 1 refl
      (block_typed b s' inner (lets_left (binds_in p.declarations b) (binds_in p.declarations k) l) (omega (arith, h)) (handled_right (handled_in_expr e) (handled_in_block b) here)
      (branch_typed {vs = ε} ε 0 refl (end_typed ε))))))
      (block_typed k s rest (lets_right (binds_in p.declarations b) (binds_in p.declarations k) l) (omega (arith, h)) (handled_right (handled_in_expr e ++ handled_in_block b) (handled_in_block k) a) r)
  block_typed (Evaluate use_for.Print e ⨟ b) s (statement (evaluates q prints) rest) l h a r =
      expr_typed e 0 s q (omega (arith, h)) (handled_left (handled_in_expr e) (handled_in_block b) a)
      (call_typed ε printer (I64 ∷ []) [] s.offers.printer (block_typed b s rest l (omega (arith, h)) (handled_right (handled_in_expr e) (handled_in_block b) a) r))
  block_typed (Evaluate use_for.Return e ⨟ b) s (statement (evaluates q returns) rest) l h a r =
      return_typed e s q (omega (arith, h)) (handled_left (handled_in_expr e) (handled_in_block b) a)
      (block_typed b s rest l (omega (arith, h)) (handled_right (handled_in_expr e) (handled_in_block b) a) r)
  block_typed (Evaluate (use_for.Store x k) e ⨟ b) s (statement (evaluates q (stores_in {d = d} is named)) rest) l h a r =
      expr_typed e 0 s q (omega (arith, h)) (handled_left (handled_in_expr e) (handled_in_block b) a)
      (store_typed x k d s (omega (arith, h)) is named (block_typed b s rest l (omega (arith, h)) (handled_right (handled_in_expr e) (handled_in_block b) a) r))
  block_typed (Evaluate (use_for.Take k x) e ⨟ b) {Γ = Γ} s (statement (evaluates q (takes_from {d = d} is fit)) rest) l h a r =
      let t = resumption_name d.handler k in
      let l' = subst (λ (o : Option Slots). LetsPlaced L (resumption_name (handler_of_slots x o) k ∷ binds_in p.declarations b)) is l in
      let s' = bound s t (lets_first t (binds_in p.declarations b) l') in
      let named : type_in (t ∷ Γ) k ≡ Some (Resumption d.handler) = ap (λ (b : Bool). if b then Some (Resumption d.handler) else type_in Γ k) (same_refl k) in
      expr_typed e 0 s q (omega (arith, h)) (handled_left (handled_in_expr e) (handled_in_block b) a)
      (take_typed x k d s' (omega (arith, h)) is named
      (block_typed b s' rest (lets_right (t ∷ []) (binds_in p.declarations b) l') (omega (arith, h)) (handled_right (handled_in_expr e) (handled_in_block b) a) r))
  block_typed (Evaluate (use_for.Switch x u t) e ⨟ b) {Γ = Γ} s (statement (evaluates q (switches_to is first second)) rest) l h a r =
      let bs = binds_in p.declarations b in
      let s1 = bound s (number_name x) (lets_first (number_name x) (coroutine_name u ∷ bs) l) in
      let s2 = bound s1 (coroutine_name u) (lets_first (coroutine_name u) bs (lets_right (number_name x ∷ []) (coroutine_name u ∷ bs) l)) in
      let is_int : type_in (number_name x ∷ Γ) x ≡ Some Int = ap (λ (b : Bool). if b then Some Int else type_in Γ x) (same_refl x) in
      let named : type_in (coroutine_name u ∷ number_name x ∷ Γ) u ≡ Some Coroutine = ap (λ (b : Bool). if b then Some Coroutine else type_in (number_name x ∷ Γ) u) (same_refl u) in
      expr_typed e 0 s q (omega (arith, h)) (handled_left (handled_in_expr e) (handled_in_block b) a)
      (switch_code_typed x u t s s1 s2 is is_int named
      (block_typed b s2 rest (lets_right (number_name x ∷ coroutine_name u ∷ []) bs l) (omega (arith, h)) (handled_right (handled_in_expr e) (handled_in_block b) a) r))
  block_typed (Spawn t f ⨟ b) {Γ = Γ} s (statement (spawns {g = g} is two fit) rest) l h a r =
      let s' = bound s (coroutine_name t) (lets_first (coroutine_name t) (binds_in p.declarations b) l) in
      let named : type_in (coroutine_name t ∷ Γ) t ≡ Some Coroutine = ap (λ (b : Bool). if b then Some Coroutine else type_in Γ t) (same_refl t) in
      spawn_typed t f g s' is two (handled_first f (handled_in_block b) a) named
      (block_typed b s' rest (lets_right (coroutine_name t ∷ []) (binds_in p.declarations b) l) (omega (arith, h)) (handled_later f (handled_in_block b) a) r)
  block_typed (Fail ⨟ b) s (statement fails rest) l h a r = unreachable_typed ε (block_typed b s rest l (omega (arith, h)) a r)
  block_typed (Evaluate use_for.Drop e ⨟ b) s (statement (evaluates q drops) rest) l h a r =
      expr_typed e 0 s q (omega (arith, h)) (handled_left (handled_in_expr e) (handled_in_block b) a)
      (dropped_typed (block_typed b s rest l (omega (arith, h)) (handled_right (handled_in_expr e) (handled_in_block b) a) r))

-- a body that runs to its end returns 0
ending_typed : {C : Context} {us : Row Operand} → C.results ≡ ε ▹ I64 → Rest C ending ε us
ending_typed {C} {us} e = constant_typed (pos 0) (returned_typed us e (end_typed us))

-- a body is typed to anything, since it returns
pub body_typed : {p : Script} {L : Layout} {Γ : Scope} {n D : ℕ} {C : Context} {us : Row Operand} (b : BlockTree) → Scoped p.declarations L Γ n D C → BlockTyped p Γ b → LetsPlaced L (binds_in p.declarations b)
    → high_block b ≤ n → AllHandled p.declarations (handled_in_block b) → Rest C (body p.declarations L D b) ε us
body_typed b s q l h a = block_typed b s q l h a (ending_typed s.results)
