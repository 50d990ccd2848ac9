-- Parametric and reference instructions of typed configurations.
use Rattle.std.proofs.Common.{◌≡◌, ℕ, zero, suc, Bool, true, false, IsTrue, [], ◌∷◌, Option, Some, None, slice_get, refl, arith}
use Rattle.w_types.specs.declared.types.HeapType.{HeapType}
use Rattle.w_types.specs.declared.types.HeapType.TheVariants.{Index}
use Rattle.w_types.specs.declared.types.ValType.TheVariants.{I32, Ref}
use Rattle.lists.specs.Rows.{Row, ε, ◌▹◌}
use Rattle.w_syntax.specs.Code.{Code}
use Rattle.w_syntax.specs.declared.instructions.ParametricOp.{ParametricOp}
use Rattle.w_syntax.specs.declared.instructions.ParametricOp.TheVariants as parametric
use Rattle.w_syntax.specs.declared.instructions.ReferenceOp.{ReferenceOp}
use Rattle.w_syntax.specs.declared.instructions.ReferenceOp.TheVariants as reference
use Rattle.w_syntax.specs.declared.module.Module.{Module}
use Rattle.w_canon.specs.Supertypes.{KeepsKinds}
use Rattle.w_canon.proofs.Preorder.{heap_refl}
use Rattle.w_rules.specs.InstructionTypes.{InstrType, fixed, if_valid, parametric_op_type, reference_op_type, ref_func_type}
use Rattle.w_rules.specs.Operands.{Operand}
use Rattle.w_rules.specs.Operands.{Known}
use Rattle.w_rules.specs.Spaces.{functions_of, declared_of}
use Rattle.w_rules.specs.Typing.{HasInstrType, ref_to}
use Rattle.w_rules.specs.Context.{type_count}
use Rattle.w_rules.specs.Types.{has_type, has_heap}
use Rattle.w_reduce.specs.Values.{Val, Null, Func, Cont}
use Rattle.w_reduce.specs.Store.{Store}
use Rattle.w_reduce.specs.Terms.{Context}
use Rattle.w_reduce.specs.Reduced.{Reduced, take_value}
use Rattle.w_reduce.specs.Parametric.{parametric_op, select}
use Rattle.w_reduce.specs.Reference.{reference_op, by_null}
use Rattle.w_typed.specs.Values.{Arrows, a_null, a_function, a_continuation, an_i32, OperandTyped, a_value, a_bottom, ValuesTyped, values}
use Rattle.w_typed.specs.Stores.{StoreTyped}
use Rattle.w_typed.specs.Contexts.{Scope, in_scope}
use Rattle.w_typed.specs.Configurations.{IsSafe, traps}
use Rattle.w_typed.proofs.Functions.{entries_typed}
use Rattle.w_typed.proofs.Places.{instance_at}
use Rattle.w_typed.proofs.TypedOperands.{small_typed}
use Rattle.w_typed.proofs.Subsumption.{values_sub}
use Rattle.w_typed.proofs.Onward.{Onward}

-- what has the type has it where the test holds
pub if_valid_has : (m : Module) (b : Bool) (l : InstrType) (ts ws : Row Operand) → HasInstrType m.types (if_valid b l) ts ws → HasInstrType m.types l ts ws
if_valid_has m true l ts ws h = h
if_valid_has m false l ts ws h = absurd h

-- and the test holds
pub if_valid_holds : (m : Module) (b : Bool) (l : InstrType) (ts ws : Row Operand) → HasInstrType m.types (if_valid b l) ts ws → IsTrue b
if_valid_holds m true l ts ws h = refl
if_valid_holds m false l ts ws h = absurd h

-- a reference that may be null: it is null, or it is one that may not
pub data NullOr (m : Module) (K : Arrows) (h : Option HeapType) : Val → Type 0 where
  it_is_null : NullOr m K h Null
  is_function : {a : ℕ} → OperandTyped m K (Func a) (ref_to false h) → NullOr m K h (Func a)
  is_continuation : {a : ℕ} → OperandTyped m K (Cont a) (ref_to false h) → NullOr m K h (Cont a)

pub null_or : (m : Module) {K : Arrows} (h : Option HeapType) {v : Val} → OperandTyped m K v (ref_to true h) → NullOr m K h v
null_or m (Some h) (a_value (a_null n)) = it_is_null
null_or m (Some h) (a_value (a_function is k)) = is_function (a_value (a_function is k))
null_or m (Some h) (a_value (a_continuation c)) = is_continuation (a_value (a_continuation c))
null_or m None (a_bottom n) = it_is_null

module _ (m : Module) (keeps : KeepsKinds m.types) {K : Arrows} (us : Row Operand) where
  -- both ways of a reference
  pub either_way : (h : Option HeapType) (v : Val) (null other : Reduced) → NullOr m K h v → (v ≡ Null → IsSafe m K us null)
      → (OperandTyped m K v (ref_to false h) → IsSafe m K us other) → IsSafe m K us (by_null v null other)
  either_way h _ null other it_is_null f g = f refl
  either_way h _ null other (is_function k) f g = g k
  either_way h _ null other (is_continuation k) f g = g k

  select_safe : (t : Operand) (ts ws : Row Operand) (s : Store) (e : Context) (vs : Row Val) (k : Code) (beneath : Row Operand) → StoreTyped m K s
      → ValuesTyped m K vs (beneath ▹ t ▹ t ▹ Known I32) → ((below : Row Val) (v : Val) → ValuesTyped m K (below ▹ v) (beneath ▹ t) → ValuesTyped m K (below ▹ v) ws)
      → Onward m K us e ws k → IsSafe m K us (select s e vs k)
  select_safe t ts ws s e _ k beneath u (values (values {v = w} (values {vs = vs} {v = v} b p) q) (a_value (an_i32 {n = zero} r))) f go = go s _ u (f vs w (values b q))
  select_safe t ts ws s e _ k beneath u (values (values {v = w} (values {vs = vs} {v = v} b p) q) (a_value (an_i32 {n = suc n} r))) f go = go s _ u (f vs v (values b p))

  -- a parametric instruction goes on
  pub parametric_safe : (c : Scope) (o : ParametricOp) (ts ws : Row Operand) (s : Store) (e : Context) (vs : Row Val) (k : Code) → StoreTyped m K s
      → HasInstrType m.types (parametric_op_type (in_scope m c) o) ts ws → ValuesTyped m K vs ts → Onward m K us e ws k → IsSafe m K us (parametric_op s e vs o k)
  parametric_safe c parametric.Drop ts ws s e vs k u (t, h) v go = drop_safe t ts ws s e vs k h.beneath u (values_sub m keeps h.takes v) (λ below b. values_sub m keeps h.gives b) go
    where
      drop_safe : (t : Operand) (ts ws : Row Operand) (s : Store) (e : Context) (vs : Row Val) (k : Code) (beneath : Row Operand) → StoreTyped m K s
          → ValuesTyped m K vs (beneath ▹ t) → ((below : Row Val) → ValuesTyped m K below beneath → ValuesTyped m K below ws)
          → Onward m K us e ws k → IsSafe m K us (parametric_op s e vs parametric.Drop k)
      drop_safe t ts ws s e _ k beneath u (values {vs = vs} b w) f go = go s vs u (f vs b)
  parametric_safe c parametric.Select ts ws s e vs k u (t, n, h) v go = select_safe t ts ws s e vs k h.beneath u (values_sub m keeps h.takes v) (λ below x b. values_sub m keeps h.gives b) go
  parametric_safe c (parametric.SelectOf []) ts ws s e vs k u h v go = absurd h
  parametric_safe c (parametric.SelectOf (t ∷ [])) ts ws s e vs k u h v go =
      let g = if_valid_has m (has_type (type_count (in_scope m c)) t) (fixed (ε ▹ t ▹ t ▹ I32) (ε ▹ t)) ts ws h in
      select_safe (Known t) ts ws s e vs k g.beneath u (values_sub m keeps g.takes v) (λ below x b. values_sub m keeps g.gives b) go
  parametric_safe c (parametric.SelectOf (t ∷ y ∷ zs)) ts ws s e vs k u h v go = absurd h

  func_safe : (x : ℕ) (ts ws : Row Operand) (s : Store) (e : Context) (vs : Row Val) (k : Code) (y : Option ℕ) (d : Option Bool) → slice_get (functions_of m) x ≡ y → StoreTyped m K s
      → HasInstrType m.types (ref_func_type y d) ts ws → ValuesTyped m K vs ts → Onward m K us e ws k → IsSafe m K us (reference_op s e vs (reference.Func x) k)
  func_safe x ts ws s e vs k None d is u h v go = absurd h
  func_safe x ts ws s e vs k (Some y) None is u h v go = absurd h
  func_safe x ts ws s e vs k (Some y) (Some false) is u h v go = absurd h
  func_safe x ts ws s e vs k (Some y) (Some true) is u h v go =
      let f = instance_at x y (entries_typed m u.functions) is in
      rw (f.is) (go s _ u (values_sub m keeps h.gives (values (values_sub m keeps h.takes v) (a_value (a_function is (heap_refl m.types (Index y)))))))

  -- the topmost operand is a reference
  pub by_null_safe : (h : Option HeapType) (vs : Row Val) (beneath : Row Operand) (null other : Row Val × Val → Reduced)
      → ValuesTyped m K vs (beneath ▹ ref_to true h) → ((below : Row Val) → ValuesTyped m K below beneath → IsSafe m K us (null (below, Null)))
      → ((below : Row Val) (v : Val) → ValuesTyped m K below beneath → OperandTyped m K v (ref_to false h) → IsSafe m K us (other (below, v)))
      → IsSafe m K us (take_value vs (λ p. by_null p.1 (null p) (other p)))
  by_null_safe h _ beneath null other (values {vs = vs} {v = v} b w) f g =
      either_way h v (null (vs, v)) (other (vs, v)) (null_or m h w) (λ e. rw e (f vs b)) (λ k. g vs v b k)

  -- a reference instruction goes on, or traps
  pub reference_safe : (c : Scope) (o : ReferenceOp) (ts ws : Row Operand) (s : Store) (e : Context) (vs : Row Val) (k : Code) → StoreTyped m K s
      → HasInstrType m.types (reference_op_type (in_scope m c) o) ts ws → ValuesTyped m K vs ts → Onward m K us e ws k → IsSafe m K us (reference_op s e vs o k)
  reference_safe c (reference.Null x) ts ws s e vs k u h v go =
      let g = if_valid_has m (has_heap (type_count (in_scope m c)) x) (fixed ε (ε ▹ Ref (record { nullable = true; heap = x }))) ts ws h in
      go s _ u (values_sub m keeps g.gives (values (values_sub m keeps g.takes v) (a_value (a_null refl))))
  reference_safe c reference.IsNull ts ws s e vs k u (x, h) v go =
      by_null_safe x vs h.beneath _ _ (values_sub m keeps h.takes v) (λ below b. go s _ u (values_sub m keeps h.gives (values b (small_typed m 1 (omega arith)))))
      (λ below w b q. go s _ u (values_sub m keeps h.gives (values b (small_typed m 0 (omega arith)))))
  reference_safe c (reference.Func x) ts ws s e vs k u h v go =
      func_safe x ts ws s e vs k (slice_get (functions_of m) x) (slice_get (declared_of m) x) refl u h v go
  reference_safe c reference.AsNonNull ts ws s e vs k u (x, h) v go =
      by_null_safe x vs h.beneath _ _ (values_sub m keeps h.takes v) (λ below b. traps) (λ below w b q. go s _ u (values_sub m keeps h.gives (values b q)))
