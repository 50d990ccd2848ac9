-- The values of constant expressions are of their types.
use Rattle.std.proofs.Common.{◌≡◌, ℕ, Bool, true, false, IsTrue, List, [], ◌∷◌, Option, Some, None, Ok, slice_get, option_and_then, refl}
use Rattle.w_types.specs.declared.types.HeapType.TheVariants.{Index}
use Rattle.w_types.specs.declared.types.ValType.{ValType}
use Rattle.w_types.specs.declared.types.ValType.TheVariants.{Ref}
use Rattle.lists.specs.Rows.{Row, ε, ◌▹◌}
use Rattle.w_syntax.specs.Code.{Code, Done, Plain}
use Rattle.w_syntax.specs.declared.instructions.Op.{Op}
use Rattle.w_syntax.specs.declared.instructions.Op.TheVariants as op
use Rattle.w_syntax.specs.declared.instructions.ReferenceOp.{ReferenceOp}
use Rattle.w_syntax.specs.declared.instructions.ReferenceOp.TheVariants as reference
use Rattle.w_syntax.specs.declared.instructions.VariableOp.TheVariants as variable
use Rattle.w_syntax.specs.declared.module.GlobalType.{GlobalType}
use Rattle.w_syntax.specs.declared.module.Module.{Module}
use Rattle.w_syntax.specs.declared.numeric.Binop.{Binop}
use Rattle.w_syntax.specs.declared.numeric.Binop.TheVariants as binary
use Rattle.w_syntax.specs.declared.numeric.IntType.{IntType}
use Rattle.w_syntax.specs.declared.numeric.IntType.TheVariants as int
use Rattle.w_syntax.specs.declared.numeric.NumericOp.{NumericOp}
use Rattle.w_syntax.specs.declared.numeric.NumericOp.TheVariants as numeric
use Rattle.w_num.specs.Arithmetic.{iadd, isub, imul}
use Rattle.w_canon.specs.Supertypes.{KeepsKinds}
use Rattle.w_canon.proofs.Preorder.{heap_refl}
use Rattle.w_rules.specs.Bodies.{is_const, is_const_binary, all_const, ConstTyped}
use Rattle.w_rules.specs.Context as rules
use Rattle.w_rules.specs.Context.{type_count}
use Rattle.w_rules.specs.InstructionTypes.{of_int, fixed, numeric_op_type, reference_op_type, ref_func_type, global_get_type, instr_type, sets}
use Rattle.w_rules.specs.Operands.{Operand}
use Rattle.w_rules.specs.Operands.{Known}
use Rattle.w_rules.specs.Spaces.{context_of, functions_of, in_body}
use Rattle.w_rules.specs.Types.{has_heap}
use Rattle.w_rules.specs.Typing.{HasInstrType, Derives}
use Rattle.w_reduce.specs.Values.{Val}
use Rattle.w_reduce.specs.Store.{Store}
use Rattle.w_reduce.specs.Program.{Program}
use Rattle.w_reduce.specs.Reduced.{Reduced, take_number}
use Rattle.w_reduce.specs.Reduce.{instruction}
use Rattle.w_reduce.specs.Numeric.{numeric_op, width, binop}
use Rattle.w_reduce.specs.Reference.{reference_op}
use Rattle.w_reduce.specs.Variable.{variable_op}
use Rattle.w_reduce.specs.Constants.{operands_after, evaluated, topmost, value_of}
use Rattle.w_typed.specs.Values.{Arrows, ValueTyped, an_i32, an_i64, a_null, a_function, a_value, ValuesTyped, no_values, values}
use Rattle.w_typed.specs.Ranges.{ConstantFits, ConstantsFit, NumbersFit, IsBelow}
use Rattle.w_typed.specs.Stores.{Instances, FunctionsTyped, GlobalTyped}
use Rattle.w_typed.proofs.OneWay.{both_hold}
use Rattle.w_typed.proofs.Functions.{entries_typed}
use Rattle.w_typed.proofs.Places.{instance_at}
use Rattle.w_typed.proofs.Ranges.{binop_below, width_there}
use Rattle.w_typed.proofs.Subsumption.{values_sub}
use Rattle.w_typed.proofs.TypedOperands.{number_typed}
use Rattle.w_typed.proofs.References.{if_valid_has}

-- the context of a module with these globals alone
abbrev pub knowing : Module → List GlobalType → rules.Context
knowing m gs = record (context_of m) { globals = gs }

-- a store has the module's functions, and these globals
pub record Holding (m : Module) (K : Arrows) (gs : List GlobalType) (s : Store) : Type 0 where
  pub functions : FunctionsTyped m s.functions
  pub globals : Instances (GlobalTyped m K) s.globals gs

-- operands are there, of these types
abbrev ThereTyped : Module → Arrows → Row Operand → Option (Row Val) → Type 0
ThereTyped m K us None = ⊥
ThereTyped m K us (Some vs) = ValuesTyped m K vs us

-- the topmost of one operand
topmost_typed : (m : Module) {K : Arrows} (t : ValType) (o : Option (Row Val)) → ThereTyped m K (ε ▹ Known t) o → ValueTyped m K (topmost o) t
topmost_typed m t None h = absurd h
topmost_typed m t (Some _) (values h (a_value w)) = w

-- the operators of constant expressions have a value at all numbers
has_value : (o : Binop) → IsTrue (is_const_binary o) → (N a b : ℕ) → (n : ℕ) × (binop o N a b ≡ Ok n)
has_value binary.Add t N a b = (iadd N a b, refl)
has_value binary.Sub t N a b = (isub N a b, refl)
has_value binary.Mul t N a b = (imul N a b, refl)
has_value _ t N a b = absurd (cc)

module _ (m : Module) {K : Arrows} (us : Row Operand) where
  -- what follows operands that are there
  and_then_there : (ts : Row Operand) (f : Row Val → Option (Row Val)) (o : Option (Row Val)) → ThereTyped m K ts o
      → ((vs : Row Val) → ValuesTyped m K vs ts → ThereTyped m K us (f vs)) → ThereTyped m K us (option_and_then f o)
  and_then_there ts f None h k = absurd h
  and_then_there ts f (Some vs) h k = k vs h

  -- the topmost operand is a number of its type
  number_there : (i : IntType) (vs : Row Val) (beneath : Row Operand) (go : Row Val × ℕ → Reduced) → ValuesTyped m K vs (beneath ▹ Known (of_int i))
      → ((below : Row Val) (n : ℕ) → ValuesTyped m K below beneath → IsBelow m n (width i) → ThereTyped m K us (operands_after (go (below, n))))
      → ThereTyped m K us (operands_after (take_number i vs go))
  number_there int.I32 _ beneath go (values {vs = vs} h (a_value (an_i32 {n} r))) k = k vs n h r
  number_there int.I64 _ beneath go (values {vs = vs} h (a_value (an_i64 {n} r))) k = k vs n h r

module _ (m : Module) (keeps : KeepsKinds m.types) {K : Arrows} (gs : List GlobalType) (s : Store) (u : Holding m K gs s) where
  numeric_there : (c : rules.Context) (o : NumericOp) (ts ws : Row Operand) (vs : Row Val) → IsTrue (is_const c (op.Numeric o))
      → (NumbersFit m → ConstantFits (op.Numeric o)) → HasInstrType m.types (numeric_op_type o) ts ws → ValuesTyped m K vs ts → ThereTyped m K ws (operands_after (numeric_op s [] vs o Done))
  numeric_there c (numeric.I32Const z) ts ws vs t fits h v = values_sub m keeps h.gives (values (values_sub m keeps h.takes v) (a_value (an_i32 fits)))
  numeric_there c (numeric.I64Const z) ts ws vs t fits h v = values_sub m keeps h.gives (values (values_sub m keeps h.takes v) (a_value (an_i64 fits)))
  numeric_there c (numeric.Binary i o) ts ws vs t fits h v =
      number_there m ws i vs (h.beneath ▹ Known (of_int i)) _ (values_sub m keeps h.takes v) (λ above b k q.
      number_there m ws i above h.beneath _ k (λ below a l p.
      let r = has_value o t (width i) a b in
      rw (r.1) (values_sub m keeps h.gives (values l (number_typed m i r.0 (λ f. binop_below o (width i) a b r.0 (width_there i) (p f) (q f) r.1))))))
  numeric_there c _ ts ws vs t fits h v = absurd (cc)

  func_there : (x : ℕ) (ts ws : Row Operand) (vs : Row Val) (y : Option ℕ) (d : Option Bool) → slice_get (functions_of m) x ≡ y
      → HasInstrType m.types (ref_func_type y d) ts ws → ValuesTyped m K vs ts
      → ThereTyped m K ws (operands_after (reference_op s [] vs (reference.Func x) Done))
  func_there x ts ws vs (Some y) (Some true) is h v =
      let f = instance_at x y (entries_typed m u.functions) is in
      rw (f.is) (values_sub m keeps h.gives (values (values_sub m keeps h.takes v) (a_value (a_function is (heap_refl m.types (Index y))))))
  func_there x ts ws vs (Some y) (Some false) is h v = absurd h
  func_there x ts ws vs (Some y) None is h v = absurd h
  func_there x ts ws vs None d is h v = absurd h

  -- c says which instructions are constant, and d has the functions
  reference_there : (c d : rules.Context) (o : ReferenceOp) (ts ws : Row Operand) (vs : Row Val) → d.functions ≡ functions_of m
      → IsTrue (is_const c (op.Reference o)) → HasInstrType m.types (reference_op_type d o) ts ws → ValuesTyped m K vs ts
      → ThereTyped m K ws (operands_after (reference_op s [] vs o Done))
  reference_there c d (reference.Null x) ts ws vs e t h v =
      let g = if_valid_has m (has_heap (type_count d) x) (fixed ε (ε ▹ Ref (record { nullable = true; heap = x }))) ts ws h in
      values_sub m keeps g.gives (values (values_sub m keeps g.takes v) (a_value (a_null refl)))
  reference_there c d (reference.Func x) ts ws vs e t h v = func_there x ts ws vs (slice_get d.functions x) (slice_get d.declared x) (cc) h v
  reference_there c d _ ts ws vs e t h v = absurd (cc)

  global_there : (x : ℕ) (ts ws : Row Operand) (vs : Row Val) (g : Option GlobalType) → slice_get gs x ≡ g
      → HasInstrType m.types (global_get_type g) ts ws → ValuesTyped m K vs ts
      → ThereTyped m K ws (operands_after (variable_op s [] vs (variable.GlobalGet x) Done))
  global_there x ts ws vs (Some g) is h v =
      let f = instance_at x g u.globals is in
      rw (f.is) (values_sub m keeps h.gives (values (values_sub m keeps h.takes v) (a_value f.holds)))
  global_there x ts ws vs None is h v = absurd h

module _ (p : Program) (keeps : KeepsKinds p.source.types) {K : Arrows} (gs : List GlobalType) (s : Store) (u : Holding p.source K gs s) (ls rs : List ValType) where
  instruction_there : (set : List Bool) (o : Op) (ts ws : Row Operand) (vs : Row Val) → IsTrue (is_const (knowing p.source gs) o)
      → (NumbersFit p.source → ConstantFits o) → HasInstrType p.source.types (instr_type (in_body (knowing p.source gs) ls rs) set o) ts ws → ValuesTyped p.source K vs ts
      → ThereTyped p.source K ws (operands_after (instruction p s [] vs o Done))
  instruction_there set (op.Numeric o) ts ws vs t fits h v = numeric_there p.source keeps gs s u (knowing p.source gs) o ts ws vs t fits h v
  instruction_there set (op.Reference o) ts ws vs t fits h v =
      reference_there p.source keeps gs s u (knowing p.source gs) (in_body (knowing p.source gs) ls rs) o ts ws vs refl t h v
  instruction_there set (op.Variable (variable.GlobalGet x)) ts ws vs t fits h v = global_there p.source keeps gs s u x ts ws vs (slice_get gs x) refl h v
  instruction_there set _ ts ws vs t fits h v = absurd (cc)

  -- constant code leads operands of its type to those that it gives
  code_there : (set : List Bool) (k : Code) (ts us : Row Operand) (vs : Row Val) → IsTrue (all_const (knowing p.source gs) k)
      → (NumbersFit p.source → ConstantsFit k) → Derives (in_body (knowing p.source gs) ls rs) set k ts us → ValuesTyped p.source K vs ts → ThereTyped p.source K us (evaluated p s vs k)
  unfolding evaluated
  code_there set Done ts us vs c fits d v = values_sub p.source keeps d v
  code_there set (Plain o k) ts us vs c fits d v =
      let both = both_hold (is_const (knowing p.source gs) o) (all_const (knowing p.source gs) k) c in
      and_then_there p.source us d.1.0 (λ ws. evaluated p s ws k) _ (instruction_there set o ts d.1.0 vs both.0 (λ f. (fits f).0) d.1.1 v)
      (λ ws w. code_there (sets o set) k d.1.0 us ws both.1 (λ f. (fits f).1) d.1.2 w)
  code_there set _ ts us vs c fits d v = absurd (cc)

-- the value of a constant expression is of its type
pub value_typed : (p : Program) → KeepsKinds p.source.types → {K : Arrows} (gs : List GlobalType) (s : Store) → Holding p.source K gs s → (k : Code) (t : ValType)
    → (NumbersFit p.source → ConstantsFit k) → ConstTyped (knowing p.source gs) k t → ValueTyped p.source K (value_of p s k) t
value_typed p keeps gs s u k t fits h =
    topmost_typed p.source t (evaluated p s ε k) (code_there p keeps gs s u [] (t ∷ []) [] k ε (ε ▹ Known t) ε h.constant fits h.typed no_values)
