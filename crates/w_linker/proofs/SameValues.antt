-- A constant expression has one value in stores of the same functions and globals.
use Rattle.std.proofs.Common.{◌≡◌, ℕ, Result, Ok, Err, Option, Some, None, IsTrue, [], slice_get, List, refl, ap, ◌∙◌}
use Rattle.std.specs.Option.{option_and_then}
use Rattle.lists.specs.Rows.{Row, ε, ◌▹◌}
use Rattle.w_syntax.specs.Code.{Code, Done, Plain, Block, If, IfElse}
use Rattle.w_syntax.specs.declared.instructions.Op.{Op}
use Rattle.w_syntax.specs.declared.instructions.Op.TheVariants as op
use Rattle.w_syntax.specs.declared.instructions.ReferenceOp.{ReferenceOp}
use Rattle.w_syntax.specs.declared.instructions.ReferenceOp.TheVariants as reference
use Rattle.w_syntax.specs.declared.instructions.VariableOp.{VariableOp}
use Rattle.w_syntax.specs.declared.instructions.VariableOp.TheVariants as variable
use Rattle.w_syntax.specs.declared.numeric.IntType.{IntType}
use Rattle.w_syntax.specs.declared.numeric.IntType.TheVariants as int
use Rattle.w_syntax.specs.declared.numeric.NumericOp.{NumericOp}
use Rattle.w_syntax.specs.declared.numeric.NumericOp.TheVariants as numeric
use Rattle.lists.proofs.Tests.{each_of}
use Rattle.w_num.specs.declared.fault.NumFault.{NumFault}
use Rattle.w_tables.specs.declared.entries.FuncEntry.{FuncEntry}
use Rattle.w_rules.specs.Bodies.{is_const, all_const}
use Rattle.w_rules.specs.Context.{Context}
use Rattle.w_reduce.specs.Values.{Val, I32, I64}
use Rattle.w_reduce.specs.Values as values
use Rattle.w_reduce.specs.Store.{Store}
use Rattle.w_reduce.specs.Terms.{rest_of}
use Rattle.w_reduce.specs.Program.{Program}
use Rattle.w_reduce.specs.Reduced.{Reduced, or_stuck, take_number, unless_fault, steps_to}
use Rattle.w_reduce.specs.Reduce.{instruction}
use Rattle.w_reduce.specs.Numeric.{numeric_op, width, binop}
use Rattle.w_reduce.specs.Reference.{reference_op}
use Rattle.w_reduce.specs.Variable.{variable_op}
use Rattle.w_reduce.specs.Constants.{operands_after, evaluated, topmost, value_of}
use Rattle.w_inst.specs.Constants.{IsConstant}

-- ## What is done with what was taken or found

number_same : (i : IntType) (vs : Row Val) (f g : Row Val × ℕ → Reduced) → ((q : Row Val × ℕ) → operands_after (f q) ≡ operands_after (g q))
    → operands_after (take_number i vs f) ≡ operands_after (take_number i vs g)
number_same i ε f g h = refl
number_same int.I32 (vs ▹ I32 n) f g h = h (vs, n)
number_same int.I32 (vs ▹ v) f g h = refl
number_same int.I64 (vs ▹ I64 n) f g h = h (vs, n)
number_same int.I64 (vs ▹ v) f g h = refl

fault_same : (r : Result ℕ NumFault) (f g : ℕ → Reduced) → ((n : ℕ) → operands_after (f n) ≡ operands_after (g n)) → operands_after (unless_fault r f) ≡ operands_after (unless_fault r g)
fault_same (Ok n) f g h = h n
fault_same (Err e) f g h = refl

found_same : {A : Type 0} (o : Option A) (f g : A → Reduced) → ((a : A) → operands_after (f a) ≡ operands_after (g a)) → operands_after (or_stuck o f) ≡ operands_after (or_stuck o g)
found_same None f g h = refl
found_same (Some a) f g h = h a

after_same : {A B : Type 0} (o : Option A) (f g : A → Option B) → ((a : A) → f a ≡ g a) → option_and_then f o ≡ option_and_then g o
after_same None f g h = refl
after_same (Some a) f g h = h a

module _ (p : Program) (s t : Store) (functions : s.functions ≡ t.functions) (globals : s.globals ≡ t.globals) where
  -- ## Instructions

  numeric_same : (c : Context) (o : NumericOp) (vs : Row Val) → IsTrue (is_const c (op.Numeric o)) → operands_after (numeric_op s [] vs o Done) ≡ operands_after (numeric_op t [] vs o Done)
  numeric_same c (numeric.I32Const z) vs h = refl
  numeric_same c (numeric.I64Const z) vs h = refl
  numeric_same c (numeric.Binary i o) vs h = number_same i vs _ _ (λ q. number_same i q.0 _ _ (λ r. fault_same (binop o (width i) r.1 q.1) _ _ (λ n. refl)))
  numeric_same c _ vs h = absurd (cc)

  reference_same : (c : Context) (o : ReferenceOp) (vs : Row Val) → IsTrue (is_const c (op.Reference o))
      → operands_after (reference_op s [] vs o Done) ≡ operands_after (reference_op t [] vs o Done)
  reference_same c (reference.Null k) vs h = refl
  reference_same c (reference.Func x) vs h =
      ap (λ (l : List FuncEntry). operands_after (or_stuck (slice_get l x) (λ f. steps_to s [] (vs ▹ values.Func x) (rest_of Done)))) functions
      ∙ found_same (slice_get t.functions x) _ _ (λ f. refl)
  reference_same c _ vs h = absurd (cc)

  variable_same : (c : Context) (o : VariableOp) (vs : Row Val) → IsTrue (is_const c (op.Variable o))
      → operands_after (variable_op s [] vs o Done) ≡ operands_after (variable_op t [] vs o Done)
  variable_same c (variable.GlobalGet x) vs h =
      ap (λ (l : List Val). operands_after (or_stuck (slice_get l x) (λ v. steps_to s [] (vs ▹ v) (rest_of Done)))) globals
      ∙ found_same (slice_get t.globals x) _ _ (λ v. refl)
  variable_same c _ vs h = absurd (cc)

  one_same : (c : Context) (o : Op) (vs : Row Val) → IsTrue (is_const c o) → operands_after (instruction p s [] vs o Done) ≡ operands_after (instruction p t [] vs o Done)
  one_same c (op.Numeric o) vs h = numeric_same c o vs h
  one_same c (op.Reference o) vs h = reference_same c o vs h
  one_same c (op.Variable o) vs h = variable_same c o vs h
  one_same c _ vs h = absurd (cc)

  -- ## Expressions

  evaluated_same : (c : Context) (k : Code) (vs : Row Val) → IsTrue (all_const c k) → evaluated p s vs k ≡ evaluated p t vs k
  unfolding evaluated
  evaluated_same c Done vs h = refl
  evaluated_same c (Plain o k) vs h =
      let b = each_of (is_const c o) (all_const c k) h in
      ap (option_and_then (λ (us : Row Val). evaluated p s us k)) (one_same c o vs b.0)
      ∙ after_same (operands_after (instruction p t [] vs o Done)) (λ (us : Row Val). evaluated p s us k) (λ (us : Row Val). evaluated p t us k) (λ us. evaluated_same c k us b.1)
  evaluated_same c (Block kind x b k) vs h = absurd (cc)
  evaluated_same c (If x b k) vs h = absurd (cc)
  evaluated_same c (IfElse x b d k) vs h = absurd (cc)

  -- so its value is one
  pub value_same : (k : Code) → IsConstant k → value_of p s k ≡ value_of p t k
  value_same k h = ap topmost (evaluated_same h.within k ε h.constant)
