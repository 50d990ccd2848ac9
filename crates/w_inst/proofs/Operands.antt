-- Operands in a list whose last is the topmost, and what the instructions of constant expressions do to them.
use Rattle.std.proofs.Common.{◌≡◌, ℕ, zero, suc, List, [], ◌∷◌, ◌++◌, length, refl, subst, sym, ap, ◌∙◌, arith}
use Rattle.std.specs.Prelude.{Bool, true, false, Option, Some, None, Ok, Err, Result, slice_get, option_map, ◌<◌, IfOk, ℤ}
use Rattle.std.proofs.lemmas.List.{map-append}
use Rattle.lists.specs.Rows.{Row, ◌▹◌, row_of}
use Rattle.lists.proofs.Rows.{row_of-more}
use Rattle.w_types.specs.declared.types.HeapType.{HeapType}
use Rattle.w_types.specs.declared.value.Value.{Value}
use Rattle.w_types.specs.declared.value.Value.TheVariants as value
use Rattle.w_syntax.specs.Code.{Done}
use Rattle.w_syntax.specs.declared.instructions.Op.TheVariants as op
use Rattle.w_syntax.specs.declared.instructions.Op.{Op}
use Rattle.w_syntax.specs.declared.instructions.ReferenceOp.{ReferenceOp}
use Rattle.w_syntax.specs.declared.instructions.ReferenceOp.TheVariants as reference
use Rattle.w_syntax.specs.declared.instructions.VariableOp.{VariableOp}
use Rattle.w_syntax.specs.declared.instructions.VariableOp.TheVariants as variable
use Rattle.w_syntax.specs.declared.numeric.Binop.{Binop}
use Rattle.w_syntax.specs.declared.numeric.IntType.{IntType}
use Rattle.w_syntax.specs.declared.numeric.NumericOp.{NumericOp}
use Rattle.w_syntax.specs.declared.numeric.NumericOp.TheVariants as numeric
use Rattle.w_num.specs.Signed.{inverse}
use Rattle.w_num.specs.declared.fault.NumFault.{NumFault}
use Rattle.w_tables.specs.declared.entries.FuncEntry.{FuncEntry}
use Rattle.w_reduce.specs.Values.{Val, I32, I64, val}
use Rattle.w_reduce.specs.Store.{Store}
use Rattle.w_reduce.specs.Reduced.{Reduced, Stuck, as_number, take_number, or_stuck, unless_fault, number, steps_to}
use Rattle.w_reduce.specs.Terms.{rest_of}
use Rattle.w_reduce.specs.Numeric.{binop, width, numeric_op}
use Rattle.w_reduce.specs.Constants.{operands_after}
use Rattle.w_reduce.specs.Reference.{reference_op}
use Rattle.w_reduce.specs.Variable.{variable_op}
use Rattle.w_stands.specs.Values.{vals}
use Rattle.w_stands.proofs.Locals.{mapped_get}
use Rattle.w_stands.specs.Numbers.{value_of}
use Rattle.w_stands.proofs.Numbers.{number_val}
use Rattle.w_inst.specs.Constants.{row, left, AlwaysLeaves, Leaves}

-- one more operand
pub row_more : (vs : List Value) (v : Value) → row (vs ++ v ∷ []) ≡ row vs ▹ val v
row_more vs v = ap row_of (map-append val vs (v ∷ [])) ∙ row_of-more (vals vs) (val v)

-- the topmost one is taken
pub take_top : (t : IntType) (vs ws : List Value) (v : Value) (r : Option ℕ) → vs ≡ ws ++ v ∷ []
    → ((go : ℕ → Reduced) → as_number t (val v) go ≡ or_stuck r go)
    → (go : Row Val × ℕ → Reduced) → take_number t (row vs) go ≡ or_stuck r (λ n. go (row ws, n))
take_top t vs ws v r e h go =
    ap (λ (l : List Value). take_number t (row l) go) e ∙ ap (λ (q : Row Val). take_number t q go) (row_more ws v) ∙ h (λ n. go (row ws, n))

-- there is none
pub take_none : (t : IntType) (vs : List Value) → length vs ≡ 0 → (go : Row Val × ℕ → Reduced) → take_number t (row vs) go ≡ Stuck
take_none t [] e go = refl
take_none t (v ∷ vs) e go = absurd (omega (arith, e))

-- an instruction that puts a value on the operands
pub puts : (s : Store) (vs ws : List Value) (v : Value) → ws ≡ vs ++ v ∷ []
    → operands_after (steps_to s [] (row vs ▹ val v) (rest_of Done)) ≡ left true ws
puts s vs ws v e = ap Some (sym (row_more vs v) ∙ ap row (sym e))

-- operands of an operator that may be missing
abbrev Goes : IntType → List Value → Option ℕ → List Value → Type 0
Goes t vs r ws = (go : Row Val × ℕ → Reduced) → take_number t (row vs) go ≡ or_stuck r (λ n. go (row ws, n))

-- the second operand is missing
pub first_missing : (t : IntType) (o : Binop) (vs ws : List Value) → Goes t vs None ws → AlwaysLeaves (op.Numeric (numeric.Binary t o)) vs false ws
first_missing t o vs ws h p s = ap operands_after (h (λ q. take_number t q.0 (λ r. unless_fault (binop o (width t) r.1 q.1) (λ n. steps_to s [] (r.0 ▹ number t n) (rest_of Done)))))

-- both are there, and the operator has a value
pub operated : (t : IntType) (o : Binop) (vs us ws xs : List Value) (a b n : ℕ) → Goes t vs (Some b) us → Goes t us (Some a) ws
    → binop o (width t) a b ≡ Ok n → xs ≡ ws ++ value_of t n ∷ [] → AlwaysLeaves (op.Numeric (numeric.Binary t o)) vs true xs
operated t o vs us ws xs a b n h k e f p s =
    ap operands_after (
    h (λ q. take_number t q.0 (λ r. unless_fault (binop o (width t) r.1 q.1) (λ i. steps_to s [] (r.0 ▹ number t i) (rest_of Done))))
    ∙ k (λ r. unless_fault (binop o (width t) r.1 b) (λ i. steps_to s [] (r.0 ▹ number t i) (rest_of Done)))
    ∙ ap (λ (z : Result ℕ NumFault). unless_fault z (λ i. steps_to s [] (row ws ▹ number t i) (rest_of Done))) e
    ∙ ap (λ (y : Val). steps_to s [] (row ws ▹ y) (rest_of Done)) (sym (number_val t n))
    )
    ∙ puts s ws xs (value_of t n) f

-- ref.null
pub null_put : (o : ReferenceOp) (h : HeapType) (vs ws : List Value) → o ≡ reference.Null h → ws ≡ vs ++ value.Null ∷ [] → AlwaysLeaves (op.Reference o) vs true ws
null_put o h vs ws e f p s = ap (λ (q : ReferenceOp). operands_after (reference_op s [] (row vs) q Done)) e ∙ puts s vs ws value.Null f

-- what stands at a place within a list
pub there : {A : Type 0} (xs : List A) (x : ℕ) → x < length xs → (a : A) × (slice_get xs x ≡ Some a)
there [] x h = absurd (omega (arith, h))
there (a ∷ xs) zero h = (a, refl)
there (a ∷ xs) (suc x) h = there xs x (omega (arith, h))

-- ref.func, of a function that is there
pub function_put : (gs : List Value) (n : ℕ) (o : ReferenceOp) (x : ℕ) (vs ws : List Value) → o ≡ reference.Func x → x < n → ws ≡ vs ++ value.Func x ∷ []
    → Leaves gs n (op.Reference o) vs true ws
function_put gs n o x vs ws e h f p s w =
    let at = there s.functions x (omega (arith, h, w.count)) in
    ap (λ (q : ReferenceOp). operands_after (reference_op s [] (row vs) q Done)) e
    ∙ ap (λ (r : Option FuncEntry). operands_after (or_stuck r (λ g. steps_to s [] (row vs ▹ val (value.Func x)) (rest_of Done)))) at.1
    ∙ puts s vs ws (value.Func x) f

-- global.get, of a global that is there
pub global_put : (gs : List Value) (n : ℕ) (o : VariableOp) (x : ℕ) (v : Value) (vs ws : List Value) → o ≡ variable.GlobalGet x → slice_get gs x ≡ Some v
    → ws ≡ vs ++ v ∷ [] → Leaves gs n (op.Variable o) vs true ws
global_put gs n o x v vs ws e h f p s w =
    ap (λ (q : VariableOp). operands_after (variable_op s [] (row vs) q Done)) e
    ∙ ap (λ (r : Option Val). operands_after (or_stuck r (λ y. steps_to s [] (row vs ▹ y) (rest_of Done)))) (ap (λ (l : List Val). slice_get l x) w.values ∙ mapped_get val gs x ∙ ap (option_map val) h)
    ∙ puts s vs ws v f

-- an instruction that is equal to one which leaves these
pub leaves_as : {E : Type 0} (gs : List Value) (n : ℕ) (o q : Op) (vs ws : List Value) (r : Result Bool E) → q ≡ o
    → IfOk r (λ went. Leaves gs n o vs went ws) → IfOk r (λ went. Leaves gs n q vs went ws)
leaves_as {E} gs n o q vs ws r e h = let P : Op → Type 0 = λ i. IfOk r (λ went. Leaves gs n i vs went ws) in subst P (sym e) h

-- the same in any store
pub always_as : {E : Type 0} (o q : Op) (vs ws : List Value) (r : Result Bool E) → q ≡ o
    → IfOk r (λ went. AlwaysLeaves o vs went ws) → IfOk r (λ went. AlwaysLeaves q vs went ws)
always_as {E} o q vs ws r e h = let P : Op → Type 0 = λ i. IfOk r (λ went. AlwaysLeaves i vs went ws) in subst P (sym e) h

-- and one that does so in any store
pub always_leaves : {E : Type 0} (gs : List Value) (n : ℕ) (o : Op) (vs ws : List Value) (r : Result Bool E)
    → IfOk r (λ went. AlwaysLeaves o vs went ws) → IfOk r (λ went. Leaves gs n o vs went ws)
always_leaves gs n o vs ws (Ok went) h = λ p s w. h p s
always_leaves gs n o vs ws (Err e) h = h

-- i32.const
pub i32_put : (o : NumericOp) (z : ℤ) (n : ℕ) (vs ws : List Value) → o ≡ numeric.I32Const z → n ≡ inverse 32 z → ws ≡ vs ++ value.I32 n ∷ []
    → AlwaysLeaves (op.Numeric o) vs true ws
i32_put o z n vs ws e f g p s =
    ap (λ (q : NumericOp). operands_after (numeric_op s [] (row vs) q Done)) e
    ∙ ap (λ (i : ℕ). operands_after (steps_to s [] (row vs ▹ I32 i) (rest_of Done))) (sym f)
    ∙ puts s vs ws (value.I32 n) g

-- i64.const
pub i64_put : (o : NumericOp) (z : ℤ) (n : ℕ) (vs ws : List Value) → o ≡ numeric.I64Const z → n ≡ inverse 64 z → ws ≡ vs ++ value.I64 n ∷ []
    → AlwaysLeaves (op.Numeric o) vs true ws
i64_put o z n vs ws e f g p s =
    ap (λ (q : NumericOp). operands_after (numeric_op s [] (row vs) q Done)) e
    ∙ ap (λ (i : ℕ). operands_after (steps_to s [] (row vs ▹ I64 i) (rest_of Done))) (sym f)
    ∙ puts s vs ws (value.I64 n) g
