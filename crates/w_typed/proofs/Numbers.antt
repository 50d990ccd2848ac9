-- Numeric instructions of typed configurations.
use Rattle.std.proofs.Common.{◌≡◌, ℕ, Ok, Err, Result, refl, subst}
use Rattle.lists.specs.Rows.{Row, ε, ◌▹◌}
use Rattle.w_syntax.specs.Code.{Code}
use Rattle.w_syntax.specs.declared.instructions.Op.TheVariants as op
use Rattle.w_syntax.specs.declared.numeric.Cvtop.{Cvtop}
use Rattle.w_syntax.specs.declared.numeric.Cvtop.TheVariants as conversion
use Rattle.w_syntax.specs.declared.numeric.NumericOp.{NumericOp}
use Rattle.w_syntax.specs.declared.numeric.NumericOp.TheVariants as numeric
use Rattle.w_syntax.specs.declared.module.Module.{Module}
use Rattle.w_num.specs.declared.fault.NumFault.{NumFault}
use Rattle.w_canon.specs.Supertypes.{KeepsKinds}
use Rattle.w_rules.specs.InstructionTypes.{of_int, numeric_op_type, convert_type, fixed}
use Rattle.w_rules.specs.Operands.{Operand}
use Rattle.w_rules.specs.Operands.{Known}
use Rattle.w_rules.specs.Typing.{HasInstrType}
use Rattle.w_reduce.specs.Values.{Val}
use Rattle.w_reduce.specs.Store.{Store}
use Rattle.w_reduce.specs.Terms.{Context}
use Rattle.w_reduce.specs.Reduced.{Reduced, unless_fault}
use Rattle.w_reduce.specs.Numeric.{numeric_op, taken_by, given_by, cvtop, width, unop, binop}
use Rattle.w_typed.specs.Ranges.{ConstantFits, NumbersFit}
use Rattle.w_typed.specs.Values.{Arrows, ValuesTyped, values, a_value, an_i32, an_i64}
use Rattle.w_typed.specs.Stores.{StoreTyped}
use Rattle.w_typed.specs.Configurations.{IsSafe, traps}
use Rattle.w_typed.proofs.Subsumption.{values_sub}
use Rattle.w_typed.proofs.Ranges.{unop_below, binop_below, truth_below, relop_below, cvtop_below, width_there}
use Rattle.w_typed.proofs.TypedOperands.{number_in_range, number_taken, number_typed, small_typed}
use Rattle.w_typed.proofs.Onward.{Onward}

-- a conversion's type is that of what it takes and gives
as_converted : (o : Cvtop) → convert_type o ≡ fixed (ε ▹ of_int (taken_by o)) (ε ▹ of_int (given_by o))
as_converted conversion.I32WrapI64 = refl
as_converted conversion.I64ExtendI32S = refl
as_converted conversion.I64ExtendI32U = refl
as_converted conversion.I32Extend8S = refl
as_converted conversion.I32Extend16S = refl
as_converted conversion.I64Extend8S = refl
as_converted conversion.I64Extend16S = refl
as_converted conversion.I64Extend32S = refl

module _ (m : Module) (keeps : KeepsKinds m.types) {K : Arrows} (us : Row Operand) where
  faultless : (r : Result ℕ NumFault) (go : ℕ → Reduced) → ((n : ℕ) → r ≡ Ok n → IsSafe m K us (go n)) → IsSafe m K us (unless_fault r go)
  faultless (Ok n) go h = h n refl
  faultless (Err f) go h = traps

  -- a numeric instruction goes on with its result, or traps
  pub numeric_safe : (o : NumericOp) (ts ws : Row Operand) (s : Store) (e : Context) (vs : Row Val) (k : Code) → StoreTyped m K s
      → (NumbersFit m → ConstantFits (op.Numeric o)) → HasInstrType m.types (numeric_op_type o) ts ws → ValuesTyped m K vs ts → Onward m K us e ws k
      → IsSafe m K us (numeric_op s e vs o k)
  numeric_safe (numeric.I32Const z) ts ws s e vs k u fits h v go = go s _ u (values_sub m keeps h.gives (values (values_sub m keeps h.takes v) (a_value (an_i32 fits))))
  numeric_safe (numeric.I64Const z) ts ws s e vs k u fits h v go = go s _ u (values_sub m keeps h.gives (values (values_sub m keeps h.takes v) (a_value (an_i64 fits))))
  numeric_safe (numeric.Eqz t) ts ws s e vs k u fits h v go =
      number_taken m us t vs h.beneath _ (values_sub m keeps h.takes v) (λ below n b. go s _ u (values_sub m keeps h.gives (values b (small_typed m _ (truth_below _)))))
  numeric_safe (numeric.Compare t o) ts ws s e vs k u fits h v go =
      number_taken m us t vs (h.beneath ▹ Known (of_int t)) _ (values_sub m keeps h.takes v) (λ above y a.
      number_taken m us t above h.beneath _ a (λ below x b.
      go s _ u (values_sub m keeps h.gives (values b (small_typed m _ (relop_below o (width t) x y))))))
  numeric_safe (numeric.Unary t o) ts ws s e vs k u fits h v go =
      number_taken m us t vs h.beneath _ (values_sub m keeps h.takes v) (λ below n b.
      go s _ u (values_sub m keeps h.gives (values b (number_typed m t (unop o (width t) n) (λ f. unop_below o (width t) n)))))
  numeric_safe (numeric.Binary t o) ts ws s e vs k u fits h v go =
      number_in_range m us t vs (h.beneath ▹ Known (of_int t)) _ (values_sub m keeps h.takes v) (λ above y a q.
      number_in_range m us t above h.beneath _ a (λ below x b p.
      faultless (binop o (width t) x y) _ (λ r is.
      go s _ u (values_sub m keeps h.gives (values b (number_typed m t r (λ f. binop_below o (width t) x y r (width_there t) (p f) (q f) is)))))))
  numeric_safe (numeric.Convert o) ts ws s e vs k u fits h v go =
      let g = subst (λ l. HasInstrType m.types l ts ws) (as_converted o) h in
      number_in_range m us (taken_by o) vs g.beneath _ (values_sub m keeps g.takes v) (λ below n b p.
      go s _ u (values_sub m keeps g.gives (values b (number_typed m (given_by o) (cvtop o n) (λ f. cvtop_below o n (p f))))))
