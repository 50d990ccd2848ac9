-- Subsumption of values: a value of a type is one of each type that it matches.
use Rattle.std.proofs.Common.{ℕ}
use Rattle.w_types.specs.declared.types.HeapType.{HeapType}
use Rattle.w_types.specs.declared.types.HeapType.TheVariants.{Index}
use Rattle.w_types.specs.declared.types.ValType.{ValType}
use Rattle.lists.specs.Rows.{Row, ◌⧺◌}
use Rattle.w_syntax.specs.declared.module.Module.{Module}
use Rattle.w_canon.specs.Matching.{HeapMatches, ValMatches, i32, i64, ref}
use Rattle.w_canon.specs.Supertypes.{KeepsKinds}
use Rattle.w_canon.proofs.Preorder.{heap_trans}
use Rattle.w_rules.specs.Operands.{Operand}
use Rattle.w_rules.specs.Matching.{OperandMatches, value, bottom, bottom_ref, bottom_refs, RowMatches, none, more}
use Rattle.w_reduce.specs.Values.{Val}
use Rattle.w_typed.specs.Values.{Arrows, ContinuationTyped, ValueTyped, a_null, a_function, a_continuation, OperandTyped, a_value, a_bottom, ValuesTyped, no_values, values}

module _ (m : Module) (keeps : KeepsKinds m.types) {K : Arrows} where
  -- a continuation of a heap type is one of each that this matches
  pub continuation_sub : {a : ℕ} {h k : HeapType} → HeapMatches m.types h k → ContinuationTyped m K a h → ContinuationTyped m K a k
  continuation_sub {h = h} {k = k} q c =
      record { arrow = c.arrow; is = c.is; index = c.index; type = c.type; has_type = c.has_type; matches = c.matches; heap = heap_trans m.types keeps (Index c.index) h k c.heap q }

  pub value_sub : {v : Val} {t u : ValType} → ValMatches m.types t u → ValueTyped m K v t → ValueTyped m K v u
  value_sub i32 h = h
  value_sub i64 h = h
  value_sub (ref k) (a_null n) = a_null (k.nullable n)
  value_sub (ref {r} {q} k) (a_function {x = x} is h) = a_function is (heap_trans m.types keeps (Index x) r.heap q.heap h k.heap)
  value_sub (ref k) (a_continuation c) = a_continuation (continuation_sub k.heap c)

  pub operand_sub : {v : Val} {t u : Operand} → OperandMatches m.types t u → OperandTyped m K v t → OperandTyped m K v u
  operand_sub (value k) (a_value h) = a_value (value_sub k h)
  operand_sub bottom h = elim h [ ]
  operand_sub (bottom_ref f) (a_bottom n) = a_value (a_null (f n))
  operand_sub (bottom_refs f) (a_bottom n) = a_bottom (f n)

  -- values of these types are values of types that these match
  pub values_sub : {vs : Row Val} {ts us : Row Operand} → RowMatches m.types ts us → ValuesTyped m K vs ts → ValuesTyped m K vs us
  values_sub none no_values = no_values
  values_sub (more r k) (values h v) = values (values_sub r h) (operand_sub k v)

module _ (m : Module) {K : Arrows} where
  -- values beside values
  pub values_beside : {vs ws : Row Val} {ts us : Row Operand} → ValuesTyped m K vs ts → ValuesTyped m K ws us → ValuesTyped m K (vs ⧺ ws) (ts ⧺ us)
  values_beside h no_values = h
  values_beside h (values k v) = values (values_beside h k) v
