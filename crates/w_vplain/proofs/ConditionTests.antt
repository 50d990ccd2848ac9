-- What the tests of instructions tell: where the entries are those of the types, each is true exactly where the rule's condition holds.
use Rattle.std.proofs.Common.{◌≡◌, ◌↔◌, true, false, List, Option, Some, None, slice_get, IsTrue, refl}
use Rattle.w_types.specs.declared.types.FuncType.{FuncType}
use Rattle.w_types.specs.declared.types.RefType.{RefType}
use Rattle.w_types.specs.declared.types.ValType.{ValType}
use Rattle.lists.specs.Rows.{Row, listed}
use Rattle.lists.proofs.Tests.{both_decided}
use Rattle.w_syntax.specs.declared.instructions.ControlOp.{ControlOp}
use Rattle.w_syntax.specs.declared.instructions.ControlOp.TheVariants as control
use Rattle.w_syntax.specs.declared.instructions.Op.{Op}
use Rattle.w_syntax.specs.declared.instructions.Op.TheVariants as op
use Rattle.w_syntax.specs.declared.instructions.TableOp.{TableOp}
use Rattle.w_syntax.specs.declared.instructions.TableOp.TheVariants as table
use Rattle.w_syntax.specs.declared.module.TableType.{TableType}
use Rattle.w_canon.specs.declared.entry.Entry.{Entry}
use Rattle.w_canon.specs.Matching.{RefMatches}
use Rattle.w_canon.specs.IsClassesOf.{IsClassesOf}
use Rattle.w_canon.proofs.MatchingTests.{ref_decided, result_decided}
use Rattle.w_rules.specs.Conditions.{Holds, funcref, ReturnsTyped, ControlCondition, TableCondition, Condition}
use Rattle.w_rules.specs.Context.{Context, func_of, type_of_func}
use Rattle.w_steps.specs.Labels.{labels_of, within}
use Rattle.w_vplain.specs.Prefixes.{is_switching}
use Rattle.w_steps.specs.PlainTests.{holds_functions, returns_test, init_test, copy_test, control_test, table_test, condition_test}
use Rattle.w_steps.specs.declared.frame_kind.FrameKind.{FrameKind}

-- nothing is asked
nothing : IsTrue true ↔ Unit {0}
nothing = (λ t. tt, λ u. refl)

-- nothing can hold
never : IsTrue false ↔ ⊥
never = (λ t. absurd (cc), λ h. absurd h)

module _ (es : List Entry) (c : Context) (st : IsClassesOf c.types es) where
  -- the table is there, and holds functions
  functions_decided : (o : Option TableType) → IsTrue (holds_functions es o) ↔ Holds o (λ (t : TableType). RefMatches c.types t.element funcref)
  functions_decided None = never
  functions_decided (Some t) = ref_decided c.types es st t.element funcref

  -- the segment and the table are there, and match
  init_decided : (o : Option RefType) (p : Option TableType) →
      IsTrue (init_test es o p) ↔ Holds o (λ (r : RefType). Holds p (λ (t : TableType). RefMatches c.types r t.element))
  init_decided None p = never
  init_decided (Some r) None = never
  init_decided (Some r) (Some t) = ref_decided c.types es st r t.element

  -- both tables are there, and match
  copy_decided : (o p : Option TableType) →
      IsTrue (copy_test es o p) ↔ Holds o (λ (t : TableType). Holds p (λ (u : TableType). RefMatches c.types u.element t.element))
  copy_decided None p = never
  copy_decided (Some t) None = never
  copy_decided (Some t) (Some u) = ref_decided c.types es st u.element t.element

  -- what is called gives the function's results
  returned_decided : (o : Option FuncType) → IsTrue (returns_test es c.results o) ↔ ReturnsTyped c o
  returned_decided None = never
  returned_decided (Some t) = result_decided c.types es st t.results (listed c.results)

  -- a control instruction, whatever the labels take
  control_decided : (us : List (Row ValType)) (o : ControlOp) → IsTrue (control_test es c o) ↔ ControlCondition (record c { labels = us }) o
  control_decided us (control.CallIndirect y x) = functions_decided (slice_get c.tables x)
  control_decided us (control.ReturnCall x) = returned_decided (type_of_func c x)
  control_decided us (control.ReturnCallIndirect y x) =
      both_decided (holds_functions es (slice_get c.tables x)) (returns_test es c.results (func_of c y)) (functions_decided (slice_get c.tables x)) (returned_decided (func_of c y))
  control_decided us (control.ReturnCallRef y) = returned_decided (func_of c y)
  control_decided us o = nothing

  -- a table instruction
  table_decided : (us : List (Row ValType)) (o : TableOp) → IsTrue (table_test es c o) ↔ TableCondition (record c { labels = us }) o
  table_decided us (table.Init e x) = init_decided (slice_get c.elements e) (slice_get c.tables x)
  table_decided us (table.Copy x y) = copy_decided (slice_get c.tables x) (slice_get c.tables y)
  table_decided us o = nothing

  -- an instruction that does not switch stacks
  op_decided : (us : List (Row ValType)) (o : Op) → is_switching o ≡ false → IsTrue (condition_test es c o) ↔ Condition (record c { labels = us }) o
  op_decided us (op.Control o) h = control_decided us o
  op_decided us (op.Table o) h = table_decided us o
  op_decided us (op.Switching o) h = absurd (cc)
  op_decided us (op.Parametric o) h = nothing
  op_decided us (op.Variable o) h = nothing
  op_decided us (op.Memory o) h = nothing
  op_decided us (op.Numeric o) h = nothing
  op_decided us (op.Reference o) h = nothing

  -- the test of an instruction that does not switch stacks
  pub condition_decided : (o : Op) → is_switching o ≡ false → IsTrue (condition_test es c o) ↔ Condition c o
  condition_decided o h = op_decided c.labels o h

  -- the same inside these blocks
  pub condition_decided_within : (ks : List FrameKind) (o : Op) → is_switching o ≡ false → IsTrue (condition_test es c o) ↔ Condition (within c ks) o
  condition_decided_within ks o h = op_decided (labels_of c ks) o h
