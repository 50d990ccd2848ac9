-- What else the rules of some instructions ask (Core, validation, instructions; the explainer, validation).
use Rattle.std.specs.Prelude.{◌≡◌, ℕ, ◌-◌, Bool, true, All, List, [], length, drop, Option, Some, None, slice_get}
use Rattle.w_types.specs.declared.types.FuncType.{FuncType}
use Rattle.w_types.specs.declared.types.HeapType.TheVariants.{Func, Index}
use Rattle.w_types.specs.declared.types.RefType.{RefType}
use Rattle.w_types.specs.declared.types.ValType.{ValType}
use Rattle.w_types.specs.declared.types.ValType.TheVariants.{Ref}
use Rattle.lists.specs.Rows.{Row, ◌▹◌, row_of, listed}
use Rattle.w_syntax.specs.declared.instructions.Clause.{Clause}
use Rattle.w_syntax.specs.declared.instructions.Clause.TheVariants as clause
use Rattle.w_syntax.specs.declared.instructions.ControlOp.{ControlOp}
use Rattle.w_syntax.specs.declared.instructions.ControlOp.TheVariants as control
use Rattle.w_syntax.specs.declared.instructions.TableOp.{TableOp}
use Rattle.w_syntax.specs.declared.instructions.TableOp.TheVariants as table
use Rattle.w_syntax.specs.declared.instructions.SwitchingOp.{SwitchingOp}
use Rattle.w_syntax.specs.declared.instructions.SwitchingOp.TheVariants as switching
use Rattle.w_syntax.specs.declared.instructions.Op.{Op}
use Rattle.w_syntax.specs.declared.instructions.Op.TheVariants as op
use Rattle.w_syntax.specs.declared.module.TableType.{TableType}
use Rattle.w_canon.specs.Equality.{ResultEqual}
use Rattle.w_canon.specs.Matching.{RefMatches, ResultMatches}
use Rattle.w_rules.specs.Context.{Context, func_of, type_of_func, cont_of, type_of_tag}

-- what holds of the value, where there is one
abbrev pub Holds : {A : Type 0} → Option A → (A → Type 0) → Type 0
Holds None P = ⊥
Holds (Some a) P = P a

-- ## Tables

abbrev pub funcref : RefType
funcref = record { nullable = true; heap = Func }

-- the table holds functions
abbrev pub HoldsFunctions : Context → ℕ → Type 0
HoldsFunctions c x = Holds (slice_get c.tables x) (λ (t : TableType). RefMatches c.types t.element funcref)

-- ## Calls

-- the results of what is called match those of the function
abbrev pub ReturnsTyped : Context → Option FuncType → Type 0
ReturnsTyped c o = Holds o (λ (t : FuncType). ResultMatches c.types t.results (listed c.results))

-- call_indirect: the table holds functions; a tail call: what is called gives the function's results
abbrev pub ControlCondition : Context → ControlOp → Type 0
ControlCondition c (control.CallIndirect y x) = HoldsFunctions c x
ControlCondition c (control.ReturnCall x) = ReturnsTyped c (type_of_func c x)
ControlCondition c (control.ReturnCallIndirect y x) = HoldsFunctions c x × ReturnsTyped c (func_of c y)
ControlCondition c (control.ReturnCallRef y) = ReturnsTyped c (func_of c y)
ControlCondition c o = Unit {0}

-- ## Filling tables

-- table.init and table.copy: what is written matches the table
abbrev pub TableCondition : Context → TableOp → Type 0
TableCondition c (table.Init e x) = Holds (slice_get c.elements e) (λ (r : RefType).
    Holds (slice_get c.tables x) (λ (t : TableType). RefMatches c.types r t.element))
TableCondition c (table.Copy x y) = Holds (slice_get c.tables x) (λ (t : TableType).
    Holds (slice_get c.tables y) (λ (u : TableType). RefMatches c.types u.element t.element))
TableCondition c o = Unit {0}

-- ## Clauses, of a resume with results t2*

-- (on e l): e is [a*] to [b*]; label l takes [a'* (ref null? y)]; a* matches a'*; [b*] to [t2*] matches the function type of cont y
pub record LabelClauseTyped (c : Context) (results : List ValType) (e l : ℕ) : Type 0 where
  pub tag : FuncType
  pub beneath : Row ValType
  pub is_null : Bool
  pub index : ℕ
  pub target : FuncType
  pub has_tag : type_of_tag c e ≡ Some tag
  pub has_label : slice_get c.labels l ≡ Some (beneath ▹ Ref (record { nullable = is_null; heap = Index index }))
  pub has_cont : cont_of c index ≡ Some target
  pub arguments : ResultMatches c.types tag.params (listed beneath)
  pub takes : ResultMatches c.types target.params tag.results
  pub gives : ResultMatches c.types results target.results

-- (on e switch): e is [] to [t*], and t* equals t2*, type by type up to equivalence of indices
pub record SwitchClauseTyped (c : Context) (results : List ValType) (e : ℕ) : Type 0 where
  pub tag : FuncType
  pub has_tag : type_of_tag c e ≡ Some tag
  pub no_params : tag.params ≡ []
  pub equal : ResultEqual c.types tag.results results

abbrev pub ClauseTyped : Context → List ValType → Clause → Type 0
ClauseTyped c results (clause.Label e l) = LabelClauseTyped c results e l
ClauseTyped c results (clause.Switch e) = SwitchClauseTyped c results e

-- ## Stack switching

-- cont.bind: x is cont [t3* t1*] to [t2*], y is cont of a function type with as many parameters as t1*, which [t1*] to [t2*] matches
pub record BindTyped (c : Context) (x y : ℕ) : Type 0 where
  pub one : FuncType
  pub other : FuncType
  pub has_one : cont_of c x ≡ Some one
  pub has_other : cont_of c y ≡ Some other
  pub takes : ResultMatches c.types other.params (drop (length one.params - length other.params) one.params)
  pub gives : ResultMatches c.types one.results other.results

-- switch: x is cont [t1* (ref null? y)] to [u1*]; e is [] to [t*]; u1* matches t*; y is cont [t2*] to [u2*]; t* matches u2*
pub record SwitchTyped (c : Context) (x e : ℕ) : Type 0 where
  pub one : FuncType
  pub beneath : Row ValType
  pub is_null : Bool
  pub index : ℕ
  pub other : FuncType
  pub tag : FuncType
  pub has_one : cont_of c x ≡ Some one
  pub params : row_of one.params ≡ beneath ▹ Ref (record { nullable = is_null; heap = Index index })
  pub has_other : cont_of c index ≡ Some other
  pub has_tag : type_of_tag c e ≡ Some tag
  pub no_params : tag.params ≡ []
  pub results : ResultMatches c.types one.results tag.results
  pub comes_back : ResultMatches c.types tag.results other.results

abbrev pub SwitchingCondition : Context → SwitchingOp → Type 0
SwitchingCondition c (switching.ContNew x) = Unit {0}
SwitchingCondition c (switching.ContBind x y) = BindTyped c x y
SwitchingCondition c (switching.Suspend e) = Unit {0}
SwitchingCondition c (switching.Resume x hs) = Holds (cont_of c x) (λ (t : FuncType). All (ClauseTyped c t.results) hs)
SwitchingCondition c (switching.Switch x e) = SwitchTyped c x e

-- what the instruction's rule asks beside its type
abbrev pub Condition : Context → Op → Type 0
Condition c (op.Control o) = ControlCondition c o
Condition c (op.Table o) = TableCondition c o
Condition c (op.Switching o) = SwitchingCondition c o
Condition c (op.Parametric o) = Unit {0}
Condition c (op.Variable o) = Unit {0}
Condition c (op.Memory o) = Unit {0}
Condition c (op.Numeric o) = Unit {0}
Condition c (op.Reference o) = Unit {0}
