-- Global instructions of typed configurations.
use Rattle.std.proofs.Common.{◌≡◌, ℕ, List, Option, Some, None, slice_get, refl}
use Rattle.w_types.specs.declared.types.ValType.{ValType}
use Rattle.lists.specs.Rows.{Row, ◌▹◌}
use Rattle.w_syntax.specs.Code.{Code}
use Rattle.w_syntax.specs.declared.instructions.VariableOp.TheVariants as variable
use Rattle.w_syntax.specs.declared.module.GlobalType.{GlobalType}
use Rattle.w_syntax.specs.declared.module.Mutability.{Mutability}
use Rattle.w_syntax.specs.declared.module.Mutability.TheVariants as mutability
use Rattle.w_syntax.specs.declared.module.Module.{Module}
use Rattle.w_canon.specs.Supertypes.{KeepsKinds}
use Rattle.w_rules.specs.InstructionTypes.{global_get_type, global_set_type, write_type}
use Rattle.w_rules.specs.Operands.{Operand}
use Rattle.w_rules.specs.Operands.{Known}
use Rattle.w_rules.specs.Spaces.{globals_of}
use Rattle.w_rules.specs.Typing.{HasInstrType}
use Rattle.w_reduce.specs.Values.{Val}
use Rattle.w_reduce.specs.Store.{Store}
use Rattle.w_reduce.specs.Terms.{Context}
use Rattle.w_reduce.specs.Reduced.{Reduced, or_stuck, take_value}
use Rattle.w_reduce.specs.Variable.{variable_op, with_global}
use Rattle.w_typed.specs.Values.{Arrows, ValueTyped, a_value, ValuesTyped, values}
use Rattle.w_typed.specs.Stores.{Instances, StoreTyped}
use Rattle.w_typed.specs.Contexts.{Scope}
use Rattle.w_typed.specs.Configurations.{IsSafe}
use Rattle.w_typed.proofs.Places.{instance_at, instance_set}
use Rattle.w_typed.proofs.Subsumption.{values_sub}
use Rattle.w_typed.proofs.Onward.{Onward}

-- another value of a global's type may stand in its place
pub global_put : (m : Module) {K : Arrows} (x : ℕ) (v : Val) (g : GlobalType) (s : Store) → StoreTyped m K s → slice_get (globals_of m) x ≡ Some g
    → ValueTyped m K v g.kind → StoreTyped m K (with_global s x v)
global_put m x v g s u is h = record {
  functions = u.functions;
  tables = u.tables;
  memories = u.memories;
  globals = instance_set x v g u.globals is h;
  tags = u.tags;
  elements = u.elements;
  datas = u.datas;
  conts = u.conts;
}

module _ (m : Module) {K : Arrows} (us : Row Operand) where
  -- what is declared is there, and of its type
  pub instance_found : {A B : Type 0} {R : A → B → Type 0} {xs : List A} {ys : List B} (x : ℕ) (y : B) (go : A → Reduced) → Instances R xs ys
      → slice_get ys x ≡ Some y → ((a : A) → R a y → IsSafe m K us (go a)) → IsSafe m K us (or_stuck (slice_get xs x) go)
  instance_found x y go h is k = let f = instance_at x y h is in rw (f.is) (k f.item f.holds)

  -- a value is taken, of its type
  pub value_taken : (t : ValType) (vs : Row Val) (beneath : Row Operand) (go : Row Val × Val → Reduced) → ValuesTyped m K vs (beneath ▹ Known t)
      → ((below : Row Val) (v : Val) → ValuesTyped m K below beneath → ValueTyped m K v t → IsSafe m K us (go (below, v))) → IsSafe m K us (take_value vs go)
  value_taken t _ beneath go (values {vs = vs} {v = v} b (a_value h)) k = k vs v b h

module _ (m : Module) (keeps : KeepsKinds m.types) {K : Arrows} (us : Row Operand) where
  get_safe : (x : ℕ) (ts ws : Row Operand) (s : Store) (e : Context) (vs : Row Val) (k : Code) (y : Option GlobalType)
      → slice_get (globals_of m) x ≡ y → StoreTyped m K s → HasInstrType m.types (global_get_type y) ts ws → ValuesTyped m K vs ts
      → Onward m K us e ws k → IsSafe m K us (variable_op s e vs (variable.GlobalGet x) k)
  get_safe x ts ws s e vs k None is u h v go = absurd h
  get_safe x ts ws s e vs k (Some g) is u h v go =
      instance_found m us x g _ u.globals is (λ w q. go s _ u (values_sub m keeps h.gives (values (values_sub m keeps h.takes v) (a_value q))))

  -- a global that is read
  pub global_get_safe : (c : Scope) (x : ℕ) (ts ws : Row Operand) (s : Store) (e : Context) (vs : Row Val) (k : Code) → StoreTyped m K s
      → HasInstrType m.types (global_get_type (slice_get (globals_of m) x)) ts ws → ValuesTyped m K vs ts → Onward m K us e ws k
      → IsSafe m K us (variable_op s e vs (variable.GlobalGet x) k)
  global_get_safe c x ts ws s e vs k u h v go = get_safe x ts ws s e vs k (slice_get (globals_of m) x) refl u h v go

  set_safe : (x : ℕ) (ts ws : Row Operand) (s : Store) (e : Context) (vs : Row Val) (k : Code) (g : GlobalType) (w : Mutability)
      → slice_get (globals_of m) x ≡ Some g → StoreTyped m K s → HasInstrType m.types (write_type w g.kind) ts ws → ValuesTyped m K vs ts
      → Onward m K us e ws k → IsSafe m K us (variable_op s e vs (variable.GlobalSet x) k)
  set_safe x ts ws s e vs k g mutability.Const is u h v go = absurd h
  set_safe x ts ws s e vs k g mutability.Var is u h v go =
      instance_found m us x g _ u.globals is (λ old q.
      value_taken m us g.kind vs h.beneath _ (values_sub m keeps h.takes v) (λ below new b r.
      go _ _ (global_put m x new g s u is r) (values_sub m keeps h.gives b)))

  set_if_there : (x : ℕ) (ts ws : Row Operand) (s : Store) (e : Context) (vs : Row Val) (k : Code) (y : Option GlobalType)
      → slice_get (globals_of m) x ≡ y → StoreTyped m K s → HasInstrType m.types (global_set_type y) ts ws → ValuesTyped m K vs ts
      → Onward m K us e ws k → IsSafe m K us (variable_op s e vs (variable.GlobalSet x) k)
  set_if_there x ts ws s e vs k None is u h v go = absurd h
  set_if_there x ts ws s e vs k (Some g) is u h v go = set_safe x ts ws s e vs k g g.mutability is u h v go

  -- a global that is written
  pub global_set_safe : (c : Scope) (x : ℕ) (ts ws : Row Operand) (s : Store) (e : Context) (vs : Row Val) (k : Code) → StoreTyped m K s
      → HasInstrType m.types (global_set_type (slice_get (globals_of m) x)) ts ws → ValuesTyped m K vs ts → Onward m K us e ws k
      → IsSafe m K us (variable_op s e vs (variable.GlobalSet x) k)
  global_set_safe c x ts ws s e vs k u h v go = set_if_there x ts ws s e vs k (slice_get (globals_of m) x) refl u h v go
