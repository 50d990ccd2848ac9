-- Local instructions of typed configurations.
use Rattle.std.proofs.Common.{◌≡◌, ℕ, Bool, true, false, List, Option, Some, None, slice_get, slice_set, refl}
use Rattle.w_types.specs.declared.types.ValType.{ValType}
use Rattle.lists.specs.Rows.{Row, ◌▹◌}
use Rattle.w_syntax.specs.Code.{Code}
use Rattle.w_syntax.specs.declared.instructions.VariableOp.TheVariants as variable
use Rattle.w_syntax.specs.declared.module.Module.{Module}
use Rattle.w_canon.specs.Supertypes.{KeepsKinds}
use Rattle.w_rules.specs.InstructionTypes.{get_type, set_type, tee_type}
use Rattle.w_rules.specs.Operands.{Operand}
use Rattle.w_rules.specs.Operands.{Known}
use Rattle.w_rules.specs.Typing.{HasInstrType}
use Rattle.w_reduce.specs.Values.{Val}
use Rattle.w_reduce.specs.Store.{Store}
use Rattle.w_reduce.specs.Terms.{rest_of, Context, locals_of, with_local}
use Rattle.w_reduce.specs.Reduced.{Reduced, or_stuck, take_value, steps_to}
use Rattle.w_reduce.specs.Variable.{variable_op}
use Rattle.w_typed.specs.Values.{Arrows, ValueTyped, a_value, ValuesTyped, values}
use Rattle.w_typed.specs.Stores.{StoreTyped}
use Rattle.w_typed.specs.Contexts.{Scope, Subset, LocalTyped, unset, held, CodeTyped, code_alone, Within}
use Rattle.w_typed.specs.Configurations.{IsSafe}
use Rattle.w_typed.proofs.Subsumption.{values_sub}
use Rattle.w_typed.proofs.Holes.{local_within, put_within, set_still}
use Rattle.w_typed.proofs.Onward.{Onward, goes_on}

module _ (m : Module) (keeps : KeepsKinds m.types) {K : Arrows} (us : Row Operand) where
  -- a local that is set has a value
  value_there : (l : Option Val) (t : ValType) (b : Bool) (go : Val → Reduced) → LocalTyped m K l t b → b ≡ true → ((v : Val) → ValueTyped m K v t → IsSafe m K us (go v))
      → IsSafe m K us (or_stuck l go)
  value_there _ t _ go unset e f = absurd (cc)
  value_there _ t b go (held {v = v} h) e f = f v h

  get_here : (x : ℕ) (ts ws : Row Operand) (s : Store) (e : Context) (vs : Row Val) (k : Code) (c : Scope) (set now : List Bool) (out : Row Operand) (t : Option ValType) (b : Option Bool)
      → slice_get c.locals x ≡ t → slice_get set x ≡ b → StoreTyped m K s → HasInstrType m.types (get_type t b) ts ws → ValuesTyped m K vs ts
      → Subset set now → Within m K us e c now out → Onward m K us e ws k → IsSafe m K us (variable_op s e vs (variable.LocalGet x) k)
  get_here x ts ws s e vs k c set now out None b is d u h v still w go = absurd h
  get_here x ts ws s e vs k c set now out (Some t) None is d u h v still w go = absurd h
  get_here x ts ws s e vs k c set now out (Some t) (Some false) is d u h v still w go = absurd h
  get_here x ts ws s e vs k c set now out (Some t) (Some true) is d u h v still w go =
      let l = local_within m x t w is in
      rw (l.is) (value_there l.item t l.set _ l.holds (cc_set l.is_set (still.still x d)) (λ a p. go s _ u (values_sub m keeps h.gives (values (values_sub m keeps h.takes v) (a_value p)))))
    where
      cc_set : {a b : Bool} {o : Option Bool} → o ≡ Some a → o ≡ Some b → a ≡ b
      cc_set p q = cc

  -- local.get goes on with the value
  pub local_get_safe : (x : ℕ) (ts ws : Row Operand) (s : Store) (e : Context) (vs : Row Val) (k : Code) (c : Scope) (set now : List Bool) (out : Row Operand) → StoreTyped m K s
      → HasInstrType m.types (get_type (slice_get c.locals x) (slice_get set x)) ts ws → ValuesTyped m K vs ts → Subset set now → Within m K us e c now out
      → Onward m K us e ws k → IsSafe m K us (variable_op s e vs (variable.LocalGet x) k)
  local_get_safe x ts ws s e vs k c set now out u h v still w go = get_here x ts ws s e vs k c set now out (slice_get c.locals x) (slice_get set x) refl refl u h v still w go

  put_there : (x : ℕ) (s : Store) (e : Context) (vs : Row Val) (k : Code) (beneath : Row Operand) (t : ValType) (c : Scope) (now : List Bool) (out : Row Operand)
      (after : Row Val → Val → Row Val) → ValuesTyped m K vs (beneath ▹ Known t) → slice_get c.locals x ≡ Some t → Within m K us e c now out
      → ((below : Row Val) (v : Val) (b : Bool) → slice_get now x ≡ Some b → ValuesTyped m K below beneath → ValueTyped m K v t → Within m K us (with_local x v e) c (slice_set now x true) out
      → IsSafe m K us (steps_to s (with_local x v e) (after below v) (rest_of k)))
      → IsSafe m K us (or_stuck (slice_get (locals_of e) x) (λ l. take_value vs (λ p. steps_to s (with_local x p.1 e) (after p.0 p.1) (rest_of k))))
  put_there x s e _ k beneath t c now out after (values {vs = vs} {v = v} b (a_value p)) is w f =
      let l = local_within m x t w is in
      rw (l.is) (f vs v l.set l.is_set b p (put_within m x t v w is p))

  set_here : (x : ℕ) (ts ws : Row Operand) (s : Store) (e : Context) (vs : Row Val) (k : Code) (c : Scope) (set now : List Bool) (out : Row Operand) (t : Option ValType)
      → slice_get c.locals x ≡ t → StoreTyped m K s → HasInstrType m.types (set_type t) ts ws → ValuesTyped m K vs ts
      → Subset set now → Within m K us e c now out → CodeTyped m c (slice_set set x true) k ws out → IsSafe m K us (variable_op s e vs (variable.LocalSet x) k)
  set_here x ts ws s e vs k c set now out None is u h v still w d = absurd h
  set_here x ts ws s e vs k c set now out (Some t) is u h v still w d =
      put_there x s e vs k h.beneath t c now out (λ below a. below) (values_sub m keeps h.takes v) is w
      (λ below a set' there b p q. goes_on m us u (set_still x set' there still) (values_sub m keeps h.gives b) (code_alone d) q)

  -- local.set goes on with the local set
  pub local_set_safe : (x : ℕ) (ts ws : Row Operand) (s : Store) (e : Context) (vs : Row Val) (k : Code) (c : Scope) (set now : List Bool) (out : Row Operand) → StoreTyped m K s
      → HasInstrType m.types (set_type (slice_get c.locals x)) ts ws → ValuesTyped m K vs ts → Subset set now → Within m K us e c now out
      → CodeTyped m c (slice_set set x true) k ws out → IsSafe m K us (variable_op s e vs (variable.LocalSet x) k)
  local_set_safe x ts ws s e vs k c set now out u h v still w d = set_here x ts ws s e vs k c set now out (slice_get c.locals x) refl u h v still w d

  tee_here : (x : ℕ) (ts ws : Row Operand) (s : Store) (e : Context) (vs : Row Val) (k : Code) (c : Scope) (set now : List Bool) (out : Row Operand) (t : Option ValType)
      → slice_get c.locals x ≡ t → StoreTyped m K s → HasInstrType m.types (tee_type t) ts ws → ValuesTyped m K vs ts
      → Subset set now → Within m K us e c now out → CodeTyped m c (slice_set set x true) k ws out → IsSafe m K us (variable_op s e vs (variable.LocalTee x) k)
  tee_here x ts ws s e vs k c set now out None is u h v still w d = absurd h
  tee_here x ts ws s e vs k c set now out (Some t) is u h v still w d =
      put_there x s e vs k h.beneath t c now out (λ below a. below ▹ a) (values_sub m keeps h.takes v) is w
      (λ below a set' there b p q. goes_on m us u (set_still x set' there still) (values_sub m keeps h.gives (values b (a_value p))) (code_alone d) q)

  -- and local.tee leaves the value
  pub local_tee_safe : (x : ℕ) (ts ws : Row Operand) (s : Store) (e : Context) (vs : Row Val) (k : Code) (c : Scope) (set now : List Bool) (out : Row Operand) → StoreTyped m K s
      → HasInstrType m.types (tee_type (slice_get c.locals x)) ts ws → ValuesTyped m K vs ts → Subset set now → Within m K us e c now out
      → CodeTyped m c (slice_set set x true) k ws out → IsSafe m K us (variable_op s e vs (variable.LocalTee x) k)
  local_tee_safe x ts ws s e vs k c set now out u h v still w d = tee_here x ts ws s e vs k c set now out (slice_get c.locals x) refl u h v still w d
