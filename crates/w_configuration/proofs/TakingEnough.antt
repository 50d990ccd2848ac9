-- A continuation takes as many values as its type has parameters: so enough, where an instruction that switches stacks is typed.
use Rattle.std.proofs.Common.{◌≡◌, ℕ, ◌-◌, ◌≤◌, nat_le, Bool, true, List, [], ◌∷◌, length, Option, Some, slice_get, take, sym, ap, subst, ◌∙◌, arith}
use Rattle.w_types.specs.declared.types.FuncType.{FuncType}
use Rattle.w_types.specs.declared.types.HeapType.TheVariants.{Index}
use Rattle.w_types.specs.declared.types.ValType.{ValType}
use Rattle.w_types.specs.declared.value.ContRef.{ContRef}
use Rattle.w_types.specs.declared.value.Value.{Value}
use Rattle.w_types.specs.declared.value.Value.TheVariants as value
use Rattle.lists.specs.Rows.{Row, ε, ◌▹◌, size, row_of}
use Rattle.lists.proofs.Rows.{size-row_of}
use Rattle.w_syntax.specs.Code.{Code, Plain}
use Rattle.w_syntax.specs.declared.instructions.Op.TheVariants as op
use Rattle.w_syntax.specs.declared.instructions.SwitchingOp.{SwitchingOp}
use Rattle.w_syntax.specs.declared.instructions.SwitchingOp.TheVariants as switching
use Rattle.w_syntax.specs.declared.module.Module.{Module}
use Rattle.w_canon.specs.Supertypes.{KeepsKinds}
use Rattle.w_canon.proofs.Matches.{one_length}
use Rattle.w_rules.specs.Conditions.{SwitchingCondition, BindTyped, SwitchTyped}
use Rattle.w_rules.specs.Context.{cont_of}
use Rattle.w_rules.specs.InstructionTypes.{InstrType, fixed, switching_op_type, cont_bind_type, switched_type, nullable, non_null}
use Rattle.w_rules.specs.Operands.{Operand, Known}
use Rattle.w_rules.specs.Spaces.{context_of}
use Rattle.w_rules.specs.Typing.{HasInstrType}
use Rattle.w_rules.specs.Sound.{Sound}
use Rattle.w_typed.proofs.KeptComposites.{keeps_kinds}
use Rattle.w_segment.specs.Link.{top}
use Rattle.w_conts.specs.Conts.{kept_at}
use Rattle.w_reduce.specs.Store.{Store}
use Rattle.w_reduce.specs.Terms.{Rest, rest_of, Term, Continuation}
use Rattle.w_reduce.specs.Values.{Val, Cont}
use Rattle.w_stands.specs.Values.{stack}
use Rattle.w_switching.specs.declared.stored.Stored.{Stored}
use Rattle.w_typed.specs.Values.{Arrows, ContinuationTyped, a_continuation, a_value, ValuesTyped, values}
use Rattle.w_typed.specs.Stores.{ContTyped, kept, StoreTyped}
use Rattle.w_typed.specs.Contexts.{Scope, in_scope, RestTyped, code_alone}
use Rattle.w_typed.specs.Configurations.{Typed}
use Rattle.w_typed.proofs.Indirect.{one_type}
use Rattle.w_typed.proofs.Places.{instance_at}
use Rattle.w_typed.proofs.References.{if_valid_has, if_valid_holds}
use Rattle.w_typed.proofs.Subsumption.{values_sub}
use Rattle.w_typed.proofs.ContTypes.{SameCont, cont_matches}
use Rattle.w_reduce.specs.Program.{Program}
use Rattle.w_switching.proofs.ReferenceFirst.{KeptThere, kept_there}
use Rattle.w_switching.proofs.References.{reference_of}
use Rattle.w_configuration.specs.Parts.{Parts, whole}
use Rattle.w_configuration.specs.Standing.{Stands}
use Rattle.w_configuration.specs.Reducing.{TakesEnough}
use Rattle.w_configuration.proofs.PartsOfRuns.{head}

-- ## The instruction that comes next

-- it is typed, with operands of its type
record TypedNext (m : Module) (K : Arrows) (vs : Row Val) (o : SwitchingOp) : Type 0 where
  scope : Scope
  ins : Row Operand
  outs : Row Operand
  operands : ValuesTyped m K vs ins
  condition : SwitchingCondition (in_scope m scope) o
  has_type : HasInstrType m.types (switching_op_type (in_scope m scope) o) ins outs

next_typed : {m : Module} {K : Arrows} {vs : Row Val} {c : Scope} {set : List Bool} {o : SwitchingOp} {k : Code} {ts us : Row Operand}
    → ValuesTyped m K vs ts → RestTyped m c set [] (Plain (op.Switching o) k) ts us → TypedNext m K vs o
next_typed {c = c} {ts = ts} v (code_alone h) =
    record { scope = c; ins = ts; outs = h.derives.1.0; operands = v; condition = h.derives.0; has_type = h.derives.1.1 }

typed_next : {m : Module} {K : Arrows} {us : Row Operand} {s : Store} {t : Term} (o : SwitchingOp) (c : Code) → Typed m K us s t → t.rest ≡ rest_of (Plain (op.Switching o) c)
    → TypedNext m K t.operands o
typed_next {m = m} o c h is =
    next_typed h.term.operands (subst (λ (r : Rest). RestTyped m h.term.scope h.term.set r.ahead r.code h.term.before h.term.after) is h.term.rest)

-- ## Continuations

le_of : (n k : ℕ) → nat_le n k ≡ true → n ≤ k
le_of n k h = grind (arith, h)

kept_takes : {m : Module} {K : Arrows} {k : Continuation} {f : FuncType} → ContTyped m K (Some k) f → k.takes ≡ length f.params
kept_takes (kept h) = h.takes

-- the topmost operand refers to a continuation of this type
on_top : {m : Module} {K : Arrows} {vs : Row Val} {a x : ℕ} {ts : Row Operand} → ValuesTyped m K (vs ▹ Cont a) (ts ▹ Known (nullable x)) → ContinuationTyped m K a (Index x)
on_top (values b (a_value (a_continuation c))) = c

-- of an instruction that takes it on other operands
fixed_typed : {m : Module} {K : Arrows} {vs : Row Val} {a : ℕ} {ts ws : Row Operand} → KeepsKinds m.types → (x : ℕ) (ins outs : Row ValType) → HasInstrType m.types (fixed (ins ▹ nullable x) outs) ts ws
    → ValuesTyped m K (vs ▹ Cont a) ts → ContinuationTyped m K a (Index x)
fixed_typed {m = m} keeps x ins outs h v = on_top (values_sub m keeps h.takes v)

-- of cont.bind, which gives one that takes no more
record BoundTyped (m : Module) (K : Arrows) (a x : ℕ) (one other : FuncType) : Type 0 where
  reference : ContinuationTyped m K a (Index x)
  less : length other.params ≤ length one.params

bound_typed : {m : Module} {K : Arrows} {vs : Row Val} {a : ℕ} → KeepsKinds m.types → (ts ws : Row Operand) (x y : ℕ) (one other : FuncType)
    → HasInstrType m.types (cont_bind_type x y (Some one) (Some other)) ts ws → ValuesTyped m K (vs ▹ Cont a) ts → BoundTyped m K a x one other
bound_typed {m = m} keeps ts ws x y one other h v =
    let ins : Row ValType = row_of (take (length one.params - length other.params) one.params) in
    let test : Bool = nat_le (length other.params) (length one.params) in
    let type : InstrType = fixed (ins ▹ nullable x) (ε ▹ non_null y) in
    record {
      reference = fixed_typed keeps x ins (ε ▹ non_null y) (if_valid_has m test type ts ws h) v;
      less = le_of (length other.params) (length one.params) (if_valid_holds m test type ts ws h);
    }

-- and of switch
switched_typed : {m : Module} {K : Arrows} {vs : Row Val} {a : ℕ} {ts ws : Row Operand} → KeepsKinds m.types → (x : ℕ) (beneath : Row ValType) (other : FuncType)
    → HasInstrType m.types (switched_type x beneath (Some other)) ts ws → ValuesTyped m K (vs ▹ Cont a) ts → ContinuationTyped m K a (Index x)
switched_typed keeps x beneath other h v = fixed_typed keeps x beneath (row_of other.params) h v

module _ {m : Module} (sound : Sound m) {K : Arrows} {s : Store} (u : StoreTyped m K s) where
  -- it takes as many values as that has parameters
  takes_params : (a x : ℕ) (type : FuncType) (k : Continuation) → cont_of (context_of m) x ≡ Some type → ContinuationTyped m K a (Index x) → slice_get s.conts a ≡ Some (Some k)
      → k.takes ≡ length type.params
  takes_params a x type k is c there =
      let here = instance_at a c.arrow u.conts c.is in
      let item : here.item ≡ Some k = let q = here.is in cc in
      let takes = kept_takes (subst (λ (o : Option Continuation). ContTyped m K o c.arrow) item here.holds) in
      let below : SameCont m c.index type = cont_matches m sound (one_type m c.heap) type is in
      let one : c.type ≡ below.type = let p = c.has_type in let q = below.has_type in cc in
      let first = one_length c.matches.params in
      let second = one_length below.matches.params in
      takes ∙ sym first ∙ ap (λ (f : FuncType). length f.params) one ∙ sym second

  -- what cont.bind takes has as many parameters as what it gives, or more
  bind_takes : (x y a : ℕ) (k : Continuation) (t : FuncType) {vs : Row Val} → TypedNext m K (vs ▹ Cont a) (switching.ContBind x y) → slice_get s.conts a ≡ Some (Some k)
      → cont_of (context_of m) y ≡ Some t → length t.params ≤ k.takes
  bind_takes x y a k t n there is =
      let c : BindTyped (in_scope m n.scope) x y = n.condition in
      let b = bound_typed (keeps_kinds m sound) n.ins n.outs x y c.one c.other (rw (c.has_one, c.has_other) at n.has_type) n.operands in
      let takes = takes_params a x c.one k c.has_one b.reference there in
      let less = b.less in
      let same : t ≡ c.other = let q = c.has_other in cc in
      let long : length t.params ≡ length c.other.params = ap (λ (f : FuncType). length f.params) same in
      omega (arith, takes, less, long)

  -- what switch takes has the parameter that the reference goes to
  switch_takes : (x e a : ℕ) (k : Continuation) {vs : Row Val} → TypedNext m K (vs ▹ Cont a) (switching.Switch x e) → slice_get s.conts a ≡ Some (Some k) → 1 ≤ k.takes
  switch_takes x e a k n there =
      let c : SwitchTyped (in_scope m n.scope) x e = n.condition in
      let top = switched_typed (keeps_kinds m sound) x c.beneath c.other (rw (c.has_one, c.params, c.has_other) at n.has_type) n.operands in
      let takes = takes_params a x c.one k c.has_one top there in
      let long : size (row_of c.one.params) ≡ length c.one.params = size-row_of c.one.params in
      let some = ap (λ (r : Row ValType). size r) c.params in
      omega (arith, takes, long, some)

-- ## Operands of a segment

module _ {m : Module} (sound : Sound m) {waiting : List ℕ} {x : Parts} {p : Program} {ks : List (Option Continuation)} {t : Term} (h : Stands m waiting x p ks t) where
  -- the continuation on top, as the configuration has it
  there : (r : ContRef) (vs : List Value) (b : Stored) → (top x.chain).shape.operands ≡ value.Cont r ∷ vs → kept_at x.conts r.serial ≡ Some b → KeptThere m (whole x.store ks) r.serial b
  there r vs b on is = kept_there h.stand r (reference_of x.chain x.conts r vs h.sound on) b is

  -- the instruction with these operands
  next_with : (o : SwitchingOp) (c : Code) (r : ContRef) (vs : List Value) → t.rest ≡ rest_of (Plain (op.Switching o) c) → (top x.chain).shape.operands ≡ value.Cont r ∷ vs
      → TypedNext m h.arrows (stack vs ▹ Cont r.serial) o
  next_with o c r vs is on = subst (λ (ws : Row Val). TypedNext m h.arrows ws o) ((head h).operands ∙ ap stack on) (typed_next o c h.typed is)

  -- where the configuration comes to the instruction, the continuation that it takes takes enough
  pub takes_enough : (o : SwitchingOp) (c : Code) → t.rest ≡ rest_of (Plain (op.Switching o) c) → TakesEnough o m x.chain x.conts
  takes_enough (switching.ContNew y) c is = tt
  takes_enough (switching.ContBind y z) c is = λ f f_is r vs b on b_is.
      let k = there r vs b on b_is in
      subst (λ (n : ℕ). length f.params ≤ n) k.takes (bind_takes sound h.typed.store y z r.serial k.k f (next_with (switching.ContBind y z) c r vs is on) k.is f_is)
  takes_enough (switching.Suspend e) c is = tt
  takes_enough (switching.Resume y hs) c is = tt
  takes_enough (switching.Switch y e) c is = λ r vs b on b_is.
      let k = there r vs b on b_is in
      subst (λ (n : ℕ). 1 ≤ n) k.takes (switch_takes sound h.typed.store y e r.serial k.k (next_with (switching.Switch y e) c r vs is on) k.is)
