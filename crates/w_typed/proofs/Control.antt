-- Control instructions of typed configurations.
use Rattle.std.proofs.Common.{◌≡◌, ℕ, zero, suc, Bool, false, List, [], ◌∷◌, Option, Some, None, slice_get, refl}
use Rattle.w_types.specs.declared.types.FuncType.{FuncType}
use Rattle.w_types.specs.declared.types.RefType.{RefType}
use Rattle.w_types.specs.declared.types.ValType.{ValType}
use Rattle.w_types.specs.declared.types.ValType.TheVariants.{I32, I64, Ref}
use Rattle.lists.specs.Rows.{Row, ε, ◌▹◌, ◌⧺◌, size}
use Rattle.w_syntax.specs.Code.{Code}
use Rattle.w_syntax.specs.declared.instructions.ControlOp.{ControlOp}
use Rattle.w_syntax.specs.declared.instructions.ControlOp.TheVariants as control
use Rattle.w_syntax.specs.declared.instructions.Op.TheVariants as op
use Rattle.w_syntax.specs.declared.module.Module.{Module}
use Rattle.w_syntax.specs.declared.numeric.IntType.TheVariants as int
use Rattle.w_canon.specs.Matching.{ref}
use Rattle.w_canon.specs.Supertypes.{KeepsKinds}
use Rattle.w_canon.proofs.Preorder.{heap_refl}
use Rattle.w_rules.specs.Conditions.{ControlCondition}
use Rattle.w_rules.specs.Context.{type_of_func}
use Rattle.w_rules.specs.InstructionTypes.{br_type, br_if_type, br_table_type, br_on_null_type, br_on_non_null_type, call_type, labels_at, with_label, control_op_type}
use Rattle.w_rules.specs.Matching.{RowMatches, known, value}
use Rattle.w_rules.specs.Operands.{Operand}
use Rattle.w_rules.specs.Operands.{Known}
use Rattle.w_rules.specs.Sound.{Sound}
use Rattle.w_rules.specs.Spaces.{context_of}
use Rattle.w_rules.specs.Typing.{Polymorphic, MatchesEach, HasInstrType, ref_to}
use Rattle.w_rules.proofs.Preorder.{row_refl, row_beside}
use Rattle.w_reduce.specs.Values.{Val}
use Rattle.w_reduce.specs.Store.{Store}
use Rattle.w_reduce.specs.Terms.{Context}
use Rattle.w_reduce.specs.Program.{Program, IsProgram}
use Rattle.w_reduce.specs.Reduced.{Reduced}
use Rattle.w_reduce.specs.Control.{control_op, unless_zero, label_in}
use Rattle.w_typed.specs.Values.{Arrows, OperandTyped, ValuesTyped, values}
use Rattle.w_typed.specs.Stores.{StoreTyped}
use Rattle.w_typed.specs.Contexts.{Scope, returned, in_scope, IsHeld, CodeTyped, code_alone, Subset, Within}
use Rattle.w_typed.specs.Configurations.{IsSafe, traps}
use Rattle.w_typed.proofs.Subsumption.{values_sub, operand_sub}
use Rattle.w_typed.proofs.TypedOperands.{number_taken}
use Rattle.w_typed.proofs.OperandCounts.{leaves}
use Rattle.w_typed.proofs.Low.{room, taken_among, taken_below, one_among, ins_below}
use Rattle.w_typed.proofs.Holes.{code_left}
use Rattle.w_typed.proofs.Branches.{branch_safe, returns_safe}
use Rattle.w_typed.proofs.Calls.{invoke_safe}
use Rattle.w_typed.proofs.Indirect.{call_indirect_safe, call_ref_safe}
use Rattle.w_typed.proofs.TailCalls.{return_call_safe, return_call_indirect_safe, return_call_ref_safe}
use Rattle.w_typed.proofs.Onward.{onward}
use Rattle.w_typed.proofs.References.{by_null_safe}

-- ## The labels of a table

-- what the label that a table leads to takes
pub record LabelOf (m : Module) (labels : List (Row ValType)) (l : ℕ) (ins : Row Operand) : Type 0 where
  pub taken : Row ValType
  pub is : slice_get labels l ≡ Some taken
  pub matches : RowMatches m.types ins (known taken)

module _ (m : Module) (labels : List (Row ValType)) (ins : Row Operand) where
  next_label : (x : ℕ) (t : Option (Row ValType)) (ts : Option (List (Row ValType))) (ls : List ℕ) (l i : ℕ) (others : List (Row ValType))
      → slice_get labels x ≡ t → labels_at labels ls ≡ ts → with_label t ts ≡ Some others → MatchesEach m.types ins others
      → ((j : ℕ) (us : List (Row ValType)) → labels_at labels ls ≡ Some us → MatchesEach m.types ins us → LabelOf m labels (label_in (slice_get ls j) l) ins)
      → LabelOf m labels (label_in (slice_get (x ∷ ls) i) l) ins
  next_label x None ts ls l i others there at e k go = absurd (cc)
  next_label x (Some t) None ls l i others there at e k go = absurd (cc)
  next_label x (Some t) (Some ts) ls l i [] there at e k go = absurd (cc)
  next_label x (Some t) (Some ts) ls l zero (u ∷ us) there at e k go = record { taken = u; is = cc; matches = k.0 }
  next_label x (Some t) (Some ts) ls l (suc i) (u ∷ us) there at e k go = go i us (cc) k.1

  table_label : (ls : List ℕ) (l i : ℕ) (one : Row ValType) (others : List (Row ValType)) → slice_get labels l ≡ Some one → labels_at labels ls ≡ Some others
      → RowMatches m.types ins (known one) → MatchesEach m.types ins others → LabelOf m labels (label_in (slice_get ls i) l) ins
  table_label [] l i one others is at h k = record { taken = one; is = is; matches = h }
  table_label (x ∷ ls) l i one others is at h k =
      next_label x (slice_get labels x) (labels_at labels ls) ls l i others refl refl at k (λ j us a b. table_label ls l j one us is a h b)

-- ## Instructions

module _ (p : Program) (K : Arrows) (us : Row Operand) where
  zero_or_not : (n : ℕ) (taken passed : Reduced) → IsSafe p.source K us taken → IsSafe p.source K us passed → IsSafe p.source K us (unless_zero n taken passed)
  zero_or_not zero taken passed h k = k
  zero_or_not (suc n) taken passed h k = h

  -- a typed configuration at an instruction that gives operands of types ws
  pub record Here (s : Store) (e : Context) (k : Code) (ws : Row Operand) : Type 0 where
    pub scope : Scope
    pub set : List Bool
    pub now : List Bool
    pub out : Row Operand
    pub still : Subset set now
    pub store : StoreTyped p.source K s
    -- whether what comes behind the instruction is not reached
    pub leaving : Bool
    pub behind : leaving ≡ false → CodeTyped p.source scope set k ws out
    pub around : Within p.source K us e scope now out
    pub inside : scope.results ≡ None → ⊥

  -- its frame holds the operands that it takes
  abbrev pub IsHeldThere : {s : Store} {e : Context} {k : Code} {ws : Row Operand} → Here s e k ws → Row Operand → Type 0
  IsHeldThere h ts = (h.scope.results ≡ None → ⊥) → IsHeld p.source h.scope (size ts)

module _ (p : Program) (keeps : KeepsKinds p.source.types) (K : Arrows) (us : Row Operand) where
  -- it gives operands of types that match these
  abbrev pub here_left : {s : Store} {e : Context} {k : Code} {ts ws : Row Operand} → RowMatches p.source.types ts ws → Here p K us s e k ws → Here p K us s e k ts
  here_left r h = record {
    scope = h.scope;
    set = h.set;
    now = h.now;
    out = h.out;
    still = h.still;
    store = h.store;
    leaving = h.leaving;
    behind = λ n. code_left p.source keeps r (h.behind n);
    around = h.around;
    inside = h.inside;
  }

  -- a reference that may not be null is of each type of references to its heap type
  there : {r : RefType} {v : Val} → OperandTyped p.source K v (ref_to false (Some r.heap)) → OperandTyped p.source K v (Known (Ref r))
  there {r = r} q = operand_sub p.source keeps (value (ref (record { nullable = λ f. absurd (cc); heap = heap_refl p.source.types r.heap }))) q

  module _ {s : Store} {e : Context} {k : Code} {ts ws : Row Operand} {vs : Row Val} where
    br_here : (l : ℕ) (h : Here p K us s e k ws) → IsHeldThere p K us h ts → (taken : Option (Row ValType)) → slice_get h.scope.labels l ≡ taken → HasInstrType p.source.types (br_type taken) ts ws
        → ValuesTyped p.source K vs ts → IsSafe p.source K us (control_op p s e vs (control.Br l) k)
    br_here l h held None is t v = absurd t
    br_here l h held (Some taken) is t v =
        branch_safe p.source us l t.beneath taken h.store is (λ i. room p.source (taken_among p.source.types t.beneath taken t.takes) (held i)) (values_sub p.source keeps t.takes v) h.around

    br_if_here : (l : ℕ) (h : Here p K us s e k ws) → h.leaving ≡ false → IsHeldThere p K us h ts → (taken : Option (Row ValType)) → slice_get h.scope.labels l ≡ taken → HasInstrType p.source.types (br_if_type taken) ts ws
        → ValuesTyped p.source K vs ts → IsSafe p.source K us (control_op p s e vs (control.BrIf l) k)
    br_if_here l h n held None is t v = absurd t
    br_if_here l h n held (Some taken) is t v =
        let m = p.source in
        number_taken m us int.I32 vs (t.beneath ⧺ known taken) _ (values_sub m keeps t.takes v) (λ below number b.
        zero_or_not p K us number _ _ (branch_safe m us l t.beneath taken h.store is (λ i. room m (taken_below m.types t.beneath taken t.takes) (held i)) b h.around)
        (onward m us h.still (h.behind n) h.around s below h.store (values_sub m keeps t.gives b)))

    br_table_here : (ls : List ℕ) (l : ℕ) (h : Here p K us s e k ws) → IsHeldThere p K us h ts → (one : Option (Row ValType)) (others : Option (List (Row ValType))) → slice_get h.scope.labels l ≡ one
        → labels_at h.scope.labels ls ≡ others → HasInstrType p.source.types (br_table_type one others) ts ws
        → ValuesTyped p.source K vs ts → IsSafe p.source K us (control_op p s e vs (control.BrTable ls l) k)
    br_table_here ls l h held None others is at t v = absurd t
    br_table_here ls l h held (Some one) None is at t v = absurd t
    br_table_here ls l h held (Some one) (Some others) is at t v =
        let m = p.source in
        number_taken m us int.I32 vs (t.polymorphic.beneath ⧺ t.ins) _ (values_sub m keeps t.polymorphic.takes v) (λ below i b.
        let f = table_label m h.scope.labels t.ins ls l i one others is at t.each.0 t.each.1 in
        branch_safe m us (label_in (slice_get ls i) l) t.polymorphic.beneath f.taken h.store f.is
        (λ i. room m (ins_below m.types t.polymorphic.beneath t.ins f.taken t.polymorphic.takes f.matches) (held i))
        (values_sub m keeps (row_beside m.types t.polymorphic.beneath t.polymorphic.beneath t.ins (known f.taken) (row_refl m.types t.polymorphic.beneath) f.matches) b) h.around)

    return_here : (h : Here p K us s e k ws) (taken : Option (Row ValType)) → h.scope.results ≡ taken → Polymorphic p.source.types (known (returned taken)) ts
        → ValuesTyped p.source K vs ts → IsSafe p.source K us (control_op p s e vs control.Return k)
    return_here h None is t v = absurd (h.inside is)
    return_here h (Some taken) is t v = returns_safe p.source us t.beneath taken h.store is (values_sub p.source keeps t.takes v) h.around

    br_on_null_here : (l : ℕ) (h : Here p K us s e k ws) → h.leaving ≡ false → IsHeldThere p K us h ts → (taken : Option (Row ValType)) → slice_get h.scope.labels l ≡ taken → HasInstrType p.source.types (br_on_null_type taken) ts ws
        → ValuesTyped p.source K vs ts → IsSafe p.source K us (control_op p s e vs (control.BrOnNull l) k)
    br_on_null_here l h n held None is t v = absurd t
    br_on_null_here l h n held (Some taken) is (heap, t) v =
        let m = p.source in
        by_null_safe m keeps us heap vs (t.beneath ⧺ known taken) _ _ (values_sub m keeps t.takes v)
        (λ below b. branch_safe m us l t.beneath taken h.store is (λ i. room m (taken_below m.types t.beneath taken t.takes) (held i)) b h.around)
        (λ below r b q. onward m us h.still (h.behind n) h.around s (below ▹ r) h.store (values_sub m keeps t.gives (values b q)))

    br_on_non_null_here : (l : ℕ) (h : Here p K us s e k ws) → h.leaving ≡ false → IsHeldThere p K us h ts → (taken : Option (Row ValType)) → slice_get h.scope.labels l ≡ taken
        → HasInstrType p.source.types (br_on_non_null_type taken) ts ws → ValuesTyped p.source K vs ts → IsSafe p.source K us (control_op p s e vs (control.BrOnNonNull l) k)
    br_on_non_null_here l h n held None is t v = absurd t
    br_on_non_null_here l h n held (Some ε) is t v = absurd t
    br_on_non_null_here l h n held (Some (taken ▹ I32)) is t v = absurd t
    br_on_non_null_here l h n held (Some (taken ▹ I64)) is t v = absurd t
    br_on_non_null_here l h n held (Some (taken ▹ Ref r)) is t v =
        let m = p.source in
        by_null_safe m keeps us (Some r.heap) vs (t.beneath ⧺ known taken) _ _ (values_sub m keeps t.takes v)
        (λ below b. onward m us h.still (h.behind n) h.around s below h.store (values_sub m keeps t.gives b))
        (λ below w b q. branch_safe m us l t.beneath (taken ▹ Ref r) h.store is (λ i. room m (one_among m.types t.beneath taken t.takes) (held i)) (values b (there q)) h.around)

    call_here : (x : ℕ) (h : Here p K us s e k ws) → h.leaving ≡ false → Sound p.source → (t : Option FuncType) → type_of_func (context_of p.source) x ≡ t
        → HasInstrType p.source.types (call_type t) ts ws → ValuesTyped p.source K vs ts → IsSafe p.source K us (control_op p s e vs (control.Call x) k)
    call_here x h n valid None is t v = absurd t
    call_here x h n valid (Some f) is t v =
        invoke_safe p us x f t.beneath valid h.store is (values_sub p.source keeps t.takes v) (code_alone (code_left p.source keeps t.gives (h.behind n))) h.still h.around

    -- a control instruction goes on, or traps
    pub control_safe : (o : ControlOp) (h : Here p K us s e k ws) → h.leaving ≡ leaves (op.Control o) → IsHeldThere p K us h ts → IsProgram p → Sound p.source → ControlCondition (in_scope p.source h.scope) o
        → HasInstrType p.source.types (control_op_type (in_scope p.source h.scope) o) ts ws
        → ValuesTyped p.source K vs ts → IsSafe p.source K us (control_op p s e vs o k)
    control_safe control.Unreachable h n held prog valid q t v = traps
    control_safe control.Nop h n held prog valid q t v = onward p.source us h.still (h.behind n) h.around s vs h.store (values_sub p.source keeps t.gives (values_sub p.source keeps t.takes v))
    control_safe (control.Br l) h n held prog valid q t v = br_here l h held (slice_get h.scope.labels l) refl t v
    control_safe (control.BrIf l) h n held prog valid q t v = br_if_here l h n held (slice_get h.scope.labels l) refl t v
    control_safe (control.BrTable ls l) h n held prog valid q t v = br_table_here ls l h held (slice_get h.scope.labels l) (labels_at h.scope.labels ls) refl refl t v
    control_safe control.Return h n held prog valid q t v = return_here h h.scope.results refl t v
    control_safe (control.BrOnNull l) h n held prog valid q t v = br_on_null_here l h n held (slice_get h.scope.labels l) refl t v
    control_safe (control.BrOnNonNull l) h n held prog valid q t v = br_on_non_null_here l h n held (slice_get h.scope.labels l) refl t v
    control_safe (control.Call x) h n held prog valid q t v = call_here x h n valid (type_of_func (context_of p.source) x) refl t v
    control_safe (control.CallIndirect y x) h n held prog valid q t v = call_indirect_safe p keeps us y x prog valid h.store q t v (h.behind n) h.still h.around
    control_safe (control.CallRef y) h n held prog valid q t v = call_ref_safe p keeps us y valid h.store t v (h.behind n) h.still h.around
    control_safe (control.ReturnCall x) h n held prog valid q t v = return_call_safe p keeps us ws x valid h.store h.inside q t v h.around
    control_safe (control.ReturnCallIndirect y x) h n held prog valid q t v = return_call_indirect_safe p keeps us ws y x k prog valid h.store h.inside q t v h.around
    control_safe (control.ReturnCallRef y) h n held prog valid q t v = return_call_ref_safe p keeps us ws y k valid h.store h.inside q t v h.around
