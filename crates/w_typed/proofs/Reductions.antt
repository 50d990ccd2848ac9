-- Each reduction of a typed configuration is safe.
use Rattle.std.proofs.Common.{◌≡◌, ◌≤◌, ◌+◌, ℕ, zero, suc, Bool, false, List, [], Option, Some, None, refl, sym, ap, subst, ◌∙◌, arith}
use Rattle.w_types.specs.declared.types.ValType.TheVariants.{I32}
use Rattle.lists.specs.Rows.{Row, ◌▹◌, ◌⧺◌, size}
use Rattle.w_syntax.specs.Code.{Code, Done, Plain, Block, If, IfElse}
use Rattle.w_syntax.specs.declared.instructions.BlockKind.{BlockKind}
use Rattle.w_syntax.specs.declared.instructions.BlockKind.TheVariants as kind
use Rattle.w_syntax.specs.declared.instructions.BlockType.{BlockType}
use Rattle.w_syntax.specs.declared.instructions.Op.{Op}
use Rattle.w_syntax.specs.declared.instructions.Op.TheVariants as op
use Rattle.w_syntax.specs.declared.instructions.VariableOp.{VariableOp}
use Rattle.w_syntax.specs.declared.instructions.VariableOp.TheVariants as variable
use Rattle.w_syntax.specs.declared.module.Module.{Module}
use Rattle.w_syntax.specs.declared.numeric.IntType.TheVariants as int
use Rattle.w_canon.specs.Supertypes.{KeepsKinds}
use Rattle.w_rules.specs.Conditions.{Holds, Condition}
use Rattle.w_rules.specs.Context as rules
use Rattle.w_rules.specs.Context.{Arrow, arrow_of, labelled}
use Rattle.w_rules.specs.InstructionTypes.{instr_type, sets, variable_op_type}
use Rattle.w_rules.specs.Matching.{RowMatches, known}
use Rattle.w_rules.specs.Operands.{Operand}
use Rattle.w_rules.specs.Operands.{Known}
use Rattle.w_rules.specs.Sound.{Sound}
use Rattle.w_rules.specs.Typing.{HasType, HasInstrType, Derives}
use Rattle.w_rules.proofs.Preorder.{row_refl, row_size}
use Rattle.w_reduce.specs.Values.{Val}
use Rattle.w_reduce.specs.Store.{Store}
use Rattle.w_reduce.specs.Terms.{Administrative, Context}
use Rattle.w_reduce.specs.Program.{Program, IsProgram}
use Rattle.w_reduce.specs.Reduced.{Reduced, Went}
use Rattle.w_reduce.specs.Branches.{choice, chosen}
use Rattle.w_reduce.specs.Variable.{variable_op}
use Rattle.w_reduce.specs.Reduce.{instruction, next, limited, unless_passed}
use Rattle.w_typed.specs.Ranges.{ConstantsFit, NumbersFit}
use Rattle.w_typed.specs.Values.{Arrows, ValuesTyped}
use Rattle.w_typed.specs.Stores.{StoreTyped}
use Rattle.w_reduce.specs.Room.{most_operands}
use Rattle.w_typed.specs.Contexts.{Scope, under, in_scope, IsLow, CodeTyped, RestTyped, code_alone, invoke_first, branch_first, Subset, Within}
use Rattle.w_typed.proofs.KeptComposites.{keeps_kinds}
use Rattle.w_typed.proofs.Switches.{switching_safe}
use Rattle.w_typed.specs.Configurations.{IsSafe, goes, traps, is_limited, ends, ReductionsAreSafe, NextsAreSafe}
use Rattle.w_typed.proofs.Subsumption.{values_sub}
use Rattle.w_typed.proofs.TypedOperands.{number_taken}
use Rattle.w_typed.proofs.Behind.{code_behind}
use Rattle.w_typed.proofs.OperandCounts.{leaves}
use Rattle.w_typed.proofs.Low.{size_above, low_held, low_extra, low_inside, low_in_if, low_in_else, low_done, taken_among, room}
use Rattle.w_typed.proofs.Onward.{onward}
use Rattle.w_typed.proofs.Numbers.{numeric_safe}
use Rattle.w_typed.proofs.References.{parametric_safe, reference_safe}
use Rattle.w_typed.proofs.Locals.{local_get_safe, local_set_safe, local_tee_safe}
use Rattle.w_typed.proofs.Globals.{global_get_safe, global_set_safe}
use Rattle.w_typed.proofs.Memories.{memory_safe}
use Rattle.w_typed.proofs.Tables.{table_safe}
use Rattle.w_typed.proofs.Control.{control_safe}
use Rattle.w_typed.proofs.Blocks.{BlockTyped, block_safe}
use Rattle.w_typed.proofs.Branches.{branch_safe, leave_safe}
use Rattle.w_typed.proofs.Calls.{invoke_safe}
use Rattle.w_reduce.specs.Limits.{passed}
use Rattle.w_reduce.specs.declared.limit.RunLimit.{RunLimit}

module _ (m : Module) where
  -- a block's parts, where its type is there
  block_parts : (kind : BlockKind) (b : BlockType) (x k : Code) (c : Scope) (set : List Bool) (ts out : Row Operand) (a : Option Arrow) → arrow_of (in_scope m c) b ≡ a
      → (c.results ≡ None → ⊥) → (NumbersFit m → ConstantsFit (Block kind b x k)) → ((c.results ≡ None → ⊥) → IsLow m c set (Block kind b x k) (size ts))
      → Holds a (λ (a : Arrow). Derives (labelled (in_scope m c) (rules.label_of kind a)) set x (known a.from) (known a.to)
      × ((ws : Row Operand) × HasType m.types (known a.from) (known a.to) ts ws × Derives (in_scope m c) set k ws out))
      → (ws : Row Operand) × BlockTyped m c set kind b x k ts ws out
  block_parts kind b x k c set ts out None is inside fits low h = absurd h
  block_parts kind b x k c set ts out (Some a) is inside fits low (d, (ws, t, r)) =
      let before = row_size m.types ts (t.beneath ⧺ known a.from) t.takes in
      let parts : (c.results ≡ None → ⊥) → IsLow m (under (size t.beneath) (rules.label_of kind a) c) set x (size a.from) × IsLow m c set k (size t.beneath + size a.to) =
      λ i. low_inside m kind b a (size t.beneath) is (subst (IsLow m c set (Block kind b x k)) (before ∙ size_above t.beneath a.from) (low i)) in (
        ws,
        record {
          arrow = a;
          is = is;
          inside = d;
          has_type = t;
          behind = record {
            derives = r;
            none = λ e. absurd (inside e);
            fits = λ n. (fits n).1;
            low = λ i. subst (IsLow m c set k) (sym (size_above t.beneath a.to) ∙ row_size m.types (t.beneath ⧺ known a.to) ws t.gives) (parts i).1;
          };
          inside_fits = λ n. (fits n).0;
          inside_low = λ i. (parts i).0;
          again_low = λ e i. subst (λ (z : BlockKind). IsLow m c set (Block z b x k) (size (t.beneath ⧺ known a.from))) e (subst (IsLow m c set (Block kind b x k)) before (low i));
        },
      )

  -- both branches of an if
  pub record Choice (b : BlockType) (x y k : Code) (c : Scope) (set : List Bool) (ts ws out : Row Operand) : Type 0 where
    pub arrow : Arrow
    pub is : arrow_of (in_scope m c) b ≡ Some arrow
    pub one : Derives (labelled (in_scope m c) arrow.to) set x (known arrow.from) (known arrow.to)
    pub other : Derives (labelled (in_scope m c) arrow.to) set y (known arrow.from) (known arrow.to)
    pub has_type : HasType m.types (known arrow.from ▹ Known I32) (known arrow.to) ts ws
    pub behind : Derives (in_scope m c) set k ws out
    pub one_fits : NumbersFit m → ConstantsFit x
    pub other_fits : NumbersFit m → ConstantsFit y
    pub behind_fits : NumbersFit m → ConstantsFit k
    pub one_low : (c.results ≡ None → ⊥) → IsLow m (under (size has_type.beneath) arrow.to c) set x (size arrow.from)
    pub other_low : (c.results ≡ None → ⊥) → IsLow m (under (size has_type.beneath) arrow.to c) set y (size arrow.from)
    pub behind_low : (c.results ≡ None → ⊥) → IsLow m c set k (size ws)

  if_parts : (b : BlockType) (x k : Code) (c : Scope) (set : List Bool) (ts out : Row Operand) (a : Option Arrow) → arrow_of (in_scope m c) b ≡ a
      → (NumbersFit m → ConstantsFit (If b x k)) → ((c.results ≡ None → ⊥) → IsLow m c set (If b x k) (size ts))
      → Holds a (λ (a : Arrow). RowMatches m.types (known a.from) (known a.to)
      × Derives (labelled (in_scope m c) a.to) set x (known a.from) (known a.to)
      × ((ws : Row Operand) × HasType m.types (known a.from ▹ Known I32) (known a.to) ts ws × Derives (in_scope m c) set k ws out))
      → (ws : Row Operand) × Choice b x Done k c set ts ws out
  if_parts b x k c set ts out None is fits low h = absurd h
  if_parts b x k c set ts out (Some a) is fits low (r, d, (ws, t, f)) =
      let before = row_size m.types ts ((t.beneath ⧺ known a.from) ▹ Known I32) t.takes in
      let parts : (c.results ≡ None → ⊥) → IsLow m (under (size t.beneath) a.to c) set x (size a.from) × IsLow m c set k (size t.beneath + size a.to) =
      λ i. low_in_if m b a (size t.beneath) is (subst (IsLow m c set (If b x k)) (before ∙ ap suc (size_above t.beneath a.from)) (low i)) in (
        ws,
        record {
          arrow = a;
          is = is;
          one = d;
          other = r;
          has_type = t;
          behind = f;
          one_fits = λ n. (fits n).0;
          other_fits = λ n. tt;
          behind_fits = λ n. (fits n).1;
          one_low = λ i. (parts i).0;
          other_low = λ i. low_done m (parts i).0;
          behind_low = λ i. subst (IsLow m c set k) (sym (size_above t.beneath a.to) ∙ row_size m.types (t.beneath ⧺ known a.to) ws t.gives) (parts i).1;
        },
      )

  if_else_parts : (b : BlockType) (x y k : Code) (c : Scope) (set : List Bool) (ts out : Row Operand) (a : Option Arrow) → arrow_of (in_scope m c) b ≡ a
      → (NumbersFit m → ConstantsFit (IfElse b x y k)) → ((c.results ≡ None → ⊥) → IsLow m c set (IfElse b x y k) (size ts))
      → Holds a (λ (a : Arrow). Derives (labelled (in_scope m c) a.to) set x (known a.from) (known a.to)
      × Derives (labelled (in_scope m c) a.to) set y (known a.from) (known a.to)
      × ((ws : Row Operand) × HasType m.types (known a.from ▹ Known I32) (known a.to) ts ws × Derives (in_scope m c) set k ws out))
      → (ws : Row Operand) × Choice b x y k c set ts ws out
  if_else_parts b x y k c set ts out None is fits low h = absurd h
  if_else_parts b x y k c set ts out (Some a) is fits low (d, r, (ws, t, f)) =
      let before = row_size m.types ts ((t.beneath ⧺ known a.from) ▹ Known I32) t.takes in
      let parts : (c.results ≡ None → ⊥)
      → IsLow m (under (size t.beneath) a.to c) set x (size a.from) × IsLow m (under (size t.beneath) a.to c) set y (size a.from) × IsLow m c set k (size t.beneath + size a.to) =
      λ i. low_in_else m b a (size t.beneath) is (subst (IsLow m c set (IfElse b x y k)) (before ∙ ap suc (size_above t.beneath a.from)) (low i)) in (
        ws,
        record {
          arrow = a;
          is = is;
          one = d;
          other = r;
          has_type = t;
          behind = f;
          one_fits = λ n. (fits n).0;
          other_fits = λ n. (fits n).1;
          behind_fits = λ n. (fits n).2;
          one_low = λ i. (parts i).0;
          other_low = λ i. (parts i).1;
          behind_low = λ i. subst (IsLow m c set k) (sym (size_above t.beneath a.to) ∙ row_size m.types (t.beneath ⧺ known a.to) ws t.gives) (parts i).2;
        },
      )

  chosen_typed : (n : ℕ) {b : BlockType} {x y k : Code} {c : Scope} {set : List Bool} {ts ws out : Row Operand} → (c.results ≡ None → ⊥) → (h : Choice b x y k c set ts ws out)
      → BlockTyped m c set kind.Block b (chosen n x y) k (h.has_type.beneath ⧺ known h.arrow.from) ws out
  chosen_typed zero inside h = record {
    arrow = h.arrow;
    is = h.is;
    inside = h.other;
    has_type = record { beneath = h.has_type.beneath; takes = row_refl m.types (h.has_type.beneath ⧺ known h.arrow.from); gives = h.has_type.gives };
    behind = record { derives = h.behind; none = λ e. absurd (inside e); fits = h.behind_fits; low = h.behind_low };
    inside_fits = h.other_fits;
    inside_low = h.other_low;
    again_low = λ e i. absurd (cc);
  }
  chosen_typed (suc n) inside h = record {
    arrow = h.arrow;
    is = h.is;
    inside = h.one;
    has_type = record { beneath = h.has_type.beneath; takes = row_refl m.types (h.has_type.beneath ⧺ known h.arrow.from); gives = h.has_type.gives };
    behind = record { derives = h.behind; none = λ e. absurd (inside e); fits = h.behind_fits; low = h.behind_low };
    inside_fits = h.one_fits;
    inside_low = h.one_low;
    again_low = λ e i. absurd (cc);
  }

module _ (p : Program) (keeps : KeepsKinds p.source.types) {K : Arrows} (us : Row Operand) (prog : IsProgram p) (valid : Sound p.source) where
  module _ {s : Store} {e : Context} {vs : Row Val} {c : Scope} {set now : List Bool} {ts out : Row Operand}
      (u : StoreTyped p.source K s) (v : ValuesTyped p.source K vs ts) (still : Subset set now) (w : Within p.source K us e c now out) (inside : c.results ≡ None → ⊥) where
    -- what comes behind an instruction, where it is reached
    coming : (ws : Row Operand) (k : Code) (o : Op) → leaves o ≡ false → HasInstrType p.source.types (instr_type (in_scope p.source c) set o) ts ws
        → Derives (in_scope p.source c) (sets o set) k ws out → (NumbersFit p.source → ConstantsFit (Plain o k))
        → ((c.results ≡ None → ⊥) → IsLow p.source c set (Plain o k) (size ts)) → CodeTyped p.source c (sets o set) k ws out
    coming ws k o n t d fits low = code_behind p.source ts ws k o n inside t d fits low

    variable_safe : (ws : Row Operand) (k : Code) (o : VariableOp) → HasInstrType p.source.types (variable_op_type (in_scope p.source c) set o) ts ws → Derives (in_scope p.source c) (sets (op.Variable o) set) k ws out
        → (NumbersFit p.source → ConstantsFit (Plain (op.Variable o) k)) → ((c.results ≡ None → ⊥) → IsLow p.source c set (Plain (op.Variable o) k) (size ts)) → IsSafe p.source K us (variable_op s e vs o k)
    variable_safe ws k (variable.LocalGet x) t d fits low =
        local_get_safe p.source keeps us x ts ws s e vs k c set now out u t v still w (onward p.source us still (coming ws k (op.Variable (variable.LocalGet x)) refl t d fits low) w)
    variable_safe ws k (variable.LocalSet x) t d fits low = local_set_safe p.source keeps us x ts ws s e vs k c set now out u t v still w (coming ws k (op.Variable (variable.LocalSet x)) refl t d fits low)
    variable_safe ws k (variable.LocalTee x) t d fits low = local_tee_safe p.source keeps us x ts ws s e vs k c set now out u t v still w (coming ws k (op.Variable (variable.LocalTee x)) refl t d fits low)
    variable_safe ws k (variable.GlobalGet x) t d fits low =
        global_get_safe p.source keeps us c x ts ws s e vs k u t v (onward p.source us still (coming ws k (op.Variable (variable.GlobalGet x)) refl t d fits low) w)
    variable_safe ws k (variable.GlobalSet x) t d fits low =
        global_set_safe p.source keeps us c x ts ws s e vs k u t v (onward p.source us still (coming ws k (op.Variable (variable.GlobalSet x)) refl t d fits low) w)

    instruction_safe : (ws : Row Operand) (k : Code) (o : Op) → Condition (in_scope p.source c) o → HasInstrType p.source.types (instr_type (in_scope p.source c) set o) ts ws
        → Derives (in_scope p.source c) (sets o set) k ws out → (NumbersFit p.source → ConstantsFit (Plain o k))
        → ((c.results ≡ None → ⊥) → IsLow p.source c set (Plain o k) (size ts)) → IsSafe p.source K us (instruction p s e vs o k)
    instruction_safe ws k (op.Control o) h t d fits low =
        control_safe p keeps K us o (record {
          scope = c;
          set = set;
          now = now;
          out = out;
          still = still;
          store = u;
          around = w;
          inside = inside;
          leaving = leaves (op.Control o);
          behind = λ n. coming ws k (op.Control o) n t d fits low;
        }) refl (λ i. low_held p.source (low i)) prog valid h t v
    instruction_safe ws k (op.Parametric o) h t d fits low =
        parametric_safe p.source keeps us c o ts ws s e vs k u t v (onward p.source us still (coming ws k (op.Parametric o) refl t d fits low) w)
    instruction_safe ws k (op.Variable o) h t d fits low = variable_safe ws k o t d fits low
    instruction_safe ws k (op.Table o) h t d fits low =
        table_safe p.source keeps us c o ts ws s e vs k u h t v (onward p.source us still (coming ws k (op.Table o) refl t d fits low) w)
    instruction_safe ws k (op.Memory o) h t d fits low =
        memory_safe p.source keeps us c o ts ws s e vs k u t v (onward p.source us still (coming ws k (op.Memory o) refl t d fits low) w)
    instruction_safe ws k (op.Numeric o) h t d fits low =
        numeric_safe p.source keeps us o ts ws s e vs k u (λ f. (fits f).0) t v (onward p.source us still (coming ws k (op.Numeric o) refl t d fits low) w)
    instruction_safe ws k (op.Reference o) h t d fits low =
        reference_safe p.source keeps us c o ts ws s e vs k u t v (onward p.source us still (coming ws k (op.Reference o) refl t d fits low) w)
    instruction_safe ws k (op.Switching o) h t d fits low =
        switching_safe p keeps K us valid o (record {
          scope = c;
          set = set;
          now = now;
          out = out;
          still = still;
          store = u;
          around = w;
          inside = inside;
          leaving = leaves (op.Switching o);
          behind = λ n. coming ws k (op.Switching o) n t d fits low;
        }) refl (λ i. low_extra p.source (op.Switching o) (low i)) h t v

  choice_safe : {s : Store} {e : Context} {vs : Row Val} {c : Scope} {set now : List Bool} {ts ws out : Row Operand} (b : BlockType) (x y k : Code)
      → StoreTyped p.source K s → ValuesTyped p.source K vs ts → Subset set now → Within p.source K us e c now out → (c.results ≡ None → ⊥)
      → Choice p.source b x y k c set ts ws out → IsSafe p.source K us (choice p s e vs b x y k)
  choice_safe {vs = vs} b x y k u v still w inside h =
      number_taken p.source us int.I32 vs (h.has_type.beneath ⧺ known h.arrow.from) _ (values_sub p.source keeps h.has_type.takes v) (λ below n lower.
      block_safe p keeps us kind.Block u still lower (chosen_typed p.source n inside h) inside w)

  next_safe : {s : Store} {e : Context} {vs : Row Val} {c : Scope} {set now : List Bool} {ts out : Row Operand} (ahead : List Administrative) (k : Code)
      → StoreTyped p.source K s → ValuesTyped p.source K vs ts → RestTyped p.source c set ahead k ts out → Subset set now
      → Within p.source K us e c now out → IsSafe p.source K us (next p s e vs ahead k)
  next_safe _ k u v (invoke_first {a = a} {t = t} beneath is r h) still w = invoke_safe p us a t beneath valid u is (values_sub p.source keeps r v) h still w
  next_safe _ k u v (branch_first {l = l} {taken = taken} beneath is r held) still w =
      branch_safe p.source us l beneath taken u is (λ i. room p.source (taken_among p.source.types beneath taken r) (held i)) (values_sub p.source keeps r v) w
  next_safe {c = c} {ts = ts} {out = out} [] Done u v (code_alone h) still w =
      let as_many = row_size p.source.types ts out h.derives in
      let fits : (c.results ≡ None → ⊥) → c.base + size out ≤ most_operands p.source c.function =
      λ i. let held = low_held p.source (h.low i) in let there = held.operands in omega (arith, there, as_many) in
      leave_safe p.source keeps us u fits (values_sub p.source keeps h.derives v) w
  next_safe [] (Plain o k) u v (code_alone h) still w =
      instruction_safe u v still w (λ e. let d = h.none e in absurd (cc)) h.derives.1.0 k o h.derives.0 h.derives.1.1 h.derives.1.2 h.fits h.low
  next_safe {c = c} {set = set} {ts = ts} {out = out} [] (Block kind b x k) u v (code_alone h) still w =
      let inside = λ (e : c.results ≡ None). (let d = h.none e in absurd (cc)) in
      let parts = block_parts p.source kind b x k c set ts out (arrow_of (in_scope p.source c) b) refl inside h.fits h.low h.derives in
      block_safe p keeps us kind u still v parts.1 inside w
  next_safe {c = c} {set = set} {ts = ts} {out = out} [] (If b x k) u v (code_alone h) still w =
      let parts = if_parts p.source b x k c set ts out (arrow_of (in_scope p.source c) b) refl h.fits h.low h.derives in
      choice_safe b x Done k u v still w (λ e. let d = h.none e in absurd (cc)) parts.1
  next_safe {c = c} {set = set} {ts = ts} {out = out} [] (IfElse b x y k) u v (code_alone h) still w =
      let parts = if_else_parts p.source b x y k c set ts out (arrow_of (in_scope p.source c) b) refl h.fits h.low h.derives in
      choice_safe b x y k u v still w (λ e. let d = h.none e in absurd (cc)) parts.1

-- a limit that is passed is safe
limited_safe : (m : Module) {K : Arrows} (us : Row Operand) (r : Reduced) → IsSafe m K us r → IsSafe m K us (limited r)
limited_safe m {K} us _ (goes {out = out} {s = s} {t = t} g h) = within_limit (passed s t.around)
  where
    within_limit : (o : Option RunLimit) → IsSafe m K us (unless_passed o (Went out s t))
    within_limit None = goes g h
    within_limit (Some name) = is_limited
limited_safe m us _ traps = traps
limited_safe m us _ is_limited = is_limited
limited_safe m us _ (ends v) = ends v

-- preservation and progress, before limits are looked at
pub nexts_are_safe : NextsAreSafe
nexts_are_safe p K us s t prog valid h = next_safe p (keeps_kinds p.source valid) us prog valid t.rest.ahead t.rest.code h.store h.term.operands h.term.rest h.term.still h.term.around

pub reductions_are_safe : ReductionsAreSafe
reductions_are_safe p K us s t prog valid h = limited_safe p.source us _ (nexts_are_safe p K us s t prog valid h)
