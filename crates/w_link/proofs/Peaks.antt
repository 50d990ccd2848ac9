-- Code with addresses in the place of its indices has as many operands and labels as the file's.
use Rattle.std.proofs.Common.{◌≡◌, ℕ, suc, ◌+◌, ◌-◌, Bool, List, [], ◌∷◌, ◌++◌, map, length, Option, Some, None, slice_get, refl, sym, ap, ◌∙◌}
use Rattle.std.specs.Prelude.{max, option_map}
use Rattle.std.proofs.lemmas.List.{length-map}
use Rattle.w_types.specs.declared.types.FuncType.{FuncType}
use Rattle.w_types.specs.declared.types.RecGroup.{RecGroup}
use Rattle.w_types.specs.declared.types.ValType.{ValType}
use Rattle.lists.specs.Rows.{Row, ε, ◌▹◌, size, row_of}
use Rattle.w_syntax.specs.Code.{Code, Done, Plain, Block, If, IfElse}
use Rattle.w_syntax.specs.declared.instructions.Clause.{Clause}
use Rattle.w_syntax.specs.declared.instructions.Clause.TheVariants as clause
use Rattle.w_syntax.specs.declared.instructions.Op.{Op}
use Rattle.w_syntax.specs.declared.locals.LocalRun.{LocalRun}
use Rattle.w_syntax.specs.declared.instructions.Op.TheVariants as op
use Rattle.w_syntax.specs.declared.instructions.SwitchingOp.{SwitchingOp}
use Rattle.w_syntax.specs.declared.instructions.SwitchingOp.TheVariants as switching
use Rattle.w_rules.specs.Conditions.{Condition}
use Rattle.w_rules.specs.Context.{Context, Arrow, arrow_of, label_of, labelled, cont_of}
use Rattle.w_rules.specs.InstructionTypes.{InstrType, fixed, polymorphic, table_polymorphic, drops, selects, tests_null, as_non_null, on_null, untyped, instr_type, sets}
use Rattle.w_rules.specs.Matching.{known}
use Rattle.w_rules.specs.Operands.{Operand}
use Rattle.w_rules.specs.Peak.{net, moved, past_net, past_arrow, label_top, clause_tops, resume_tops, extra, peak, depth}
use Rattle.w_rules.specs.Typing.{HasInstrType, Derives}
use Rattle.w_rules.specs.Bodies.{types_of_runs, set_first, BodyTyped}
use Rattle.w_rules.specs.Spaces.{in_body}
use Rattle.w_rules.proofs.Preorder.{row_size}
use Rattle.w_link.proofs.Rows.{size_known}
use Rattle.w_link.specs.Shifted.{type_shifted, types_shifted, row_shifted, rows_shifted}
use Rattle.w_link.specs.Resolved.{Instance, run_shifted, clause_resolved, op_resolved, code_resolved}
use Rattle.w_link.specs.Fits.{Fits}
use Rattle.w_link.specs.Fine.{Fine, same, below, below_any, nothing, instr_shifted}
use Rattle.w_link.proofs.FineInstructions.{label_there, cont_there, fine_instruction}
use Rattle.w_link.proofs.Conditions.{of_some}
use Rattle.w_link.proofs.ShiftedRows.{instr_carried}
use Rattle.w_link.proofs.Carried.{arrow_shifted, label_shifted, arrow_there, fits_labelled, sets_resolved, set_first_shifted, body_fits}

-- ## Operands that an instruction takes and gives

size_shifted : (n : ℕ) (ts : Row ValType) → size (row_shifted n ts) ≡ size ts
size_shifted n ε = refl
size_shifted n (ts ▹ t) = ap suc (size_shifted n ts)

net_shifted : (n : ℕ) (l : InstrType) → net (instr_shifted n l) ≡ net l
net_shifted n (fixed ins outs) = rw (size_shifted n ins, size_shifted n outs) refl
net_shifted n (polymorphic ins) = refl
net_shifted n (table_polymorphic one others) = refl
net_shifted n drops = refl
net_shifted n selects = refl
net_shifted n tests_null = refl
net_shifted n as_non_null = refl
net_shifted n (on_null us) = rw (size_shifted n us) refl
net_shifted n untyped = refl

fine_net : (gs : List RecGroup) {l m : InstrType} (ts us : Row Operand) → Fine gs l m → HasInstrType gs l ts us → net m ≡ net l
fine_net gs ts us same h = refl
fine_net gs ts us (below {ins} {outs} {more} {less} p q) h =
    let a : size more ≡ size ins = sym (size_known more) ∙ sym (row_size gs (known ins) (known more) p) ∙ size_known ins in
    let b : size less ≡ size outs = sym (size_known less) ∙ row_size gs (known less) (known outs) q ∙ size_known outs in
    rw (a, b) refl
fine_net gs ts us (below_any p) h = refl
fine_net gs ts us nothing h = absurd h

-- ## What a resume adds

top_shifted : (n h : ℕ) (o : Option (Row ValType)) → label_top h (option_map (row_shifted n) o) ≡ label_top h o
top_shifted n h (Some us) = ap (λ (k : ℕ). h + k) (size_shifted n us)
top_shifted n h None = refl

tops_resolved : (i : Instance) (ls : List (Row ValType)) (h : ℕ) (hs : List Clause) → clause_tops (rows_shifted i.types ls) h (map (clause_resolved i) hs) ≡ clause_tops ls h hs
tops_resolved i ls h [] = refl
tops_resolved i ls h (clause.Label e l ∷ hs) = rw (label_there i.types ls l, top_shifted i.types h (slice_get ls l), tops_resolved i ls h hs) refl
tops_resolved i ls h (clause.Switch e ∷ hs) = tops_resolved i ls h hs

module _ (i : Instance) (c d : Context) (fits : Fits i c d) where
  resume_same : (x h : ℕ) (hs : List Clause) (t : FuncType) → cont_of c x ≡ Some t
      → resume_tops d.labels h (map (clause_resolved i) hs) (cont_of d (i.types + x)) ≡ resume_tops c.labels h hs (cont_of c x)
  resume_same x h hs t is =
      rw (cont_there i c d fits x t is, is, length-map t.params (type_shifted i.types), fits.labels) (tops_resolved i c.labels (h - (length t.params + 1)) hs)

  switching_same : (o : SwitchingOp) (h : ℕ) → Condition c (op.Switching o) → extra d (op_resolved i (op.Switching o)) h ≡ extra c (op.Switching o) h
  switching_same (switching.Resume x hs) h p = of_some (cont_of c x) _ _ p (λ t is k. resume_same x h hs t is)
  switching_same (switching.ContNew x) h p = refl
  switching_same (switching.ContBind x y) h p = refl
  switching_same (switching.Suspend e) h p = refl
  switching_same (switching.Switch x e) h p = refl

  extra_same : (o : Op) (h : ℕ) → Condition c o → extra d (op_resolved i o) h ≡ extra c o h
  extra_same (op.Switching o) h p = switching_same o h p
  extra_same (op.Control o) h p = refl
  extra_same (op.Parametric o) h p = refl
  extra_same (op.Variable o) h p = refl
  extra_same (op.Table o) h p = refl
  extra_same (op.Memory o) h p = refl
  extra_same (op.Numeric o) h p = refl
  extra_same (op.Reference o) h p = refl

  net_same : (s : List Bool) (o : Op) (ts us : Row Operand) → HasInstrType c.types (instr_type c s o) ts us → net (instr_type d s (op_resolved i o)) ≡ net (instr_type c s o)
  net_same s o ts us h =
      fine_net d.types _ _ (fine_instruction i c d fits s o) (instr_carried i.types c.types d.types fits.types (instr_type c s o) ts us h) ∙ net_shifted i.types (instr_type c s o)

-- ## Peaks

past_same : (n : Option (ℕ × ℕ)) (h : ℕ) (f g : ℕ → ℕ) → ((x : ℕ) → f x ≡ g x) → past_net n h f ≡ past_net n h g
past_same None h f g e = refl
past_same (Some n) h f g e = e (moved h n)

arrow_past : (n : ℕ) (a : Arrow) (h : ℕ) → past_arrow (arrow_shifted n a) h ≡ past_arrow a h
arrow_past n a h = rw (size_shifted n a.from, size_shifted n a.to) refl

-- the greatest number of operands is the same
pub peak_same : (i : Instance) (c d : Context) → Fits i c d → (s : List Bool) (k : Code) (ts us : Row Operand) → Derives c s k ts us → (h : ℕ)
    → peak d s (code_resolved i k) h ≡ peak c s k h
peak_same i c d f s Done ts us p h = refl
peak_same i c d f s (Plain o k) ts us (p, (vs, t, q)) h =
    let rest : (x : ℕ) → peak d (sets (op_resolved i o) s) (code_resolved i k) x ≡ peak c (sets o s) k x = λ x.
    ap (λ (z : List Bool). peak d z (code_resolved i k) x) (sets_resolved i o s) ∙ peak_same i c d f (sets o s) k vs us q x in
    rw (extra_same i c d f o h p, net_same i c d f s o ts vs t) (ap (max (max h (extra c o h))) (past_same (net (instr_type c s o)) h _ _ rest))
peak_same i c d f s (Block kind x b k) ts us p h = of_some (arrow_of c x) _ _ p (λ a e q.
    let n = i.types in
    let l = label_of kind a in
    let m = label_of kind (arrow_shifted n a) in
    let inner = peak_same i (labelled c l) (labelled d m) (fits_labelled i c d f l m (label_shifted n kind a)) s b (known a.from) (known a.to) q.0 h in
    let behind = ap (peak d s (code_resolved i k)) (arrow_past n a h) ∙ peak_same i c d f s k q.1.0 us q.1.2 (past_arrow a h) in
    rw (arrow_there i c d f x a e, e) (ap (max h) (ap (λ (z : ℕ). max z (peak d s (code_resolved i k) (past_arrow (arrow_shifted n a) h))) inner ∙ ap (max (peak (labelled c l) s b h)) behind)))
peak_same i c d f s (If x b k) ts us p h = of_some (arrow_of c x) _ _ p (λ a e q.
    let n = i.types in
    let inner = peak_same i (labelled c a.to) (labelled d (row_shifted n a.to)) (fits_labelled i c d f a.to (row_shifted n a.to) refl) s b (known a.from) (known a.to) q.1 (h - 1) in
    let behind = ap (peak d s (code_resolved i k)) (arrow_past n a (h - 1)) ∙ peak_same i c d f s k q.2.0 us q.2.2 (past_arrow a (h - 1)) in
    rw (arrow_there i c d f x a e, e)
    (ap (max h) (ap (λ (z : ℕ). max z (peak d s (code_resolved i k) (past_arrow (arrow_shifted n a) (h - 1)))) inner ∙ ap (max (peak (labelled c a.to) s b (h - 1))) behind)))
peak_same i c d f s (IfElse x b y k) ts us p h = of_some (arrow_of c x) _ _ p (λ a e q.
    let n = i.types in
    let g = fits_labelled i c d f a.to (row_shifted n a.to) refl in
    let first = peak_same i (labelled c a.to) (labelled d (row_shifted n a.to)) g s b (known a.from) (known a.to) q.0 (h - 1) in
    let second = peak_same i (labelled c a.to) (labelled d (row_shifted n a.to)) g s y (known a.from) (known a.to) q.1 (h - 1) in
    let behind = ap (peak d s (code_resolved i k)) (arrow_past n a (h - 1)) ∙ peak_same i c d f s k q.2.0 us q.2.2 (past_arrow a (h - 1)) in
    let both = ap (λ (z : ℕ). max z (peak (labelled d (row_shifted n a.to)) s (code_resolved i y) (h - 1))) first ∙ ap (max (peak (labelled c a.to) s b (h - 1))) second in
    rw (arrow_there i c d f x a e, e)
    (ap (max h) (ap (λ (z : ℕ). max z (peak d s (code_resolved i k) (past_arrow (arrow_shifted n a) (h - 1)))) both
    ∙ ap (max (max (peak (labelled c a.to) s b (h - 1)) (peak (labelled c a.to) s y (h - 1)))) behind)))

-- so is the greatest number of labels
pub depth_same : (i : Instance) (k : Code) → depth (code_resolved i k) ≡ depth k
depth_same i Done = refl
depth_same i (Plain o k) = depth_same i k
depth_same i (Block kind x b k) = rw (depth_same i b, depth_same i k) refl
depth_same i (If x b k) = rw (depth_same i b, depth_same i k) refl
depth_same i (IfElse x b y k) = rw (depth_same i b, depth_same i y, depth_same i k) refl

-- so the height of a body is the same
pub height_same : (i : Instance) (c d : Context) → Fits i c d → (ps : List ValType) (rs : List LocalRun) (us : List ValType) (k : Code) → BodyTyped c ps rs us k → (h : ℕ)
    → peak (in_body d (types_shifted i.types ps ++ types_of_runs (map (run_shifted i.types) rs)) (types_shifted i.types us))
    (set_first (types_shifted i.types ps) (map (run_shifted i.types) rs)) (code_resolved i k) h
    ≡ peak (in_body c (ps ++ types_of_runs rs) us) (set_first ps rs) k h
height_same i c d f ps rs us k typed h =
    let n = i.types in
    let inside = in_body d (types_shifted n ps ++ types_of_runs (map (run_shifted n) rs)) (types_shifted n us) in
    ap (λ (s : List Bool). peak inside s (code_resolved i k) h) (set_first_shifted n ps rs)
    ∙ peak_same i (in_body c (ps ++ types_of_runs rs) us) inside (body_fits i c d f ps rs us) (set_first ps rs) k ε (known (row_of us)) typed h
