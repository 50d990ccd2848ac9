-- Code that is typed in a file is typed among all, with addresses in the place of its indices.
use Rattle.std.proofs.Common.{◌≡◌, ℕ, zero, suc, ◌+◌, Bool, true, false, List, [], ◌∷◌, ◌++◌, map, replicate, cond, Option, Some, None, refl, sym, ap, subst, subst₂, ◌∙◌}
use Rattle.std.proofs.lemmas.List.{map-append}
use Rattle.w_types.specs.declared.types.FuncType.{FuncType}
use Rattle.w_types.specs.declared.types.ValType.{ValType}
use Rattle.w_types.specs.declared.types.ValType.TheVariants as val
use Rattle.lists.specs.Rows.{Row, ε, ◌▹◌, row_of}
use Rattle.w_syntax.specs.Code.{Code, Done, Plain, Block, If, IfElse}
use Rattle.w_syntax.specs.declared.instructions.BlockKind.{BlockKind}
use Rattle.w_syntax.specs.declared.instructions.BlockKind.TheVariants as kind
use Rattle.w_syntax.specs.declared.instructions.BlockType.{BlockType}
use Rattle.w_syntax.specs.declared.instructions.BlockType.TheVariants as blocktype
use Rattle.w_syntax.specs.declared.instructions.Op.{Op}
use Rattle.w_syntax.specs.declared.instructions.Op.TheVariants as op
use Rattle.w_syntax.specs.declared.instructions.VariableOp.{VariableOp}
use Rattle.w_syntax.specs.declared.instructions.VariableOp.TheVariants as variable
use Rattle.w_syntax.specs.declared.locals.LocalRun.{LocalRun}
use Rattle.w_canon.specs.Supertypes.{KeepsKinds}
use Rattle.w_rules.specs.Bodies.{types_of_runs, has_default, set_first, BodyTyped}
use Rattle.w_rules.specs.Context.{Context, Arrow, arrow_of_type, arrow_at, arrow_of, label_of, labelled, type_count, func_of}
use Rattle.w_rules.specs.InstructionTypes.{instr_type, sets, sets_local}
use Rattle.w_rules.specs.Matching.{RowMatches, known}
use Rattle.w_rules.specs.Operands.{Operand}
use Rattle.w_rules.specs.Operands.{Known}
use Rattle.w_rules.specs.Spaces.{in_body}
use Rattle.w_rules.specs.Types.{has_type}
use Rattle.w_rules.specs.Typing.{HasType, Derives}
use Rattle.w_link.specs.Shifted.{type_shifted, types_shifted, func_shifted, row_shifted, operands_shifted}
use Rattle.w_link.specs.Resolved.{Instance, block_resolved, variable_resolved, op_resolved, code_resolved, run_shifted}
use Rattle.w_link.specs.Fits.{Fits}
use Rattle.w_link.proofs.ShiftedRows.{row_of_shifted, known_shifted, row_carried, has_carried, instr_carried}
use Rattle.w_link.proofs.FineTypes.{fine_has}
use Rattle.w_link.proofs.FineInstructions.{type_has, func_there, fine_instruction}
use Rattle.w_link.proofs.Conditions.{at_some, of_some, condition_holds}

-- ## Blocks

abbrev pub arrow_shifted : ℕ → Arrow → Arrow
arrow_shifted n a = record { from = row_shifted n a.from; to = row_shifted n a.to }

pub label_shifted : (n : ℕ) (k : BlockKind) (a : Arrow) → row_shifted n (label_of k a) ≡ label_of k (arrow_shifted n a)
label_shifted n kind.Block a = refl
label_shifted n kind.Loop a = refl

arrow_of_shifted : (n : ℕ) (t : FuncType) → arrow_of_type (func_shifted n t) ≡ arrow_shifted n (arrow_of_type t)
arrow_of_shifted n t =
    ap (λ (r : Row ValType). let a : Arrow = record { from = r; to = row_of (types_shifted n t.results) } in a) (sym (row_of_shifted n t.params))
    ∙ ap (λ (r : Row ValType). let a : Arrow = record { from = row_shifted n (row_of t.params); to = r } in a) (sym (row_of_shifted n t.results))

module _ (i : Instance) (c d : Context) (fits : Fits i c d) where
  by_test : (t : ValType) (b : Bool) (a : Arrow) → has_type (type_count c) t ≡ b → cond b (Some (record { from = ε; to = ε ▹ t })) None ≡ Some a
      → arrow_of d (blocktype.Value (type_shifted i.types t)) ≡ Some (arrow_shifted i.types a)
  by_test t true a is h =
      let e : ◌≡◌ {A = Arrow} (record { from = ε; to = ε ▹ t }) a = cc in
      rw (type_has i c d fits t is) (ap (λ (b : Arrow). Some (arrow_shifted i.types b)) e)
  by_test t false a is h = absurd (cc)

  by_index : (x : ℕ) (o : Option FuncType) (a : Arrow) → func_of c x ≡ o → arrow_at o ≡ Some a → arrow_of d (blocktype.Index (i.types + x)) ≡ Some (arrow_shifted i.types a)
  by_index x None a is h = absurd (cc)
  by_index x (Some t) a is h =
      let e : arrow_of_type t ≡ a = cc in
      ap arrow_at (func_there i c d fits x t is) ∙ ap (λ (b : Arrow). Some b) (arrow_of_shifted i.types t) ∙ ap (λ (b : Arrow). Some (arrow_shifted i.types b)) e

  pub arrow_there : (x : BlockType) (a : Arrow) → arrow_of c x ≡ Some a → arrow_of d (block_resolved i.types x) ≡ Some (arrow_shifted i.types a)
  arrow_there blocktype.Empty a h = let e : ◌≡◌ {A = Arrow} (record { from = ε; to = ε }) a = cc in ap (λ (b : Arrow). Some (arrow_shifted i.types b)) e
  arrow_there (blocktype.Value t) a h = by_test t (has_type (type_count c) t) a refl h
  arrow_there (blocktype.Index x) a h = by_index x (func_of c x) a refl h

  -- a label more
  pub fits_labelled : (us vs : Row ValType) → row_shifted i.types us ≡ vs → Fits i (labelled c us) (labelled d vs)
  fits_labelled us vs e = record {
    types = fits.types;
    functions = fits.functions;
    tables = fits.tables;
    memories = fits.memories;
    globals = fits.globals;
    tags = fits.tags;
    elements = fits.elements;
    datas = fits.datas;
    declared = fits.declared;
    locals = fits.locals;
    results = fits.results;
    labels = ap (λ (ls : List (Row ValType)). vs ∷ ls) fits.labels ∙ ap (λ (r : Row ValType). r ∷ map (row_shifted i.types) c.labels) (sym e);
  }

-- ## Locals

sets_local_resolved : (i : Instance) (o : VariableOp) (s : List Bool) → sets_local (variable_resolved i o) s ≡ sets_local o s
sets_local_resolved i (variable.LocalSet x) s = refl
sets_local_resolved i (variable.LocalTee x) s = refl
sets_local_resolved i (variable.LocalGet x) s = refl
sets_local_resolved i (variable.GlobalGet x) s = refl
sets_local_resolved i (variable.GlobalSet x) s = refl

pub sets_resolved : (i : Instance) (o : Op) (s : List Bool) → sets (op_resolved i o) s ≡ sets o s
sets_resolved i (op.Control o) s = refl
sets_resolved i (op.Parametric o) s = refl
sets_resolved i (op.Variable o) s = sets_local_resolved i o s
sets_resolved i (op.Table o) s = refl
sets_resolved i (op.Memory o) s = refl
sets_resolved i (op.Numeric o) s = refl
sets_resolved i (op.Reference o) s = refl
sets_resolved i (op.Switching o) s = refl

-- ## Sequences

-- what the rules ask of a block's arrow, of that of an if without a second branch, and of that of one with both
abbrev BlockTyped : Context → List Bool → BlockKind → Code → Code → Row Operand → Row Operand → Arrow → Type 0
BlockTyped c s kind b k ts us a =
    Derives (labelled c (label_of kind a)) s b (known a.from) (known a.to)
    × ((vs : Row Operand) × HasType c.types (known a.from) (known a.to) ts vs × Derives c s k vs us)

abbrev IfTyped : Context → List Bool → Code → Code → Row Operand → Row Operand → Arrow → Type 0
IfTyped c s b k ts us a =
    RowMatches c.types (known a.from) (known a.to)
    × Derives (labelled c a.to) s b (known a.from) (known a.to)
    × ((vs : Row Operand) × HasType c.types (known a.from ▹ Known val.I32) (known a.to) ts vs × Derives c s k vs us)

abbrev IfElseTyped : Context → List Bool → Code → Code → Code → Row Operand → Row Operand → Arrow → Type 0
IfElseTyped c s b l k ts us a =
    Derives (labelled c a.to) s b (known a.from) (known a.to)
    × Derives (labelled c a.to) s l (known a.from) (known a.to)
    × ((vs : Row Operand) × HasType c.types (known a.from ▹ Known val.I32) (known a.to) ts vs × Derives c s k vs us)

-- code that is typed in a file is typed among all
pub carried : (i : Instance) (c d : Context) → KeepsKinds d.types → Fits i c d → (s : List Bool) (k : Code) (ts us : Row Operand) → Derives c s k ts us
    → Derives d s (code_resolved i k) (operands_shifted i.types ts) (operands_shifted i.types us)
carried i c d keeps f s Done ts us h = row_carried i.types c.types d.types f.types h
carried i c d keeps f s (Plain o k) ts us (p, (vs, t, h)) =
    let n = i.types in
    let had = instr_carried n c.types d.types f.types (instr_type c s o) ts vs t in
    let rest = carried i c d keeps f (sets o s) k vs us h in (
      condition_holds i c d keeps f o p,
      (
        operands_shifted n vs,
        fine_has d.types keeps (operands_shifted n ts) (operands_shifted n vs) (fine_instruction i c d f s o) had,
        subst (λ (z : List Bool). Derives d z (code_resolved i k) (operands_shifted n vs) (operands_shifted n us)) (sym (sets_resolved i o s)) rest,
      ),
    )
carried i c d keeps f s (Block kind x b k) ts us h = of_some (arrow_of c x) (BlockTyped c s kind b k ts us) _ h (λ a e q.
    let n = i.types in
    let m = label_of kind (arrow_shifted n a) in
    let inner = carried i (labelled c (label_of kind a)) (labelled d m) keeps (fits_labelled i c d f (label_of kind a) m (label_shifted n kind a)) s b (known a.from) (known a.to) q.0 in
    at_some (arrow_of d (block_resolved n x)) (arrow_shifted n a) (BlockTyped d s kind (code_resolved i b) (code_resolved i k) (operands_shifted n ts) (operands_shifted n us))
    (arrow_there i c d f x a e) (
      subst₂ (λ (r v : Row Operand). Derives (labelled d m) s (code_resolved i b) r v) (known_shifted n a.from) (known_shifted n a.to) inner,
      (
        operands_shifted n q.1.0,
        subst₂ (λ (r v : Row Operand). HasType d.types r v (operands_shifted n ts) (operands_shifted n q.1.0)) (known_shifted n a.from) (known_shifted n a.to) (has_carried n c.types d.types f.types q.1.1),
        carried i c d keeps f s k q.1.0 us q.1.2,
      ),
    ))
carried i c d keeps f s (If x b k) ts us h = of_some (arrow_of c x) (IfTyped c s b k ts us) _ h (λ a e q.
    let n = i.types in
    let m = row_shifted n a.to in
    let inner = carried i (labelled c a.to) (labelled d m) keeps (fits_labelled i c d f a.to m refl) s b (known a.from) (known a.to) q.1 in
    at_some (arrow_of d (block_resolved n x)) (arrow_shifted n a) (IfTyped d s (code_resolved i b) (code_resolved i k) (operands_shifted n ts) (operands_shifted n us))
    (arrow_there i c d f x a e) (
      subst₂ (λ (r v : Row Operand). RowMatches d.types r v) (known_shifted n a.from) (known_shifted n a.to) (row_carried n c.types d.types f.types q.0),
      subst₂ (λ (r v : Row Operand). Derives (labelled d m) s (code_resolved i b) r v) (known_shifted n a.from) (known_shifted n a.to) inner,
      (
        operands_shifted n q.2.0,
        subst₂ (λ (r v : Row Operand). HasType d.types (r ▹ Known val.I32) v (operands_shifted n ts) (operands_shifted n q.2.0)) (known_shifted n a.from) (known_shifted n a.to) (has_carried n c.types d.types f.types q.2.1),
        carried i c d keeps f s k q.2.0 us q.2.2,
      ),
    ))
carried i c d keeps f s (IfElse x b l k) ts us h = of_some (arrow_of c x) (IfElseTyped c s b l k ts us) _ h (λ a e q.
    let n = i.types in
    let m = row_shifted n a.to in
    let g = fits_labelled i c d f a.to m refl in
    let first = carried i (labelled c a.to) (labelled d m) keeps g s b (known a.from) (known a.to) q.0 in
    let second = carried i (labelled c a.to) (labelled d m) keeps g s l (known a.from) (known a.to) q.1 in
    at_some (arrow_of d (block_resolved n x)) (arrow_shifted n a)
    (IfElseTyped d s (code_resolved i b) (code_resolved i l) (code_resolved i k) (operands_shifted n ts) (operands_shifted n us)) (arrow_there i c d f x a e) (
      subst₂ (λ (r v : Row Operand). Derives (labelled d m) s (code_resolved i b) r v) (known_shifted n a.from) (known_shifted n a.to) first,
      subst₂ (λ (r v : Row Operand). Derives (labelled d m) s (code_resolved i l) r v) (known_shifted n a.from) (known_shifted n a.to) second,
      (
        operands_shifted n q.2.0,
        subst₂ (λ (r v : Row Operand). HasType d.types (r ▹ Known val.I32) v (operands_shifted n ts) (operands_shifted n q.2.0)) (known_shifted n a.from) (known_shifted n a.to) (has_carried n c.types d.types f.types q.2.1),
        carried i c d keeps f s k q.2.0 us q.2.2,
      ),
    ))

-- ## Bodies

replicate_shifted : (n k : ℕ) (t : ValType) → replicate k (type_shifted n t) ≡ types_shifted n (replicate k t)
replicate_shifted n zero t = refl
replicate_shifted n (suc k) t = ap (λ (l : List ValType). type_shifted n t ∷ l) (replicate_shifted n k t)

runs_shifted : (n : ℕ) (rs : List LocalRun) → types_of_runs (map (run_shifted n) rs) ≡ types_shifted n (types_of_runs rs)
runs_shifted n [] = refl
runs_shifted n (r ∷ rs) =
    ap (λ (l : List ValType). replicate r.count (type_shifted n r.kind) ++ l) (runs_shifted n rs)
    ∙ ap (λ (l : List ValType). l ++ types_shifted n (types_of_runs rs)) (replicate_shifted n r.count r.kind)
    ∙ sym (map-append (type_shifted n) (replicate r.count r.kind) (types_of_runs rs))

defaults_shifted : (n : ℕ) (ts : List ValType) → map has_default (types_shifted n ts) ≡ map has_default ts
defaults_shifted n [] = refl
defaults_shifted n (val.I32 ∷ ts) = ap (λ (l : List Bool). true ∷ l) (defaults_shifted n ts)
defaults_shifted n (val.I64 ∷ ts) = ap (λ (l : List Bool). true ∷ l) (defaults_shifted n ts)
defaults_shifted n (val.Ref r ∷ ts) = ap (λ (l : List Bool). r.nullable ∷ l) (defaults_shifted n ts)

params_set : (n : ℕ) (ts : List ValType) → map (λ (t : ValType). true) (types_shifted n ts) ≡ map (λ (t : ValType). true) ts
params_set n [] = refl
params_set n (t ∷ ts) = ap (λ (l : List Bool). true ∷ l) (params_set n ts)

pub set_first_shifted : (n : ℕ) (ps : List ValType) (rs : List LocalRun) → set_first (types_shifted n ps) (map (run_shifted n) rs) ≡ set_first ps rs
set_first_shifted n ps rs =
    ap (λ (l : List Bool). l ++ map has_default (types_of_runs (map (run_shifted n) rs))) (params_set n ps)
    ∙ ap (λ (l : List ValType). map (λ (t : ValType). true) ps ++ map has_default l) (runs_shifted n rs)
    ∙ ap (λ (l : List Bool). map (λ (t : ValType). true) ps ++ l) (defaults_shifted n (types_of_runs rs))

-- what stands for what in a file does so in a body too
pub body_fits : (i : Instance) (c d : Context) → Fits i c d → (ps : List ValType) (rs : List LocalRun) (us : List ValType)
    → Fits i (in_body c (ps ++ types_of_runs rs) us) (in_body d (types_shifted i.types ps ++ types_of_runs (map (run_shifted i.types) rs)) (types_shifted i.types us))
body_fits i c d f ps rs us =
    let n = i.types in
    let row_is = row_of_shifted n us in
    record {
      types = f.types;
      functions = f.functions;
      tables = f.tables;
      memories = f.memories;
      globals = f.globals;
      tags = f.tags;
      elements = f.elements;
      datas = f.datas;
      declared = f.declared;
      locals = ap (λ (l : List ValType). types_shifted n ps ++ l) (runs_shifted n rs) ∙ sym (map-append (type_shifted n) ps (types_of_runs rs));
      results = sym row_is;
      labels = ap (λ (r : Row ValType). r ∷ []) (sym row_is);
    }

-- a body that is typed in a file is typed among all
pub body_carried : (i : Instance) (c d : Context) → KeepsKinds d.types → Fits i c d → (ps : List ValType) (rs : List LocalRun) (us : List ValType) (k : Code) → BodyTyped c ps rs us k
    → BodyTyped d (types_shifted i.types ps) (map (run_shifted i.types) rs) (types_shifted i.types us) (code_resolved i k)
body_carried i c d keeps f ps rs us k h =
    let n = i.types in
    let locals = types_shifted n ps ++ types_of_runs (map (run_shifted n) rs) in
    let inner = body_fits i c d f ps rs us in
    let done = carried i (in_body c (ps ++ types_of_runs rs) us) (in_body d locals (types_shifted n us)) keeps inner (set_first ps rs) k ε (known (row_of us)) h in
    let last : operands_shifted n (known (row_of us)) ≡ known (row_of (types_shifted n us)) = known_shifted n (row_of us) ∙ ap known (row_of_shifted n us) in
    subst₂ (λ (s : List Bool) (r : Row Operand). Derives (in_body d locals (types_shifted n us)) s (code_resolved i k) ε r) (sym (set_first_shifted n ps rs)) last done
