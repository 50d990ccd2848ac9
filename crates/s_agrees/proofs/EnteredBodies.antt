-- Calls: from the arguments on the stack to the body of a function of the module, and to the computation that a handler's function resumes.
use Rattle.std.proofs.Common.{◌≡◌, ℕ, zero, suc, ◌+◌, ◌-◌, Bool, false, List, [], ◌∷◌, ◌++◌, map, length, Option, Some, inl, inr, refl, sym, ap, ◌∙◌, subst, arith, length-append}
use Rattle.std.specs.Prelude.{slice_get}
use Rattle.lists.specs.Rows.{Row, ε, ◌▹◌, ◌⧺◌, size, listed}
use Rattle.w_types.specs.declared.types.ValType.{ValType}
use Rattle.w_types.specs.declared.types.ValType.TheVariants.{I64}
use Rattle.w_tables.specs.declared.entries.FuncEntry.{FuncEntry}
use Rattle.w_tables.specs.declared.entries.FuncEntry.TheVariants.{Own}
use Rattle.w_syntax.specs.Code.{Code, Done, Plain, Block}
use Rattle.w_syntax.specs.declared.instructions.BlockKind.TheVariants as kind
use Rattle.w_syntax.specs.declared.instructions.BlockType.TheVariants as block_type
use Rattle.w_syntax.specs.declared.locals.LocalRun.{LocalRun}
use Rattle.w_syntax.specs.declared.module.Func.{Func as Body}
use Rattle.w_reduce.specs.Calls.{defaults, invoke}
use Rattle.w_reduce.specs.Values.{Val, Cont}
use Rattle.w_reduce.specs.Store.{Store, without_cont}
use Rattle.w_reduce.specs.Terms.{Rest, rest_of, Label, Frame, Handle, Context, Term, Continuation}
use Rattle.w_reduce.specs.Program.{Arity, arity_of, function_arity}
use Rattle.w_reduce.specs.Reduced.{Went, steps_to}
use Rattle.s_syntax.specs.declared.name.Name.{Name}
use Rattle.s_syntax.specs.declared.script.Clause.{Clause}
use Rattle.s_syntax.specs.declared.script.Handler.{Handler}
use Rattle.s_syntax.specs.declared.script.Declaration.{Declaration}
use Rattle.s_syntax.specs.declared.script.Script.{Script}
use Rattle.s_check.specs.Definitions.{handler_of}
use Rattle.s_index.specs.Indices.{clause_type_index}
use Rattle.s_index.specs.Types.{computation_type, resumption_type, to_continuation, numbers}
use Rattle.s_code.specs.Handlers.{Placed, blocks, clause_code, labels, return_code, handling}
use Rattle.s_code.specs.Instructions.{resume}
use Rattle.s_code.specs.Lowered.{lowered}
use Rattle.s_code.specs.Places.{return_layout, placed_clauses}
use Rattle.s_meaning.specs.Terms.{Value, Variable}
use Rattle.s_meaning.specs.Terms as script
use Rattle.s_valid.specs.Beginning.{first_store}
use Rattle.s_valid.specs.Offers.{arrow}
use Rattle.s_valid.proofs.ModuleOffers.{offers_all}
use Rattle.s_valid.proofs.FirstStores.{Stored}
use Rattle.s_meaning.proofs.Lists.{get_before, get_last}
use Rattle.s_agrees.proofs.ScriptRows.{Values, many, listed_more, listed_many}
use Rattle.s_agrees.proofs.StandsFor.{config, Same, Sames, none, more, Locals, Held, clause_labels, handler_place, loop_code, in_loop}
use Rattle.s_agrees.proofs.Contexts.{clauses_locals}
use Rattle.s_agrees.proofs.StoresGrow.{old_or_new}
use Rattle.s_agrees.proofs.CutContexts.{clauses_of, clauses_placed}
use Rattle.s_agrees.proofs.CountedContexts.{clauses_frames, clauses_handles}
use Rattle.s_agrees.proofs.Paths.{program_of, step, Caps, Under, Path, stay, go, path_on, takes, get_path}

-- ## Rows and lists

pub sames_many : {ρ : List ℕ} {vs : Values} {ws : Row Val} → Sames ρ vs ws → many vs ≡ size ws
sames_many none = refl
sames_many (more s h) = ap suc (sames_many s)

pub listed_size : (ws : Row Val) → length (listed ws) ≡ size ws
listed_size ε = refl
listed_size (ws ▹ w) = let e = listed_size ws in let f = length-append (listed ws) (w ∷ []) in omega (arith, e, f)

-- ## The locals of a function that is entered

abbrev pub first_locals : Row Val → List LocalRun → Locals
first_locals ws locals = map (λ (v : Val). Some v) (listed ws) ++ defaults locals

pub many_locals : (ws : Row Val) (locals : List LocalRun) → length (first_locals ws locals) ≡ size ws + length (defaults locals)
many_locals ws locals =
    let e = length-append (map (λ (v : Val). Some v) (listed ws)) (defaults locals) in let f = mapped (listed ws) in let g = listed_size ws in omega (arith, e, f, g)
  where
    mapped : (vs : List Val) → length (map (λ (v : Val). Some v) vs) ≡ length vs
    mapped [] = refl
    mapped (v ∷ vs) = ap suc (mapped vs)

-- an argument
pub get_mapped : (vs : List Val) (rest : Locals) (i : ℕ) (v : Val) → slice_get vs i ≡ Some v → slice_get (map (λ (v : Val). Some v) vs ++ rest) i ≡ Some (Some v)
get_mapped [] rest i v e = absurd (cc)
get_mapped (u ∷ vs) rest zero v e = let same : u ≡ v = cc in ap (λ (w : Val). Some (Some w)) same
get_mapped (u ∷ vs) rest (suc i) v e = get_mapped vs rest i v e

-- a value of a row, by its place
pub value_at : {ρ : List ℕ} {vs : Values} {ws : Row Val} → Sames ρ vs ws → (i : ℕ) (u : Value) → slice_get (script.listed vs) i ≡ Some u → (w : Val) × (slice_get (listed ws) i ≡ Some w) × Same ρ u w
value_at none i u e = absurd (cc)
value_at {ρ} (more {vs = vs} {ws = ws} {v = v} {w = w} s h) i u e =
    elim (old_or_new (script.listed vs) v i u (ap (λ (l : List Value). slice_get l i) (sym (listed_more vs v)) ∙ e)) [
      | inl q ↦ let r = value_at s i u q in (r.0, get_before (listed ws) (w ∷ []) i r.0 r.1, r.2)
      | inr q ↦
          let same : i ≡ length (listed ws) = let a = sames_many s in let b = listed_many vs in let c = listed_size ws in let d = q.0 in omega (arith, a, b, c, d) in
          (w, ap (λ (j : ℕ). slice_get (listed ws ++ w ∷ []) j) same ∙ get_last (listed ws) w, subst (λ (z : Value). Same ρ z w) (sym q.1) h)
    ]

-- arguments are the first locals
pub held_first : {ρ : List ℕ} {vs : Values} {ws : Row Val} (locals : List LocalRun) → Sames ρ vs ws → Held ρ (first_locals ws locals) (script.listed vs)
held_first {ws = ws} locals s = record {
  each = λ i u e. let r = value_at s i u e in record { value = r.0; is = get_mapped (listed ws) (defaults locals) i r.0 r.1; same = r.2 };
}

-- ## A call, and an invoke, to the frame

abbrev pub entered : ℕ → Row Val → Row Val → List LocalRun → Rest → Context → Context
entered place below ws locals rest e = Label ε 1 Done Done ∷ Frame below 1 place (first_locals ws locals) rest ∷ e

pub invoke_step : (p : Script) (matches : ℕ → ℕ → Bool) (s : Store) (e : Context) (ops ws : Row Val) (rest : Rest) (a : ℕ) (ts : List ValType) (b : Body)
    → s.functions ≡ (first_store p.declarations).functions → Stored p.declarations a (arrow ts (I64 ∷ [])) b → length ts ≡ size ws
    → invoke (program_of p matches) s e (ops ⧺ ws) a rest ≡ steps_to s (entered (a - 1) ops ws b.locals rest e) ε (rest_of b.body)
invoke_step p matches s e ops ws rest a ts b functions there enough =
    let entry : slice_get s.functions a ≡ Some (Own there.place) = ap (λ (l : List FuncEntry). slice_get l a) functions ∙ there.entry in
    let place : there.place ≡ a - 1 = let behind = there.behind in omega (arith, behind) in
    subst (λ (k : ℕ). invoke (program_of p matches) s e (ops ⧺ ws) a rest ≡ steps_to s (entered k ops ws b.locals rest e) ε (rest_of b.body)) place
    (rw (entry, there.type, there.code)
    (takes (length ts) ops ws (λ q. steps_to s (Label ε 1 Done Done ∷ Frame q.0 1 there.place (map (λ (v : Val). Some v) (listed q.1) ++ defaults b.locals) rest ∷ e) ε (rest_of b.body)) enough))

-- ## A handler's function, from its loop to the computation that it resumes

-- what a clause's block gives
pub clause_arity : (p : Script) (h : Name) (i : Handler) (n : ℕ) (c : Clause) → handler_of p.declarations h ≡ Some i → slice_get i.clauses n ≡ Some c
    → arity_of (lowered p) (block_type.Index (clause_type_index p.declarations (length c.arguments))) ≡ Some (record { params = 0; results = suc (length c.arguments) })
clause_arity p h i n c is at =
    let o = (offers_all p.declarations).clause h i n c is at in
    ap function_arity o ∙ ap (λ (k : ℕ). let a : Option Arity = Some (record { params = 0; results = k }) in a) (many_results (length c.arguments))
  where
    many_numbers : (k : ℕ) → length (numbers k) ≡ k
    many_numbers zero = refl
    many_numbers (suc k) = ap suc (many_numbers k)

    many_results : (k : ℕ) → length (numbers k ++ to_continuation false resumption_type ∷ []) ≡ suc k
    many_results k = let e = length-append (numbers k) (to_continuation false resumption_type ∷ []) in let f = many_numbers k in omega (arith, e, f)

-- each of these is a clause of the handler
abbrev pub AllAre : Handler → List Placed → Type 0
AllAre i ps = (j : ℕ) (q : Placed) → slice_get ps j ≡ Some q → (n : ℕ) × (slice_get i.clauses n ≡ Some q.clause)

get_clause : (ps : List Placed) (j : ℕ) (q : Placed) → slice_get ps j ≡ Some q → slice_get (clauses_of ps) j ≡ Some q.clause
get_clause [] j q e = absurd (cc)
get_clause (r ∷ ps) zero q e = let is : r ≡ q = cc in ap (λ (z : Placed). Some z.clause) is
get_clause (r ∷ ps) (suc j) q e = get_clause ps j q e

pub all_placed : (ds : List Declaration) (h : Name) (i : Handler) → AllAre i (placed_clauses ds h i)
all_placed ds h i = λ j q at. (j, ap (λ (z : List Clause). slice_get z j) (sym (clauses_placed ds h i)) ∙ get_clause (placed_clauses ds h i) j q at)

pub many_placed : (ds : List Declaration) (h : Name) (i : Handler) → length (placed_clauses ds h i) ≡ length i.clauses
many_placed ds h i = sym (mapped (placed_clauses ds h i)) ∙ ap (λ (z : List Clause). length z) (clauses_placed ds h i)
  where
    mapped : (ps : List Placed) → length (clauses_of ps) ≡ length ps
    mapped [] = refl
    mapped (q ∷ ps) = ap suc (mapped ps)

under_clauses : {k : Caps} {s : Store} {e : Context} (ds : List Declaration) (ps : List Placed) → Under k s e → Under k s (clause_labels ds ps e)
under_clauses {e = e} ds ps u =
    let a = clauses_frames ds ps e in let b = clauses_handles ds ps e in let c = u.frames in let d = u.handles in record {
      frames = omega (arith, a, c);
      handles = omega (arith, b, d);
      conts = u.conts;
    }

-- the blocks of clauses are entered
pub block_path : (p : Script) (matches : ℕ → ℕ → Bool) (h : Name) (i : Handler) → handler_of p.declarations h ≡ Some i → {k : Caps} {s : Store} {e : Context} (ps : List Placed) (c : Code)
    → AllAre i ps → Under k s e
    → Path (program_of p matches) k (length ps) s (config e ε (blocks p.declarations ps c)) s (config (clause_labels p.declarations ps e) ε c)
block_path p matches h i is [] c all u = stay
block_path p matches h i is {k} {s} {e} (q ∷ ps) c all u =
    let ds = p.declarations in
    let first = all 0 q refl in
    let b = block_type.Index (clause_type_index ds (length q.clause.arguments)) in
    let later : AllAre i ps = λ j r at. all (suc j) r at in
    let before = block_path p matches h i is {k = k} {s = s} {e = e} ps (Block kind.Block b c (clause_code ds (length ps) q)) later u in
    let one : step (program_of p matches) s (config (clause_labels ds ps e) ε (Block kind.Block b c (clause_code ds (length ps) q))) ≡ Went [] s (config (clause_labels ds (q ∷ ps) e) ε c) =
    rw (clause_arity p h i first.0 q.clause is first.1) refl in
    subst (λ (j : ℕ). Path (program_of p matches) k j s (config e ε (blocks ds (q ∷ ps) c)) s (config (clause_labels ds (q ∷ ps) e) ε c))
    (let z : length ps + 1 ≡ suc (length ps) = omega arith in z)
    (path_on before (go one (under_clauses ds (q ∷ ps) u) stay))

-- the loop of a handler's function, and the resume of what it handles
pub enter_path : (p : Script) (matches : ℕ → ℕ → Bool) (h : Name) (i : Handler) → handler_of p.declarations h ≡ Some i
    → {k : Caps} {s : Store} {e : Context} {below : Row Val} {c : Code} {L : Locals} (b : ℕ) (kept : Continuation)
    → slice_get L (length i.parameters) ≡ Some (Some (Cont b)) → slice_get s.conts b ≡ Some (Some kept) → kept.takes ≡ 0
    → Under k s (Frame below 1 (handler_place p.declarations h) L (rest_of c) ∷ e)
    → Under k (without_cont b s) (kept.term.around ++ Handle ε (labels p.declarations 0 i.clauses) (return_code p.declarations (return_layout p.declarations h i) (length i.clauses) i)
    ∷ clause_labels p.declarations (placed_clauses p.declarations h i) (in_loop p.declarations h i L below c e))
    → Path (program_of p matches) k (3 + length i.clauses) s (config (Label ε 1 Done Done ∷ Frame below 1 (handler_place p.declarations h) L (rest_of c) ∷ e) ε (loop_code p.declarations h i))
    (without_cont b s) (record {
      around = kept.term.around ++ Handle ε (labels p.declarations 0 i.clauses) (return_code p.declarations (return_layout p.declarations h i) (length i.clauses) i)
          ∷ clause_labels p.declarations (placed_clauses p.declarations h i) (in_loop p.declarations h i L below c e);
      operands = kept.term.operands;
      rest = kept.term.rest;
    })
enter_path p matches h i is {k} {s} {e} {below} {c} {L} b kept local there nothing u v =
    let ds = p.declarations in
    let ps = placed_clauses ds h i in
    let inside : Under k s (in_loop ds h i L below c e) = record { frames = u.frames; handles = u.handles; conts = u.conts } in
    let end : Term = record {
      around = kept.term.around ++ Handle ε (labels ds 0 i.clauses) (return_code ds (return_layout ds h i) (length i.clauses) i) ∷ clause_labels ds ps (in_loop ds h i L below c e);
      operands = kept.term.operands;
      rest = kept.term.rest;
    } in
    let resumed : step (program_of p matches) s (config (clause_labels ds ps (in_loop ds h i L below c e)) (ε ▹ Cont b)
    (Plain (resume computation_type (labels ds 0 i.clauses)) (return_code ds (return_layout ds h i) (length i.clauses) i))) ≡ Went [] (without_cont b s) end = rw (there, nothing) refl in
    let entered_all = block_path p matches h i is {k = k} {s = s} {e = in_loop ds h i L below c e} ps (handling ds (return_layout ds h i) i) (all_placed ds h i) inside in
    let got : Path (program_of p matches) k 2 s (config (clause_labels ds ps (in_loop ds h i L below c e)) ε (handling ds (return_layout ds h i) i)) (without_cont b s) end =
    get_path {L = L} (length i.parameters) (Cont b) (clauses_locals ds ps (in_loop ds h i L below c e)) local (under_clauses ds ps inside) (go resumed v stay) in
    subst (λ (j : ℕ). Path (program_of p matches) k j s (config (Label ε 1 Done Done ∷ Frame below 1 (handler_place ds h) L (rest_of c) ∷ e) ε (loop_code ds h i)) (without_cont b s) end)
    (let m = many_placed ds h i in let z : suc (length ps + 2) ≡ 3 + length i.clauses = omega (arith, m) in z)
    (go refl inside (path_on entered_all got))
