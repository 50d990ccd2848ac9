-- do: the context up to the innermost handle with a clause is captured, and the clause runs in place of the handle.
use Rattle.std.proofs.Common.{◌≡◌, ℕ, zero, suc, ◌+◌, ◌<◌, ◌≤◌, Bool, List, [], ◌∷◌, ◌++◌, length, Option, Some, None, option_map, refl, sym, ap, ◌∙◌, subst, arith, length-append}
use Rattle.std.specs.Prelude.{slice_get, slice_set}
use Rattle.std.proofs.lemmas.Option.{slice_get_within}
use Rattle.lists.specs.Rows.{Row, ε, ◌▹◌, ◌⧺◌, size, onto, listed as vals_listed}
use Rattle.w_types.specs.declared.types.FuncType.{FuncType}
use Rattle.w_types.specs.declared.types.ValType.TheVariants.{I64}
use Rattle.w_syntax.specs.Code.{Code, Done, Plain, after}
use Rattle.w_rules.specs.Context.{type_of_tag}
use Rattle.w_rules.specs.Spaces.{context_of}
use Rattle.w_reduce.specs.declared.trap.Trap.TheVariants as trap
use Rattle.w_reduce.specs.Values.{Val, Cont}
use Rattle.w_reduce.specs.Store.{Store, live, next_cont, with_cont}
use Rattle.w_reduce.specs.Terms.{rest_of, Branch, Label, Context, Term, Continuation, frames, handles, locals_of, with_local}
use Rattle.w_reduce.specs.Program.{Program}
use Rattle.w_reduce.specs.Reduced.{Went, Trapped, steps_to}
use Rattle.w_reduce.specs.Branches.{branch as branch_to}
use Rattle.w_reduce.specs.Switching.{continuation_at}
use Rattle.w_reduce.specs.Handlers.{Handler as Caught, label_clause, find as find_handle}
use Rattle.w_reduce.proofs.InnermostHandle.{finding, finding_none}
use Rattle.s_syntax.specs.declared.name.Name.{Name}
use Rattle.s_syntax.specs.declared.script.VariableType.TheVariants.{Int, Resumption}
use Rattle.s_syntax.specs.declared.script.Clause.{Clause}
use Rattle.s_syntax.specs.declared.script.Handler.{Handler}
use Rattle.s_syntax.specs.declared.script.Declaration.{Declaration}
use Rattle.s_syntax.specs.declared.script.Script.{Script}
use Rattle.s_check.specs.Definitions.{effect_of}
use Rattle.s_index.specs.Numbers.{tag_index}
use Rattle.s_index.specs.Types.{numbers}
use Rattle.s_code.specs.Instructions.{local_set, suspend}
use Rattle.s_code.specs.Layouts.{Layout, local_number, number_in}
use Rattle.s_code.specs.Handlers.{Placed, set_names, clause_code, labels as clause_answers, return_code}
use Rattle.s_code.specs.Places.{return_layout, placed_clauses}
use Rattle.s_code.specs.Statements.{body}
use Rattle.s_valid.specs.Offers.{arrow}
use Rattle.s_valid.proofs.ModuleOffers.{offers_all}
use Rattle.s_meaning.specs.Numbers.{Unhandled}
use Rattle.s_meaning.specs.Terms.{Value, Reference, listed, Variable, Doing, Work, Activation, captured}
use Rattle.s_meaning.specs.Terms as script
use Rattle.s_meaning.specs.Steps.{Step, or_wrong, or_fault, bind, number_parameters, Cut, cut_at, Found, catches, with_kept, next_address, enters, enters_clause, applies}
use Rattle.s_meaning.proofs.Lists.{get_last, length_set}
use Rattle.s_agrees.proofs.ScriptRows.{Values, many}
use Rattle.s_agrees.proofs.StandsFor.{config, reference, Sames, Locals, LocalIs, Held, Active, Works, clause_labels, in_loop, handler_high, handler_room, Base, clause, Waits, activation, runs, number_alone, Stores}
use Rattle.s_agrees.proofs.MoreResumptions.{grows_more, sames_grow, held_grows, get_set_same, get_set_other}
use Rattle.s_agrees.proofs.Contexts.{setting, clauses_beyond, clauses_locals, waits_grow}
use Rattle.s_agrees.proofs.CountedContexts.{labels, labels_plug, clauses_labels, clauses_frames, clauses_handles, live_more, stored_more, weight}
use Rattle.s_agrees.proofs.Paths.{program_of, step, Caps, Under, Path, stay, go, takes, set_step}
use Rattle.s_agrees.proofs.Matches.{caps_of, Matches, went, faulted}
use Rattle.s_agrees.proofs.Facts.{Names, ClauseFacts, Facts}
use Rattle.s_agrees.proofs.Tags.{effect_told}
use Rattle.s_agrees.proofs.BoundValues.{some_is, bind_known, HeldFrom, holds_bound, number_parameters_length, holds_names, holds_append, holds_one, AllSame, listed_same, all_long, all_get, listed_long, sames_size, onto_listed}
use Rattle.s_agrees.proofs.CutContexts.{pick, clauses_of, clauses_placed, placed_at, clauses_declared, CutAt, tail_of, cut, uncut}
use Rattle.s_agrees.proofs.Bodies.{rest_body}
use Rattle.s_agrees.proofs.StoresGrow.{stores_more}

-- ## Locals that are set one after another

-- a place before the end has an item
pub in_range : {A : Type 0} (xs : List A) (i : ℕ) → i < length xs → (x : A) × (slice_get xs i ≡ Some x)
in_range [] i lt = absurd (omega (arith, lt))
in_range (x ∷ xs) zero lt = (x, refl)
in_range (x ∷ xs) (suc i) lt = in_range xs i (omega (arith, lt))

-- the locals from `first` on, set to these values
abbrev pub set_from : Locals → ℕ → List Val → Locals
set_from L first [] = L
set_from L first (w ∷ ws) = slice_set (set_from L (first + 1) ws) first (Some w)

pub set_from_long : (L : Locals) (first : ℕ) (ws : List Val) → length (set_from L first ws) ≡ length L
set_from_long L first [] = refl
set_from_long L first (w ∷ ws) = length_set (set_from L (first + 1) ws) first (Some w) ∙ set_from_long L (first + 1) ws

pub set_from_below : (L : Locals) (first : ℕ) (ws : List Val) (y : ℕ) → y < first → slice_get (set_from L first ws) y ≡ slice_get L y
set_from_below L first [] y lt = refl
set_from_below L first (w ∷ ws) y lt =
    get_set_other (set_from L (first + 1) ws) first y (Some w) (λ (e : first ≡ y). omega (arith, lt, e)) ∙ set_from_below L (first + 1) ws y (omega (arith, lt))

pub set_from_above : (L : Locals) (first : ℕ) (ws : List Val) (y : ℕ) → first + length ws ≤ y → slice_get (set_from L first ws) y ≡ slice_get L y
set_from_above L first [] y le = refl
set_from_above L first (w ∷ ws) y le =
    get_set_other (set_from L (first + 1) ws) first y (Some w) (λ (e : first ≡ y). omega (arith, le, e)) ∙ set_from_above L (first + 1) ws y (omega (arith, le))

pub set_from_at : (L : Locals) (first : ℕ) (ws : List Val) (i : ℕ) (w : Val) → first + length ws ≤ length L → slice_get ws i ≡ Some w → slice_get (set_from L first ws) (first + i) ≡ Some (Some w)
set_from_at L first [] i w le e = absurd (cc)
set_from_at L first (x ∷ ws) zero w le e =
    let long = set_from_long L (first + 1) ws in
    let old = in_range (set_from L (first + 1) ws) first (omega (arith, le, long)) in
    let at : first + 0 ≡ first = omega arith in
    ap (λ (z : ℕ). slice_get (set_from L first (x ∷ ws)) z) at ∙ get_set_same (set_from L (first + 1) ws) first (Some x) old.0 old.1 ∙ ap (λ (z : Option Val). Some z) e
set_from_at L first (x ∷ ws) (suc i) w le e =
    let at : first + suc i ≡ first + 1 + i = omega arith in
    get_set_other (set_from L (first + 1) ws) first (first + suc i) (Some x) (λ (z : first ≡ first + suc i). omega (arith, z))
    ∙ ap (λ (z : ℕ). slice_get (set_from L (first + 1) ws) z) at ∙ set_from_at L (first + 1) ws i w (omega (arith, le)) e

pub held_from : {ρ : List ℕ} {vs : List Value} {ws : List Val} (L : Locals) (first : ℕ) → AllSame ρ vs ws → first + length ws ≤ length L → HeldFrom ρ (set_from L first ws) first vs
held_from {vs = vs} {ws = ws} L first a le = record {
  each = λ i v e. let q = all_get i v a e in record { value = q.0; is = set_from_at L first ws i q.0 le q.1; same = q.2 };
}

-- ## Locals that are set from the stack

-- a context in which the locals L stand
pub record Around (k : Caps) (s : Store) (X : Locals → Context) : Type 0 where
  pub set : (y : ℕ) (w : Val) (L : Locals) → with_local y w (X L) ≡ X (slice_set L y (Some w))
  pub locals : (L : Locals) → locals_of (X L) ≡ L
  pub under : (L : Locals) → Under k s (X L)

-- the frame of a handler's function, in the blocks of clauses
pub in_blocks : {k : Caps} {s : Store} (ds : List Declaration) (h : Name) (i : Handler) (ps : List Placed) (below : Row Val) (c : Code) (e : Context)
    → suc (frames e) ≤ k.frames → handles e ≤ k.handles → live s ≤ k.conts → Around k s (λ (L : Locals). clause_labels ds ps (in_loop ds h i L below c e))
in_blocks ds h i ps below c e lf lh lc = record {
  set = λ y w L. clauses_beyond (setting y w) ds ps (in_loop ds h i L below c e);
  locals = λ L. clauses_locals ds ps (in_loop ds h i L below c e);
  under = λ L.
      let f = clauses_frames ds ps (in_loop ds h i L below c e) in let g = clauses_handles ds ps (in_loop ds h i L below c e) in
      record { frames = omega (arith, f, lf); handles = omega (arith, g, lh); conts = lc };
}

names_less : {Γ : Layout} {first : ℕ} (x : Name) (xs : List Name) → Names Γ first (x ∷ xs) → Names Γ (first + 1) xs
names_less {first = first} x xs n = record {
  at = λ j y e. n.at (suc j) y e ∙ ap (λ (m : ℕ). Some (record { name = y; ty = Int; number = m })) (let z : first + suc j ≡ first + 1 + j = omega arith in z);
}

module _ (P : Program) (k : Caps) (s : Store) (X : Locals → Context) (around : Around k s X) where
  pub set_path : {n : ℕ} {s' : Store} {t' : Term} (L : Locals) (ops : Row Val) (w : Val) (y : ℕ) (c : Code) → y < length L
      → Path P k n s (config (X (slice_set L y (Some w))) ops c) s' t' → Path P k (suc n) s (config (X L) (ops ▹ w) (Plain (local_set y) c)) s' t'
  set_path L ops w y c lt path =
      let old = in_range L y lt in
      go (set_step P s (X L) ops w c y old.0 (ap (λ (z : Locals). slice_get z y) (around.locals L) ∙ old.1) ∙ ap (λ (z : Context). Went [] s (config z ops c)) (around.set y w L))
      (around.under (slice_set L y (Some w))) path

  -- names of the locals from `first` on
  pub names_path : {n : ℕ} {s' : Store} {t' : Term} (Γ : Layout) (first : ℕ) (xs : List Name) (ws : List Val) (L : Locals) (ops : Row Val) (c : Code)
      → Names Γ first xs → length xs ≡ length ws → first + length ws ≤ length L
      → Path P k n s (config (X (set_from L first ws)) ops c) s' t' → Path P k (length xs + n) s (config (X L) (onto ops ws) (set_names Γ xs c)) s' t'
  names_path {n} {s'} {t'} Γ first [] [] L ops c at long le path =
      subst (λ (m : ℕ). Path P k m s (config (X L) ops c) s' t') (let z : n ≡ 0 + n = omega arith in z) path
  names_path Γ first [] (w ∷ ws) L ops c at long le path = absurd (omega (arith, long))
  names_path Γ first (x ∷ xs) [] L ops c at long le path = absurd (omega (arith, long))
  names_path {n} {s'} {t'} Γ first (x ∷ xs) (w ∷ ws) L ops c at long le path =
      let number : first ≡ local_number Γ x = let z : first ≡ first + 0 = omega arith in z ∙ sym (ap number_in (at.at 0 x refl)) in
      let kept = set_from_long L (first + 1) ws in
      subst (λ (m : ℕ). Path P k m s (config (X L) (onto (ops ▹ w) ws) (set_names Γ xs (Plain (local_set (local_number Γ x)) c))) s' t') (let z : length xs + suc n ≡ suc (length xs) + n = omega arith in z)
      (names_path Γ (first + 1) xs ws L (ops ▹ w) (Plain (local_set (local_number Γ x)) c)
      (names_less x xs at) (omega (arith, long)) (omega (arith, le))
      (subst (λ (m : ℕ). Path P k (suc n) s (config (X (set_from L (first + 1) ws)) (ops ▹ w) (Plain (local_set m) c)) s' t') number
      (set_path (set_from L (first + 1) ws) ops w first c (omega (arith, le, kept)) path)))

-- ## The reductions of a suspend

-- the term that a suspend leaves
abbrev pub suspended : Caught ℕ → Row Val → ℕ → Term
suspended h ws a = record { around = h.outer; operands = (h.below ⧺ ws) ▹ Cont a; rest = record { ahead = Branch h.answer ∷ []; code = h.rest } }

-- a suspend whose tag has a clause around it
pub suspend_step : (P : Program) (s : Store) (e : Context) (ops ws : Row Val) (c : Code) (x : ℕ) (t : FuncType) (h : Caught ℕ) → type_of_tag (context_of P.source) x ≡ Some t → length t.params ≡ size ws
    → find_handle (label_clause x) e ≡ Some h → step P s (config e (ops ⧺ ws) (Plain (suspend x) c)) ≡ Went [] (with_cont (continuation_at (length t.results) h.inner ops c) s) (suspended h ws (next_cont s))
suspend_step P s e ops ws c x t h typed long found = rw (typed, found) (takes (length t.params) ops ws _ long)

-- and one whose tag has none
pub uncaught_step : (P : Program) (s : Store) (e : Context) (ops ws : Row Val) (c : Code) (x : ℕ) (t : FuncType) → type_of_tag (context_of P.source) x ≡ Some t → length t.params ≡ size ws
    → find_handle (label_clause x) e ≡ None → step P s (config e (ops ⧺ ws) (Plain (suspend x) c)) ≡ Trapped (trap.Unhandled x)
uncaught_step P s e ops ws c x t typed long found = rw (typed, found) (takes (length t.params) ops ws _ long)

-- a branch goes past the labels of the clauses before
pub branch_past : (s : Store) (ds : List Declaration) (before : List Placed) (q : Placed) (behind : List Placed) (e : Context) (vs : Row Val)
    → branch_to s (length before) (clause_labels ds (before ++ q ∷ behind) e) vs ≡ branch_to s 0 (clause_labels ds (q ∷ behind) e) vs
branch_past s ds [] q behind e vs = refl
branch_past s ds (x ∷ before) q behind e vs = branch_past s ds before q behind e vs

-- out of a block
pub branch_out : (s : Store) (X : Context) (r : Code) (n : ℕ) (ws : Row Val) (w : Val) → n ≡ suc (size ws) → branch_to s 0 (Label ε n Done r ∷ X) ((ε ⧺ ws) ▹ w) ≡ Went [] s (config X ((ε ⧺ ws) ▹ w) r)
unfolding after
branch_out s X r n ws w long = takes n ε (ws ▹ w) (λ q. steps_to s X (ε ⧺ q.1) (rest_of r)) long

numbers_long : (n : ℕ) → length (numbers n) ≡ n
numbers_long zero = refl
numbers_long (suc n) = ap suc (numbers_long n)

-- ## The clause that is found

-- the clause for an effect among those of the handler that is found, with its layout and its label
record ClauseAt (ds : List Declaration) (op : Name) (k : ℕ) (f : Found) : Type 0 where
  before : List Placed
  placed : Placed
  behind : List Placed
  split : placed_clauses ds f.h f.handler ≡ before ++ placed ∷ behind
  is : placed.clause ≡ f.clause
  answer : label_clause (tag_index ds op) (clause_answers ds 0 f.handler.clauses) ≡ Some (length before)
  facts : ClauseFacts ds f.h f.handler placed.clause placed.layout
  few : length behind ≤ 16
  as_many : length placed.clause.arguments ≡ k

clauses_long : (ps : List Placed) → length (clauses_of ps) ≡ length ps
clauses_long [] = refl
clauses_long (q ∷ ps) = ap suc (clauses_long ps)

get_middle : {A : Type 0} (xs ys : List A) (x : A) → slice_get (xs ++ x ∷ ys) (length xs) ≡ Some x
get_middle [] ys x = refl
get_middle (y ∷ xs) ys x = get_middle xs ys x

clause_at : {ds : List Declaration} {ρ : List ℕ} {op : Name} {k : ℕ} {κ1 κ2 : script.Context} {f : Found} {ops : Row Val} {c : Code} {e : Context} → Facts ds → effect_of ds op ≡ Some k → CutAt ds ρ ops c e op κ1 f κ2
    → ClauseAt ds op k f
clause_at {ds} {op = op} {k = k} {f = f} facts known r =
    let hf = facts.handlers f.h f.handler r.handler in
    let pk = pick ds op known 0 f.handler.clauses f.clause (clauses_declared hf) r.clause in
    let pl = placed_at (placed_clauses ds f.h f.handler) pk.pre f.clause pk.post (clauses_placed ds f.h f.handler ∙ pk.split) in
    let long = pl.long in
    let cf : ClauseFacts ds f.h f.handler pl.placed.clause pl.placed.layout =
    hf.clauses (length pl.before) pl.placed (ap (λ (z : List Placed). slice_get z (length pl.before)) pl.split ∙ get_middle pl.before pl.after pl.placed) in
    let all : length f.handler.clauses ≡ length (placed_clauses ds f.h f.handler) =
    ap (λ (z : List Clause). length z) (sym (clauses_placed ds f.h f.handler)) ∙ clauses_long (placed_clauses ds f.h f.handler) in
    let parts : length (placed_clauses ds f.h f.handler) ≡ length pl.before + suc (length pl.after) =
    ap (λ (z : List Placed). length z) pl.split ∙ length-append pl.before (pl.placed ∷ pl.after) in
    let few = hf.few_clauses in
    let effect : pl.placed.clause.effect ≡ op = ap (λ (z : Clause). z.effect) pl.is ∙ pk.effect in
    record {
      before = pl.before;
      placed = pl.placed;
      behind = pl.after;
      split = pl.split;
      is = pl.is;
      answer = pk.label ∙ ap Some (let z : 0 + length pk.pre ≡ length pl.before = omega (arith, long) in z);
      facts = cf;
      few = omega (arith, few, all, parts);
      as_many = some_is (sym cf.effect ∙ ap (λ (z : Name). effect_of ds z) effect ∙ known);
    }

-- ## The locals of the clause

-- its resumption is the continuation b, and its arguments are ws
abbrev clause_locals : {ds : List Declaration} {h : Name} {i : Handler} {z : Clause} {Γ : Layout} → ClauseFacts ds h i z Γ → Locals → ℕ → List Val → Locals
clause_locals {z = z} cf L b ws = set_from (slice_set L (cf.first + length z.arguments) (Some (Cont b))) cf.first ws

abbrev resumption_variable : Clause → Name → ℕ → Variable
resumption_variable z h a = record { name = z.resumption; ty = Resumption h; value = Reference a }

module _ {ds : List Declaration} {h : Name} {i : Handler} {z : Clause} {Γ : Layout} (cf : ClauseFacts ds h i z Γ) (L : Locals) (b : ℕ) (ws : List Val) (room : handler_room ds h i ≤ length L)
    (long : length z.arguments ≡ length ws) where
  -- the resumption's local lies in the frame
  resumption_below : cf.first + length z.arguments < length L
  resumption_below =
      let below : cf.first + length z.arguments < Γ.temporaries = cf.fine.below z.resumption (record { name = z.resumption; ty = Resumption h; number = cf.first + length z.arguments }) cf.resumption in
      let t = cf.temporaries in omega (arith, below, t, room)

  clause_long : length (clause_locals cf L b ws) ≡ length L
  clause_long = set_from_long (slice_set L (cf.first + length z.arguments) (Some (Cont b))) cf.first ws ∙ length_set L (cf.first + length z.arguments) (Some (Cont b))

  arguments_below : cf.first + length ws ≤ length (slice_set L (cf.first + length z.arguments) (Some (Cont b)))
  arguments_below = let q = length_set L (cf.first + length z.arguments) (Some (Cont b)) in let lt = resumption_below in omega (arith, q, lt, long)

  -- parameters lie before what is set
  clause_held : {ρ : List ℕ} {ps : List Value} → length ps ≡ length i.parameters → Held ρ L ps → Held ρ (clause_locals cf L b ws) ps
  clause_held {ps = ps} n g = record {
    each = λ j v e.
        let lt = slice_get_within ps j v e in let behind = cf.behind in let l = g.each j v e in
        let before : j < cf.first = omega (arith, lt, n, behind) in record {
          value = l.value;
          is = set_from_below (slice_set L (cf.first + length z.arguments) (Some (Cont b))) cf.first ws j before
              ∙ get_set_other L (cf.first + length z.arguments) j (Some (Cont b)) (λ (q : cf.first + length z.arguments ≡ j). omega (arith, before, q))
              ∙ l.is;
          same = l.same;
        };
  }

  clause_resumption : {ρ : List ℕ} (a : ℕ) → slice_get ρ a ≡ Some b → LocalIs ρ (clause_locals cf L b ws) (cf.first + length z.arguments) (Reference a)
  clause_resumption a e =
      let old = in_range L (cf.first + length z.arguments) resumption_below in record {
        value = Cont b;
        is = set_from_above (slice_set L (cf.first + length z.arguments) (Some (Cont b))) cf.first ws (cf.first + length z.arguments) (omega (arith, long))
            ∙ get_set_same L (cf.first + length z.arguments) (Some (Cont b)) old.0 old.1;
        same = reference e;
      }

  clause_active : {ρ : List ℕ} {ps vs : List Value} {params arguments : List Variable} (a : ℕ) → slice_get ρ a ≡ Some b → length ps ≡ length i.parameters → Held ρ L ps → AllSame ρ vs ws
      → bind i.parameters ps ≡ Some params → bind (number_parameters z.arguments) vs ≡ Some arguments
      → Active ρ Γ (handler_high i) (clause_locals cf L b ws) (params ++ (arguments ++ resumption_variable z h a ∷ []))
  clause_active a e n g ss q r = record {
    fine = cf.fine;
    room = let l = clause_long in let t = cf.temporaries in omega (arith, l, t, room);
    holds = holds_append (holds_bound cf.parameters q (clause_held n g))
        (holds_append (holds_names cf.arguments r (held_from (slice_set L (cf.first + length z.arguments) (Some (Cont b))) cf.first ss arguments_below))
        (holds_one (resumption_variable z h a) (record { name = z.resumption; ty = Resumption h; number = cf.first + length z.arguments }) cf.resumption refl (clause_resumption a e)));
  }

-- ## A suspend that is caught

-- what follows in the script
abbrev clause_runs : script.Store → script.Context → Found → script.Context → Clause → List Variable → List Variable → Step
clause_runs σ κ1 f κ2 z params arguments = enters (with_kept σ (captured κ1)) z.body (params ++ (arguments ++ resumption_variable z f.h (next_address σ) ∷ [])) (Some f.h) κ2

module _ {p : Script} (matches : ℕ → ℕ → Bool) {ρ : List ℕ} {σ : script.Store} {s : Store} (stores : Stores p.declarations ρ σ s) {op : Name} {k : ℕ} (known : effect_of p.declarations op ≡ Some k)
    {vs : Values} {ws : Row Val} (values : Sames ρ vs ws) (number : many vs ≡ k) {ops : Row Val} {c : Code} {e : Context} {κ1 κ2 : script.Context} {f : Found} (r : CutAt p.declarations ρ ops c e op κ1 f κ2)
    (a : ClauseAt p.declarations op k f) where
  abbrev kept : Continuation
  kept = continuation_at 1 r.inside ops c

  abbrev after_suspend : Store
  after_suspend = with_cont kept s

  -- the frame of the handler's function in these blocks
  abbrev frame_in : List Placed → Locals → Context
  frame_in qs L = clause_labels p.declarations qs (in_loop p.declarations f.h f.handler L r.below r.code r.outside')

  abbrev locals_then : Locals
  locals_then = clause_locals a.facts r.locals (next_cont s) (vals_listed ws)

  abbrev clause_term : Term
  clause_term = config (frame_in a.behind locals_then) ε (body p.declarations a.placed.layout (length a.behind) a.placed.clause.body)

  abbrev do_term : Term
  do_term = config e (ops ⧺ ws) (Plain (suspend (tag_index p.declarations op)) c)

  as_many_listed : length a.placed.clause.arguments ≡ length (vals_listed ws)
  as_many_listed = let x = a.as_many in let y = listed_long values in let z = all_long (listed_same values) in omega (arith, number, x, y, z)

  as_many_operands : length (numbers k) ≡ size ws
  as_many_operands = let x = numbers_long k in let y = sames_size values in omega (arith, number, x, y)

  the_handle : Caught ℕ
  the_handle = record {
    inner = r.inside;
    below = ε;
    clauses = clause_answers p.declarations 0 f.handler.clauses;
    rest = return_code p.declarations (return_layout p.declarations f.h f.handler) (length f.handler.clauses) f.handler;
    outer = frame_in (placed_clauses p.declarations f.h f.handler) r.locals;
    answer = length a.before;
  }

  handle_found : find_handle (label_clause (tag_index p.declarations op)) e ≡ Some the_handle
  unfolding the_handle
  handle_found = (finding ℕ (label_clause (tag_index p.declarations op)) e the_handle).1 (record { context = r.is; answers = a.answer; inner = r.uncaught })

  around_clause : (qs : List Placed) → Around (caps_of s do_term clause_term) after_suspend (frame_in qs)
  around_clause qs =
      let x = clauses_frames p.declarations a.behind (in_loop p.declarations f.h f.handler locals_then r.below r.code r.outside') in
      let y = clauses_handles p.declarations a.behind (in_loop p.declarations f.h f.handler locals_then r.below r.code r.outside') in
      let z = live_more s.conts kept in
      in_blocks p.declarations f.h f.handler qs r.below r.code r.outside' (omega (arith, x)) (omega (arith, y)) (omega (arith, z))

  branch_step : step (program_of p matches) after_suspend (suspended the_handle ws (next_cont s))
      ≡ Went [] after_suspend (config (frame_in a.behind r.locals) ((ε ⧺ ws) ▹ Cont (next_cont s)) (clause_code p.declarations (length a.behind) a.placed))
  unfolding the_handle
  branch_step =
      let x = a.as_many in let y = sames_size values in
      ap (λ (z : List Placed). branch_to after_suspend (length a.before) (frame_in z r.locals) ((ε ⧺ ws) ▹ Cont (next_cont s))) a.split
      ∙ branch_past after_suspend p.declarations a.before a.placed a.behind (in_loop p.declarations f.h f.handler r.locals r.below r.code r.outside') ((ε ⧺ ws) ▹ Cont (next_cont s))
      ∙ branch_out after_suspend (frame_in a.behind r.locals) (clause_code p.declarations (length a.behind) a.placed) (suc (length a.placed.clause.arguments)) ws (Cont (next_cont s))
      (omega (arith, number, x, y))

  -- the resumption is set, and then the arguments
  set_clause : Path (program_of p matches) (caps_of s do_term clause_term) (suc (length a.placed.clause.arguments + 0)) after_suspend
      (config (frame_in a.behind r.locals) ((ε ⧺ ws) ▹ Cont (next_cont s)) (clause_code p.declarations (length a.behind) a.placed)) after_suspend clause_term
  set_clause =
      let P = program_of p matches in let caps = caps_of s do_term clause_term in let Γ = a.placed.layout in let z = a.placed.clause in
      let y = a.facts.first + length z.arguments in
      let done : Code = body p.declarations Γ (length a.behind) z.body in
      let code : Code = set_names Γ z.arguments done in
      let L1 : Locals = slice_set r.locals y (Some (Cont (next_cont s))) in
      let number_is : y ≡ local_number Γ z.resumption = sym (ap number_in a.facts.resumption) in
      let names : Path P caps (length z.arguments + 0) after_suspend (config (frame_in a.behind L1) (onto ε (vals_listed ws)) code) after_suspend clause_term =
      names_path P caps after_suspend (frame_in a.behind) (around_clause a.behind) Γ a.facts.first z.arguments (vals_listed ws) L1 ε done a.facts.arguments as_many_listed
      (arguments_below a.facts r.locals (next_cont s) (vals_listed ws) r.room as_many_listed) stay in
      subst (λ (m : ℕ). Path P caps (suc (length z.arguments + 0)) after_suspend (config (frame_in a.behind r.locals) ((ε ⧺ ws) ▹ Cont (next_cont s)) (Plain (local_set m) code)) after_suspend clause_term) number_is
      (set_path P caps after_suspend (frame_in a.behind) (around_clause a.behind) r.locals (ε ⧺ ws) (Cont (next_cont s)) y code
      (resumption_below a.facts r.locals (next_cont s) (vals_listed ws) r.room as_many_listed)
      (subst (λ (us : Row Val). Path P caps (length z.arguments + 0) after_suspend (config (frame_in a.behind L1) us code) after_suspend clause_term) (onto_listed ε ws) names))

  -- all reductions, from the suspend to the clause's body
  do_path : Path (program_of p matches) (caps_of s do_term clause_term) (suc (suc (suc (length a.placed.clause.arguments + 0)))) s do_term after_suspend clause_term
  unfolding the_handle
  do_path =
      go (suspend_step (program_of p matches) s e ops ws c (tag_index p.declarations op) (arrow (numbers k) (I64 ∷ [])) the_handle ((offers_all p.declarations).effect op k known) as_many_operands handle_found)
      ((around_clause (placed_clauses p.declarations f.h f.handler)).under r.locals)
      (go branch_step ((around_clause a.behind).under r.locals) set_clause)

  -- the captured context's labels are kept with it
  do_weight : suc (suc (suc (length a.placed.clause.arguments + 0))) + weight after_suspend clause_term ≤ 52 + weight s do_term
  do_weight =
      let few = a.facts.few in
      let x : labels e ≡ labels r.inside + labels (tail_of r) = ap (λ (z : Context). labels z) r.is ∙ labels_plug r.inside (tail_of r) in
      let y = clauses_labels p.declarations (placed_clauses p.declarations f.h f.handler) (in_loop p.declarations f.h f.handler r.locals r.below r.code r.outside') in
      let z = clauses_labels p.declarations a.behind (in_loop p.declarations f.h f.handler locals_then r.below r.code r.outside') in
      let n : length (placed_clauses p.declarations f.h f.handler) ≡ length a.before + suc (length a.behind) = ap (λ (qs : List Placed). length qs) a.split ∙ length-append a.before (a.placed ∷ a.behind) in
      let m = stored_more s.conts kept in
      omega (arith, few, x, y, z, n, m)

  do_caught : {params arguments : List Variable} → bind f.handler.parameters f.params ≡ Some params → bind (number_parameters a.placed.clause.arguments) (listed vs) ≡ Some arguments
      → Matches p matches 52 s do_term (clause_runs σ κ1 f κ2 a.placed.clause params arguments)
  do_caught q1 q2 =
      let g = grows_more ρ (next_cont s) in
      let long = clause_long a.facts r.locals (next_cont s) (vals_listed ws) r.room as_many_listed in let room = r.room in
      let there : slice_get (ρ ++ next_cont s ∷ []) (next_address σ) ≡ Some (next_cont s) =
      ap (λ (z : ℕ). slice_get (ρ ++ next_cont s ∷ []) z) (sym stores.as_many) ∙ get_last ρ (next_cont s) in
      went do_path (omega arith) do_weight (record {
        stands = runs
            (clause_active a.facts r.locals (next_cont s) (vals_listed ws) r.room as_many_listed (next_address σ) there r.as_many (held_grows g r.held) (listed_same (sames_grow g values)) q1 q2)
            (rest_body a.facts.well) (clause a.behind r.handler a.facts.owner a.few (omega (arith, long, room))) (waits_grow g r.outer);
        stores = stores_more stores (number_alone (record { takes = refl; ahead = refl; waits = r.inner }));
      })

-- ## do

-- what do does where the context is cut
abbrev do_with : script.Store → List Value → Cut Found → Step
do_with σ us x = enters_clause (with_kept σ (captured x.inner)) x.answer us (next_address σ) x.outer

module _ {p : Script} (matches : ℕ → ℕ → Bool) (facts : Facts p.declarations) {ρ : List ℕ} {σ : script.Store} {s : Store} (stores : Stores p.declarations ρ σ s) (op : Name) {k : ℕ} (known : effect_of p.declarations op ≡ Some k)
    {vs : Values} {ws : Row Val} (values : Sames ρ vs ws) (number : many vs ≡ k) {ops : Row Val} {c : Code} {e : Context} where
  -- where a handle is found: all that the script binds is there
  do_clause : {κ1 κ2 : script.Context} (f : Found) (r : CutAt p.declarations ρ ops c e op κ1 f κ2) → ClauseAt p.declarations op k f
      → Matches p matches 52 s (config e (ops ⧺ ws) (Plain (suspend (tag_index p.declarations op)) c)) (enters_clause (with_kept σ (captured κ1)) f (listed vs) (next_address σ) κ2)
  do_clause {κ1} {κ2} f r a =
      let x = a.as_many in let y = listed_long values in let z = number_parameters_length a.placed.clause.arguments in
      let q1 = bind_known f.handler.parameters f.params (sym r.as_many) in
      let q2 = bind_known (number_parameters a.placed.clause.arguments) (listed vs) (omega (arith, number, x, y, z)) in
      let t : Term = config e (ops ⧺ ws) (Plain (suspend (tag_index p.declarations op)) c) in
      subst (λ (o : Option (List Variable)). Matches p matches 52 s t (or_wrong o (λ (params : List Variable).
      or_wrong (bind (number_parameters f.clause.arguments) (listed vs)) (λ (arguments : List Variable). clause_runs σ κ1 f κ2 f.clause params arguments)))) (sym q1.1)
      (subst (λ (u : Clause). Matches p matches 52 s t (or_wrong (bind (number_parameters u.arguments) (listed vs)) (λ (arguments : List Variable). clause_runs σ κ1 f κ2 u q1.0 arguments))) a.is
      (subst (λ (o : Option (List Variable)). Matches p matches 52 s t (or_wrong o (λ (arguments : List Variable). clause_runs σ κ1 f κ2 a.placed.clause q1.0 arguments))) (sym q2.1)
      (do_caught matches stores known values number r a q1.1 q2.1)))

  -- where none is found the module traps, and the script is at fault
  do_found : {κ : script.Context} → Waits p.declarations ρ κ ops c e → (o : Option (Cut Found)) → cut_at (catches p op) κ ≡ o
      → Matches p matches 52 s (config e (ops ⧺ ws) (Plain (suspend (tag_index p.declarations op)) c)) (or_fault (Unhandled op) o (do_with σ (listed vs)))
  do_found w None q =
      let x = numbers_long k in let y = sames_size values in
      faulted stay
      (uncaught_step (program_of p matches) s e ops ws c (tag_index p.declarations op) (arrow (numbers k) (I64 ∷ [])) ((offers_all p.declarations).effect op k known) (omega (arith, number, x, y))
      ((finding_none ℕ (label_clause (tag_index p.declarations op)) e).1 (uncut facts op known w q)))
      (ap (λ (o : Option Name). option_map Unhandled o) (effect_told p.declarations op k known)) (omega arith)
  do_found w (Some x) q = let r = cut facts op known w x q in do_clause x.answer r (clause_at facts known r)

module _ {p : Script} (matches : ℕ → ℕ → Bool) (facts : Facts p.declarations) {ρ : List ℕ} {σ : script.Store} {s : Store} (stores : Stores p.declarations ρ σ s) {Γ : Layout} {n D0 : ℕ} {L : Locals} {vars : List Variable}
    {owner : Option Name} {κ : script.Context} {below : Row Val} {c' : Code} {e' f : Context}
    (active : Active ρ Γ n L vars) (base : Base p.declarations Γ L below c' e' owner D0 f) (waits : Waits p.declarations ρ κ below c' e') where
  pub sim_do : {t k : ℕ} (op : Name) {vs : Values} {ws : Row Val} {w : List Work} {ops : Row Val} {c : Code} {e : Context} → effect_of p.declarations op ≡ Some k → many vs ≡ k → Sames ρ vs ws
      → Works p.declarations ρ Γ n D0 f t L w ops c e
      → Matches p matches 52 s (config e (ops ⧺ ws) (Plain (suspend (tag_index p.declarations op)) c)) (applies p (record { store = σ; variables = vars; owner = owner; work = w; outer = κ }) (Doing op) (listed vs))
  sim_do op {w = w} known number values works =
      do_found matches facts stores op known values number (activation active works base waits) (cut_at (catches p op) (Activation vars owner w ∷ κ)) refl
