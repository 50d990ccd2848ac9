-- Each run of a script's module follows the script.
use Rattle.std.proofs.Common.{◌≡◌, ℕ, zero, suc, ◌-◌, ℤ, Bool, List, [], ◌∷◌, codes, length, replicate, Option, Some, None, slice_get, refl, sym, ap, subst, arith}
use Rattle.std.proofs.lemmas.List.{length-replicate}
use Rattle.following.specs.Steps as steps
use Rattle.following.specs.Steps.{Reductions, StepSimulation}
use Rattle.lists.specs.Rows.{ε}
use Rattle.w_syntax.specs.Code.{Done}
use Rattle.w_reduce.specs.Program.{Program}
use Rattle.w_reduce.specs.Reduced.{Went}
use Rattle.w_reduce.specs.Values.{Null}
use Rattle.w_reduce.specs.Terms.{Term, rest_of}
use Rattle.w_syntax.specs.declared.module.Module.{Module}
use Rattle.s_syntax.specs.declared.script.Function.{Function}
use Rattle.s_syntax.specs.declared.script.Parameter.{Parameter}
use Rattle.s_syntax.specs.declared.name.Name.{Name}
use Rattle.s_syntax.specs.declared.script.Slots.{Slots}
use Rattle.s_syntax.specs.declared.script.Script.{Script}
use Rattle.s_check.specs.Definitions.{function_of}
use Rattle.s_index.specs.Numbers.{function_index, table_index}
use Rattle.s_index.specs.Types.{val_types}
use Rattle.s_code.specs.Lowered.{function_code, slots_table}
use Rattle.s_code.specs.Places.{function_layout, function_locals}
use Rattle.s_code.specs.Statements.{body}
use Rattle.s_meaning.specs.Numbers.{Fault}
use Rattle.s_meaning.specs.Steps.{step, bind, contents_of}
use Rattle.s_meaning.specs.Typing.{ScriptTyped}
use Rattle.s_meaning.specs.Typed.{SlotsThere}
use Rattle.s_meaning.specs.Eval as eval
use Rattle.s_meaning.specs.Eval.{Ended, Passes, body_or_none, first_contents, start, Eval, Follows}
use Rattle.s_meaning.proofs.Good.{good_typed}
use Rattle.s_meaning.proofs.TypedRuns.{start_typed, slots_start}
use Rattle.s_meaning.proofs.Sound.{step_good}
use Rattle.s_valid.specs.Beginning.{empty_table, first_store, first_term}
use Rattle.s_valid.proofs.FirstStores.{function_stored, slots_stored}
use Rattle.s_agrees.specs.Agrees.{RunFollows, RunsFollow}
use Rattle.s_agrees.proofs.ScriptRows.{no_values}
use Rattle.s_agrees.proofs.StandsFor.{config, none, function, outside, runs, is_empty, Elements, no_elements, element, SlotsKept, Stores}
use Rattle.s_agrees.proofs.Facts.{Facts}
use Rattle.s_agrees.proofs.FactsHold.{facts}
use Rattle.s_agrees.proofs.Paths.{program_of}
use Rattle.s_agrees.proofs.Paths as paths
use Rattle.s_agrees.proofs.Bodies.{rest_body}
use Rattle.s_agrees.proofs.EnteredBodies.{entered, invoke_step}
use Rattle.s_agrees.proofs.Calls.{entered_active}
use Rattle.s_agrees.proofs.WithinLimits.{at, reduce}
use Rattle.s_agrees.proofs.Whole.{Related, potential, within}
use Rattle.s_agrees.proofs.Rules.{rules}
use Rattle.s_agrees.proofs.EachStep.{sim_step}
use Rattle.s_agrees.proofs.RunsOfModules.{follows_by}

-- places that hold nothing, beside nulls
empty_elements : (ps : List (Option ℕ)) (n : ℕ) → length ps ≡ n → ((m a : ℕ) → slice_get ps m ≡ Some (Some a) → ⊥) → Elements [] ps (replicate n Null)
empty_elements [] zero e vacant = no_elements
empty_elements [] (suc n) e vacant = absurd (omega (arith, e))
empty_elements (q ∷ ps) zero e vacant = absurd (omega (arith, e))
empty_elements (None ∷ ps) (suc n) e vacant = element is_empty (empty_elements ps n (omega (arith, e)) (λ m. vacant (suc m)))
empty_elements (Some a ∷ ps) (suc n) e vacant = absurd (vacant 0 a refl)

module _ (p : Script) (matches : ℕ → ℕ → Bool) (typed : ScriptTyped p) (known : Facts p.declarations) where
  -- each step is matched
  simulation : StepSimulation {V = ℤ} {F = Fault} {L = eval.RunLimit} (step p) Passes (reduce p matches)
  simulation = record {
    Related = Related p;
    potential = potential;
    matches = λ {s} {x} r. within p matches r.stands (step p s) refl (step_good p typed s r.typed) (sim_step matches known (rules p matches known) r.typed r.stands);
  }

  -- main, which has no parameters
  no_parameters : (fn : Function) → fn.parameters ≡ [] → (length (val_types fn.parameters) ≡ 0) × (0 ≡ length fn.parameters) × (bind fn.parameters [] ≡ Some [])
  no_parameters fn none_is = (ap (λ (ps : List Parameter). length (val_types ps)) none_is, ap (λ (ps : List Parameter). length ps) (sym none_is), ap (λ (ps : List Parameter). bind ps []) none_is)

  -- slots are empty, and so is their table
  first_slots : (x : Name) (d : Slots) → SlotsThere [] d (contents_of x (first_contents p.declarations)) → slice_get (first_store p.declarations).tables (table_index p.declarations x) ≡ Some (empty_table (slots_table d))
      → SlotsKept [] d (contents_of x (first_contents p.declarations)) (slice_get (first_store p.declarations).tables (table_index p.declarations x))
  first_slots x d t stored = record {
    contents = t.contents;
    table = empty_table (slots_table d);
    found = t.is;
    there = stored;
    many = length-replicate d.places.value Null;
    of_handler = t.typed.handler;
    elements = empty_elements t.contents.places d.places.value t.typed.as_many (λ m a e. let r = t.typed.holds.each m a e in cc r);
  }

  first_stores : Stores p.declarations [] (start p).store (first_store p.declarations)
  first_stores = record {
    as_many = refl;
    each = λ a b e. absurd (cc);
    apart = λ a c b e f. absurd (cc);
    lives = refl;
    slots = λ x d e. first_slots x d (slots_start p.declarations x d e) (slots_stored p.declarations x d e);
    functions = refl;
  }

  -- what the start comes to by one reduction: main is entered
  entered_main : (fn : Function) → function_of p.declarations (codes "main") ≡ Some fn → Term
  entered_main fn is = config (entered (function_index p.declarations (codes "main") - 1) ε ε (function_locals p.declarations fn) (rest_of Done) []) ε (body p.declarations (function_layout p.declarations fn) 0 fn.body)

  main_reduction : (fn : Function) (is : function_of p.declarations (codes "main") ≡ Some fn) → fn.parameters ≡ []
      → reduce p matches (at (first_store p.declarations) (first_term p.declarations)) ≡ steps.Went [] (at (first_store p.declarations) (entered_main fn is))
  unfolding entered_main
  main_reduction fn is none_is =
      let ds = p.declarations in
      let invoked : paths.step (program_of p matches) (first_store ds) (first_term ds) ≡ Went [] (first_store ds) (entered_main fn is) =
      invoke_step p matches (first_store ds) [] ε ε (rest_of Done) (function_index ds (codes "main")) (val_types fn.parameters) (function_code ds fn) refl (function_stored ds (codes "main") fn is) (no_parameters fn none_is).0 in
      rw invoked refl

  first_related : (fn : Function) (is : function_of p.declarations (codes "main") ≡ Some fn) → fn.parameters ≡ [] → Related p (start p) (at (first_store p.declarations) (entered_main fn is))
  unfolding entered_main
  first_related fn is none_is =
      let q = known.functions (codes "main") fn is in
      let m = no_parameters fn none_is in
      let k = start_typed p typed in
      record {
        world = k.world;
        typed = k.typed;
        addresses = [];
        stands = record {
          stands = rw is (runs (entered_active known (codes "main") fn is {vs = no_values} {ws = ε} [] m.1 none m.2) (rest_body q.well) (function refl) outside);
          stores = first_stores;
        };
      }

  pub follows_all : RunFollows p (program_of p matches)
  unfolding entered_main simulation
  follows_all = λ N.
      let ds = p.declarations in
      let fn = typed.entry.0 in let is = typed.entry.1 in let none_is = typed.entry.2 in
      let x = at (first_store ds) (entered_main fn is) in
      let path : Reductions (reduce p matches) (at (first_store ds) (first_term ds)) [] 1 x = steps.silent (main_reduction fn is none_is) steps.none in
      follows_by p matches simulation (start p) (first_store ds) (first_term ds) 1 x path (first_related fn is none_is) (omega arith) N

pub runs_follow : RunsFollow
runs_follow p good program source =
    let typed = good_typed p good in
    let all = follows_all p program.matches typed (facts p good) in
    let is : program_of p program.matches ≡ program = ap (λ (m : Module). let q : Program = record { source = m; matches = program.matches } in q) (sym source) in
    subst (λ (q : Program). RunFollows p q) is all
