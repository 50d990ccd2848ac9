-- Calls of handlers' functions: the parameters are their first locals, and behind them lies what is handled.
use Rattle.std.proofs.Common.{◌≡◌, ℕ, ◌≤◌, Bool, true, List, [], ◌∷◌, ◌++◌, length, Some, ap, ◌∙◌, arith, length-append}
use Rattle.std.specs.Prelude.{slice_get}
use Rattle.lists.specs.Rows.{Row, ε, ◌▹◌, ◌⧺◌, size, listed as vals_listed}
use Rattle.w_syntax.specs.Code.{Code, Done, Plain}
use Rattle.w_reduce.specs.Calls.{defaults}
use Rattle.w_reduce.specs.Values.{Val, Cont}
use Rattle.w_reduce.specs.Store.{Store}
use Rattle.w_reduce.specs.Terms.{rest_of, Label, Frame, Context}
use Rattle.w_reduce.specs.Reduced.{Went}
use Rattle.s_syntax.specs.declared.name.Name.{Name}
use Rattle.s_syntax.specs.declared.script.Handler.{Handler}
use Rattle.s_syntax.specs.declared.script.Declaration.{Declaration}
use Rattle.s_syntax.specs.declared.script.Script.{Script}
use Rattle.s_check.specs.Definitions.{handler_of}
use Rattle.s_index.specs.Numbers.{handler_index}
use Rattle.s_index.specs.Types.{computation_type, to_continuation, val_types}
use Rattle.s_code.specs.Instructions.{call}
use Rattle.s_code.specs.Lowered.{handler_code}
use Rattle.s_code.specs.Places.{handler_locals}
use Rattle.s_valid.proofs.FirstStores.{handler_stored}
use Rattle.s_meaning.specs.Terms.{Value, Reference, listed, Variable, Resuming, Work, Activation, Handle as Handled, Gives}
use Rattle.s_meaning.specs.Terms as script
use Rattle.s_meaning.proofs.Lists.{get_before, get_last}
use Rattle.s_agrees.proofs.ScriptRows.{Values, many}
use Rattle.s_agrees.proofs.StandsFor.{config, Sames, Locals, Held, handler_place, loop_code, handler_room, Stores}
use Rattle.s_agrees.proofs.Paths.{program_of, step}
use Rattle.s_agrees.proofs.Facts.{HandlerFacts}
use Rattle.s_agrees.proofs.EnteredBodies.{sames_many, listed_size, first_locals, many_locals, value_at, get_mapped, invoke_step}
use Rattle.s_agrees.proofs.Calls.{types_many}

-- its locals: the parameters, and what it handles
abbrev pub handler_first : List Declaration → Name → Handler → Row Val → ℕ → Locals
handler_first ds h i ws b = first_locals (ws ▹ Cont b) (handler_locals ds h i)

module _ (ds : List Declaration) {ρ : List ℕ} {h : Name} {i : Handler} (facts : HandlerFacts ds h i) {vs : Values} {ws : Row Val} (values : Sames ρ vs ws) (number : many vs ≡ length i.parameters) (b : ℕ) where
  pub first_room : handler_room ds h i ≤ length (handler_first ds h i ws b)
  first_room =
      let x = many_locals (ws ▹ Cont b) (handler_locals ds h i) in let y = sames_many values in let z = facts.room in omega (arith, number, x, y, z)

  -- parameters
  pub first_held : Held ρ (handler_first ds h i ws b) (listed vs)
  first_held = record {
    each = λ j u e.
        let r = value_at values j u e in record {
          value = r.0;
          is = get_mapped (vals_listed ws ++ Cont b ∷ []) (defaults (handler_locals ds h i)) j r.0 (get_before (vals_listed ws) (Cont b ∷ []) j r.0 r.1);
          same = r.2;
        };
  }

  -- and what is handled
  pub first_handled : slice_get (handler_first ds h i ws b) (length i.parameters) ≡ Some (Some (Cont b))
  first_handled =
      let place : length i.parameters ≡ length (vals_listed ws) = let x = sames_many values in let y = listed_size ws in omega (arith, number, x, y) in
      get_mapped (vals_listed ws ++ Cont b ∷ []) (defaults (handler_locals ds h i)) (length i.parameters) (Cont b)
      (ap (λ (j : ℕ). slice_get (vals_listed ws ++ Cont b ∷ []) j) place ∙ get_last (vals_listed ws) (Cont b))

  first_many : length (val_types i.parameters ++ to_continuation true computation_type ∷ []) ≡ size (ws ▹ Cont b)
  first_many =
      let x = length-append (val_types i.parameters) (to_continuation true computation_type ∷ []) in let y = types_many i.parameters in let z = sames_many values in omega (arith, number, x, y, z)

-- the function is entered
pub handler_step : (p : Script) (matches : ℕ → ℕ → Bool) {ρ : List ℕ} {σ : script.Store} {s : Store} (stores : Stores p.declarations ρ σ s) (h : Name) {i : Handler} (is : handler_of p.declarations h ≡ Some i)
    (facts : HandlerFacts p.declarations h i) (s' : Store) (functions : s'.functions ≡ s.functions) {vs : Values} {ws : Row Val} (values : Sames ρ vs ws) (number : many vs ≡ length i.parameters) (e : Context) (ops : Row Val)
    (c : Code) (b : ℕ)
    → step (program_of p matches) s' (config e ((ops ⧺ ws) ▹ Cont b) (Plain (call (handler_index p.declarations h)) c))
    ≡ Went [] s' (config (Label ε 1 Done Done ∷ Frame ops 1 (handler_place p.declarations h) (handler_first p.declarations h i ws b) (rest_of c) ∷ e) ε (loop_code p.declarations h i))
handler_step p matches stores h {i} is facts s' functions {ws = ws} values number e ops c b =
    invoke_step p matches s' e ops (ws ▹ Cont b) (rest_of c) (handler_index p.declarations h) (val_types i.parameters ++ to_continuation true computation_type ∷ []) (handler_code p.declarations h i)
    (functions ∙ stores.functions) (handler_stored p.declarations h i is) (first_many p.declarations facts values number b)
