-- spawn t = f: a continuation that will call f, and the name's local set to it.
use Rattle.std.proofs.Common.{◌≡◌, ℕ, suc, Bool, true, List, [], ◌∷◌, ◌++◌, Option, Some, sym, ap, ◌∙◌, subst, arith}
use Rattle.std.specs.Prelude.{slice_get}
use Rattle.lists.specs.Rows.{Row, ε}
use Rattle.w_types.specs.declared.types.ValType.TheVariants.{I64}
use Rattle.w_syntax.specs.Code.{Code, Plain}
use Rattle.w_reduce.specs.Values.{Val, Cont}
use Rattle.w_reduce.specs.Store.{Store, live, next_cont, with_cont}
use Rattle.w_reduce.specs.Terms.{Context, Term, Continuation, fresh_continuation, with_local}
use Rattle.s_syntax.specs.declared.name.Name.{Name}
use Rattle.s_syntax.specs.declared.script.VariableType.TheVariants.{Int, Coroutine}
use Rattle.s_syntax.specs.declared.script.Function.{Function}
use Rattle.s_syntax.specs.declared.script.Script.{Script}
use Rattle.s_syntax.specs.BlockTree.{BlockTree}
use Rattle.s_check.specs.Definitions.{function_of}
use Rattle.s_check.specs.Scopes.{is_among}
use Rattle.s_index.specs.Handled.{handled_names}
use Rattle.s_index.specs.Numbers.{function_index}
use Rattle.s_index.specs.Types.{coroutine_type, to_continuation}
use Rattle.s_code.specs.Coroutines.{spawn_code}
use Rattle.s_code.specs.Instructions.{function_reference, new_continuation, local_set}
use Rattle.s_code.specs.Layouts.{Layout, number_in}
use Rattle.s_meaning.specs.Terms.{Value, Reference, Variable}
use Rattle.s_meaning.specs.Terms as script
use Rattle.s_meaning.specs.Typing.{kinds}
use Rattle.s_meaning.specs.Focus.{Spawns}
use Rattle.s_meaning.specs.Steps.{next_address, rule}
use Rattle.s_meaning.proofs.Lists.{get_last}
use Rattle.s_valid.specs.Offers.{arrow}
use Rattle.s_valid.proofs.LayoutTypes.{Placed as HasLocal}
use Rattle.s_valid.proofs.ModuleOffers.{coroutine_takes}
use Rattle.s_agrees.proofs.StandsFor.{config, Same, reference, Locals, Active, Rest, Base, Waits, runs, not_begun, Stores}
use Rattle.s_agrees.proofs.MoreResumptions.{Grows, grows_more, active_grows}
use Rattle.s_agrees.proofs.Contexts.{setting, rest_beyond, deep_locals, rest_deep, base_locals, base_set, waits_grow}
use Rattle.s_agrees.proofs.CountedContexts.{labels_set, live_more, stored_more}
use Rattle.s_agrees.proofs.Paths.{program_of, Caps, stay, go, path_on, set_step}
use Rattle.s_agrees.proofs.Matches.{Matches, caps_of, went, under_first, under_last}
use Rattle.s_agrees.proofs.Facts.{Facts}
use Rattle.s_agrees.proofs.Captures.{in_range}
use Rattle.s_agrees.proofs.NamesSet.{local_below, active_with}
use Rattle.s_agrees.proofs.StoresGrow.{stores_more}
use Rattle.s_agrees.proofs.CoroutineReductions.{fresh_path}

module _ {p : Script} (matches : ℕ → ℕ → Bool) (facts : Facts p.declarations) {ρ : List ℕ} {σ : script.Store} {s : Store} (stores : Stores p.declarations ρ σ s) {Γ : Layout} {n D0 : ℕ} {L : Locals} {vars : List Variable} {owner : Option Name} {κ : script.Context} {below : Row Val} {c' : Code} {e' f : Context}
    (active : Active ρ Γ n L vars) (base : Base p.declarations Γ L below c' e' owner D0 f) (waits : Waits p.declarations ρ κ below c' e') where
  -- spawn k = g;
  pub spawns_step : {D : ℕ} {b : BlockTree} {c : Code} {e : Context} (k g : Name) (fn : Function)
      → function_of p.declarations g ≡ Some fn → kinds fn.parameters ≡ Int ∷ Coroutine ∷ [] → is_among (handled_names p.declarations) g ≡ true
      → HasLocal Γ k Coroutine → Rest p.declarations Γ n D0 f D b c e
      → Matches p matches 52 s (config e ε (spawn_code p.declarations Γ k g c)) (rule p (record { store = σ; variables = vars; owner = owner; work = []; outer = κ }) (Spawns k g b))
  spawns_step {b = b} {c = c} {e = e} k g fn is two among h rest =
      let ds = p.declarations in
      let i = function_index ds g in
      let y = h.local.number in
      let a = next_cont s in
      let K : Continuation = fresh_continuation i 2 in
      let s1 : Store = with_cont K s in
      let live1 : live s1 ≡ suc (live s) = live_more s.conts K in
      let grows : Grows ρ (ρ ++ a ∷ []) = grows_more ρ a in
      let there : slice_get (ρ ++ a ∷ []) (next_address σ) ≡ Some a = ap (λ (z : ℕ). slice_get (ρ ++ a ∷ []) z) (sym stores.as_many) ∙ get_last ρ a in
      let v : Value = Reference (next_address σ) in
      let same : Same (ρ ++ a ∷ []) v (Cont a) = reference there in
      let active' = active_grows grows active in
      let old = in_range L y (local_below k Coroutine v h same active') in
      let locals = deep_locals (rest_deep rest).deep ∙ base_locals base in
      let t : Term = config e ε (Plain (function_reference i) (Plain (new_continuation coroutine_type) (Plain (local_set y) c))) in
      let t' : Term = config (with_local y (Cont a) e) ε c in
      let caps : Caps = caps_of s t t' in
      let labels' = labels_set y (Cont a) e in let stored' = stored_more s.conts K in
      subst (λ (j : ℕ). Matches p matches 52 s (config e ε (Plain (function_reference i) (Plain (new_continuation coroutine_type) (Plain (local_set j) c))))
      (rule p (record { store = σ; variables = vars; owner = owner; work = []; outer = κ }) (Spawns k g b))) (sym (ap number_in h.is))
      (went
      (path_on
      (fresh_path p matches stores g fn is {k = caps} {e = e} ε (Plain (local_set y) c) coroutine_type (arrow (I64 ∷ to_continuation true coroutine_type ∷ []) (I64 ∷ [])) (coroutine_takes ds) (under_first s t t') (omega arith))
      (go (set_step (program_of p matches) s1 e ε (Cont a) c y old.0 (ap (λ (l : Locals). slice_get l y) locals ∙ old.1)) (under_last s s1 t t' (omega (arith, live1))) stay))
      (omega arith) (omega (arith, labels', stored'))
      (record {
        stands = runs (active_with k Coroutine v h same active') (rest_beyond (setting y (Cont a)) rest) (base_set y (Cont a) base) (waits_grow grows waits);
        stores = stores_more stores (not_begun among);
      }))
