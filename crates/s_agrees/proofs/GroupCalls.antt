-- group f(e): the function becomes a continuation, which a resume with the clause of groups runs.
use Rattle.std.proofs.Common.{◌≡◌, ℕ, Bool, true, List, [], ◌∷◌, ◌++◌, Option, Some, None, refl, sym, ap, ◌∙◌, arith}
use Rattle.lists.specs.Rows.{Row, ε, ◌▹◌}
use Rattle.w_types.specs.declared.types.ValType.TheVariants.{I64}
use Rattle.w_syntax.specs.Code.{Code, Plain}
use Rattle.w_reduce.specs.Values.{Val}
use Rattle.w_reduce.specs.Store.{Store, live, live_in, next_cont, with_cont, without_cont}
use Rattle.w_reduce.specs.Terms.{Handle, Context, Term, Continuation, fresh_continuation}
use Rattle.s_syntax.specs.declared.name.Name.{Name}
use Rattle.s_syntax.specs.declared.script.VariableType.TheVariants.{Int}
use Rattle.s_syntax.specs.declared.script.Function.{Function}
use Rattle.s_syntax.specs.declared.script.Script.{Script}
use Rattle.s_check.specs.Definitions.{function_of}
use Rattle.s_check.specs.Scopes.{is_among}
use Rattle.s_index.specs.Handled.{handled_names}
use Rattle.s_index.specs.Numbers.{function_index, group_tag_index}
use Rattle.s_index.specs.Types.{resumption_type}
use Rattle.s_code.specs.Coroutines.{group_code}
use Rattle.s_code.specs.Instructions.{resume}
use Rattle.s_code.specs.Layouts.{Layout}
use Rattle.s_meaning.specs.Terms.{Value, listed, Variable, Grouping, Work}
use Rattle.s_meaning.specs.Terms as script
use Rattle.s_meaning.specs.Typing.{kinds}
use Rattle.s_meaning.specs.Steps.{applies}
use Rattle.s_meaning.proofs.Lists.{get_last}
use Rattle.s_valid.specs.Offers.{arrow}
use Rattle.s_valid.proofs.ModuleOffers.{resumption_takes}
use Rattle.s_agrees.proofs.ScriptRows.{no_values, ◌▸◌}
use Rattle.s_agrees.proofs.StandsFor.{config, Same, Sames, none, more, Locals, Active, Works, Base, group_clauses, Waits, activation, group, Stores}
use Rattle.s_agrees.proofs.Facts.{Facts}
use Rattle.s_agrees.proofs.CountedContexts.{stored, live_none, stored_none}
use Rattle.s_agrees.proofs.Paths.{program_of, Caps, Under, stay, go, path_on}
use Rattle.s_agrees.proofs.Matches.{Matches, caps_of, went, under_first, under_last}
use Rattle.s_agrees.proofs.BoundValues.{bind_known}
use Rattle.s_agrees.proofs.StoresLeft.{set_last, stores_spent}
use Rattle.s_agrees.proofs.CoroutineReductions.{kinds_many, group_step, fresh_path, begun, begun_step, begun_stands}

module _ {p : Script} (matches : ℕ → ℕ → Bool) (facts : Facts p.declarations) {ρ : List ℕ} {σ : script.Store} {s : Store} (stores : Stores p.declarations ρ σ s) {Γ : Layout} {n D0 : ℕ} {L : Locals} {vars : List Variable} {owner : Option Name} {κ : script.Context} {below : Row Val} {c' : Code} {e' f : Context}
    (active : Active ρ Γ n L vars) (base : Base p.declarations Γ L below c' e' owner D0 f) (waits : Waits p.declarations ρ κ below c' e') where
  -- E[group g(v)]
  pub group_applies : {t : ℕ} {v : Value} {a : Val} {w : List Work} {ops : Row Val} {c : Code} {e : Context} (g : Name) (fn : Function)
      → function_of p.declarations g ≡ Some fn → kinds fn.parameters ≡ Int ∷ [] → is_among (handled_names p.declarations) g ≡ true
      → Same ρ v a → Works p.declarations ρ Γ n D0 f t L w ops c e
      → Matches p matches 52 s (config e (ops ▹ a) (group_code p.declarations g c)) (applies p (record { store = σ; variables = vars; owner = owner; work = w; outer = κ }) (Grouping g) (listed (no_values ▸ v)))
  group_applies {v = v} {a = a} {ops = ops} {c = c} {e = e} g fn is one among same works =
      let ds = p.declarations in let P = program_of p matches in
      let i = function_index ds g in
      let many_parameters = kinds_many fn.parameters one in
      let bound = bind_known fn.parameters (v ∷ []) many_parameters in
      let values : Sames ρ (no_values ▸ v) (ε ▹ a) = more none same in
      let K : Continuation = fresh_continuation i 1 in
      let s1 : Store = with_cont K s in
      let s2 : Store = without_cont (next_cont s) s1 in
      let conts2 : s2.conts ≡ s.conts ++ None ∷ [] = set_last s.conts (Some K) None in
      let live2 : live s2 ≡ live s = ap live_in conts2 ∙ live_none s.conts in
      let stored2 : stored s2.conts ≡ stored s.conts = ap stored conts2 ∙ stored_none s.conts in
      let E : Context = Handle ops (group_clauses ds) c ∷ e in
      let t : Term = config e (ops ▹ a) (group_code ds g c) in
      let t' : Term = begun p matches stores g fn is (ε ▹ a) E in
      let caps : Caps = caps_of s t t' in
      let resumed : Under caps s2 E = record { frames = omega arith; handles = omega arith; conts = omega (arith, live2) } in
      rw (is, bound.1)
      (went
      (path_on
      (fresh_path p matches stores g fn is {k = caps} {e = e} (ops ▹ a) (Plain (resume resumption_type (group_clauses ds)) c) resumption_type (arrow (I64 ∷ []) (I64 ∷ [])) (resumption_takes ds) (under_first s t t') (omega arith))
      (go (group_step P s1 e ops c resumption_type (group_tag_index ds) (next_cont s) i a (get_last s.conts (Some K))) resumed
      (go (begun_step p matches stores g fn is s2 E 1 refl (sym many_parameters) values) (under_last s s2 t t' (omega (arith, live2))) stay)))
      (omega arith) (omega (arith, stored2))
      (record {
        stands = begun_stands p matches stores g fn is facts bound.0 (sym many_parameters) values bound.1 (group (activation active works base waits));
        stores = stores_spent stores (None ∷ []) conts2 refl refl live2;
      }))
