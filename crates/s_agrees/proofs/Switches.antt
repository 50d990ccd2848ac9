-- A switch in a group, to a coroutine that wasn't consumed: that one goes on in the group, in the midst of a body or with the call of a
-- function, and what was in the group is kept.
use Rattle.std.proofs.Common.{◌≡◌, ℕ, ◌+◌, Bool, ℤ, List, [], ◌∷◌, ◌++◌, length, Option, Some, refl, sym, ap, ◌∙◌, arith}
use Rattle.std.specs.Prelude.{slice_get}
use Rattle.lists.specs.Rows.{Row, ε, ◌▹◌, ◌⧺◌}
use Rattle.w_syntax.specs.Code.{Code, Done, Plain}
use Rattle.w_reduce.specs.Values.{Val, Cont}
use Rattle.w_reduce.specs.Store.{Store, next_cont}
use Rattle.w_reduce.specs.Terms.{Handle, Context, Term, Continuation, fresh_continuation, filled, in_context, locals_of, with_local}
use Rattle.w_reduce.specs.Reduced.{Went}
use Rattle.w_reduce.specs.Switching.{continuation_at}
use Rattle.w_reduce.specs.Handlers.{Handler, switch_clause, find}
use Rattle.w_reduce.proofs.InnermostHandle.{finding}
use Rattle.s_syntax.specs.declared.name.Name.{Name}
use Rattle.s_syntax.specs.declared.script.VariableType.TheVariants.{Int, Coroutine}
use Rattle.s_syntax.specs.declared.script.Function.{Function}
use Rattle.s_syntax.specs.declared.script.Script.{Script}
use Rattle.s_syntax.specs.BlockTree.{BlockTree}
use Rattle.s_check.specs.Definitions.{function_of}
use Rattle.s_index.specs.Numbers.{function_index, group_tag_index}
use Rattle.s_index.specs.Types.{coroutine_type}
use Rattle.s_code.specs.Instructions.{local_get, switch}
use Rattle.s_meaning.specs.Terms.{Number, Reference, Variable, Group}
use Rattle.s_meaning.specs.Terms as script
use Rattle.s_meaning.specs.Typing.{kinds}
use Rattle.s_meaning.specs.Steps.{stored, with_coroutine, emptied, with_kept, next_address, enters, calls}
use Rattle.s_agrees.proofs.ScriptRows.{Values, no_values, ◌▸◌, many}
use Rattle.s_agrees.proofs.StandsFor.{config, Same, reference, Sames, none, more, group_clauses, Waits, group, switched_code, SwitchedAs, switched_as, KeptAs, Stores}
use Rattle.s_agrees.proofs.MoreResumptions.{Grows, grows_more, same_grows, active_grows}
use Rattle.s_agrees.proofs.Contexts.{waits_grow}
use Rattle.s_agrees.proofs.CountedContexts.{labels, labels_plug, frames_set, handles_set, labels_set}
use Rattle.s_agrees.proofs.Paths.{program_of, step, Under, stay, go, get_step}
use Rattle.s_agrees.proofs.Matches.{caps_of, Matches, went, under_first}
use Rattle.s_agrees.proofs.Facts.{Facts}
use Rattle.s_agrees.proofs.BoundValues.{bind_known}
use Rattle.s_agrees.proofs.CutContexts.{GroupAt, group_switches}
use Rattle.s_agrees.proofs.CoroutineReductions.{kinds_many, switch_step, begun, begun_step, begun_stands}
use Rattle.s_agrees.proofs.SwitchedStand.{switched_stands, switched_path}
use Rattle.s_agrees.proofs.SwitchedStores.{switched_store, switched_addresses, stores_switched, kept_there, switched_live, switched_stored}

-- The target a, whose continuation is b, was kept as r and k. The code c in the context e comes behind the switch; e is cut at a group, and
-- what is inside it will be kept as m.
module _ {p : Script} (matches : ℕ → ℕ → Bool) (facts : Facts p.declarations) {ρ : List ℕ} {σ : script.Store} {s : Store} (stores : Stores p.declarations ρ σ s) (a b : ℕ) (r : script.Kept) (k : Continuation)
    (there : slice_get ρ a ≡ Some b) (left_is : slice_get σ.contexts a ≡ Some (Some r)) (right_is : slice_get s.conts b ≡ Some (Some k)) {c c0 : Code} {e : Context} {κ1 κ2 : script.Context} (g : GroupAt p.declarations ρ ε c0 e κ1 κ2)
    (m : script.Kept) (left : KeptAs p.declarations ρ m (continuation_at 2 g.inside ε c)) (z : ℤ) {w : Val} (number : Same ρ (Number z) w) (y : ℕ) (local : slice_get (locals_of e) y ≡ Some (Some (Cont b))) where
  abbrev kept : Continuation
  kept = continuation_at 2 g.inside ε c

  abbrev behind : Store
  behind = switched_store s b kept

  abbrev addresses : List ℕ
  addresses = switched_addresses ρ s

  -- the group, and what is around it
  abbrev tail : Context
  tail = Handle g.below (group_clauses p.declarations) g.code ∷ g.outside'

  grows : Grows ρ addresses
  grows = grows_more ρ (next_cont s)

  tail_waits : Waits p.declarations addresses (Group ∷ κ2) ε Done tail
  tail_waits = group (waits_grow grows g.outer)

  number_then : Same addresses (Number z) w
  number_then = same_grows grows number

  back : Same addresses (Reference (next_address σ)) (Cont (next_cont s))
  back = reference (kept_there stores a b r k there left_is right_is m kept)

  stores_then : Stores p.declarations addresses (with_kept (emptied σ a) m) behind
  stores_then = stores_switched stores a b r k there left_is right_is m kept left

  abbrev switch_term : Term
  switch_term = config e (ε ▹ w) (Plain (local_get y) (Plain (switch coroutine_type (group_tag_index p.declarations)) c))

  the_group : Handler (Unit {0})
  the_group = record { inner = g.inside; below = g.below; clauses = group_clauses p.declarations; rest = g.code; outer = g.outside'; answer = tt }

  group_found : find (switch_clause (group_tag_index p.declarations)) e ≡ Some the_group
  unfolding the_group
  group_found = (finding (Unit {0}) (switch_clause (group_tag_index p.declarations)) e the_group).1 (record { context = g.is; answers = group_switches p.declarations; inner = g.uncaught })

  switched : k.takes ≡ 2 → step (program_of p matches) s (config e ((ε ▹ w) ▹ Cont b) (Plain (switch coroutine_type (group_tag_index p.declarations)) c))
      ≡ Went [] behind (in_context tail (filled k.term ((ε ▹ w) ▹ Cont (next_cont s))))
  unfolding the_group
  switched two = switch_step p matches s e ε c (group_tag_index p.declarations) b w k the_group right_is two group_found

  labels_parts : labels e ≡ labels g.inside + labels tail
  labels_parts = ap (λ (x : Context). labels x) g.is ∙ labels_plug g.inside tail

  -- to a coroutine in the midst of a body
  pub switch_into_body : {x u : Name} {body : BlockTree} {vars : List Variable} {owner : Option Name} {κ : script.Context} → SwitchedAs p.declarations ρ x u body vars owner κ k
      → Matches p matches 52 s switch_term (enters (with_kept (emptied σ a) m) body (with_coroutine u (next_address σ) (stored x z vars)) owner (κ ++ Group ∷ κ2))
  switch_into_body {x} {u} (switched_as {Γ = Γ} {c = c1} {e = e1} hx hu active rest base waits two is) =
      let P = program_of p matches in let next : Val = Cont (next_cont s) in
      let active' = active_grows grows active in let waits' = waits_grow grows waits in
      let first : Context = with_local hu.local.number next (e1 ++ tail) in
      let t' : Term = config (with_local hx.local.number w first) ε c1 in
      let caps = caps_of s switch_term t' in
      let f1 = frames_set hu.local.number next (e1 ++ tail) in let f2 = frames_set hx.local.number w first in
      let h1 = handles_set hu.local.number next (e1 ++ tail) in let h2 = handles_set hx.local.number w first in
      let l1 = labels_set hu.local.number next (e1 ++ tail) in let l2 = labels_set hx.local.number w first in
      let lives = switched_live stores a b r k there left_is right_is m kept in
      let weights = switched_stored stores a b r k there left_is right_is m kept in
      let within : Under caps behind (e1 ++ tail) = record { frames = omega (arith, f1, f2); handles = omega (arith, h1, h2); conts = omega (arith, lives) } in
      let into : step P s (config e ((ε ▹ w) ▹ Cont b) (Plain (switch coroutine_type (group_tag_index p.declarations)) c)) ≡ Went [] behind (config (e1 ++ tail) ((ε ▹ w) ▹ next) (switched_code Γ x u c1)) =
      switched two ∙ ap (λ (t : Term). Went [] behind (in_context tail (filled t ((ε ▹ w) ▹ next)))) is in
      let inner : labels k.term.around ≡ labels e1 = ap (λ (t : Term). labels t.around) is in
      let outer = labels_plug e1 tail in let parts = labels_parts in
      went
      (go (get_step P s e (ε ▹ w) (Plain (switch coroutine_type (group_tag_index p.declarations)) c) y (Cont b) local) (under_first s switch_term t')
      (go into within (switched_path active' rest base waits' tail_waits hx hu z (next_address σ) number_then back P caps behind within)))
      (omega arith) (omega (arith, l1, l2, inner, outer, parts, weights))
      (record { stands = switched_stands active' rest base waits' tail_waits hx hu z (next_address σ) number_then back; stores = stores_then })

  -- to one that begins with a function
  pub switch_into_call : (f : Name) (fn : Function) → k ≡ fresh_continuation (function_index p.declarations f) 2 → function_of p.declarations f ≡ Some fn → kinds fn.parameters ≡ Int ∷ Coroutine ∷ []
      → Matches p matches 52 s switch_term (calls p (with_kept (emptied σ a) m) f (Number z ∷ Reference (next_address σ) ∷ []) (Group ∷ κ2))
  switch_into_call f fn is known takes =
      let P = program_of p matches in let ws : Row Val = (ε ▹ w) ▹ Cont (next_cont s) in
      let vs : Values = (no_values ▸ Number z) ▸ Reference (next_address σ) in
      let values : Sames addresses vs ws = more (more none number_then) back in
      let enough : many vs ≡ length fn.parameters = sym (kinds_many fn.parameters takes) in
      let bound = bind_known fn.parameters (script.listed vs) (kinds_many fn.parameters takes) in
      let t' : Term = begun p matches stores f fn known ws tail in
      let caps = caps_of s switch_term t' in
      let lives = switched_live stores a b r k there left_is right_is m kept in
      let weights = switched_stored stores a b r k there left_is right_is m kept in
      let two : k.takes ≡ 2 = ap (λ (q : Continuation). q.takes) is in
      let into : step P s (config e ((ε ▹ w) ▹ Cont b) (Plain (switch coroutine_type (group_tag_index p.declarations)) c))
      ≡ Went [] behind (record { around = tail; operands = ε ⧺ ws; rest = (fresh_continuation (function_index p.declarations f) 2).term.rest }) =
      switched two ∙ ap (λ (q : Continuation). Went [] behind (in_context tail (filled q.term ws))) is in
      let inner : labels k.term.around ≡ 0 = ap (λ (q : Continuation). labels q.term.around) is in
      let parts = labels_parts in
      rw (known, bound.1)
      (went {s' = behind} {t' = t'}
      (go (get_step P s e (ε ▹ w) (Plain (switch coroutine_type (group_tag_index p.declarations)) c) y (Cont b) local) (under_first s switch_term t')
      (go into (record { frames = omega arith; handles = omega arith; conts = omega (arith, lives) })
      (go (begun_step p matches stores f fn known behind tail 2 refl enough values) (record { frames = omega arith; handles = omega arith; conts = omega (arith, lives) }) stay)))
      (omega arith) (omega (arith, inner, parts, weights))
      (record { stands = begun_stands p matches stores f fn known facts bound.0 enough values bound.1 tail_waits; stores = stores_then }))
