-- switch x, u = k(e): the coroutine that k refers to is consumed and goes on in the group, and what was in the group is kept.
use Rattle.std.proofs.Common.{◌≡◌, ℕ, Bool, ℤ, List, [], ◌∷◌, Option, Some, None, option_map, refl, sym, ap, ◌∙◌, subst, arith}
use Rattle.std.specs.Prelude.{slice_get}
use Rattle.lists.specs.Rows.{Row, ε, ◌▹◌}
use Rattle.w_syntax.specs.Code.{Code, Done, Plain}
use Rattle.w_reduce.specs.Values.{Val, Cont}
use Rattle.w_reduce.specs.Store.{Store}
use Rattle.w_reduce.specs.Terms.{Context, Term, Continuation, locals_of}
use Rattle.w_reduce.specs.Switching.{continuation_at}
use Rattle.w_reduce.specs.Handlers.{switch_clause}
use Rattle.w_reduce.proofs.InnermostHandle.{finding_none}
use Rattle.s_syntax.specs.declared.name.Name.{Name}
use Rattle.s_syntax.specs.declared.script.VariableType.TheVariants.{Int, Coroutine}
use Rattle.s_syntax.specs.declared.script.Function.{Function}
use Rattle.s_syntax.specs.declared.script.Declaration.{Declaration}
use Rattle.s_syntax.specs.declared.script.Script.{Script}
use Rattle.s_syntax.specs.BlockTree.{BlockTree}
use Rattle.s_check.specs.Definitions.{function_of}
use Rattle.s_check.specs.Scopes.{Scope, type_in}
use Rattle.s_index.specs.Numbers.{group_tag_index}
use Rattle.s_index.specs.Types.{coroutine_type}
use Rattle.s_code.specs.Coroutines.{switch_code}
use Rattle.s_code.specs.Instructions.{local_get, switch}
use Rattle.s_code.specs.Layouts.{Local, Layout, number_in, local_number}
use Rattle.s_meaning.specs.Numbers.{Reused, Unhandled}
use Rattle.s_meaning.specs.Terms.{Value, Number, Reference, Variable, ToSwitch, Within, Place, Activation, Group, Number_alone, Begins, switched}
use Rattle.s_meaning.specs.Terms as script
use Rattle.s_meaning.specs.Typing.{kinds}
use Rattle.s_meaning.specs.Steps.{Step, or_fault, Cut, inward, cut_at, is_group, group_name, emptied, with_kept, next_address, kept_at, goes_into, switches}
use Rattle.s_meaning.specs.Typed.{World, HasKind, Covers, KeptTyped, takes_both, takes_call, EntryTyped, StoreTyped}
use Rattle.s_meaning.specs.Typed as typed
use Rattle.s_valid.proofs.LayoutTypes.{Placed as HasLocal}
use Rattle.s_agrees.proofs.StandsFor.{config, Same, Locals, Active, Rest, Base, within, Waits, activation, switched_code, SwitchedAs, switched_as, KeptAs, number_alone, number_and_coroutine, not_begun, Entry, consumed, keeps, Stores}
use Rattle.s_agrees.proofs.StandsFor as standing
use Rattle.s_agrees.proofs.Contexts.{deep_locals, rest_deep, base_locals}
use Rattle.s_agrees.proofs.Paths.{stay, get_path}
use Rattle.s_agrees.proofs.Matches.{Matches, faulted, under_first}
use Rattle.s_agrees.proofs.Facts.{Facts}
use Rattle.s_agrees.proofs.Tags.{group_told}
use Rattle.s_agrees.proofs.StoresGrow.{sides}
use Rattle.s_agrees.proofs.CutContexts.{GroupAt, group_cut, group_uncut}
use Rattle.s_agrees.proofs.UsesOfSlots.{continued}
use Rattle.s_agrees.proofs.CoroutineReductions.{switch_consumed, switch_outside}
use Rattle.s_agrees.proofs.Switches.{switch_into_body, switch_into_call}

-- ## The target

-- a value of the type coro is an address
coroutine_at : {Ξ : World} {v : Value} → HasKind Ξ v Coroutine → (a : ℕ) × (v ≡ Reference a) × (slice_get Ξ a ≡ Some Coroutine)
coroutine_at (typed.HasKind.coroutine {a = a} e) = (a, refl, e)

-- what is kept for a coroutine takes no number alone
not_captured : {p : Script} {Ξ : World} {k : script.Kept} → KeptTyped p Ξ Coroutine k → k.takes ≡ Number_alone → ⊥
not_captured (takes_both c b x) q = absurd (cc q)
not_captured (takes_call e x) q = absurd (cc q)

-- a function that it begins with takes a number and a coroutine
begins_with : {p : Script} {Ξ : World} {k : script.Kept} {f : Name} → KeptTyped p Ξ Coroutine k → k.takes ≡ Begins f
    → (g : Function) × (function_of p.declarations f ≡ Some g) × (kinds g.parameters ≡ Int ∷ Coroutine ∷ [])
begins_with (takes_both c b x) q = absurd (cc q)
begins_with {p} {f = f} (takes_call {f = h} {g = g} e x) q = let same : h ≡ f = cc q in (g, ap (λ (n : Name). function_of p.declarations n) (sym same) ∙ e, x)

-- ## What is kept

-- the code behind a switch and the instruction before it
abbrev code_behind : Code → Code
code_behind (Plain o (Plain s c)) = c
code_behind c = Done

-- what is inside the group is a coroutine that was switched from
left_inside : {ds : List Declaration} {ρ : List ℕ} {x u k : Name} {b : BlockTree} {vars : List Variable} {owner : Option Name} {κ : script.Context} {ops : Row Val} {c : Code} {e : Context}
    → Waits ds ρ (Activation vars owner (Within (ToSwitch x u k) b ∷ []) ∷ κ) ops c e → SwitchedAs ds ρ x u b vars owner κ (continuation_at 2 e ops (code_behind c))
left_inside (activation active (within (standing.Uses.switches hx hu hk rest)) base waits) = switched_as hx hu active rest base waits refl refl

-- ## The step

module _ {p : Script} (matches : ℕ → ℕ → Bool) (facts : Facts p.declarations) {ρ : List ℕ} {σ : script.Store} {s : Store} (stores : Stores p.declarations ρ σ s) (a b : ℕ) (there : slice_get ρ a ≡ Some b)
    {c c0 : Code} {e : Context} {κ1 κ2 : script.Context} (g : GroupAt p.declarations ρ ε c0 e κ1 κ2) (m : script.Kept) (left : KeptAs p.declarations ρ m (continuation_at 2 g.inside ε c))
    (z : ℤ) {w : Val} (number : Same ρ (Number z) w) (y : ℕ) (local : slice_get (locals_of e) y ≡ Some (Some (Cont b))) where
  -- what is switched to, by its type
  into_kept : {Ξ : World} {r : script.Kept} {k : Continuation} → slice_get σ.contexts a ≡ Some (Some r) → slice_get s.conts b ≡ Some (Some k) → KeptTyped p Ξ Coroutine r → KeptAs p.declarations ρ r k
      → Matches p matches 52 s (config e (ε ▹ w) (Plain (local_get y) (Plain (switch coroutine_type (group_tag_index p.declarations)) c)))
      (goes_into p (with_kept (emptied σ a) m) r.takes r.around z (next_address σ) (Group ∷ κ2))
  into_kept l q t (number_alone h) = absurd (not_captured t refl)
  into_kept {r = r} {k = k} l q t (number_and_coroutine h) = switch_into_body matches facts stores a b r k there l q g m left z number y local h
  into_kept {r = r} {k = k} l q t (not_begun {f = f} i) = let fn = begins_with t refl in switch_into_call matches facts stores a b r k there l q g m left z number y local f fn.0 refl fn.1 fn.2

module _ {p : Script} (matches : ℕ → ℕ → Bool) (facts : Facts p.declarations) {ρ : List ℕ} {σ : script.Store} {s : Store} (stores : Stores p.declarations ρ σ s) {Γ : Layout} {n D0 : ℕ} {L : Locals} {vars : List Variable} {owner : Option Name} {κ : script.Context} {below : Row Val} {c' : Code} {e' f : Context}
    (active : Active ρ Γ n L vars) (base : Base p.declarations Γ L below c' e' owner D0 f) (waits : Waits p.declarations ρ κ below c' e') where
  module _ {D : ℕ} (z : ℤ) {w : Val} {b : BlockTree} {c : Code} {e : Context} (x u k : Name) (number : Same ρ (Number z) w) (hx : HasLocal Γ x Int) (hu : HasLocal Γ u Coroutine) (hk : HasLocal Γ k Coroutine)
      (rest : Rest p.declarations Γ n D0 f D b c e) (a i : ℕ) (there : slice_get ρ a ≡ Some i) (held : slice_get L (local_number Γ k) ≡ Some (Some (Cont i))) where
    abbrev switch_term : Term
    switch_term = config e (ε ▹ w) (switch_code p.declarations Γ x u k c)

    locals : locals_of e ≡ L
    locals = deep_locals (rest_deep rest).deep ∙ base_locals base

    -- the switch is what the activation does with the number
    abbrev switching : Place
    switching = Activation vars owner (Within (ToSwitch x u k) b ∷ [])

    pending : Waits p.declarations ρ (switching ∷ κ) ε (switch_code p.declarations Γ x u k c) e
    pending = activation active (within (standing.Uses.switches hx hu hk rest)) base waits

    -- what the script does in a group, where r was kept for the target
    abbrev in_group : script.Kept → Cut (Unit {0}) → Step
    in_group r d = goes_into p (with_kept (emptied σ a) (switched x u b d.inner)) r.takes r.around z (next_address σ) (Group ∷ d.outer)

    -- the innermost group, if there is one
    by_group : {Ξ : World} {r : script.Kept} {l : Continuation} → kept_at σ a ≡ Some (Some r) → slice_get s.conts i ≡ Some (Some l) → KeptTyped p Ξ Coroutine r → KeptAs p.declarations ρ r l
        → (o : Option (Cut (Unit {0}))) → cut_at is_group κ ≡ o → Matches p matches 52 s switch_term (or_fault (Unhandled group_name) (option_map (inward (Activation vars owner [])) o) (in_group r))
    by_group {l = l} left_is right_is t kept None q =
        faulted (get_path (local_number Γ k) (Cont i) locals held (under_first s switch_term switch_term) stay)
        (switch_outside p matches s e ε (switched_code Γ x u c) (group_tag_index p.declarations) i w l right_is
        ((finding_none (Unit {0}) (switch_clause (group_tag_index p.declarations)) e).1 (group_uncut p.declarations pending (ap (λ (o : Option (Cut (Unit {0}))). option_map (inward switching) o) q))))
        (ap (λ (o : Option Name). option_map Unhandled o) (group_told p.declarations)) (omega arith)
    by_group left_is right_is t kept (Some d) q =
        let g = group_cut p.declarations pending (inward switching d) (ap (λ (o : Option (Cut (Unit {0}))). option_map (inward switching) o) q) in
        into_kept matches facts stores a i there g (switched x u b (Activation vars owner [] ∷ d.inner)) (number_and_coroutine (left_inside g.inner)) z number (local_number Γ k)
        (ap (λ (l : Locals). slice_get l (local_number Γ k)) locals ∙ held) left_is right_is t kept

    -- was the target consumed
    by_entry : {Ξ : World} {o : Option script.Kept} {q : Option Continuation} → Entry p.declarations ρ (Some o) (Some q) → EntryTyped p Ξ Coroutine o → kept_at σ a ≡ Some o → slice_get s.conts i ≡ Some q
        → Matches p matches 52 s switch_term (or_fault Reused o (λ (r : script.Kept). or_fault (Unhandled group_name) (option_map (inward (Activation vars owner [])) (cut_at is_group κ)) (in_group r)))
    by_entry consumed t left_is right_is =
        faulted (get_path (local_number Γ k) (Cont i) locals held (under_first s switch_term switch_term) stay)
        (switch_consumed p matches s e ε (switched_code Γ x u c) (group_tag_index p.declarations) i w right_is) refl (omega arith)
    by_entry (keeps kept) (typed.EntryTyped.kept t) left_is right_is = by_group left_is right_is t kept (cut_at is_group κ) refl

  -- switch x, u = k(z);
  pub switch_uses : {Ξ : World} {scope : Scope} {D : ℕ} {z : ℤ} {a : Val} {b : BlockTree} {c : Code} {e : Context} (x u k : Name)
      → StoreTyped p Ξ σ → Covers Ξ scope vars → type_in scope k ≡ Some Coroutine
      → Same ρ (Number z) a → HasLocal Γ x Int → HasLocal Γ u Coroutine → HasLocal Γ k Coroutine → Rest p.declarations Γ n D0 f D b c e
      → Matches p matches 52 s (config e (ε ▹ a) (switch_code p.declarations Γ x u k c)) (switches p (record { store = σ; variables = vars; owner = owner; work = []; outer = κ }) x u k (Number z) b)
  switch_uses {z = z} x u k typed covers named same hx hu hk rest =
      let v = covers.covers k Coroutine named in let to = coroutine_at v.has in
      let local = active.holds.each k v.variable v.there in
      let at = continued (subst (λ (t : Value). Same ρ t local.held.value) to.1 local.held.same) in
      let held : slice_get L (local_number Γ k) ≡ Some (Some (Cont at.continuation)) =
      ap (λ (o : Option Local). slice_get L (number_in o)) local.is ∙ local.held.is ∙ ap (λ (t : Val). Some (Some t)) at.is in
      let both = sides (stores.each to.0 at.continuation at.there) in
      rw (v.there, to.1, both.left_is)
      (by_entry z x u k same hx hu hk rest to.0 at.continuation at.there held both.entry (typed.each to.0 Coroutine both.left to.2 both.left_is) both.left_is both.right_is)
