-- A coroutine that is switched to goes on in another context: its names of the number and of the coroutine are set, and then the module's
-- term stands for the script's, in what is around the group.
use Rattle.std.proofs.Common.{◌≡◌, ℕ, zero, suc, ℤ, List, [], ◌∷◌, ◌++◌, Option, Some, refl, sym, ap, ◌∙◌, subst}
use Rattle.std.specs.Prelude.{slice_set}
use Rattle.lists.specs.Rows.{Row, ε, ◌▹◌}
use Rattle.w_syntax.specs.Code.{Code, Done, Plain}
use Rattle.w_reduce.specs.Values.{Val}
use Rattle.w_reduce.specs.Store.{Store}
use Rattle.w_reduce.specs.Terms.{Context, with_local}
use Rattle.w_reduce.specs.Program.{Program}
use Rattle.s_syntax.specs.declared.name.Name.{Name}
use Rattle.s_syntax.specs.declared.script.VariableType.TheVariants.{Int, Coroutine}
use Rattle.s_syntax.specs.declared.script.Declaration.{Declaration}
use Rattle.s_syntax.specs.BlockTree.{BlockTree}
use Rattle.s_code.specs.Instructions.{local_set}
use Rattle.s_code.specs.Layouts.{Local, Layout, local_of, local_number}
use Rattle.s_meaning.specs.Terms.{Number, Reference, Variable, Activation, Runs}
use Rattle.s_meaning.specs.Terms as script
use Rattle.s_meaning.specs.Steps.{stored, with_coroutine}
use Rattle.s_valid.proofs.LayoutTypes.{Placed as HasLocal}
use Rattle.s_agrees.proofs.StandsFor.{config, Same, Locals, Active, Rest, Base, Waits, Stands, runs, switched_code}
use Rattle.s_agrees.proofs.Contexts.{setting, plugging, rest_beyond, rest_deep, base_set, base_plug, waits_join}
use Rattle.s_agrees.proofs.Paths.{Caps, Under, Path, stay, go, under_set}
use Rattle.s_agrees.proofs.BoundValues.{some_is}
use Rattle.s_agrees.proofs.NamesSet.{active_with}
use Rattle.s_agrees.proofs.CoroutineReductions.{name_step}

-- places that aren't the same are set in either order
sets_apart : {A : Type 0} (xs : List A) (a b : ℕ) (y z : A) → ((a ≡ b) → ⊥) → slice_set (slice_set xs a y) b z ≡ slice_set (slice_set xs b z) a y
sets_apart [] a b y z n = refl
sets_apart (x ∷ xs) zero zero y z n = absurd (n refl)
sets_apart (x ∷ xs) zero (suc b) y z n = refl
sets_apart (x ∷ xs) (suc a) zero y z n = refl
sets_apart {A} (x ∷ xs) (suc a) (suc b) y z n = ap (λ (l : List A). x ∷ l) (sets_apart xs a b y z (λ e. n (ap suc e)))

module _ {ds : List Declaration} {ρ : List ℕ} {Γ : Layout} {n D0 D : ℕ} {L : Locals} {vars : List Variable} {owner : Option Name} {κ κ2 : script.Context} {below : Row Val} {b : BlockTree} {c c' : Code} {e e' f tail : Context}
    (active : Active ρ Γ n L vars) (rest : Rest ds Γ n D0 f D b c e) (base : Base ds Γ L below c' e' owner D0 f) (waits : Waits ds ρ κ below c' e') (around : Waits ds ρ κ2 ε Done tail)
    {x u : Name} (hx : HasLocal Γ x Int) (hu : HasLocal Γ u Coroutine) (z : ℤ) (i : ℕ) {a a' : Val} (number : Same ρ (Number z) a) (coroutine : Same ρ (Reference i) a') where
  -- what is a number isn't a coroutine
  names_apart : (hx.local.number ≡ hu.local.number) → ⊥
  names_apart e =
      let same = active.fine.apart x u hx.local hu.local hx.is hu.is e in
      let local : hx.local ≡ hu.local = some_is (sym hx.is ∙ ap (λ (y : Name). local_of Γ.names y) same ∙ hu.is) in
      absurd (let q = sym hx.ty ∙ ap (λ (l : Local). l.ty) local ∙ hu.ty in cc q)

  -- the locals, u's being set first, and the variables
  abbrev locals_u : Locals
  locals_u = slice_set L hu.local.number (Some a')

  active_now : Active ρ Γ n (slice_set locals_u hx.local.number (Some a)) (with_coroutine u i (stored x z vars))
  active_now =
      subst (λ (l : Locals). Active ρ Γ n l (with_coroutine u i (stored x z vars))) (sets_apart L hx.local.number hu.local.number (Some a) (Some a') names_apart)
      (active_with u Coroutine (Reference i) hu coroutine (active_with x Int (Number z) hx number active))

  rest_tail : Rest ds Γ n D0 (f ++ tail) D b c (e ++ tail)
  rest_tail = rest_beyond (plugging tail) rest

  base_tail : Base ds Γ L below c' (e' ++ tail) owner D0 (f ++ tail)
  base_tail = base_plug tail base

  -- where the coroutine goes on
  abbrev pub going_on : Context
  going_on = with_local hx.local.number a (with_local hu.local.number a' (e ++ tail))

  pub switched_stands : Stands ds ρ (record { hole = Runs b; around = Activation (with_coroutine u i (stored x z vars)) owner [] ∷ (κ ++ κ2) }) (config going_on ε c)
  switched_stands =
      runs active_now (rest_beyond (setting hx.local.number a) (rest_beyond (setting hu.local.number a') rest_tail))
      (base_set hx.local.number a (base_set hu.local.number a' base_tail)) (waits_join κ2 tail around waits)

  -- by two reductions
  pub switched_path : (P : Program) (k : Caps) (s : Store) → Under k s (e ++ tail) → Path P k 2 s (config (e ++ tail) ((ε ▹ a) ▹ a') (switched_code Γ x u c)) s (config going_on ε c)
  switched_path P k s under =
      let active_u = active_with u Coroutine (Reference i) hu coroutine active in
      let rest_u = rest_beyond (setting hu.local.number a') rest_tail in
      go (name_step P s active base_tail (rest_deep rest_tail).deep hu (ε ▹ a) a' (Plain (local_set (local_number Γ x)) c)) (under_set hu.local.number a' under)
      (go (name_step P s active_u (base_set hu.local.number a' base_tail) (rest_deep rest_u).deep hx ε a c) (under_set hx.local.number a (under_set hu.local.number a' under)) stay)
