-- A name's local is set, to a value of the name's type: its variable is then set.
use Rattle.std.proofs.Common.{◌≡◌, ℕ, ◌<◌, Bool, true, false, List, length, Some, sym, ap, ◌∙◌, subst, arith}
use Rattle.std.specs.Prelude.{slice_set}
use Rattle.std.specs.Str.{bytes_eq}
use Rattle.w_reduce.specs.Values.{Val}
use Rattle.s_syntax.specs.declared.name.Name.{Name}
use Rattle.s_syntax.specs.declared.script.VariableType.{VariableType}
use Rattle.s_code.specs.Layouts.{Local, Layout, local_of}
use Rattle.s_meaning.specs.Terms.{Value, Variable}
use Rattle.s_meaning.specs.Focus.{variable_of}
use Rattle.s_meaning.specs.Steps.{with_variable}
use Rattle.s_meaning.proofs.Lists.{length_set}
use Rattle.s_meaning.proofs.Scopes.{same_is, same_refl, bool_of}
use Rattle.s_meaning.proofs.Variables.{variable, variable_with, variable_other}
use Rattle.s_valid.proofs.LayoutTypes.{Placed as HasLocal}
use Rattle.s_agrees.proofs.StandsFor.{Same, Locals, InLocal, Active}
use Rattle.s_agrees.proofs.MoreResumptions.{get_set_same, get_set_other}
use Rattle.s_agrees.proofs.BoundValues.{some_is}
use Rattle.s_agrees.proofs.Captures.{in_range}

module _ {ρ : List ℕ} {Γ : Layout} {n : ℕ} {L : Locals} {vars : List Variable} (x : Name) (t : VariableType) (v : Value) {a : Val} (h : HasLocal Γ x t) (same : Same ρ v a) (active : Active ρ Γ n L vars) where
  -- it is one of the frame's
  pub local_below : h.local.number < length L
  local_below = let b = active.fine.below x h.local h.is in let r = active.room in omega (arith, b, r)

  abbrev set_locals : Locals
  set_locals = slice_set L h.local.number (Some a)

  -- the name's own variable
  set_now : (y : Name) (w : Variable) → y ≡ x → Some (variable x t v) ≡ Some w → InLocal ρ Γ set_locals y w
  set_now y w e q =
      let old = in_range L h.local.number local_below in
      subst (λ (z : Variable). InLocal ρ Γ set_locals y z) (some_is q) (record {
        local = h.local;
        is = ap (λ (z : Name). local_of Γ.names z) e ∙ h.is;
        ty = h.ty;
        held = record { value = a; is = get_set_same L h.local.number (Some a) old.0 old.1; same = same };
      })

  -- another name has another local
  other_number : (y : Name) (l : Local) → bytes_eq x y ≡ false → local_of Γ.names y ≡ Some l → (h.local.number ≡ l.number) → ⊥
  other_number y l other is e =
      let s = active.fine.apart x y h.local l h.is is e in
      let r : bytes_eq x y ≡ true = ap (λ (z : Name). bytes_eq x z) (sym s) ∙ same_refl x in absurd (cc (sym r ∙ other))

  -- another name's variable
  set_other : (y : Name) (w : Variable) → bytes_eq x y ≡ false → variable_of y vars ≡ Some w → InLocal ρ Γ set_locals y w
  set_other y w other q =
      let i = active.holds.each y w q in record {
        local = i.local;
        is = i.is;
        ty = i.ty;
        held = record { value = i.held.value; is = get_set_other L h.local.number i.local.number (Some a) (other_number y i.local other i.is) ∙ i.held.is; same = i.held.same };
      }

  -- all variables are in their locals again
  pub active_with : Active ρ Γ n set_locals (with_variable (variable x t v) vars)
  active_with = record {
    fine = active.fine;
    room = let e = length_set L h.local.number (Some a) in let r = active.room in omega (arith, e, r);
    holds = record {
      each = λ y w q. bool_of (bytes_eq x y) (λ (b : Bool). InLocal ρ Γ set_locals y w)
          (λ e. let s = same_is y x e in set_now y w s (sym (ap (λ (z : Name). variable_of z (with_variable (variable x t v) vars)) s ∙ variable_with (variable x t v) vars) ∙ q))
          (λ e. set_other y w e (sym (variable_other (variable x t v) vars y e) ∙ q));
    };
  }
