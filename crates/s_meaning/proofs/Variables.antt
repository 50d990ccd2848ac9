-- Variables.
use Rattle.std.proofs.Common.{◌≡◌, ℤ, Bool, true, false, List, [], ◌∷◌, Option, Some, None, if◌then◌else◌, sym, ap, ◌∙◌, subst}
use Rattle.std.specs.Str.{bytes_eq}
use Rattle.s_syntax.specs.declared.name.Name.{Name}
use Rattle.s_syntax.specs.declared.script.VariableType.{VariableType}
use Rattle.s_check.specs.Scopes.{Scope, type_in, number as number_name}
use Rattle.s_meaning.proofs.Scopes.{same_is, same_refl, bool_of}
use Rattle.s_meaning.specs.Terms.{Value, Variable}
use Rattle.s_meaning.specs.Focus.{variable_of}
use Rattle.s_meaning.specs.Steps.{with_variable, stored}
use Rattle.s_meaning.specs.Typed.{World, HasKind, int, Variable_typed, Covers, Keeps}

-- it is there, by its name
pub variable_with : (v : Variable) (vs : List Variable) → variable_of v.name (with_variable v vs) ≡ Some v
variable_with v [] = ap (λ (b : Bool). if b then Some v else None) (same_refl v.name)
variable_with v (u ∷ vs) = bool_of (bytes_eq u.name v.name) (λ b. variable_of v.name (if b then v ∷ vs else (u ∷ with_variable v vs)) ≡ Some v)
    (λ q. ap (λ (b : Bool). if b then Some v else variable_of v.name vs) (same_refl v.name))
    (λ q. ap (λ (b : Bool). if b then Some u else variable_of v.name (with_variable v vs)) q ∙ variable_with v vs)

-- variables of other names are as before
pub variable_other : (v : Variable) (vs : List Variable) (y : Name) → bytes_eq v.name y ≡ false → variable_of y (with_variable v vs) ≡ variable_of y vs
variable_other v [] y other = ap (λ (b : Bool). if b then Some v else None) other
variable_other v (u ∷ vs) y other = bool_of (bytes_eq u.name v.name) (λ b. variable_of y (if b then v ∷ vs else (u ∷ with_variable v vs)) ≡ variable_of y (u ∷ vs))
    (λ q. ap (λ (b : Bool). if b then Some v else variable_of y vs) other
    ∙ sym (ap (λ (b : Bool). if b then Some u else variable_of y vs) (ap (λ (z : Name). bytes_eq z y) (sym (same_is v.name u.name q)) ∙ other)))
    (λ q. ap (λ (o : Option Variable). if bytes_eq u.name y then Some u else o) (variable_other v vs y other))

pub covers_less : {Ξ : World} {Γ Γ' : Scope} {vars : List Variable} → Keeps Γ Γ' → Covers Ξ Γ' vars → Covers Ξ Γ vars
covers_less m c = record { covers = λ x k e. c.covers x k (m.keeps x k e) }

abbrev pub variable : Name → VariableType → Value → Variable
variable x t v = record { name = x; ty = t; value = v }

-- a variable that takes the place of the one of its name
pub covers_with : {Ξ : World} {Γ : Scope} {vars : List Variable} {t : VariableType} {v : Value} (x : Name) → HasKind Ξ v t → Covers Ξ Γ vars
    → Covers Ξ (record { name = x; ty = t } ∷ Γ) (with_variable (variable x t v) vars)
covers_with {Ξ} {Γ} {vars} {t} {v} x h c = record { covers = covers }
  where
    now : (y : Name) (k : VariableType) → bytes_eq x y ≡ true → t ≡ k → Variable_typed Ξ (with_variable (variable x t v) vars) y k
    now y k q e = record {
      variable = variable x t v;
      there = ap (λ (z : Name). variable_of z (with_variable (variable x t v) vars)) (same_is y x q) ∙ variable_with (variable x t v) vars;
      of_kind = e;
      has = subst (λ (j : VariableType). HasKind Ξ v j) e h;
    }

    other : (y : Name) (k : VariableType) → bytes_eq x y ≡ false → type_in Γ y ≡ Some k → Variable_typed Ξ (with_variable (variable x t v) vars) y k
    other y k q e = let u = c.covers y k e in
        record { variable = u.variable; there = variable_other (variable x t v) vars y q ∙ u.there; of_kind = u.of_kind; has = u.has }

    covers : (y : Name) (k : VariableType) → type_in (record { name = x; ty = t } ∷ Γ) y ≡ Some k → Variable_typed Ξ (with_variable (variable x t v) vars) y k
    covers y k = bool_of (bytes_eq x y) (λ b. (if b then Some t else type_in Γ y) ≡ Some k → Variable_typed Ξ (with_variable (variable x t v) vars) y k)
        (λ q e. now y k q (cc e)) (λ q e. other y k q e)

-- a variable set to a number
pub covers_stored : {Ξ : World} {Γ : Scope} {vars : List Variable} (x : Name) (n : ℤ) → Covers Ξ Γ vars → Covers Ξ (number_name x ∷ Γ) (stored x n vars)
covers_stored x n c = covers_with x int c
