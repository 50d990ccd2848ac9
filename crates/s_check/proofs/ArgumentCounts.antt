-- Arguments against parameters: as many, or another number.
use Rattle.std.proofs.Common.{◌≡◌, ℕ, suc, Bool, true, false, not, List, [], ◌∷◌, length, refl, ap, ◌∙◌}
use Rattle.s_syntax.specs.ExprTree.{ExprTree, exprs}
use Rattle.std.specs.Prelude.{nat_eq, if◌then◌else◌}
use Rattle.std.proofs.lemmas.Bool.{eq-eqb, eqb-true}
use Rattle.s_syntax.specs.declared.script.Parameter.{Parameter}
use Rattle.s_syntax.specs.declared.script.Declaration.{Declaration}
use Rattle.s_check.specs.declared.rule.Rule.TheVariants as rule
use Rattle.s_check.specs.Rules.{count, when, against, all_suit}
use Rattle.s_check.specs.Scopes.{Scope}

-- as many expressions as stand in the list
pub count_exprs : (es : List ExprTree) → count (exprs es) ≡ length es
count_exprs [] = refl
count_exprs (e ∷ es) = ap suc (count_exprs es)

against_by : (ds : List Declaration) (bs : Scope) (ps : List Parameter) (es : List ExprTree) (b : Bool) → nat_eq (length es) (length ps) ≡ b
    → against ds bs ps (exprs es) ≡ (if b then when (not (all_suit ds bs ps (exprs es))) rule.ArgumentOfOtherType else (rule.OtherNumberOfArguments ∷ []))
against_by ds bs ps es b e =
    ap (λ (n : ℕ). if nat_eq n (length ps) then when (not (all_suit ds bs ps (exprs es))) rule.ArgumentOfOtherType else (rule.OtherNumberOfArguments ∷ [])) (count_exprs es)
    ∙ ap (λ (q : Bool). if q then when (not (all_suit ds bs ps (exprs es))) rule.ArgumentOfOtherType else (rule.OtherNumberOfArguments ∷ [])) e

-- as many as there are parameters
pub against_as_many : (ds : List Declaration) (bs : Scope) (ps : List Parameter) (es : List ExprTree) → length es ≡ length ps → against ds bs ps (exprs es) ≡ when (not (all_suit ds bs ps (exprs es))) rule.ArgumentOfOtherType
against_as_many ds bs ps es h = against_by ds bs ps es true (eq-eqb (length es) (length ps) h)

-- and another number of them
pub against_others : (ds : List Declaration) (bs : Scope) (ps : List Parameter) (es : List ExprTree) → (length es ≡ length ps → ⊥) → against ds bs ps (exprs es) ≡ rule.OtherNumberOfArguments ∷ []
against_others ds bs ps es h = by (nat_eq (length es) (length ps)) refl
  where
    by : (b : Bool) → nat_eq (length es) (length ps) ≡ b → against ds bs ps (exprs es) ≡ rule.OtherNumberOfArguments ∷ []
    by true e = absurd (h (eqb-true (length es) (length ps) e))
    by false e = against_by ds bs ps es false e
