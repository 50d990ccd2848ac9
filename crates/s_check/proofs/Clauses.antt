-- Clauses of a handler and declarations of a script, one by one.
use Rattle.std.proofs.Common.{◌≡◌, ℕ, ◌+◌, ◌<◌, Bool, true, false, not, List, [], ◌∷◌, ◌++◌, length, drop, get_or, Option, Some, None, refl, sym, ap, ◌∙◌, add-one}
use Rattle.s_syntax.specs.declared.name.Name.{Name}
use Rattle.s_syntax.specs.declared.script.Clause.{Clause}
use Rattle.s_syntax.specs.declared.script.Handler.{Handler}
use Rattle.s_syntax.specs.declared.script.Declaration.{Declaration}
use Rattle.s_check.specs.declared.rule.Rule.{Rule}
use Rattle.s_check.specs.Definitions.{effect_of}
use Rattle.s_check.specs.Least.{least_of, first_or, first_broken}
use Rattle.s_check.specs.Rules.{in_head, in_body, in_clauses, in_declaration, in_declarations, in_main}
use Rattle.s_check.specs.Scopes.{of_clause}
use Rattle.s_check.proofs.Least.{least_append}
use Rattle.lists.proofs.Lists.{cell}

pub not_not : (b : Bool) → not (not b) ≡ b
not_not true = refl
not_not false = refl

-- one clause more
pub clause_more : (ds : List Declaration) (h : Name) (i : Handler) (cs : List Clause) (k : ℕ) (c : Clause) (seen : List Name) (least head now all : Option Rule) → k < length cs → c ≡ get_or cs k c
    → head ≡ least_of least (in_head (effect_of ds c.effect) seen c) → now ≡ least_of head (in_body ds (of_clause h i c) c.body)
    → least_of least (in_clauses ds h i seen (drop k cs)) ≡ all → least_of now (in_clauses ds h i (c.effect ∷ seen) (drop (k + 1) cs)) ≡ all
clause_more ds h i cs k c seen least head now all below is e n inv =
    let heads = in_head (effect_of ds c.effect) seen c in
    let body = in_body ds (of_clause h i c) c.body in
    let rest = in_clauses ds h i (c.effect ∷ seen) (drop (k + 1) cs) in
    ap (λ (o : Option Rule). least_of o rest) (n ∙ ap (λ (o : Option Rule). least_of o body) e ∙ sym (least_append least heads body))
    ∙ sym (least_append least (heads ++ body) rest)
    ∙ ap (λ (l : List Clause). least_of least (in_clauses ds h i seen l)) (sym (cell cs k c below is))
    ∙ inv

-- ## Declarations

-- what is found from declaration i on
abbrev pub found_from : List Declaration → List Name → ℕ → Option (ℕ × Rule)
found_from ds seen i = first_broken i (in_declarations ds seen (drop i ds) ++ in_main ds ∷ [])

module _ (ds : List Declaration) (i : ℕ) (d : Declaration) (seen : List Name) (below : i < length ds) (is : d ≡ get_or ds i d) where
  found_here : found_from ds seen i ≡ first_or i (least_of None (in_declaration ds seen d)) (found_from ds (d.name ∷ seen) (i + 1))
  found_here =
      ap (λ (l : List Declaration). first_broken i (in_declarations ds seen l ++ in_main ds ∷ [])) (cell ds i d below is)
      ∙ ap (λ (k : ℕ). first_or i (least_of None (in_declaration ds seen d)) (first_broken k (in_declarations ds (d.name ∷ seen) (drop (i + 1) ds) ++ in_main ds ∷ []))) (sym (add-one i))

  -- it breaks a rule
  pub declaration_found : (r : Rule) (all : Option (ℕ × Rule)) → least_of None (in_declaration ds seen d) ≡ Some r → found_from ds seen i ≡ all → Some (i, r) ≡ all
  declaration_found r all e inv = sym (ap (λ (o : Option Rule). first_or i o (found_from ds (d.name ∷ seen) (i + 1))) e) ∙ sym found_here ∙ inv

  -- or none
  pub declaration_more : (all : Option (ℕ × Rule)) → least_of None (in_declaration ds seen d) ≡ None → found_from ds seen i ≡ all → found_from ds (d.name ∷ seen) (i + 1) ≡ all
  declaration_more all e inv = sym (ap (λ (o : Option Rule). first_or i o (found_from ds (d.name ∷ seen) (i + 1))) e) ∙ sym found_here ∙ inv

pub nothing : {A : Type 0} (o : Option A) → ((x : A) → o ≡ Some x → ⊥) → o ≡ None
nothing None h = refl
nothing (Some x) h = absurd (h x refl)
