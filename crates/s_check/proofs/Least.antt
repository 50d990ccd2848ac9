-- The least of rules.
use Rattle.std.proofs.Common.{◌≡◌, ℕ, ◌+◌, ◌<◌, List, [], ◌∷◌, ◌++◌, length, drop, get_or, Option, refl, sym, ap, ◌∙◌}
use Rattle.s_check.specs.declared.rule.Rule.{Rule}
use Rattle.s_check.specs.Least.{lesser, least_of}
use Rattle.lists.proofs.Lists.{cell}

-- of some and then of others
pub least_append : (least : Option Rule) (rs ss : List Rule) → least_of least (rs ++ ss) ≡ least_of (least_of least rs) ss
least_append least [] ss = refl
least_append least (r ∷ rs) ss = least_append (lesser least r) rs ss

-- of one item more, and then of those behind it
pub one_more : {A : Type 0} (part : A → List Rule) (parts : List A → List Rule) → ((x : A) (xs : List A) → parts (x ∷ xs) ≡ part x ++ parts xs)
    → (xs : List A) (i : ℕ) (x : A) (least now all : Option Rule) → i < length xs → x ≡ get_or xs i x → least_of least (parts (drop i xs)) ≡ all → now ≡ least_of least (part x)
    → least_of now (parts (drop (i + 1) xs)) ≡ all
one_more part parts step xs i x least now all h is inv n =
    ap (λ (o : Option Rule). least_of o (parts (drop (i + 1) xs))) n
    ∙ sym (least_append least (part x) (parts (drop (i + 1) xs)))
    ∙ ap (least_of least) (sym (step x (drop (i + 1) xs)))
    ∙ ap (λ (l : List _). least_of least (parts l)) (sym (cell xs i x h is))
    ∙ inv
