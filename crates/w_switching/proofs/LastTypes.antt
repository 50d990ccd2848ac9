-- The type that a switch gives back.
use Rattle.std.proofs.Common.{◌≡◌, ◌≤◌, ℕ, length, List, [], ◌∷◌, ◌++◌, Option, Some, None, refl, ap, ◌∙◌}
use Rattle.w_types.specs.declared.types.FuncType.{FuncType}
use Rattle.w_types.specs.declared.types.ValType.{ValType}
use Rattle.lists.specs.Rows.{◌▹◌, row_of}
use Rattle.lists.proofs.Rows.{row_of-more}
use Rattle.w_syntax.specs.declared.module.Module.{Module}
use Rattle.w_rules.specs.Context.{cont_of}
use Rattle.w_rules.specs.Limits.{most_params}
use Rattle.w_rules.specs.Spaces.{context_of}
use Rattle.w_reduce.specs.Reduced.{Reduced, or_stuck}
use Rattle.w_reduce.specs.Switching.{back_type}
use Rattle.w_stands.specs.Code.{AreNarrow}
use Rattle.w_stands.proofs.Narrow.{narrow_cont}
use Rattle.w_switching.specs.BackTypes.{last_cont, cont_at, back_of}

-- by the last of the types
pub by_last : (types beneath : List ValType) (top u : ValType) → types ≡ beneath ++ top ∷ [] → top ≡ u → back_type (row_of types) ≡ back_type (row_of beneath ▹ u)
by_last types beneath top u e f = ap back_type (ap row_of e ∙ row_of-more beneath top ∙ ap (λ (v : ValType). row_of beneath ▹ v) f)

-- a rule that looks up the three types one after the other
pub looks_up : (m : Module) (x : ℕ) (go : FuncType → Reduced) →
    or_stuck (cont_of (context_of m) x) (λ t. or_stuck (back_type (row_of t.params)) (λ y. or_stuck (cont_of (context_of m) y) go)) ≡ or_stuck (back_of m x) go
looks_up m x go = first (cont_of (context_of m) x)
  where
    -- the last two
    second : (o : Option ℕ) → or_stuck o (λ y. or_stuck (cont_of (context_of m) y) go) ≡ or_stuck (cont_at m o) go
    second None = refl
    second (Some y) = refl

    -- all three
    first : (o : Option FuncType) → or_stuck o (λ t. or_stuck (back_type (row_of t.params)) (λ y. or_stuck (cont_of (context_of m) y) go)) ≡ or_stuck (cont_at m (last_cont o)) go
    first None = refl
    first (Some t) = second (back_type (row_of t.params))

-- it has few parameters where all types have
narrow_cont_at : (m : Module) (o : Option ℕ) (t : FuncType) → AreNarrow m → cont_at m o ≡ Some t → length t.params ≤ most_params
narrow_cont_at m None t narrow is = absurd (cc)
narrow_cont_at m (Some y) t narrow is = (narrow_cont m y t narrow is).0

pub narrow_at_back : (m : Module) (x : ℕ) (t : FuncType) → AreNarrow m → back_of m x ≡ Some t → length t.params ≤ most_params
narrow_at_back m x t narrow is = narrow_cont_at m (last_cont (cont_of (context_of m) x)) t narrow is
