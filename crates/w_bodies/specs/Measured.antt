-- What is found of a body.
use Rattle.std.specs.Prelude.{◌≡◌, ℕ, ◌++◌, List, Option, Some, None}
use Rattle.w_types.specs.declared.types.ValType.{ValType}
use Rattle.w_syntax.specs.Code.{Code}
use Rattle.w_syntax.specs.declared.locals.LocalRun.{LocalRun}
use Rattle.w_rules.specs.Bodies.{types_of_runs, set_first, BodyTyped}
use Rattle.w_rules.specs.Context.{Context}
use Rattle.w_rules.specs.Peak.{peak, depth}
use Rattle.w_rules.specs.Spaces.{in_body}

-- the body is typed, with this height and this depth; or it is not
abbrev pub IsMeasure : Context → List ValType → List LocalRun → List ValType → Code → Option (ℕ × ℕ) → Type 0
IsMeasure c params runs results k None = BodyTyped c params runs results k → ⊥
IsMeasure c params runs results k (Some n) = BodyTyped c params runs results k
    × (n.0 ≡ peak (in_body c (params ++ types_of_runs runs) results) (set_first params runs) k 0)
    × (n.1 ≡ depth k)
