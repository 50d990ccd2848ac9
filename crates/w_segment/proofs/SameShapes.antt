-- Shapes that agree in each part.
use Rattle.std.proofs.Common.{◌≡◌, ℕ, ap, ◌∙◌}
use Rattle.std.specs.Prelude.{min}
use Rattle.w_segment.specs.Shape.{Shape, Capacity}
use Rattle.w_segment.specs.declared.stack.TheConstants.{MOST_LEVELS}

-- a shape is its parts
pub same_shape : (s s' : Shape) → s.levels ≡ s'.levels → s.operands ≡ s'.operands → s.func ≡ s'.func → s.place ≡ s'.place → s.stage ≡ s'.stage
    → s.capacity ≡ s'.capacity → s ≡ s'
same_shape s s' a b c d e f =
    ap (λ x. let r : Shape = record s { levels = x } in r) a
    ∙ ap (λ x. let r : Shape = record s { levels = s'.levels; operands = x } in r) b
    ∙ ap (λ x. let r : Shape = record s { levels = s'.levels; operands = s'.operands; func = x } in r) c
    ∙ ap (λ x. let r : Shape = record s { levels = s'.levels; operands = s'.operands; func = s'.func; place = x } in r) d
    ∙ ap (λ x. let r : Shape = record s { levels = s'.levels; operands = s'.operands; func = s'.func; place = s'.place; stage = x } in r) e
    ∙ ap (λ x. let r : Shape = record s' { capacity = x } in r) f

-- a capacity is its parts
pub same_capacity : (a a' b b' c c' : ℕ) → a ≡ a' → b ≡ b' → c ≡ c'
    → (let r : Capacity = record { operands = a; levels = min b MOST_LEVELS; locals = c } in r) ≡ record { operands = a'; levels = min b' MOST_LEVELS; locals = c' }
same_capacity a a' b b' c c' e f g =
    ap (λ x. let r : Capacity = record { operands = x; levels = min b MOST_LEVELS; locals = c } in r) e
    ∙ ap (λ x. let r : Capacity = record { operands = a'; levels = min x MOST_LEVELS; locals = c } in r) f
    ∙ ap (λ x. let r : Capacity = record { operands = a'; levels = min b' MOST_LEVELS; locals = x } in r) g
