-- What holds of all values still holds behind an instruction.
use Rattle.std.proofs.Common.{◌≡◌, ℕ, ◌+◌, ◌∷◌, drop, sym, subst}
use Rattle.w_types.specs.declared.value.Value.{Value}
use Rattle.w_segment.specs.Shape.{Shape}
use Rattle.w_segment.specs.Changes.{moved, popped, with_locals}
use Rattle.w_segment.specs.Holds.{AllOf, LevelsHold, Holds}
use Rattle.w_segment.proofs.FactsOfValues.{moved_holds, popped_holds, set_holds}
use Rattle.w_stands.specs.GoingOn.{IsPushedNext}

-- also of a value that was pushed
pub pushed_next_holds : (P : Value → Type 0) (v : Value) (s s' : Shape) → IsPushedNext v s s' → P v → Holds P s → Holds P s'
pushed_next_holds P v s s' n passes h = record {
  operands = subst (AllOf P) (sym n.operands) (passes, h.operands);
  levels = subst (LevelsHold P) (sym n.levels) h.levels;
}

-- of the topmost operand
top_holds : (P : Value → Type 0) (s : Shape) (v : Value) → s.operands ≡ v ∷ drop 1 s.operands → Holds P s → P v
top_holds P s v e h = (subst (AllOf P) e h.operands).0

-- and of it as a local, whether it stays an operand or not
pub kept : (P : Value → Type 0) (s s' : Shape) (v : Value) (x : ℕ) → s.operands ≡ v ∷ drop 1 s.operands → s' ≡ moved (s.place + 1) (with_locals x v s) → Holds P s → Holds P s'
kept P s s' v x e after h = subst (Holds P) (sym after) (moved_holds P (s.place + 1) (with_locals x v s) (set_holds P x v s (top_holds P s v e h) h))

pub kept_popped : (P : Value → Type 0) (s s' : Shape) (v : Value) (x : ℕ) → s.operands ≡ v ∷ drop 1 s.operands → s' ≡ moved (s.place + 1) (with_locals x v (popped s)) →
    Holds P s → Holds P s'
kept_popped P s s' v x e after h =
    subst (Holds P) (sym after) (moved_holds P (s.place + 1) (with_locals x v (popped s)) (set_holds P x v (popped s) (top_holds P s v e h) (popped_holds P s h)))
