-- The words of the operands of blocks.
use Rattle.std.specs.Prelude.{List, [], ◌∷◌}
use Rattle.std.specs.Coded.{×_prop, Unit-prop}
use Rattle.w_canon.specs.declared.entry.Entry.{Entry}
use Rattle.w_rows.specs.OneProof.{AreWorded-prop}
use Rattle.w_flow.specs.View.{HasWords}
use Rattle.w_steps.specs.declared.frame.Frame as code

-- in each of these blocks the words of the operands are those of their types
abbrev pub EachHasWords : List Entry → List code.Frame → Type 0
EachHasWords es [] = Unit {0}
EachHasWords es (f ∷ fs) = HasWords es f.flow × EachHasWords es fs

-- this has one proof at most, so that a struct can keep it
pub EachHasWords-prop : (es : List Entry) (fs : List code.Frame) → IsProp (EachHasWords es fs)
EachHasWords-prop es [] = Unit-prop
EachHasWords-prop es (f ∷ fs) = ×_prop (AreWorded-prop es f.flow.operands) (EachHasWords-prop es fs)
