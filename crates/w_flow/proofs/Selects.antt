-- The one type of the two numbers that a select takes.
use Rattle.std.proofs.Common.{List, inl, inr}
use Rattle.w_types.specs.declared.types.RecGroup.{RecGroup}
use Rattle.w_types.specs.declared.types.ValType.TheVariants.{I32, I64}
use Rattle.w_canon.specs.Matching.{i32, i64}
use Rattle.w_rules.specs.Operands.{Operand}
use Rattle.w_rules.specs.Operands.{Known, Bottom}
use Rattle.w_rules.specs.Conditions.{Holds}
use Rattle.w_rules.specs.Matching.{OperandMatches, value, bottom}
use Rattle.w_rules.specs.Typing.{IsNumeric}
use Rattle.w_flow.specs.Flow.{select_of}

module _ (gs : List RecGroup) where
  -- by the type, which is one of numbers or bottom
  below : (a b t : Operand) → IsNumeric gs t → OperandMatches gs a t → OperandMatches gs b t →
      Holds (select_of a b) (λ (x : Operand). OperandMatches gs x t)
  below _ _ _ (inl (value i32)) (value i32) (value i32) = value i32
  below _ _ _ (inl (value i32)) (value i32) bottom = value i32
  below _ _ _ (inl (value i32)) bottom (value i32) = value i32
  below _ _ _ (inl (value i32)) bottom bottom = bottom
  below _ _ _ (inl bottom) bottom bottom = bottom
  below _ _ _ (inr (value i64)) (value i64) (value i64) = value i64
  below _ _ _ (inr (value i64)) (value i64) bottom = value i64
  below _ _ _ (inr (value i64)) bottom (value i64) = value i64
  below _ _ _ (inr (value i64)) bottom bottom = bottom
  below _ _ _ (inr bottom) bottom bottom = bottom

  -- numbers that match a type of numbers have one that matches it
  pub select_below : (a b t : Operand) → OperandMatches gs a t → OperandMatches gs b t → IsNumeric gs t →
      Holds (select_of a b) (λ (x : Operand). OperandMatches gs x t)
  select_below a b t h k n = below a b t n h k

  -- each of them matches the type, which is one of numbers
  abbrev pub Selected : Operand → Operand → Operand → Type 0
  Selected a b x = OperandMatches gs a x × OperandMatches gs b x × IsNumeric gs x

  -- where there is one type of two operands, both match it, and it is one of numbers
  pub select_is : (a b : Operand) (Q : Operand → Type 0) → Holds (select_of a b) Q → (x : Operand) × Q x × Selected a b x
  select_is Bottom Bottom Q q = (Bottom, q, (bottom, bottom, inl bottom))
  select_is Bottom (Known I32) Q q = (Known I32, q, (bottom, value i32, inl (value i32)))
  select_is Bottom (Known I64) Q q = (Known I64, q, (bottom, value i64, inr (value i64)))
  select_is (Known I32) Bottom Q q = (Known I32, q, (value i32, bottom, inl (value i32)))
  select_is (Known I32) (Known I32) Q q = (Known I32, q, (value i32, value i32, inl (value i32)))
  select_is (Known I64) Bottom Q q = (Known I64, q, (value i64, bottom, inr (value i64)))
  select_is (Known I64) (Known I64) Q q = (Known I64, q, (value i64, value i64, inr (value i64)))
  select_is a b Q q = absurd q
