-- Rows of types among those of all files.
use Rattle.std.proofs.Common.{◌≡◌, ℕ, Bool, true, false, List, [], ◌∷◌, ◌++◌, Option, Some, None, inl, inr, refl, sym, ap, subst, subst₂, ◌∙◌}
use Rattle.std.specs.Prelude.{option_map}
use Rattle.std.proofs.lemmas.List.{map-append}
use Rattle.w_types.specs.declared.types.HeapType.{HeapType}
use Rattle.w_types.specs.declared.types.RecGroup.{RecGroup}
use Rattle.w_types.specs.declared.types.ValType.{ValType}
use Rattle.w_types.specs.declared.types.ValType.TheVariants.{I32}
use Rattle.lists.specs.Rows.{Row, ε, ◌▹◌, ◌⧺◌, onto, row_of, listed}
use Rattle.w_rules.specs.InstructionTypes.{InstrType, fixed, polymorphic, table_polymorphic, drops, selects, tests_null, as_non_null, on_null, untyped}
use Rattle.w_rules.specs.Matching.{OperandMatches, value, bottom, bottom_ref, bottom_refs, RowMatches, known}
use Rattle.w_rules.specs.Operands.{Operand}
use Rattle.w_rules.specs.Operands.{Known}
use Rattle.w_rules.specs.Typing.{HasType, Polymorphic, MatchesEach, IsNumeric, ref_to, HasInstrType}
use Rattle.w_link.specs.Shifted.{heap_shifted, type_shifted, types_shifted, row_shifted, rows_shifted, operand_shifted, operands_shifted}
use Rattle.w_link.specs.Fits.{Stands}
use Rattle.w_link.specs.Fine.{instr_shifted}
use Rattle.w_link.proofs.ShiftedMatching.{val_carried}

-- ## Rows

pub onto_shifted : (n : ℕ) (xs : Row ValType) (ts : List ValType) → row_shifted n (onto xs ts) ≡ onto (row_shifted n xs) (types_shifted n ts)
onto_shifted n xs [] = refl
onto_shifted n xs (t ∷ ts) = onto_shifted n (xs ▹ t) ts

-- the row of a list
pub row_of_shifted : (n : ℕ) (ts : List ValType) → row_shifted n (row_of ts) ≡ row_of (types_shifted n ts)
row_of_shifted n ts = onto_shifted n ε ts

pub listed_shifted : (n : ℕ) (ts : Row ValType) → listed (row_shifted n ts) ≡ types_shifted n (listed ts)
listed_shifted n ε = refl
listed_shifted n (ts ▹ t) = ap (λ (l : List ValType). l ++ type_shifted n t ∷ []) (listed_shifted n ts) ∙ sym (map-append (type_shifted n) (listed ts) (t ∷ []))

pub known_shifted : (n : ℕ) (ts : Row ValType) → operands_shifted n (known ts) ≡ known (row_shifted n ts)
known_shifted n ε = refl
known_shifted n (ts ▹ t) = ap (λ (r : Row Operand). r ▹ Known (type_shifted n t)) (known_shifted n ts)

pub beside_shifted : (n : ℕ) (xs ys : Row Operand) → operands_shifted n (xs ⧺ ys) ≡ operands_shifted n xs ⧺ operands_shifted n ys
beside_shifted n xs ε = refl
beside_shifted n xs (ys ▹ y) = ap (λ (r : Row Operand). r ▹ operand_shifted n y) (beside_shifted n xs ys)

pub ref_to_shifted : (n : ℕ) (b : Bool) (h : Option HeapType) → operand_shifted n (ref_to b h) ≡ ref_to b (option_map (heap_shifted n) h)
ref_to_shifted n b (Some h) = refl
ref_to_shifted n b None = refl

-- ## Matching

module _ (n : ℕ) (gs hs : List RecGroup) (stand : Stands n gs hs) where
  pub operand_carried : {t u : Operand} → OperandMatches gs t u → OperandMatches hs (operand_shifted n t) (operand_shifted n u)
  operand_carried (value {t} {u} h) = value (val_carried n gs hs stand t u h)
  operand_carried bottom = bottom
  operand_carried (bottom_ref f) = bottom_ref f
  operand_carried (bottom_refs f) = bottom_refs f

  pub row_carried : {ts us : Row Operand} → RowMatches gs ts us → RowMatches hs (operands_shifted n ts) (operands_shifted n us)
  row_carried RowMatches.none = RowMatches.none
  row_carried (RowMatches.more h k) = RowMatches.more (row_carried h) (operand_carried k)

  -- ## Instructions

  pub has_carried : {ins outs ts us : Row Operand} → HasType gs ins outs ts us
      → HasType hs (operands_shifted n ins) (operands_shifted n outs) (operands_shifted n ts) (operands_shifted n us)
  has_carried {ins} {outs} {ts} {us} h = record {
    beneath = operands_shifted n h.beneath;
    takes = subst (λ (r : Row Operand). RowMatches hs (operands_shifted n ts) r) (beside_shifted n h.beneath ins) (row_carried h.takes);
    gives = subst (λ (r : Row Operand). RowMatches hs r (operands_shifted n us)) (beside_shifted n h.beneath outs) (row_carried h.gives);
  }

  polymorphic_carried : {ins ts : Row Operand} → Polymorphic gs ins ts → Polymorphic hs (operands_shifted n ins) (operands_shifted n ts)
  polymorphic_carried {ins} {ts} h = record {
    beneath = operands_shifted n h.beneath;
    takes = subst (λ (r : Row Operand). RowMatches hs (operands_shifted n ts) r) (beside_shifted n h.beneath ins) (row_carried h.takes);
  }

  each_carried : (us : Row Operand) (vss : List (Row ValType)) → MatchesEach gs us vss → MatchesEach hs (operands_shifted n us) (rows_shifted n vss)
  each_carried us [] h = tt
  each_carried us (vs ∷ vss) h = (subst (λ (r : Row Operand). RowMatches hs (operands_shifted n us) r) (known_shifted n vs) (row_carried h.0), each_carried us vss h.1)

  numeric_carried : (t : Operand) → IsNumeric gs t → IsNumeric hs (operand_shifted n t)
  numeric_carried t (inl h) = inl (operand_carried h)
  numeric_carried t (inr h) = inr (operand_carried h)

  -- an instruction of a file's type has that type among all
  pub instr_carried : (l : InstrType) (ts us : Row Operand) → HasInstrType gs l ts us → HasInstrType hs (instr_shifted n l) (operands_shifted n ts) (operands_shifted n us)
  instr_carried (fixed ins outs) ts us h =
      subst₂ (λ (r q : Row Operand). HasType hs r q (operands_shifted n ts) (operands_shifted n us)) (known_shifted n ins) (known_shifted n outs) (has_carried h)
  instr_carried (polymorphic ins) ts us h = subst (λ (r : Row Operand). Polymorphic hs r (operands_shifted n ts)) (known_shifted n ins) (polymorphic_carried h)
  instr_carried (table_polymorphic one others) ts us h =
      record { ins = operands_shifted n h.ins; polymorphic = polymorphic_carried h.polymorphic; each = each_carried h.ins (one ∷ others) h.each }
  instr_carried drops ts us (t, h) = (operand_shifted n t, has_carried h)
  instr_carried selects ts us (t, m, h) = (operand_shifted n t, numeric_carried t m, has_carried h)
  instr_carried tests_null ts us (h, k) =
      (option_map (heap_shifted n) h, subst (λ (o : Operand). HasType hs (ε ▹ o) (ε ▹ Known I32) (operands_shifted n ts) (operands_shifted n us)) (ref_to_shifted n true h) (has_carried k))
  instr_carried as_non_null ts us (h, k) = (
    option_map (heap_shifted n) h,
    subst₂ (λ (o q : Operand). HasType hs (ε ▹ o) (ε ▹ q) (operands_shifted n ts) (operands_shifted n us))
        (ref_to_shifted n true h) (ref_to_shifted n false h) (has_carried k),
  )
  instr_carried (on_null vs) ts us (h, k) = (
    option_map (heap_shifted n) h,
    subst (λ (r : Row Operand). HasType hs (r ▹ ref_to true (option_map (heap_shifted n) h)) (r ▹ ref_to false (option_map (heap_shifted n) h))
        (operands_shifted n ts) (operands_shifted n us)) (known_shifted n vs)
        (subst₂ (λ (o q : Operand). HasType hs (operands_shifted n (known vs) ▹ o) (operands_shifted n (known vs) ▹ q) (operands_shifted n ts) (operands_shifted n us))
        (ref_to_shifted n true h) (ref_to_shifted n false h) (has_carried k)),
  )
  instr_carried untyped ts us h = absurd h
