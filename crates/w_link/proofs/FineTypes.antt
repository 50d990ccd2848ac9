-- An instruction that takes more and gives less has each type that another has.
use Rattle.std.proofs.Common.{◌≡◌, Bool, true, false, ℕ, List, refl}
use Rattle.w_types.specs.declared.types.RecGroup.{RecGroup}
use Rattle.lists.specs.Rows.{Row, ◌⧺◌}
use Rattle.w_canon.specs.Supertypes.{KeepsKinds}
use Rattle.w_rules.specs.InstructionTypes.{InstrType, if_valid}
use Rattle.w_rules.specs.Matching.{known}
use Rattle.w_rules.specs.Operands.{Operand}
use Rattle.w_rules.specs.Typing.{HasInstrType}
use Rattle.w_rules.proofs.Preorder.{row_refl, row_trans, row_beside}
use Rattle.w_link.specs.Fine.{Fine, same, below, below_any, nothing, instr_shifted}

pub fine_has : (gs : List RecGroup) → KeepsKinds gs → {l m : InstrType} (ts us : Row Operand) → Fine gs l m → HasInstrType gs l ts us → HasInstrType gs m ts us
fine_has gs keeps ts us same h = h
fine_has gs keeps ts us (below_any {ins} {more} p) h = record {
  beneath = h.beneath;
  takes = row_trans gs keeps ts (h.beneath ⧺ known ins) (h.beneath ⧺ known more) h.takes (row_beside gs h.beneath h.beneath (known ins) (known more) (row_refl gs h.beneath) p);
}
fine_has gs keeps ts us (below {ins} {outs} {more} {less} p q) h = record {
  beneath = h.beneath;
  takes = row_trans gs keeps ts (h.beneath ⧺ known ins) (h.beneath ⧺ known more) h.takes (row_beside gs h.beneath h.beneath (known ins) (known more) (row_refl gs h.beneath) p);
  gives = row_trans gs keeps (h.beneath ⧺ known less) (h.beneath ⧺ known outs) us (row_beside gs h.beneath h.beneath (known less) (known outs) (row_refl gs h.beneath) q) h.gives;
}
fine_has gs keeps ts us nothing h = absurd h

-- where a test that holds in a file holds among all
pub fine_if : (gs : List RecGroup) (n : ℕ) (b d : Bool) (l m : InstrType) → (b ≡ true → d ≡ true) → instr_shifted n l ≡ m → Fine gs (instr_shifted n (if_valid b l)) (if_valid d m)
fine_if gs n true d l m k e = rw (k refl, e) same
fine_if gs n false d l m k e = nothing
