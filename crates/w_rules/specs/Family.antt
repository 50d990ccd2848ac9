-- The typing rules as the standard states them: one rule for the instructions of the table, one for each kind of block, one for
-- composition, and one for subsumption, which also frames operands beneath (Core, validation, instructions).
use Rattle.std.specs.Prelude.{◌≡◌, ◌↔◌, Bool, true, false, List, ◌∷◌, Option, Some}
use Rattle.w_types.specs.declared.types.HeapType.{HeapType}
use Rattle.w_types.specs.declared.types.RecGroup.{RecGroup}
use Rattle.w_types.specs.declared.types.ValType.{ValType}
use Rattle.w_types.specs.declared.types.ValType.TheVariants.{I32}
use Rattle.lists.specs.Rows.{Row, ε, ◌▹◌, ◌⧺◌}
use Rattle.w_syntax.specs.declared.instructions.BlockKind.{BlockKind}
use Rattle.w_syntax.specs.declared.instructions.BlockType.{BlockType}
use Rattle.w_syntax.specs.declared.instructions.Op.{Op}
use Rattle.w_syntax.specs.Code.{Code, Done, Plain, Block, If, IfElse, after}
use Rattle.w_canon.specs.Supertypes.{KeepsKinds}
use Rattle.w_rules.specs.Operands.{Operand}
use Rattle.w_rules.specs.Operands.{Known}
use Rattle.w_rules.specs.Conditions.{Condition}
use Rattle.w_rules.specs.Context.{Context, Arrow, arrow_of, label_of, labelled}
use Rattle.w_rules.specs.InstructionTypes.{InstrType, fixed, polymorphic, table_polymorphic, drops, selects, tests_null, as_non_null, on_null, instr_type}
use Rattle.w_rules.specs.Matching.{RowMatches, known}
use Rattle.w_rules.specs.Typing.{MatchesEach, IsNumeric, ref_to, set_by, Derives}

-- the types of an instruction of each type
pub data Has (gs : List RecGroup) : InstrType → Row Operand → Row Operand → Type 0 where
  has_fixed : (ins outs : Row ValType) → Has gs (fixed ins outs) (known ins) (known outs)
  has_polymorphic : (ins : Row ValType) (beneath us : Row Operand) → Has gs (polymorphic ins) (beneath ⧺ known ins) us
  has_table_polymorphic : (one : Row ValType) (others : List (Row ValType)) (beneath ins us : Row Operand)
      → MatchesEach gs ins (one ∷ others) → Has gs (table_polymorphic one others) ((beneath ⧺ ins) ▹ Known I32) us
  has_drops : (t : Operand) → Has gs drops (ε ▹ t) ε
  has_selects : (t : Operand) → IsNumeric gs t → Has gs selects (ε ▹ t ▹ t ▹ Known I32) (ε ▹ t)
  has_tests_null : (h : Option HeapType) → Has gs tests_null (ε ▹ ref_to true h) (ε ▹ Known I32)
  has_as_non_null : (h : Option HeapType) → Has gs as_non_null (ε ▹ ref_to true h) (ε ▹ ref_to false h)
  has_on_null : (vs : Row ValType) (h : Option HeapType) → Has gs (on_null vs) (known vs ▹ ref_to true h) (known vs ▹ ref_to false h)

pub data Typed : Context → List Bool → Code → Row Operand → Row Operand → Type 0 where
  -- [Instrs_ok/empty]
  empty : (c : Context) (s : List Bool) → Typed c s Done ε ε
  instruction : (c : Context) (s : List Bool) (o : Op) (ts us : Row Operand)
      → Condition c o → Has c.types (instr_type c s o) ts us → Typed c s (Plain o Done) ts us
  -- [Instr_ok/block, loop]
  block : (c : Context) (s : List Bool) (kind : BlockKind) (x : BlockType) (a : Arrow) (b : Code) → arrow_of c x ≡ Some a
      → Typed (labelled c (label_of kind a)) s b (known a.from) (known a.to) → Typed c s (Block kind x b Done) (known a.from) (known a.to)
  -- [Instr_ok/if, without an else]
  if_then : (c : Context) (s : List Bool) (x : BlockType) (a : Arrow) (b : Code) → arrow_of c x ≡ Some a
      → RowMatches c.types (known a.from) (known a.to) → Typed (labelled c a.to) s b (known a.from) (known a.to)
      → Typed c s (If x b Done) (known a.from ▹ Known I32) (known a.to)
  -- [Instr_ok/if]
  if_else : (c : Context) (s : List Bool) (x : BlockType) (a : Arrow) (b d : Code) → arrow_of c x ≡ Some a
      → Typed (labelled c a.to) s b (known a.from) (known a.to) → Typed (labelled c a.to) s d (known a.from) (known a.to)
      → Typed c s (IfElse x b d Done) (known a.from ▹ Known I32) (known a.to)
  -- [Instrs_ok/seq]
  composition : (c : Context) (s : List Bool) (k l : Code) (ts us vs : Row Operand)
      → Typed c s k ts us → Typed c (set_by k s) l us vs → Typed c s (after k l) ts vs
  -- [Instrs_ok/sub, frame]
  subsumption : (c : Context) (s : List Bool) (k : Code) (beneath ts us ts' us' : Row Operand)
      → Typed c s k ts us → RowMatches c.types ts' (beneath ⧺ ts) → RowMatches c.types (beneath ⧺ us) us' → Typed c s k ts' us'

-- the rules derive just what `Derives` says, where each supertype is of its subtypes' kind
abbrev pub OneTyping : Type 0
OneTyping = (c : Context) → KeepsKinds c.types → (s : List Bool) (k : Code) (ts us : Row Operand) → Typed c s k ts us ↔ Derives c s k ts us
