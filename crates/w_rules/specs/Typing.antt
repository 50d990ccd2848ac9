-- The typing rules of instructions and sequences (Core, validation, instructions).
use Rattle.std.specs.Prelude.{◌⊎◌, Bool, true, false, List, [], ◌∷◌, Option, Some, None}
use Rattle.w_types.specs.declared.types.HeapType.{HeapType}
use Rattle.w_types.specs.declared.types.RecGroup.{RecGroup}
use Rattle.w_types.specs.declared.types.ValType.TheVariants.{I32, I64, Ref}
use Rattle.w_types.specs.declared.types.ValType.{ValType}
use Rattle.lists.specs.Rows.{Row, ε, ◌▹◌, ◌⧺◌}
use Rattle.w_syntax.specs.Code.{Code, Done, Plain, Block, If, IfElse}
use Rattle.w_rules.specs.Operands.{Operand}
use Rattle.w_rules.specs.Operands.{Known, BottomRef}
use Rattle.w_rules.specs.Conditions.{Condition, Holds}
use Rattle.w_rules.specs.Context.{Context, Arrow, arrow_of, label_of, labelled}
use Rattle.w_rules.specs.InstructionTypes.{InstrType, fixed, polymorphic, table_polymorphic, drops, selects, tests_null, as_non_null, on_null, untyped, instr_type, sets}
use Rattle.w_rules.specs.Matching.{OperandMatches, RowMatches, known}

-- ## Instructions

-- [ins] to [outs] with operands beneath, and with subsumption on both sides
pub record HasType (gs : List RecGroup) (ins outs ts us : Row Operand) : Type 0 where
  pub beneath : Row Operand
  pub takes : RowMatches gs ts (beneath ⧺ ins)
  pub gives : RowMatches gs (beneath ⧺ outs) us

-- [t* ins] to any
pub record Polymorphic (gs : List RecGroup) (ins ts : Row Operand) : Type 0 where
  pub beneath : Row Operand
  pub takes : RowMatches gs ts (beneath ⧺ ins)

abbrev pub MatchesEach : List RecGroup → Row Operand → List (Row ValType) → Type 0
MatchesEach gs us [] = Unit {0}
MatchesEach gs us (vs ∷ vss) = RowMatches gs us (known vs) × MatchesEach gs us vss

-- [t* u* i32] to any, where u* matches each of these
pub record TablePolymorphic (gs : List RecGroup) (labels : List (Row ValType)) (ts : Row Operand) : Type 0 where
  pub ins : Row Operand
  pub polymorphic : Polymorphic gs (ins ▹ Known I32) ts
  pub each : MatchesEach gs ins labels

abbrev pub IsNumeric : List RecGroup → Operand → Type 0
IsNumeric gs t = OperandMatches gs t (Known I32) ⊎ OperandMatches gs t (Known I64)

-- a reference to a heap type, or to the bottom one
abbrev pub ref_to : Bool → Option HeapType → Operand
ref_to n (Some h) = Known (Ref (record { nullable = n; heap = h }))
ref_to n None = BottomRef n

-- an instruction of this type takes operands of types ts to operands of types us
abbrev pub HasInstrType : List RecGroup → InstrType → Row Operand → Row Operand → Type 0
HasInstrType gs (fixed ins outs) ts us = HasType gs (known ins) (known outs) ts us
HasInstrType gs (polymorphic ins) ts us = Polymorphic gs (known ins) ts
HasInstrType gs (table_polymorphic one others) ts us = TablePolymorphic gs (one ∷ others) ts
HasInstrType gs drops ts us = (t : Operand) × HasType gs (ε ▹ t) ε ts us
HasInstrType gs selects ts us = (t : Operand) × IsNumeric gs t × HasType gs (ε ▹ t ▹ t ▹ Known I32) (ε ▹ t) ts us
HasInstrType gs tests_null ts us = (h : Option HeapType) × HasType gs (ε ▹ ref_to true h) (ε ▹ Known I32) ts us
HasInstrType gs as_non_null ts us = (h : Option HeapType) × HasType gs (ε ▹ ref_to true h) (ε ▹ ref_to false h) ts us
HasInstrType gs (on_null vs) ts us = (h : Option HeapType) × HasType gs (known vs ▹ ref_to true h) (known vs ▹ ref_to false h) ts us
HasInstrType gs untyped ts us = ⊥

-- ## Sequences; s says which locals are set before them

-- the sequence takes operands of types ts to operands of types us
abbrev pub Derives : Context → List Bool → Code → Row Operand → Row Operand → Type 0
Derives c s Done ts us = RowMatches c.types ts us
Derives c s (Plain o k) ts us = Condition c o × ((vs : Row Operand) × HasInstrType c.types (instr_type c s o) ts vs × Derives c (sets o s) k vs us)
-- the label takes the results of a block, and the parameters of a loop
Derives c s (Block kind x b k) ts us = Holds (arrow_of c x) (λ (a : Arrow).
    Derives (labelled c (label_of kind a)) s b (known a.from) (known a.to)
    × ((vs : Row Operand) × HasType c.types (known a.from) (known a.to) ts vs × Derives c s k vs us))
-- without a second branch the parameters match the results
Derives c s (If x b k) ts us = Holds (arrow_of c x) (λ (a : Arrow).
    RowMatches c.types (known a.from) (known a.to)
    × Derives (labelled c a.to) s b (known a.from) (known a.to)
    × ((vs : Row Operand) × HasType c.types (known a.from ▹ Known I32) (known a.to) ts vs × Derives c s k vs us))
Derives c s (IfElse x b d k) ts us = Holds (arrow_of c x) (λ (a : Arrow).
    Derives (labelled c a.to) s b (known a.from) (known a.to)
    × Derives (labelled c a.to) s d (known a.from) (known a.to)
    × ((vs : Row Operand) × HasType c.types (known a.from ▹ Known I32) (known a.to) ts vs × Derives c s k vs us))

-- the locals that are set after a sequence; what a block sets is forgotten at its end
abbrev pub set_by : Code → List Bool → List Bool
set_by Done s = s
set_by (Plain o k) s = set_by k (sets o s)
set_by (Block kind x b k) s = set_by k s
set_by (If x b k) s = set_by k s
set_by (IfElse x b d k) s = set_by k s
