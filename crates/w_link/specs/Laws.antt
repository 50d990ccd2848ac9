-- Laws of the types and the code of a file among those of all files.
use Rattle.std.specs.Prelude.{◌≡◌, ℕ, ◌+◌, Bool, List, ◌++◌, map}
use Rattle.lists.specs.Rows.{Row}
use Rattle.w_types.specs.declared.types.FuncType.{FuncType}
use Rattle.w_types.specs.declared.types.RecGroup.{RecGroup}
use Rattle.w_types.specs.declared.types.ValType.{ValType}
use Rattle.w_syntax.specs.Code.{Code}
use Rattle.w_syntax.specs.declared.instructions.Op.{Op}
use Rattle.w_syntax.specs.declared.locals.LocalRun.{LocalRun}
use Rattle.w_canon.specs.Classed.{count}
use Rattle.w_canon.specs.Equality.{ValEqual}
use Rattle.w_canon.specs.Matching.{IndexMatches, ValMatches, FuncMatches}
use Rattle.w_canon.specs.Supertypes.{KeepsKinds}
use Rattle.w_rules.specs.Bodies.{BodyTyped, set_first, types_of_runs}
use Rattle.w_rules.specs.Context.{Context}
use Rattle.w_rules.specs.InstructionTypes.{InstrType, instr_type}
use Rattle.w_rules.specs.Operands.{Operand}
use Rattle.w_rules.specs.Peak.{peak, depth}
use Rattle.w_rules.specs.Spaces.{in_body}
use Rattle.w_rules.specs.Typing.{Derives, HasInstrType}
use Rattle.w_link.specs.Fine.{Fine, instr_shifted}
use Rattle.w_link.specs.Fits.{Fits, Stands}
use Rattle.w_link.specs.Resolved.{Instance, IsWhole, code_resolved, op_resolved, run_shifted}
use Rattle.w_link.specs.Shifted.{among, func_shifted, group_shifted, operands_shifted, type_shifted, types_shifted}

-- ## Types

-- the groups of a file stand among all: types that are equivalent stay so, and each is there with its supertypes
abbrev pub GroupsStandAmong : Type 0
GroupsStandAmong = (front gs back : List RecGroup) → Stands (count front) gs (among front gs back)

-- what matches in groups matches where they stand: indices, value types and function types
abbrev pub IndicesStillMatch : Type 0
IndicesStillMatch = (n : ℕ) (gs hs : List RecGroup) → Stands n gs hs → (x y : ℕ) → IndexMatches gs x y → IndexMatches hs (n + x) (n + y)

abbrev pub ValuesStillMatch : Type 0
ValuesStillMatch = (n : ℕ) (gs hs : List RecGroup) → Stands n gs hs → (t u : ValType) → ValMatches gs t u → ValMatches hs (type_shifted n t) (type_shifted n u)

abbrev pub FunctionsStillMatch : Type 0
FunctionsStillMatch = (n : ℕ) (gs hs : List RecGroup) → Stands n gs hs → (t u : FuncType) → FuncMatches gs t u → FuncMatches hs (func_shifted n t) (func_shifted n u)

-- value types that are equal in groups are so where they stand
abbrev pub ValuesStillEqual : Type 0
ValuesStillEqual = (n : ℕ) (gs hs : List RecGroup) → Stands n gs hs → (t u : ValType) → ValEqual gs t u → ValEqual hs (type_shifted n t) (type_shifted n u)

-- ## Instructions

-- with addresses in the place of its indices an instruction takes what it took or more, and gives what it gave or less
abbrev pub InstructionsAreFine : Type 0
InstructionsAreFine = (i : Instance) (c d : Context) → Fits i c d → (s : List Bool) (o : Op)
    → Fine d.types (instr_shifted i.types (instr_type c s o)) (instr_type d s (op_resolved i o))

-- such an instruction has each type that it had, where each supertype is of its subtypes' kind
abbrev pub FineHaveTypes : Type 0
FineHaveTypes = (gs : List RecGroup) → KeepsKinds gs → (l m : InstrType) (ts us : Row Operand) → Fine gs l m → HasInstrType gs l ts us → HasInstrType gs m ts us

-- ## Code, where among all each supertype is of its subtypes' kind

-- code that is typed in a file is typed among all
abbrev pub CodeIsTyped : Type 0
CodeIsTyped = (i : Instance) (c d : Context) → KeepsKinds d.types → Fits i c d → (s : List Bool) (k : Code) (ts us : Row Operand)
    → Derives c s k ts us → Derives d s (code_resolved i k) (operands_shifted i.types ts) (operands_shifted i.types us)

-- so is the body of a function
abbrev pub BodiesAreTyped : Type 0
BodiesAreTyped = (i : Instance) (c d : Context) → KeepsKinds d.types → Fits i c d → (params : List ValType) (runs : List LocalRun) (results : List ValType) (k : Code)
    → BodyTyped c params runs results k
    → BodyTyped d (types_shifted i.types params) (map (run_shifted i.types) runs) (types_shifted i.types results) (code_resolved i k)

-- ## Height and depth

-- typed code has as many operands among all as in its file
abbrev pub PeaksAreSame : Type 0
PeaksAreSame = (i : Instance) (c d : Context) → Fits i c d → (s : List Bool) (k : Code) (ts us : Row Operand) → Derives c s k ts us → (h : ℕ)
    → peak d s (code_resolved i k) h ≡ peak c s k h

-- so has a body
abbrev pub HeightsAreSame : Type 0
HeightsAreSame = (i : Instance) (c d : Context) → Fits i c d → (params : List ValType) (runs : List LocalRun) (results : List ValType) (k : Code)
    → BodyTyped c params runs results k → (h : ℕ)
    → peak (in_body d (types_shifted i.types params ++ types_of_runs (map (run_shifted i.types) runs)) (types_shifted i.types results))
    (set_first (types_shifted i.types params) (map (run_shifted i.types) runs)) (code_resolved i k) h
    ≡ peak (in_body c (params ++ types_of_runs runs) results) (set_first params runs) k h

-- and code has as many blocks around a place
abbrev pub DepthsAreSame : Type 0
DepthsAreSame = (i : Instance) (k : Code) → depth (code_resolved i k) ≡ depth k

-- ## Where each index stands for itself, a context fits itself, and nothing changes

abbrev pub ContextsFitThemselves : Type 0
ContextsFitThemselves = (i : Instance) (c : Context) → IsWhole i → Fits i c c

abbrev pub GroupsStay : Type 0
GroupsStay = (i : Instance) → IsWhole i → (g : RecGroup) → group_shifted i.types g ≡ g

abbrev pub LocalsStay : Type 0
LocalsStay = (i : Instance) → IsWhole i → (r : LocalRun) → run_shifted i.types r ≡ r

abbrev pub CodeStays : Type 0
CodeStays = (i : Instance) → IsWhole i → (k : Code) → code_resolved i k ≡ k
