-- Code that is kept in one list, read from a place on.
use Rattle.std.specs.Prelude.{◌≡◌, ◌<◌, ◌^◌, ℕ, suc, All, List, [], Option, Some, None, slice_get, ⊤, length}
use Rattle.w_types.specs.Groups.{types_of}
use Rattle.w_syntax.specs.Code.{Code, Done, Plain, Block, If, IfElse}
use Rattle.w_syntax.specs.Flat.{whole, size}
use Rattle.w_syntax.specs.Functions.{code_of_function}
use Rattle.w_syntax.specs.declared.instructions.BlockKind.{BlockKind}
use Rattle.w_syntax.specs.declared.instructions.BlockType.{BlockType}
use Rattle.w_syntax.specs.declared.instructions.Instr.{Instr}
use Rattle.w_syntax.specs.declared.instructions.Instr.TheVariants as flat
use Rattle.w_syntax.specs.declared.instructions.Op.{Op}
use Rattle.w_syntax.specs.declared.module.Func.{Func}
use Rattle.w_syntax.specs.declared.module.Module.{Module}
use Rattle.w_rules.specs.Limits.{IsNarrow}

abbrev pub instrs_in : Option Func → List Instr
instrs_in (Some f) = whole f.body
instrs_in None = []

-- the instructions of the module's own function f
abbrev pub instrs : Module → ℕ → List Instr
instrs m f = instrs_in (code_of_function m f)

abbrev pub instr_of : Module → ℕ → ℕ → Option Instr
instr_of m f p = slice_get (instrs m f) p

-- places of every function are numbers of 32 bits, also the one behind its last instruction
abbrev pub AllShort : Module → Type 0
AllShort m = (f : ℕ) → length (instrs m f) < 2 ^ 32

-- function types have at most so many parameters and results as modules within their limits
abbrev pub AreNarrow : Module → Type 0
AreNarrow m = All IsNarrow (types_of m.types)

-- where a sequence ends: at an end or an else, or behind the last instruction
abbrev pub IsMark : Option Instr → Type 0
IsMark None = ⊤
IsMark (Some flat.End) = ⊤
IsMark (Some flat.Else) = ⊤
IsMark (Some (flat.Plain o)) = ⊥
IsMark (Some (flat.Block k b z)) = ⊥
IsMark (Some (flat.If b y z)) = ⊥

-- from the place p on, up to the mark at q, the instructions are c
pub data Reads (is : List Instr) : ℕ → Code → ℕ → Type 0 where
  stop : {p : ℕ} → IsMark (slice_get is p) → Reads is p Done p
  plain : {p q : ℕ} {o : Op} {c : Code} → slice_get is p ≡ Some (flat.Plain o) → Reads is (suc p) c q → Reads is p (Plain o c) q
  block : {p z q : ℕ} {k : BlockKind} {b : BlockType} {x c : Code} → slice_get is p ≡ Some (flat.Block k b z) →
      Reads is (suc p) x z → slice_get is z ≡ Some flat.End → Reads is (suc z) c q → Reads is p (Block k b x c) q
  choice : {p z q : ℕ} {b : BlockType} {x c : Code} → slice_get is p ≡ Some (flat.If b None z) →
      Reads is (suc p) x z → slice_get is z ≡ Some flat.End → Reads is (suc z) c q → Reads is p (If b x c) q
  choices : {p y z q : ℕ} {b : BlockType} {x w c : Code} → slice_get is p ≡ Some (flat.If b (Some y) z) →
      Reads is (suc p) x y → slice_get is y ≡ Some flat.Else → Reads is (suc y) w z → slice_get is z ≡ Some flat.End → Reads is (suc z) c q →
      Reads is p (IfElse b x w c) q

-- the place behind a block whose contents end at q, where its label leads to t: an else is left for the place behind the if, where
-- the label leads too
pub data Behind (is : List Instr) (q t : ℕ) : ℕ → Type 0 where
  at_end : slice_get is q ≡ Some flat.End → Behind is q t (suc q)
  at_else : slice_get is q ≡ Some flat.Else → Behind is q t t

-- the list of a body is read as the body, up to the end that is its last instruction
abbrev pub BodiesAreRead : Type 0
BodiesAreRead = (c : Code) → Reads (whole c) 0 c (size c) × (slice_get (whole c) (size c) ≡ Some flat.End) × (slice_get (whole c) (suc (size c)) ≡ None)
