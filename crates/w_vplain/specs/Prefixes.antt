-- A sequence of instructions so far, with the blocks that are open, and what it means that the rules derive it.
use Rattle.std.specs.Prelude.{Bool, true, false, List, [], ◌∷◌, if◌then◌else◌}
use Rattle.w_types.specs.declared.types.ValType.{ValType}
use Rattle.w_types.specs.declared.types.ValType.TheVariants.{I32}
use Rattle.lists.specs.Rows.{Row, ε, ◌▹◌, ◌⧺◌}
use Rattle.w_syntax.specs.Code.{Code, Done, Plain, Block, If, IfElse, after}
use Rattle.w_syntax.specs.declared.instructions.Instr.{Instr}
use Rattle.w_syntax.specs.declared.instructions.Instr.TheVariants as flat
use Rattle.w_syntax.specs.declared.instructions.Op.{Op}
use Rattle.w_syntax.specs.declared.instructions.Op.TheVariants as op
use Rattle.w_rules.specs.Operands.{Operand}
use Rattle.w_rules.specs.Conditions.{Holds}
use Rattle.w_rules.specs.Context.{Context, Arrow}
use Rattle.w_rules.specs.Matching.{known}
use Rattle.w_rules.specs.Typing.{Derives, set_by}
use Rattle.w_steps.specs.declared.frame_kind.FrameKind.{FrameKind}
use Rattle.w_steps.specs.declared.frame_kind.FrameKind.TheVariants as kind
use Rattle.w_steps.specs.Labels.{arrow_at, within}

-- ## Sequences so far

-- an open block: its instructions so far, and of an if's second branch the first branch
pub record OpenBlock : Type 0 where
  pub kind : FrameKind
  pub first : Code
  pub code : Code

-- the innermost block and those around it; or a whole body; or what begins no body, as a second else
pub data Prefix : Type 0 where
  open_at : OpenBlock → List OpenBlock → Prefix
  ended : Code → Prefix
  malformed : Prefix

abbrev pub opened : FrameKind → OpenBlock
opened k = record { kind = k; first = Done; code = Done }

-- the open block with these instructions behind its own
abbrev pub more : OpenBlock → Code → OpenBlock
more l k = record l { code = after l.code k }

-- the second branch begins
abbrev pub in_else : FrameKind → Code → List OpenBlock → Prefix
in_else (kind.Then x) k [] = malformed
in_else (kind.Then x) k (m ∷ ms) = open_at (record { kind = kind.Else x; first = k; code = Done }) (m ∷ ms)
in_else kind.Body k ls = malformed
in_else (kind.Block b x) k ls = malformed
in_else (kind.Else x) k ls = malformed

-- the whole block, as an instruction
abbrev pub node : FrameKind → Code → Code → Code
node kind.Body f k = Done
node (kind.Block b x) f k = Block b x k Done
node (kind.Then x) f k = If x k Done
node (kind.Else x) f k = IfElse x f k Done

-- the innermost block ends
abbrev pub closed : FrameKind → Code → Code → List OpenBlock → Prefix
closed kind.Body f k [] = ended k
closed kind.Body f k (m ∷ ms) = malformed
closed (kind.Block b x) f k [] = malformed
closed (kind.Block b x) f k (m ∷ ms) = open_at (more m (node (kind.Block b x) f k)) ms
closed (kind.Then x) f k [] = malformed
closed (kind.Then x) f k (m ∷ ms) = open_at (more m (node (kind.Then x) f k)) ms
closed (kind.Else x) f k [] = malformed
closed (kind.Else x) f k (m ∷ ms) = open_at (more m (node (kind.Else x) f k)) ms

abbrev pub followed : Instr → OpenBlock → List OpenBlock → Prefix
followed (flat.Plain o) l ls = open_at (more l (Plain o Done)) ls
followed (flat.Block b x end) l ls = open_at (opened (kind.Block b x)) (l ∷ ls)
followed (flat.If x other end) l ls = open_at (opened (kind.Then x)) (l ∷ ls)
followed flat.Else l ls = in_else l.kind l.code ls
followed flat.End l ls = closed l.kind l.first l.code ls

-- the sequence followed by an instruction
abbrev pub follow : Instr → Prefix → Prefix
follow i (open_at l ls) = followed i l ls
follow i (ended k) = malformed
follow i malformed = malformed

-- the sequence followed by instructions
abbrev pub follow_all : List Instr → Prefix → Prefix
follow_all [] w = w
follow_all (i ∷ is) w = follow_all is (follow i w)

-- the empty sequence
abbrev pub empty : Prefix
empty = open_at (opened kind.Body) []

-- ## The classes of instructions that have a call each

abbrev pub is_switching : Op → Bool
is_switching (op.Switching o) = true
is_switching o = false

-- an instruction that opens or ends no block, and does not switch stacks
abbrev pub is_plain : Instr → Bool
is_plain (flat.Plain (op.Switching o)) = false
is_plain (flat.Plain o) = true
is_plain i = false

-- an instruction that does not switch stacks
abbrev pub is_checked : Instr → Bool
is_checked (flat.Plain (op.Switching o)) = false
is_checked (flat.Plain o) = true
is_checked (flat.Block b x end) = true
is_checked (flat.If x other end) = true
is_checked flat.Else = true
is_checked flat.End = true

-- block, loop and if
abbrev pub opens : Instr → Bool
opens (flat.Block b x end) = true
opens (flat.If x other end) = true
opens i = false

-- The sequence followed by an instruction of the class; by one of another class it begins no body.
abbrev pub follow_plain : Instr → Prefix → Prefix
follow_plain i w = if is_plain i then follow i w else malformed

abbrev pub follow_enter : Instr → Prefix → Prefix
follow_enter i w = if opens i then follow i w else malformed

-- ## Blocks

-- what the block takes of the operands around it
abbrev pub taken_by : FrameKind → Arrow → Row ValType
taken_by kind.Body a = a.from
taken_by (kind.Block b x) a = a.from
taken_by (kind.Then x) a = a.from ▹ I32
taken_by (kind.Else x) a = a.from ▹ I32

abbrev pub kinds_of : List OpenBlock → List FrameKind
kinds_of [] = []
kinds_of (l ∷ ls) = l.kind ∷ kinds_of ls

-- ## Derivations

-- the locals that are set at the end of what is there so far
abbrev pub set_at : List Bool → List OpenBlock → List Bool
set_at s [] = s
set_at s (l ∷ ls) = set_by l.code (set_at s ls)

-- the first branch is derived, where this is the second
abbrev pub FirstDerives : Context → List Bool → FrameKind → Code → Arrow → Type 0
FirstDerives c s (kind.Else x) f a = Derives c s f (known a.from) (known a.to)
FirstDerives c s kind.Body f a = Unit {0}
FirstDerives c s (kind.Block b x) f a = Unit {0}
FirstDerives c s (kind.Then x) f a = Unit {0}

-- the instructions of the block so far lead from its parameters to these operands
abbrev pub Reaches : Context → List Bool → OpenBlock → List OpenBlock → Row Operand → Type 0
Reaches c s l ls us = Holds (arrow_at c l.kind) (λ (a : Arrow).
    FirstDerives (within c (kinds_of (l ∷ ls))) (set_at s ls) l.kind l.first a
    × Derives (within c (kinds_of (l ∷ ls))) (set_at s ls) l.code (known a.from) us)

-- and the blocks around it lead to what the block in each of them takes
abbrev pub Around : Context → List Bool → FrameKind → List OpenBlock → Type 0
Around c s k [] = Unit {0}
Around c s k (m ∷ ms) = Holds (arrow_at c k) (λ (a : Arrow).
    (beneath : Row Operand) × Reaches c s m ms (beneath ⧺ known (taken_by k a))) × Around c s m.kind ms

-- the rules derive the sequence so far, where these locals are set at its beginning
abbrev pub IsDerivable : Context → List Bool → Prefix → Type 0
IsDerivable c s (open_at l ls) = ((us : Row Operand) × Reaches c s l ls us) × Around c s l.kind ls
IsDerivable c s (ended k) = Derives (within c (kind.Body ∷ [])) s k ε (known c.results)
IsDerivable c s malformed = ⊥
