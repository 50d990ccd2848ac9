-- What is known of each open block, and how an instruction changes that (Core, validation algorithm).
use Rattle.std.specs.Prelude.{◌≡◌, Bool, true, false, ◌&&◌, not, List, [], ◌∷◌, Option, Some, None, if◌then◌else◌}
use Rattle.w_types.specs.declared.types.ValType.{ValType}
use Rattle.lists.specs.Rows.{Row, ε, ◌⧺◌}
use Rattle.w_syntax.specs.declared.instructions.Instr.{Instr}
use Rattle.w_syntax.specs.declared.instructions.Instr.TheVariants as flat
use Rattle.w_syntax.specs.declared.instructions.Op.{Op}
use Rattle.w_syntax.specs.declared.instructions.Op.TheVariants as op
use Rattle.w_canon.specs.declared.entry.Entry.{Entry}
use Rattle.w_rules.specs.Operands.{Operand}
use Rattle.w_rules.specs.Conditions.{Holds}
use Rattle.w_rules.specs.Context.{Context, Arrow}
use Rattle.w_rules.specs.InstructionTypes.{InstrType, instr_type, sets}
use Rattle.w_rules.specs.Matching.{known}
use Rattle.w_flow.specs.Flow.{Covers, ◌>>=◌, pops, ends, step}
use Rattle.w_steps.specs.Labels.{arrow_at, within}
use Rattle.w_vplain.specs.Prefixes.{OpenBlock, Prefix, open_at, ended, malformed, taken_by, set_at, Reaches, IsDerivable}
use Rattle.w_steps.specs.declared.frame_kind.FrameKind.{FrameKind}
use Rattle.w_steps.specs.declared.frame_kind.FrameKind.TheVariants as kind
use Rattle.w_steps.specs.PlainTests.{condition_test}

-- an open block: its operands, whether more of any type may lie beneath them, and which locals are set
pub record Frame : Type 0 where
  pub kind : FrameKind
  pub any : Bool
  pub operands : Row Operand
  pub is_set : List Bool

abbrev pub frame_kinds : List Frame → List FrameKind
frame_kinds [] = []
frame_kinds (f ∷ fs) = f.kind ∷ frame_kinds fs

-- ## What a plain instruction asks beside its type, as a test on the entries of the types

-- ## One instruction

-- an instruction of this type, which passes its test
abbrev pub typed_next : List Entry → InstrType → Op → Frame → List Frame → Option (List Frame)
typed_next es l o f fs = step es l f.any f.operands >>= λ w. Some (record f { any = w.any; operands = w.operands; is_set = sets o f.is_set } ∷ fs)

abbrev pub plain_next : List Entry → Context → Op → Frame → List Frame → Option (List Frame)
plain_next es c o f fs =
    if condition_test es c o then typed_next es (instr_type (within c (f.kind ∷ frame_kinds fs)) f.is_set o) o f fs else None

abbrev pub enter_next : List Entry → Context → FrameKind → Frame → List Frame → Option (List Frame)
enter_next es c k f fs = arrow_at c k >>= λ a. pops es f.any f.operands (taken_by k a) >>= λ w.
    Some (record { kind = k; any = false; operands = known a.from; is_set = f.is_set } ∷ record f { operands = w } ∷ fs)

abbrev pub other_next : List Entry → Context → FrameKind → Frame → List Frame → Option (List Frame)
other_next es c (kind.Then x) f [] = None
other_next es c (kind.Then x) f (g ∷ gs) = arrow_at c (kind.Then x) >>= λ a. (if ends es f.any f.operands a.to
    then Some (record { kind = kind.Else x; any = false; operands = known a.from; is_set = g.is_set } ∷ g ∷ gs) else None)
other_next es c kind.Body f fs = None
other_next es c (kind.Block b x) f fs = None
other_next es c (kind.Else x) f fs = None

-- without a second branch the parameters match the results
abbrev pub end_test : List Entry → FrameKind → Arrow → Bool
end_test es (kind.Then x) a = ends es false (known a.from) a.to
end_test es kind.Body a = true
end_test es (kind.Block b x) a = true
end_test es (kind.Else x) a = true

abbrev pub leave : Row ValType → List Frame → List Frame
leave to [] = []
leave to (g ∷ gs) = record g { operands = g.operands ⧺ known to } ∷ gs

abbrev pub no_frames : List Frame → Bool
no_frames [] = true
no_frames (g ∷ gs) = false

-- a body stands alone, and every other block in one
abbrev pub fits : FrameKind → Bool → Bool
fits kind.Body alone = alone
fits (kind.Block b x) alone = not alone
fits (kind.Then x) alone = not alone
fits (kind.Else x) alone = not alone

abbrev pub end_next : List Entry → Context → Frame → List Frame → Option (List Frame)
end_next es c f fs = arrow_at c f.kind >>= λ a. (if fits f.kind (no_frames fs) && (ends es f.any f.operands a.to && end_test es f.kind a)
    then Some (leave a.to fs) else None)

-- an instruction that does not switch stacks
abbrev pub op_next : List Entry → Context → Op → Frame → List Frame → Option (List Frame)
op_next es c (op.Switching o) f fs = None
op_next es c o f fs = plain_next es c o f fs

abbrev pub frame_next : List Entry → Context → Instr → Frame → List Frame → Option (List Frame)
frame_next es c (flat.Plain o) f fs = op_next es c o f fs
frame_next es c (flat.Block b x end) f fs = enter_next es c (kind.Block b x) f fs
frame_next es c (flat.If x other end) f fs = enter_next es c (kind.Then x) f fs
frame_next es c flat.Else f fs = other_next es c f.kind f fs
frame_next es c flat.End f fs = end_next es c f fs

-- no frames: the body has ended
abbrev pub next : List Entry → Context → Instr → List Frame → Option (List Frame)
next es c i [] = None
next es c i (f ∷ fs) = frame_next es c i f fs

-- ## What frames stand for

-- A frame stands for a block's instructions so far: it covers the operands that they lead to, without what an inner block took.
pub record StandsAt (c : Context) (s : List Bool) (handed : Row ValType) (f : Frame) (l : OpenBlock) (ls : List OpenBlock) : Type 0 where
  pub kind : f.kind ≡ l.kind
  pub is_set : f.is_set ≡ set_at s (l ∷ ls)
  pub reaches : (us : Row Operand) → Reaches c s l ls (us ⧺ known handed) → Covers c.types f.any f.operands us
  pub reached : (us : Row Operand) → Covers c.types f.any f.operands us → Reaches c s l ls (us ⧺ known handed)

abbrev pub StandsAll : Context → List Bool → Row ValType → List Frame → List OpenBlock → Type 0
StandsAll c s handed [] [] = Unit {0}
StandsAll c s handed [] (l ∷ ls) = ⊥
StandsAll c s handed (f ∷ fs) [] = ⊥
StandsAll c s handed (f ∷ fs) (l ∷ ls) =
    StandsAt c s handed f l ls × Holds (arrow_at c l.kind) (λ (a : Arrow). StandsAll c s (taken_by l.kind a) fs ls)

abbrev pub IsNil : List Frame → Type 0
IsNil [] = Unit {0}
IsNil (f ∷ fs) = ⊥

-- the frames stand for the sequence
abbrev pub FramesStand : Context → List Bool → List Frame → Prefix → Type 0
FramesStand c s fs (open_at l ls) = StandsAll c s ε fs (l ∷ ls)
FramesStand c s fs (ended k) = IsNil fs × IsDerivable c s (ended k)
FramesStand c s fs malformed = ⊥

-- what is known of a sequence: it is derived, and the frames stand for it; or there are none, and it isn't
abbrev pub Knows : Context → List Bool → Option (List Frame) → Prefix → Type 0
Knows c s None w = IsDerivable c s w → ⊥
Knows c s (Some fs) w = FramesStand c s fs w
