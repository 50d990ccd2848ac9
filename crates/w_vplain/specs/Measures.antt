-- The greatest number of operands, and of blocks around a place, of a sequence so far.
use Rattle.std.specs.Prelude.{◌≡◌, ℕ, ◌+◌, ◌-◌, max, Bool, List, [], ◌∷◌, length, Option, Some, None, if◌then◌else◌}
use Rattle.lists.specs.Rows.{Row, size}
use Rattle.w_syntax.specs.Code.{Code, Done, Plain, Block, If, IfElse}
use Rattle.w_syntax.specs.declared.instructions.Instr.{Instr}
use Rattle.w_syntax.specs.declared.instructions.Instr.TheVariants as flat
use Rattle.w_rules.specs.Operands.{Operand}
use Rattle.w_rules.specs.Conditions.{Holds}
use Rattle.w_rules.specs.Context.{Context, Arrow, arrow_of}
use Rattle.w_rules.specs.InstructionTypes.{instr_type, sets}
use Rattle.w_rules.specs.Peak.{net, moved, past_arrow, or_none, extra, peak, depth}
use Rattle.w_flow.specs.Flow.{◌>>=◌}
use Rattle.w_steps.specs.Labels.{arrow_at, within}
use Rattle.w_vplain.specs.Prefixes.{OpenBlock, Prefix, open_at, ended, malformed, taken_by, kinds_of, set_at}
use Rattle.w_vplain.specs.Frames.{Frame, frame_kinds}
use Rattle.w_steps.specs.declared.frame_kind.FrameKind.{FrameKind}
use Rattle.w_steps.specs.declared.frame_kind.FrameKind.TheVariants as kind

-- ## The number of operands where a sequence ends, if that place is counted

abbrev pub height : Context → List Bool → Code → ℕ → Option ℕ
height c s Done h = Some h
height c s (Plain o k) h = net (instr_type c s o) >>= λ n. height c (sets o s) k (moved h n)
height c s (Block b x d k) h = arrow_of c x >>= λ a. height c s k (past_arrow a h)
height c s (If x d k) h = arrow_of c x >>= λ a. height c s k (past_arrow a (h - 1))
height c s (IfElse x d e k) h = arrow_of c x >>= λ a. height c s k (past_arrow a (h - 1))

-- the condition of an if
abbrev pub condition : FrameKind → ℕ
condition kind.Body = 0
condition (kind.Block b x) = 0
condition (kind.Then x) = 1
condition (kind.Else x) = 1

abbrev pub height_at : Context → List Bool → List OpenBlock → Option ℕ
height_at c s [] = Some 0
height_at c s (l ∷ ls) = height_at c s ls >>= λ h. height (within c (kinds_of (l ∷ ls))) (set_at s ls) l.code (h - condition l.kind)

-- ## Peak

abbrev pub first_peak : Context → List Bool → FrameKind → Code → ℕ → ℕ
first_peak c s (kind.Else x) f h = peak c s f h
first_peak c s kind.Body f h = 0
first_peak c s (kind.Block b x) f h = 0
first_peak c s (kind.Then x) f h = 0

abbrev pub block_peak : Context → List Bool → OpenBlock → List OpenBlock → ℕ
block_peak c s l ls = or_none (height_at c s ls) (λ (h : ℕ).
    max (first_peak (within c (kinds_of (l ∷ ls))) (set_at s ls) l.kind l.first (h - condition l.kind))
    (peak (within c (kinds_of (l ∷ ls))) (set_at s ls) l.code (h - condition l.kind)))

abbrev pub peaks : Context → List Bool → List OpenBlock → ℕ
peaks c s [] = 0
peaks c s (l ∷ ls) = max (block_peak c s l ls) (peaks c s ls)

-- Peak of the sequence so far
abbrev pub peak_of : Context → List Bool → Prefix → ℕ
peak_of c s (open_at l ls) = peaks c s (l ∷ ls)
peak_of c s (ended k) = peak (within c (kind.Body ∷ [])) s k 0
peak_of c s malformed = 0

-- ## Counting

-- the number of operands in all open blocks, where the place is counted
abbrev pub tally : Bool → Row Operand → Option ℕ → Option ℕ
tally p ts b = if p then None else b >>= λ n. Some (n + size ts)

abbrev pub total : List Frame → Option ℕ
total [] = Some 0
total (f ∷ fs) = tally f.any f.operands (total fs)

-- the frames have as many operands as the place, without what an inner block took
abbrev pub Tallies : Context → List Bool → ℕ → List Frame → List OpenBlock → Type 0
Tallies c s n [] [] = Unit {0}
Tallies c s n [] (l ∷ ls) = ⊥
Tallies c s n (f ∷ fs) [] = ⊥
Tallies c s n (f ∷ fs) (l ∷ ls) =
    (height_at c s (l ∷ ls) ≡ (total (f ∷ fs) >>= λ (m : ℕ). Some (m + n)))
    × Holds (arrow_at c l.kind) (λ (a : Arrow). Tallies c s (size (taken_by l.kind a)) fs ls)

abbrev pub CountsFor : Context → List Bool → List Frame → Prefix → Type 0
CountsFor c s fs (open_at l ls) = Tallies c s 0 fs (l ∷ ls)
CountsFor c s fs (ended k) = Unit {0}
CountsFor c s fs malformed = Unit {0}

abbrev pub extra_in : Context → Instr → ℕ → ℕ
extra_in c (flat.Plain o) h = extra c o h
extra_in c (flat.Block b x end) h = 0
extra_in c (flat.If x other end) h = 0
extra_in c flat.Else h = 0
extra_in c flat.End h = 0

-- what a resume adds at this place
abbrev pub extra_at : Context → Instr → List FrameKind → Option ℕ → ℕ
extra_at c i ks now = or_none now (extra_in (within c ks) i)

-- An instruction raises the peak by the place that it reaches, and by what a resume adds.
abbrev pub Raised : Context → List Bool → Instr → List Frame → List Frame → Prefix → Prefix → Type 0
Raised c s i fs gs old new =
    peak_of c s new ≡ max (max (peak_of c s old) (extra_at c i (frame_kinds fs) (total fs))) (or_none (total gs) (λ (h : ℕ). h))

-- ## Depth

abbrev pub first_depth : FrameKind → Code → ℕ
first_depth (kind.Else x) f = depth f
first_depth kind.Body f = 1
first_depth (kind.Block b x) f = 1
first_depth (kind.Then x) f = 1

abbrev pub depths : List OpenBlock → ℕ
depths [] = 0
depths (l ∷ ls) = max (max (first_depth l.kind l.first) (depth l.code) + length ls) (depths ls)

-- Depth of the sequence so far
abbrev pub depth_of : Prefix → ℕ
depth_of (open_at l ls) = depths (l ∷ ls)
depth_of (ended k) = depth k
depth_of malformed = 0
