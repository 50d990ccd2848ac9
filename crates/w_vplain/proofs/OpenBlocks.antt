-- What the instructions of an open block so far lead to, and frames that stand for open blocks.
use Rattle.std.proofs.Common.{◌≡◌, Bool, List, [], ◌∷◌, length, suc, refl, ap, ◌∙◌}
use Rattle.w_types.specs.declared.types.ValType.{ValType}
use Rattle.lists.specs.Rows.{Row, ε}
use Rattle.w_syntax.specs.Code.{Code}
use Rattle.w_canon.specs.Supertypes.{KeepsKinds}
use Rattle.w_rules.specs.Operands.{Operand}
use Rattle.w_rules.specs.Context.{Context}
use Rattle.w_rules.specs.Matching.{RowMatches, known}
use Rattle.w_rules.specs.Typing.{Derives}
use Rattle.w_steps.specs.Labels.{arrow_at, within}
use Rattle.w_vplain.specs.Prefixes.{OpenBlock, more, taken_by, kinds_of, set_at, Reaches}
use Rattle.w_vplain.specs.Frames.{Frame, frame_kinds, StandsAt, StandsAll}
use Rattle.w_steps.specs.declared.frame_kind.FrameKind.{FrameKind}
use Rattle.w_vplain.proofs.Options.{held_fact}
use Rattle.w_rules.proofs.Derive.{derives_right, after_in, after_out, holds_map, holds_pull}

-- ## Levels

abbrev pub open_block : FrameKind → Code → Code → OpenBlock
open_block k f d = record { kind = k; first = f; code = d }

-- a sequence behind what is there leads on
pub reaches_in : (c : Context) → KeepsKinds c.types → (s : List Bool) (l : OpenBlock) (ls : List OpenBlock) (k : Code) (vs us : Row Operand) → Reaches c s l ls vs →
    Derives (within c (kinds_of (l ∷ ls))) (set_at s (l ∷ ls)) k vs us → Reaches c s (more l k) ls us
reaches_in c keeps s l ls k vs us r d =
    holds_map (arrow_at c l.kind) _ _ r (λ a h. (h.0, after_in (within c (kinds_of (l ∷ ls))) keeps (set_at s ls) l.code k (known a.from) vs us h.1 d))

-- and what is led to with it is led to through what is there
pub reaches_out : (c : Context) (s : List Bool) (l : OpenBlock) (ls : List OpenBlock) (k : Code) (us : Row Operand) → Reaches c s (more l k) ls us →
    (vs : Row Operand) × Reaches c s l ls vs × Derives (within c (kinds_of (l ∷ ls))) (set_at s (l ∷ ls)) k vs us
reaches_out c s l ls k us r =
    holds_pull (arrow_at c l.kind) _ _ _ r (λ a h.
    let j = after_out (within c (kinds_of (l ∷ ls))) (set_at s ls) l.code k (known a.from) us h.1 in
    (j.0, (h.0, j.1), j.2))

-- with operands also operands that these match
pub reaches_right : (c : Context) → KeepsKinds c.types → (s : List Bool) (l : OpenBlock) (ls : List OpenBlock) (us vs : Row Operand) → Reaches c s l ls us → RowMatches c.types us vs →
    Reaches c s l ls vs
reaches_right c keeps s l ls us vs r m =
    holds_map (arrow_at c l.kind) _ _ r (λ a h. (h.0, derives_right (within c (kinds_of (l ∷ ls))) keeps (set_at s ls) l.code (known a.from) us vs h.1 m))

-- ## Frames

-- a frame of the open block, with these operands
abbrev pub framed : List Bool → Bool → Row Operand → OpenBlock → List OpenBlock → Frame
framed s p ts l ls = record { kind = l.kind; any = p; operands = ts; is_set = set_at s (l ∷ ls) }

-- a frame that stands for an open block is one of the open block
pub frame_is : (c : Context) (s : List Bool) (handed : Row ValType) (f : Frame) (l : OpenBlock) (ls : List OpenBlock) → StandsAt c s handed f l ls →
    f ≡ framed s f.any f.operands l ls
frame_is c s handed f l ls st = λ j. record { kind = st.kind j; any = f.any; operands = f.operands; is_set = st.is_set j }

-- frames are of the kinds of the blocks that they stand for
pub kinds_same : (c : Context) (s : List Bool) (handed : Row ValType) (fs : List Frame) (ls : List OpenBlock) → StandsAll c s handed fs ls →
    frame_kinds fs ≡ kinds_of ls
kinds_same c s handed [] [] st = refl
kinds_same c s handed [] (l ∷ ls) st = absurd st
kinds_same c s handed (f ∷ fs) [] st = absurd st
kinds_same c s handed (f ∷ fs) (l ∷ ls) st = held_fact (arrow_at c l.kind) _ _ st.1 (λ a h.
    ap (λ k. k ∷ frame_kinds fs) st.0.kind ∙ ap (λ ks. l.kind ∷ ks) (kinds_same c s (taken_by l.kind a) fs ls h))

-- and as many
pub count_same : (c : Context) (s : List Bool) (handed : Row ValType) (fs : List Frame) (ls : List OpenBlock) → StandsAll c s handed fs ls → length fs ≡ length ls
count_same c s handed [] [] st = refl
count_same c s handed [] (l ∷ ls) st = absurd st
count_same c s handed (f ∷ fs) [] st = absurd st
count_same c s handed (f ∷ fs) (l ∷ ls) st =
    held_fact (arrow_at c l.kind) _ _ st.1 (λ a h. ap suc (count_same c s (taken_by l.kind a) fs ls h))

-- the frames around the innermost one are of the kinds of the blocks around it
pub tail_kinds : (c : Context) (s : List Bool) (f : Frame) (fs : List Frame) (l : OpenBlock) (ls : List OpenBlock) → StandsAll c s ε (f ∷ fs) (l ∷ ls) →
    frame_kinds fs ≡ kinds_of ls
tail_kinds c s f fs l ls st = held_fact (arrow_at c l.kind) _ _ st.1 (λ a h. kinds_same c s (taken_by l.kind a) fs ls h)
