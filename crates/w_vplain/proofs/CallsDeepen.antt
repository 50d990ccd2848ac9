-- Each call raises the depth by the number of open blocks.
use Rattle.std.proofs.Common.{◌≡◌, ℕ, suc, ◌+◌, ◌≤◌, max, Bool, true, false, ◌&&◌, List, [], ◌∷◌, length, Some, None, if◌then◌else◌, refl, sym, subst, arith}
use Rattle.lists.specs.Rows.{Row}
use Rattle.w_syntax.specs.Code.{Code, Done, Plain, Block, If, IfElse, after}
use Rattle.w_syntax.specs.declared.instructions.BlockType.{BlockType}
use Rattle.w_syntax.specs.declared.instructions.Instr.{Instr}
use Rattle.w_syntax.specs.declared.instructions.Instr.TheVariants as flat
use Rattle.w_syntax.specs.declared.instructions.Op.{Op}
use Rattle.w_syntax.specs.declared.instructions.Op.TheVariants as op
use Rattle.w_canon.specs.declared.entry.Entry.{Entry}
use Rattle.w_rules.specs.Operands.{Operand}
use Rattle.w_rules.specs.Context.{Context}
use Rattle.w_rules.specs.InstructionTypes.{InstrType, instr_type}
use Rattle.w_rules.specs.Matching.{known}
use Rattle.w_rules.specs.Peak.{depth}
use Rattle.w_flow.specs.Flow.{◌>>=◌, pops, ends, step}
use Rattle.w_steps.specs.Labels.{arrow_at, within}
use Rattle.w_vplain.specs.Prefixes.{OpenBlock, Prefix, open_at, ended, malformed, opened, more, in_else, node, closed, followed, follow, taken_by}
use Rattle.w_steps.specs.PlainTests.{condition_test}
use Rattle.w_vplain.specs.Frames.{Frame, frame_kinds, typed_next, op_next, enter_next, other_next, end_test, leave, end_next, frame_next, next, FramesStand}
use Rattle.w_vplain.specs.Measures.{first_depth, depths, depth_of}
use Rattle.w_steps.specs.declared.frame_kind.FrameKind.{FrameKind}
use Rattle.w_steps.specs.declared.frame_kind.FrameKind.TheVariants as kind
use Rattle.w_vplain.proofs.Options.{held_fact, Whenever, whenever_bind, always, when_if, whenever_none}
use Rattle.w_vplain.proofs.OpenBlocks.{open_block, count_same}
use Rattle.w_vplain.proofs.Nodes.{Inner, is_block, is_then, is_else}

-- ## Depths of sequences

-- no place has no block around it
one_deep : (k : Code) → 1 ≤ depth k
one_deep Done = omega arith
one_deep (Plain o k) = one_deep k
one_deep (Block b x d k) = omega (arith, one_deep k)
one_deep (If x d k) = omega (arith, one_deep k)
one_deep (IfElse x d e k) = omega (arith, one_deep k)

-- of two sequences the greater depth
depth-after : (d k : Code) → depth (after d k) ≡ max (depth d) (depth k)
unfolding after
depth-after Done k = omega (arith, one_deep k)
depth-after (Plain o d) k = depth-after d k
depth-after (Block b x i d) k = omega (arith, depth-after d k)
depth-after (If x i d) k = omega (arith, depth-after d k)
depth-after (IfElse x i j d) k = omega (arith, depth-after d k)

-- a whole block
depth-node : (k : FrameKind) → Inner k → (f d : Code) → depth (node k f d) ≡ max (first_depth k f) (depth d) + 1
depth-node k (is_block b x) f d = omega (arith, one_deep d)
depth-node k (is_then x) f d = omega (arith, one_deep d)
depth-node k (is_else x) f d = omega (arith, one_deep f, one_deep d)

-- ## Depths of open blocks

-- the depth is raised by the number of frames
abbrev pub Deepens : Prefix → Prefix → List Frame → Type 0
Deepens old new fs = depth_of new ≡ max (depth_of old) (length fs)

-- with an instruction that holds no others
typed_deep : (o : Op) (l : OpenBlock) (ls : List OpenBlock) (n : ℕ) → n ≡ suc (length ls) → depths (more l (Plain o Done) ∷ ls) ≡ max (depths (l ∷ ls)) n
typed_deep o l ls n e = omega (arith, depth-after l.code (Plain o Done), one_deep l.code)

-- with a block that begins
enter_deep : (k : FrameKind) → first_depth k Done ≡ 1 → (l : OpenBlock) (ls : List OpenBlock) (n : ℕ) → n ≡ suc (suc (length ls)) → depths (opened k ∷ l ∷ ls) ≡ max (depths (l ∷ ls)) n
enter_deep k f l ls n e = omega arith

-- with a second branch
turn_deep : (x : BlockType) (f d : Code) (m : OpenBlock) (ms : List OpenBlock) (n : ℕ) → n ≡ suc (suc (length ms)) →
    depths (open_block (kind.Else x) d Done ∷ m ∷ ms) ≡ max (depths (open_block (kind.Then x) f d ∷ m ∷ ms)) n
turn_deep x f d m ms n e = omega (arith, one_deep d)

-- with the end of a block in another
end_deep : (k : FrameKind) → Inner k → (f d : Code) (m : OpenBlock) (ms : List OpenBlock) (n : ℕ) → n ≡ suc (length ms) →
    depths (more m (node k f d) ∷ ms) ≡ max (depths (open_block k f d ∷ m ∷ ms)) n
end_deep k i f d m ms n e = omega (arith, depth-after m.code (node k f d), depth-node k i f d, one_deep d, one_deep m.code)

-- with the end of the body
body_deep : (d : Code) → depth d ≡ max (max (max 1 (depth d) + 0) 0) 0
body_deep d = omega (arith, one_deep d)

-- ## Calls

-- an instruction of this type, behind a test
pub typed_deepens : (es : List Entry) (n : InstrType) (o : Op) (f : Frame) (fs : List Frame) (l : OpenBlock) (ls : List OpenBlock) → length fs ≡ length ls → (b : Bool) →
    Whenever (if b then typed_next es n o f fs else None) (Deepens (open_at l ls) (open_at (more l (Plain o Done)) ls))
typed_deepens es n o f fs l ls long b =
    when_if b (typed_next es n o f fs) _
    (whenever_bind (step es n f.any f.operands) _ _ (always (step es n f.any f.operands) _ (λ w. typed_deep o l ls (suc (length fs)) (omega arith))))

-- a block begins
pub enter_deepens : (es : List Entry) (c : Context) (k : FrameKind) → first_depth k Done ≡ 1 → (f : Frame) (fs : List Frame) (l : OpenBlock) (ls : List OpenBlock) → length fs ≡ length ls →
    Whenever (enter_next es c k f fs) (Deepens (open_at l ls) (open_at (opened k) (l ∷ ls)))
enter_deepens es c k z f fs l ls long = whenever_bind (arrow_at c k) _ _ (always (arrow_at c k) _ (λ a.
    whenever_bind (pops es f.any f.operands (taken_by k a)) _ _ (always (pops es f.any f.operands (taken_by k a)) _ (λ w.
    enter_deep k z l ls (suc (suc (length fs))) (omega arith)))))

-- the second branch begins
pub other_deepens : (es : List Entry) (c : Context) (f : Frame) (fs : List Frame) (k : FrameKind) (g d : Code) (ls : List OpenBlock) → length fs ≡ length ls →
    Whenever (other_next es c k f fs) (Deepens (open_at (open_block k g d) ls) (in_else k d ls))
other_deepens es c f fs kind.Body g d ls long = tt
other_deepens es c f fs (kind.Block b x) g d ls long = tt
other_deepens es c f fs (kind.Else x) g d ls long = tt
other_deepens es c f [] (kind.Then x) g d ls long = tt
other_deepens es c f (h ∷ hs) (kind.Then x) g d [] long = absurd (omega arith)
other_deepens es c f (h ∷ hs) (kind.Then x) g d (m ∷ ms) long = whenever_bind (arrow_at c (kind.Then x)) _ _ (always (arrow_at c (kind.Then x)) _ (λ a.
    when_if (ends es f.any f.operands a.to) (Some (record { kind = kind.Else x; any = false; operands = known a.from; is_set = h.is_set } ∷ h ∷ hs))
    (Deepens (open_at (open_block (kind.Then x) g d) (m ∷ ms)) (open_at (open_block (kind.Else x) d Done) (m ∷ ms)))
    (turn_deep x g d m ms (suc (suc (length hs))) (omega arith))))

-- a block in another ends
inner_deepens : (es : List Entry) (c : Context) (p : Bool) (ts : Row Operand) (k : FrameKind) → Inner k → (h : Frame) (hs : List Frame) (g d : Code) (m : OpenBlock) (ms : List OpenBlock) → length hs ≡ length ms →
    Whenever (arrow_at c k >>= λ a. (if ends es p ts a.to && end_test es k a then Some (leave a.to (h ∷ hs)) else None))
    (Deepens (open_at (open_block k g d) (m ∷ ms)) (open_at (more m (node k g d)) ms))
inner_deepens es c p ts k i h hs g d m ms long = whenever_bind (arrow_at c k) _ _ (always (arrow_at c k) _ (λ a.
    when_if (ends es p ts a.to && end_test es k a) (Some (leave a.to (h ∷ hs))) _
    (end_deep k i g d m ms (suc (length hs)) (omega arith))))

-- a block ends
pub end_deepens : (es : List Entry) (c : Context) (k : FrameKind) (p : Bool) (ts : Row Operand) (s : List Bool) (fs : List Frame) (g d : Code) (ls : List OpenBlock) → length fs ≡ length ls →
    Whenever (end_next es c (record { kind = k; any = p; operands = ts; is_set = s }) fs) (Deepens (open_at (open_block k g d) ls) (closed k g d ls))
end_deepens es c kind.Body p ts s [] g d [] long = when_if (ends es p ts c.results && true) (Some []) _ (body_deep d)
end_deepens es c kind.Body p ts s [] g d (m ∷ ms) long = absurd (omega arith)
end_deepens es c kind.Body p ts s (h ∷ hs) g d ls long = tt
end_deepens es c (kind.Block b x) p ts s [] g d ls long = whenever_none (arrow_at c (kind.Block b x)) _
end_deepens es c (kind.Block b x) p ts s (h ∷ hs) g d [] long = absurd (omega arith)
end_deepens es c (kind.Block b x) p ts s (h ∷ hs) g d (m ∷ ms) long = inner_deepens es c p ts (kind.Block b x) (is_block b x) h hs g d m ms (omega arith)
end_deepens es c (kind.Then x) p ts s [] g d ls long = whenever_none (arrow_at c (kind.Then x)) _
end_deepens es c (kind.Then x) p ts s (h ∷ hs) g d [] long = absurd (omega arith)
end_deepens es c (kind.Then x) p ts s (h ∷ hs) g d (m ∷ ms) long = inner_deepens es c p ts (kind.Then x) (is_then x) h hs g d m ms (omega arith)
end_deepens es c (kind.Else x) p ts s [] g d ls long = whenever_none (arrow_at c (kind.Else x)) _
end_deepens es c (kind.Else x) p ts s (h ∷ hs) g d [] long = absurd (omega arith)
end_deepens es c (kind.Else x) p ts s (h ∷ hs) g d (m ∷ ms) long = inner_deepens es c p ts (kind.Else x) (is_else x) h hs g d m ms (omega arith)

-- an instruction that holds no others
op_deepens : (es : List Entry) (c : Context) (o : Op) (f : Frame) (fs : List Frame) (l : OpenBlock) (ls : List OpenBlock) → length fs ≡ length ls →
    Whenever (op_next es c o f fs) (Deepens (open_at l ls) (open_at (more l (Plain o Done)) ls))
op_deepens es c (op.Switching o) f fs l ls long = tt
op_deepens es c o f fs l ls long = typed_deepens es (instr_type (within c (f.kind ∷ frame_kinds fs)) f.is_set o) o f fs l ls long (condition_test es c o)

-- any, where the frame is of the open block's kind
framed_deepens : (es : List Entry) (c : Context) (i : Instr) (k : FrameKind) (p : Bool) (ts : Row Operand) (s : List Bool) (fs : List Frame) (g d : Code) (ls : List OpenBlock) →
    length fs ≡ length ls → Whenever (frame_next es c i (record { kind = k; any = p; operands = ts; is_set = s }) fs) (Deepens (open_at (open_block k g d) ls) (followed i (open_block k g d) ls))
framed_deepens es c (flat.Plain o) k p ts s fs g d ls long = op_deepens es c o (record { kind = k; any = p; operands = ts; is_set = s }) fs (open_block k g d) ls long
framed_deepens es c (flat.Block b x end) k p ts s fs g d ls long = enter_deepens es c (kind.Block b x) refl _ fs (open_block k g d) ls long
framed_deepens es c (flat.If x other end) k p ts s fs g d ls long = enter_deepens es c (kind.Then x) refl _ fs (open_block k g d) ls long
framed_deepens es c flat.Else k p ts s fs g d ls long = other_deepens es c _ fs k g d ls long
framed_deepens es c flat.End k p ts s fs g d ls long = end_deepens es c k p ts s fs g d ls long

-- where a call goes on, the depth is raised by the number of open blocks
pub calls_deepen : (es : List Entry) (c : Context) (s : List Bool) (i : Instr) (fs : List Frame) (w : Prefix) → FramesStand c s fs w →
    Whenever (next es c i fs) (Deepens w (follow i w))
calls_deepen es c s i [] w st = tt
calls_deepen es c s i (f ∷ fs) (ended k) st = absurd st.0
calls_deepen es c s i (f ∷ fs) malformed st = absurd st
calls_deepen es c s i (f ∷ fs) (open_at l ls) st =
    let long : length fs ≡ length ls = held_fact (arrow_at c l.kind) _ _ st.1 (λ a h. count_same c s (taken_by l.kind a) fs ls h) in
    let same : f ≡ record f { kind = l.kind } = λ j. record f { kind = st.0.kind j } in
    let P : Frame → Type 0 = λ g. Whenever (next es c i (g ∷ fs)) (Deepens (open_at l ls) (followed i l ls)) in
    subst P (sym same) (framed_deepens es c i l.kind f.any f.operands f.is_set fs l.first l.code ls long)
