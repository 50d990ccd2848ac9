-- Each call keeps that the frames have as many operands as the place, and raises the peak by that place alone.
use Rattle.std.proofs.Common.{◌≡◌, ℕ, ◌+◌, max, Bool, true, false, ◌&&◌, List, [], ◌∷◌, Option, Some, None, if◌then◌else◌, refl, sym, ◌∙◌, ap, subst, arith}
use Rattle.lists.specs.Rows.{Row, ε, ◌⧺◌, size}
use Rattle.w_syntax.specs.Code.{Code, Done, Plain}
use Rattle.w_syntax.specs.declared.instructions.Instr.{Instr}
use Rattle.w_syntax.specs.declared.instructions.Instr.TheVariants as flat
use Rattle.w_syntax.specs.declared.instructions.Op.{Op}
use Rattle.w_syntax.specs.declared.instructions.Op.TheVariants as op
use Rattle.w_canon.specs.declared.entry.Entry.{Entry}
use Rattle.w_rules.specs.Operands.{Operand}
use Rattle.w_rules.specs.Context.{Context, Arrow, arrow_of}
use Rattle.w_rules.specs.InstructionTypes.{InstrType, instr_type}
use Rattle.w_rules.specs.Matching.{known}
use Rattle.w_rules.specs.Peak.{or_none, extra}
use Rattle.w_flow.specs.Flow.{◌>>=◌, pops, ends, step}
use Rattle.w_steps.specs.Labels.{arrow_at, within}
use Rattle.w_vplain.specs.Prefixes.{OpenBlock, Prefix, open_at, ended, malformed, opened, more, in_else, node, closed, followed, follow, taken_by, kinds_of, set_at}
use Rattle.w_steps.specs.PlainTests.{condition_test}
use Rattle.w_vplain.specs.Frames.{Frame, frame_kinds, typed_next, plain_next, op_next, enter_next, other_next, end_test, leave, end_next, frame_next, next, StandsAll, FramesStand}
use Rattle.w_vplain.specs.Measures.{height_at, peaks, peak_of, tally, total, Tallies, CountsFor, Raised}
use Rattle.w_steps.specs.declared.frame_kind.FrameKind.{FrameKind}
use Rattle.w_steps.specs.declared.frame_kind.FrameKind.TheVariants as kind
use Rattle.w_vplain.proofs.Options.{held_at, at_held, held_fact, Whenever, whenever_bind, whenever_map, whenever_eq, at_whenever, when_if, whenever_none}
use Rattle.w_vplain.proofs.OpenBlocks.{open_block, framed, frame_is, kinds_same, tail_kinds}
use Rattle.w_vplain.proofs.TypesKnown.{instr_type_at}
use Rattle.w_vplain.proofs.Nodes.{Inner, is_block, is_then, is_else}
use Rattle.w_vplain.proofs.TypeHeights.{pops_long, step_tally}
use Rattle.w_vplain.proofs.BlockPeaks.{no_zero, NoFirst, typed_counts, enter_heights, enter_peaks, turn_counts, end_counts}

-- the frames have as many operands as the place, and the peak is raised by it
abbrev pub Counted : Context → List Bool → Prefix → Prefix → List Frame → Type 0
Counted c s old new gs = CountsFor c s gs new × (peak_of c s new ≡ max (peak_of c s old) (or_none (total gs) (λ (h : ℕ). h)))

-- and by what a resume adds
abbrev pub CountedBy : Context → List Bool → Instr → List Frame → Prefix → Prefix → List Frame → Type 0
CountedBy c s i fs old new gs = CountsFor c s gs new × Raised c s i fs gs old new

-- nothing is added
quiet : (o : Option ℕ) (a b c : ℕ) → a ≡ max b c → a ≡ max (max b (or_none o (λ (h : ℕ). 0))) c
quiet None a b c e = omega arith
quiet (Some h) a b c e = omega arith

-- an instruction that no resume is
quietly : (c : Context) (s : List Bool) (n : Option (List Frame)) (now : Option ℕ) (old new : Prefix) → Whenever n (Counted c s old new) →
    Whenever n (λ (gs : List Frame). CountsFor c s gs new × (peak_of c s new ≡ max (max (peak_of c s old) (or_none now (λ (h : ℕ). 0))) (or_none (total gs) (λ (h : ℕ). h))))
quietly c s n now old new h = whenever_map n _ _ h (λ gs k. (k.0, quiet now _ _ _ k.1))

-- ## By an instruction type

-- an instruction of the type that it has there
step_counted : (es : List Entry) (c : Context) (s : List Bool) (o : Op) (f : Frame) (fs : List Frame) (l : OpenBlock) (ls : List OpenBlock) →
    frame_kinds (f ∷ fs) ≡ kinds_of (l ∷ ls) → Tallies c s 0 (f ∷ fs) (l ∷ ls) →
    Whenever (typed_next es (instr_type_at c s l ls o) o f fs) (CountedBy c s (flat.Plain o) (f ∷ fs) (open_at l ls) (open_at (more l (Plain o Done)) ls))
step_counted es c s o f fs l ls same t =
    let n = instr_type_at c s l ls o in
    whenever_bind (step es n f.any f.operands) _ _ (whenever_map (step es n f.any f.operands) _ _ (step_tally es n f.any f.operands) (λ w goes.
    (let r = typed_counts c s o f.any f.operands l ls fs w goes t.0 in (
      (r.0, t.1),
      r.1 ∙ ap (λ (ks : List FrameKind). max (max (peaks c s (l ∷ ls)) (or_none (total (f ∷ fs)) (extra (within c ks) o))) (or_none (tally w.any w.operands (total fs)) (λ (h : ℕ). h)))
          (sym same),
    ))))

-- an instruction of this type, which passes its test
pub typed_counted : (es : List Entry) (c : Context) (s : List Bool) (o : Op) (n : InstrType) (f : Frame) (fs : List Frame) (l : OpenBlock) (ls : List OpenBlock) →
    StandsAll c s ε (f ∷ fs) (l ∷ ls) → Tallies c s 0 (f ∷ fs) (l ∷ ls) → (b : Bool) → instr_type_at c s l ls o ≡ n →
    Whenever (if b then typed_next es n o f fs else None) (CountedBy c s (flat.Plain o) (f ∷ fs) (open_at l ls) (open_at (more l (Plain o Done)) ls))
typed_counted es c s o n f fs l ls st t b e =
    let P : InstrType → Type 0 = λ m. Whenever (if b then typed_next es m o f fs else None)
    (CountedBy c s (flat.Plain o) (f ∷ fs) (open_at l ls) (open_at (more l (Plain o Done)) ls)) in
    subst P e (when_if b (typed_next es (instr_type_at c s l ls o) o f fs) _ (step_counted es c s o f fs l ls (kinds_same c s ε (f ∷ fs) (l ∷ ls) st) t))

-- ## A block begins

-- the place before the call
height_now : (c : Context) (s : List Bool) (f : Frame) (l : OpenBlock) (ls : List OpenBlock) (fs : List Frame) → Tallies c s 0 (f ∷ fs) (l ∷ ls) →
    height_at c s (l ∷ ls) ≡ tally f.any f.operands (total fs)
height_now c s f l ls fs t = t.0 ∙ no_zero (tally f.any f.operands (total fs))

-- so many operands are taken
longer : (es : List Entry) (p : Bool) (ts w : Row Operand) (k : FrameKind) (a : Arrow) → pops es p ts (taken_by k a) ≡ Some w → p ≡ false → size w + size (taken_by k a) ≡ size ts
longer es true ts w k a h e = cc
longer es false ts w k a h e =
    at_whenever (pops es false ts (taken_by k a)) (λ (v : Row Operand). size v + size (taken_by k a) ≡ size ts) w h (pops_long es ts (taken_by k a))

-- of this kind
pub enter_counted : (es : List Entry) (c : Context) (s : List Bool) (k : FrameKind) → NoFirst k → (f : Frame) (fs : List Frame) (l : OpenBlock) (ls : List OpenBlock) →
    Tallies c s 0 (f ∷ fs) (l ∷ ls) →
    Whenever (enter_next es c k f fs) (Counted c s (open_at l ls) (open_at (opened k) (l ∷ ls)))
enter_counted es c s k z f fs l ls t =
    whenever_bind (arrow_at c k) _ _ (whenever_eq (arrow_at c k) _ (λ a eq.
    whenever_bind (pops es f.any f.operands (taken_by k a)) _ _ (whenever_eq (pops es f.any f.operands (taken_by k a)) _ (λ w popped.
    (let r = enter_heights c s k a f.any f.operands w l ls fs (longer es f.any f.operands w k a popped) (height_now c s f l ls fs t) in (
      (
        r.0 ∙ sym (no_zero (tally false (known a.from) (tally f.any w (total fs)))),
        at_held (arrow_at c k) a (λ (b : Arrow). Tallies c s (size (taken_by k b)) (record f { operands = w } ∷ fs) (l ∷ ls)) eq (r.1, t.1),
      ),
      enter_peaks c s k z l ls (tally false (known a.from) (tally f.any w (total fs))) r.0,
    ))))))

-- ## The second branch begins

-- an else
pub other_counted : (es : List Entry) (c : Context) (s : List Bool) (k : FrameKind) (f d : Code) (p : Bool) (ts : Row Operand) (ls : List OpenBlock) (fs : List Frame) →
    Tallies c s 0 (framed s p ts (open_block k f d) ls ∷ fs) (open_block k f d ∷ ls) →
    Whenever (other_next es c k (framed s p ts (open_block k f d) ls) fs) (Counted c s (open_at (open_block k f d) ls) (in_else k d ls))
other_counted es c s kind.Body f d p ts ls fs t = tt
other_counted es c s (kind.Block b x) f d p ts ls fs t = tt
other_counted es c s (kind.Else x) f d p ts ls fs t = tt
other_counted es c s (kind.Then x) f d p ts ls [] t = tt
other_counted es c s (kind.Then x) f d p ts [] (g ∷ gs) t = held_fact (arrow_of c x) _ _ t.1 (λ a h. absurd h)
other_counted es c s (kind.Then x) f d p ts (m ∷ ms) (g ∷ gs) t =
    whenever_bind (arrow_of c x) _ _ (whenever_eq (arrow_of c x) _ (λ a eq.
    when_if (ends es p ts a.to) (Some (record { kind = kind.Else x; any = false; operands = known a.from; is_set = g.is_set } ∷ g ∷ gs)) _
    (let r = turn_counts c s x f d m ms (g ∷ gs) a (held_at (arrow_of c x) a _ eq t.1).0 in
    ((r.0 ∙ sym (no_zero (tally false (known a.from) (total (g ∷ gs)))), t.1), r.1))))

-- ## A block ends

-- the peak of a body alone
body_peak : (a : ℕ) → a ≡ max (max (max 0 a) 0) 0
body_peak a = omega arith

-- in another block
inner_counted : (es : List Entry) (c : Context) (s : List Bool) (k : FrameKind) → Inner k → (f d : Code) (p : Bool) (ts : Row Operand) (m : OpenBlock) (ms : List OpenBlock) (g : Frame) (gs : List Frame) →
    Tallies c s 0 (framed s p ts (open_block k f d) (m ∷ ms) ∷ g ∷ gs) (open_block k f d ∷ m ∷ ms) →
    Whenever (arrow_at c k >>= λ a. (if ends es p ts a.to && end_test es k a then Some (leave a.to (g ∷ gs)) else None))
    (Counted c s (open_at (open_block k f d) (m ∷ ms)) (open_at (more m (node k f d)) ms))
inner_counted es c s k i f d p ts m ms g gs t =
    whenever_bind (arrow_at c k) _ _ (whenever_eq (arrow_at c k) _ (λ a eq.
    when_if (ends es p ts a.to && end_test es k a) (Some (leave a.to (g ∷ gs))) _
    (let out = held_at (arrow_at c k) a _ eq t.1 in
    let r = end_counts c s k i f d m ms g gs a eq out.0 in
    ((r.0 ∙ sym (no_zero (tally g.any (g.operands ⧺ known a.to) (total gs))), out.1), r.1))))

-- an end
pub end_counted : (es : List Entry) (c : Context) (s : List Bool) (k : FrameKind) (f d : Code) (p : Bool) (ts : Row Operand) (ls : List OpenBlock) (fs : List Frame) →
    Tallies c s 0 (framed s p ts (open_block k f d) ls ∷ fs) (open_block k f d ∷ ls) →
    Whenever (end_next es c (framed s p ts (open_block k f d) ls) fs) (Counted c s (open_at (open_block k f d) ls) (closed k f d ls))
end_counted es c s kind.Body f d p ts [] [] t = when_if (ends es p ts c.results && true) (Some []) _ (tt, body_peak _)
end_counted es c s kind.Body f d p ts [] (g ∷ gs) t = absurd t.1
end_counted es c s kind.Body f d p ts (m ∷ ms) [] t = absurd t.1
end_counted es c s kind.Body f d p ts (m ∷ ms) (g ∷ gs) t = tt
end_counted es c s (kind.Block b x) f d p ts [] [] t = whenever_none (arrow_of c x) _
end_counted es c s (kind.Block b x) f d p ts [] (g ∷ gs) t = held_fact (arrow_of c x) _ _ t.1 (λ a h. absurd h)
end_counted es c s (kind.Block b x) f d p ts (m ∷ ms) [] t = held_fact (arrow_of c x) _ _ t.1 (λ a h. absurd h)
end_counted es c s (kind.Block b x) f d p ts (m ∷ ms) (g ∷ gs) t = inner_counted es c s (kind.Block b x) (is_block b x) f d p ts m ms g gs t
end_counted es c s (kind.Then x) f d p ts [] [] t = whenever_none (arrow_of c x) _
end_counted es c s (kind.Then x) f d p ts [] (g ∷ gs) t = held_fact (arrow_of c x) _ _ t.1 (λ a h. absurd h)
end_counted es c s (kind.Then x) f d p ts (m ∷ ms) [] t = held_fact (arrow_of c x) _ _ t.1 (λ a h. absurd h)
end_counted es c s (kind.Then x) f d p ts (m ∷ ms) (g ∷ gs) t = inner_counted es c s (kind.Then x) (is_then x) f d p ts m ms g gs t
end_counted es c s (kind.Else x) f d p ts [] [] t = whenever_none (arrow_of c x) _
end_counted es c s (kind.Else x) f d p ts [] (g ∷ gs) t = held_fact (arrow_of c x) _ _ t.1 (λ a h. absurd h)
end_counted es c s (kind.Else x) f d p ts (m ∷ ms) [] t = held_fact (arrow_of c x) _ _ t.1 (λ a h. absurd h)
end_counted es c s (kind.Else x) f d p ts (m ∷ ms) (g ∷ gs) t = inner_counted es c s (kind.Else x) (is_else x) f d p ts m ms g gs t

-- ## Any instruction

-- an instruction that does not switch stacks
plain_counted : (es : List Entry) (c : Context) (s : List Bool) (o : Op) (p : Bool) (ts : Row Operand) (l : OpenBlock) (ls : List OpenBlock) (fs : List Frame) →
    StandsAll c s ε (framed s p ts l ls ∷ fs) (l ∷ ls) → Tallies c s 0 (framed s p ts l ls ∷ fs) (l ∷ ls) →
    Whenever (plain_next es c o (framed s p ts l ls) fs)
    (CountedBy c s (flat.Plain o) (framed s p ts l ls ∷ fs) (open_at l ls) (open_at (more l (Plain o Done)) ls))
plain_counted es c s o p ts l ls fs st t =
    typed_counted es c s o (instr_type (within c (l.kind ∷ frame_kinds fs)) (set_at s (l ∷ ls)) o) (framed s p ts l ls) fs l ls st t (condition_test es c o)
    (ap (λ (ks : List FrameKind). instr_type (within c (l.kind ∷ ks)) (set_at s (l ∷ ls)) o) (sym (tail_kinds c s (framed s p ts l ls) fs l ls st)))

-- one that holds no others
op_counted : (es : List Entry) (c : Context) (s : List Bool) (o : Op) (p : Bool) (ts : Row Operand) (l : OpenBlock) (ls : List OpenBlock) (fs : List Frame) →
    StandsAll c s ε (framed s p ts l ls ∷ fs) (l ∷ ls) → Tallies c s 0 (framed s p ts l ls ∷ fs) (l ∷ ls) →
    Whenever (op_next es c o (framed s p ts l ls) fs)
    (CountedBy c s (flat.Plain o) (framed s p ts l ls ∷ fs) (open_at l ls) (open_at (more l (Plain o Done)) ls))
op_counted es c s (op.Switching o) p ts l ls fs st t = tt
op_counted es c s o p ts l ls fs st t = plain_counted es c s o p ts l ls fs st t

-- any, where the frame is that of the open block
framed_counted : (es : List Entry) (c : Context) (s : List Bool) (i : Instr) (p : Bool) (ts : Row Operand) (l : OpenBlock) (ls : List OpenBlock) (fs : List Frame) →
    StandsAll c s ε (framed s p ts l ls ∷ fs) (l ∷ ls) → Tallies c s 0 (framed s p ts l ls ∷ fs) (l ∷ ls) →
    Whenever (frame_next es c i (framed s p ts l ls) fs) (CountedBy c s i (framed s p ts l ls ∷ fs) (open_at l ls) (followed i l ls))
framed_counted es c s (flat.Plain o) p ts l ls fs st t = op_counted es c s o p ts l ls fs st t
framed_counted es c s (flat.Block b x end) p ts l ls fs st t =
    quietly c s _ (total (framed s p ts l ls ∷ fs)) (open_at l ls) (open_at (opened (kind.Block b x)) (l ∷ ls)) (enter_counted es c s (kind.Block b x) (λ _ _ _. refl) (framed s p ts l ls) fs l ls t)
framed_counted es c s (flat.If x other end) p ts l ls fs st t =
    quietly c s _ (total (framed s p ts l ls ∷ fs)) (open_at l ls) (open_at (opened (kind.Then x)) (l ∷ ls)) (enter_counted es c s (kind.Then x) (λ _ _ _. refl) (framed s p ts l ls) fs l ls t)
framed_counted es c s flat.Else p ts l ls fs st t =
    quietly c s _ (total (framed s p ts l ls ∷ fs)) (open_at l ls) _ (other_counted es c s l.kind l.first l.code p ts ls fs t)
framed_counted es c s flat.End p ts l ls fs st t =
    quietly c s _ (total (framed s p ts l ls ∷ fs)) (open_at l ls) _ (end_counted es c s l.kind l.first l.code p ts ls fs t)

-- any, where blocks are open
frame_counted : (es : List Entry) (c : Context) (s : List Bool) (i : Instr) (f : Frame) (fs : List Frame) (l : OpenBlock) (ls : List OpenBlock) →
    StandsAll c s ε (f ∷ fs) (l ∷ ls) → Tallies c s 0 (f ∷ fs) (l ∷ ls) →
    Whenever (next es c i (f ∷ fs)) (CountedBy c s i (f ∷ fs) (open_at l ls) (followed i l ls))
frame_counted es c s i f fs l ls st t =
    let P : Frame → Type 0 = λ g. StandsAll c s ε (g ∷ fs) (l ∷ ls) → Tallies c s 0 (g ∷ fs) (l ∷ ls) →
    Whenever (next es c i (g ∷ fs)) (CountedBy c s i (g ∷ fs) (open_at l ls) (followed i l ls)) in
    subst P (sym (frame_is c s ε f l ls st.0)) (framed_counted es c s i f.any f.operands l ls fs) st t

-- where a call goes on, the frames tally again, and the peak is raised by the place that they reach
pub calls_counted : (es : List Entry) (c : Context) (s : List Bool) (i : Instr) (fs : List Frame) (w : Prefix) → FramesStand c s fs w → CountsFor c s fs w →
    Whenever (next es c i fs) (λ (gs : List Frame). CountsFor c s gs (follow i w) × Raised c s i fs gs w (follow i w))
calls_counted es c s i [] w st t = tt
calls_counted es c s i (f ∷ fs) (open_at l ls) st t = frame_counted es c s i f fs l ls st t
calls_counted es c s i (f ∷ fs) (ended k) st t = absurd st.0
calls_counted es c s i (f ∷ fs) malformed st t = absurd st
