-- A call keeps that the frames stand for the sequence, and answers whether the rules derive it.
use Rattle.std.proofs.Common.{◌≡◌, ◌↔◌, Bool, true, false, List, [], ◌∷◌, Option, Some, None, is_some, if◌then◌else◌, IsTrue, refl, sym, ◌∙◌, ap, subst}
use Rattle.std.proofs.lemmas.Bool.{false≢true}
use Rattle.lists.specs.Rows.{Row, ε}
use Rattle.w_syntax.specs.Code.{Done, Plain}
use Rattle.w_syntax.specs.declared.instructions.Instr.{Instr}
use Rattle.w_syntax.specs.declared.instructions.Instr.TheVariants as flat
use Rattle.w_syntax.specs.declared.instructions.Op.{Op}
use Rattle.w_syntax.specs.declared.instructions.Op.TheVariants as op
use Rattle.w_canon.specs.declared.entry.Entry.{Entry}
use Rattle.w_rules.specs.View.{AreClasses}
use Rattle.w_rules.specs.Operands.{Operand}
use Rattle.w_rules.specs.Conditions.{Holds}
use Rattle.w_rules.specs.Context.{Context, Arrow}
use Rattle.w_rules.specs.InstructionTypes.{instr_type}
use Rattle.w_flow.specs.Flow.{◌>>=◌}
use Rattle.w_steps.specs.Labels.{arrow_at, within}
use Rattle.w_vplain.specs.Prefixes.{is_checked, OpenBlock, Prefix, open_at, ended, malformed, more, followed, follow, is_switching, is_plain, opens, follow_plain, follow_enter, taken_by, kinds_of, set_at, Around, IsDerivable}
use Rattle.w_steps.specs.PlainTests.{condition_test}
use Rattle.w_vplain.specs.Frames.{Frame, frame_kinds, plain_next, op_next, frame_next, next, StandsAll, FramesStand, Knows}
use Rattle.w_steps.specs.declared.frame_kind.FrameKind.{FrameKind}
use Rattle.w_steps.specs.declared.frame_kind.FrameKind.TheVariants as kind
use Rattle.w_vplain.proofs.Options.{held_fact}
use Rattle.w_vplain.proofs.ConditionTests.{condition_decided_within}
use Rattle.w_vplain.proofs.OpenBlocks.{framed, frame_is, tail_kinds}
use Rattle.w_vplain.proofs.TypesKnown.{typed_known}
use Rattle.w_vplain.proofs.EnterKnown.{enter_known}
use Rattle.w_vplain.proofs.EndsKnown.{other_known, end_known}
use Rattle.w_vplain.proofs.Monotone.{derivable_before}
use Rattle.w_flow.proofs.Covers.{covers_refl}
use Rattle.w_rules.proofs.Derive.{holds_map}

-- an instruction that does not switch stacks
plain_known : (es : List Entry) (c : Context) → AreClasses c.types es → (s : List Bool) (o : Op) → is_switching o ≡ false → (p : Bool) (ts : Row Operand) (l : OpenBlock) (ls : List OpenBlock) (fs : List Frame) →
    StandsAll c s ε (framed s p ts l ls ∷ fs) (l ∷ ls) →
    Knows c s (plain_next es c o (framed s p ts l ls) fs) (open_at (more l (Plain o Done)) ls)
plain_known es c types s o h p ts l ls fs st =
    typed_known es c types s o (instr_type (within c (l.kind ∷ frame_kinds fs)) (set_at s (l ∷ ls)) o) (framed s p ts l ls) fs l ls st (condition_test es c o)
    (condition_decided_within es c types.classes (kinds_of (l ∷ ls)) o h)
    (ap (λ (ks : List FrameKind). instr_type (within c (l.kind ∷ ks)) (set_at s (l ∷ ls)) o) (sym (tail_kinds c s (framed s p ts l ls) fs l ls st)))

-- the same, by its class
op_known : (es : List Entry) (c : Context) → AreClasses c.types es → (s : List Bool) (o : Op) → is_checked (flat.Plain o) ≡ true → (p : Bool) (ts : Row Operand) (l : OpenBlock) (ls : List OpenBlock) (fs : List Frame) →
    StandsAll c s ε (framed s p ts l ls ∷ fs) (l ∷ ls) →
    Knows c s (op_next es c o (framed s p ts l ls) fs) (open_at (more l (Plain o Done)) ls)
op_known es c types s (op.Switching o) h p ts l ls fs st = absurd (false≢true h)
op_known es c types s (op.Control o) h p ts l ls fs st = plain_known es c types s (op.Control o) refl p ts l ls fs st
op_known es c types s (op.Parametric o) h p ts l ls fs st = plain_known es c types s (op.Parametric o) refl p ts l ls fs st
op_known es c types s (op.Variable o) h p ts l ls fs st = plain_known es c types s (op.Variable o) refl p ts l ls fs st
op_known es c types s (op.Table o) h p ts l ls fs st = plain_known es c types s (op.Table o) refl p ts l ls fs st
op_known es c types s (op.Memory o) h p ts l ls fs st = plain_known es c types s (op.Memory o) refl p ts l ls fs st
op_known es c types s (op.Numeric o) h p ts l ls fs st = plain_known es c types s (op.Numeric o) refl p ts l ls fs st
op_known es c types s (op.Reference o) h p ts l ls fs st = plain_known es c types s (op.Reference o) refl p ts l ls fs st

-- any of these, where the frame is that of the open block
framed_known : (es : List Entry) (c : Context) → AreClasses c.types es → (s : List Bool) (i : Instr) → is_checked i ≡ true → (p : Bool) (ts : Row Operand) (l : OpenBlock) (ls : List OpenBlock) (fs : List Frame) →
    StandsAll c s ε (framed s p ts l ls ∷ fs) (l ∷ ls) →
    Knows c s (frame_next es c i (framed s p ts l ls) fs) (followed i l ls)
framed_known es c types s (flat.Plain o) h p ts l ls fs st = op_known es c types s o h p ts l ls fs st
framed_known es c types s (flat.Block b x end) h p ts l ls fs st = enter_known es c types s (kind.Block b x) (λ _ _ _. tt) p ts l ls fs st
framed_known es c types s (flat.If x other end) h p ts l ls fs st = enter_known es c types s (kind.Then x) (λ _ _ _. tt) p ts l ls fs st
framed_known es c types s flat.Else h p ts l ls fs st = other_known es c types s l.kind l.first l.code p ts ls fs st
framed_known es c types s flat.End h p ts l ls fs st = end_known es c types s l.kind l.first l.code p ts ls fs st

-- one call, where the frames stand for the sequence before it
pub next_knows : (es : List Entry) (c : Context) → AreClasses c.types es → (s : List Bool) (i : Instr) → is_checked i ≡ true → (fs : List Frame) (w : Prefix) →
    FramesStand c s fs w → Knows c s (next es c i fs) (follow i w)
next_knows es c types s i h [] (open_at l ls) st = absurd st
next_knows es c types s i h [] (ended k) st = λ good. good
next_knows es c types s i h fs malformed st = absurd st
next_knows es c types s i h (f ∷ fs) (ended k) st = absurd st.0
next_knows es c types s i h (f ∷ fs) (open_at l ls) st =
    let P : Frame → Type 0 = λ g. StandsAll c s ε (g ∷ fs) (l ∷ ls) → Knows c s (next es c i (g ∷ fs)) (follow i (open_at l ls)) in
    subst P (sym (frame_is c s ε f l ls st.0)) (framed_known es c types s i h f.any f.operands l ls fs) st

-- what frames stand for is derived

-- of the blocks around
around_of : (c : Context) (s : List Bool) (k : FrameKind) (fs : List Frame) (ls : List OpenBlock) → Holds (arrow_at c k) (λ (a : Arrow). StandsAll c s (taken_by k a) fs ls) →
    Around c s k ls
around_of c s k fs [] st = tt
around_of c s k [] (m ∷ ms) st = held_fact (arrow_at c k) _ _ st (λ a h. absurd h)
around_of c s k (f ∷ fs) (m ∷ ms) st = (
  holds_map (arrow_at c k) _ _ st (λ a h. (f.operands, h.0.reached f.operands (covers_refl c.types f.any f.operands))),
  held_fact (arrow_at c k) _ _ st (λ a h. around_of c s m.kind fs ms h.1),
)

-- a sequence that frames stand for is derived
pub stands_derivable : (c : Context) (s : List Bool) (fs : List Frame) (w : Prefix) → FramesStand c s fs w → IsDerivable c s w
stands_derivable c s [] (open_at l ls) st = absurd st
stands_derivable c s fs (ended k) st = st.1
stands_derivable c s fs malformed st = st
stands_derivable c s (f ∷ fs) (open_at l ls) st =
    ((f.operands, st.0.reached f.operands (covers_refl c.types f.any f.operands)), around_of c s l.kind fs ls st.1)

-- one call, from what is known before it
pub step_knows : (es : List Entry) (c : Context) → AreClasses c.types es → (s : List Bool) (i : Instr) → is_checked i ≡ true → (o : Option (List Frame)) (w : Prefix) →
    Knows c s o w → Knows c s (o >>= next es c i) (follow i w)
step_knows es c types s i h None w k = λ good. k (derivable_before c types.keeps s i w good)
step_knows es c types s i h (Some fs) w k = next_knows es c types s i h fs w k

-- the answer that the frames give is whether the rules derive the sequence
pub knows_derivable : (c : Context) (s : List Bool) (o : Option (List Frame)) (w : Prefix) → Knows c s o w → (answer : Bool) → answer ≡ is_some o →
    IsTrue answer ↔ IsDerivable c s w
knows_derivable c s None w k answer h = (λ t. absurd (false≢true (sym h ∙ t)), λ good. absurd (k good))
knows_derivable c s (Some fs) w k answer h = (λ t. stands_derivable c s fs w k, λ good. h)

-- ## The calls for each class of instructions

-- an instruction of the class follows as any does, and of another class it begins no body
pub plain_same : (i : Instr) (w : Prefix) → is_plain i ≡ true → follow_plain i w ≡ follow i w
plain_same i w h = ap (λ (b : Bool). if b then follow i w else malformed) h

pub plain_malformed : (i : Instr) (w : Prefix) → is_plain i ≡ false → follow_plain i w ≡ malformed
plain_malformed i w h = ap (λ (b : Bool). if b then follow i w else malformed) h

-- likewise of instructions that open a block
pub enter_same : (i : Instr) (w : Prefix) → opens i ≡ true → follow_enter i w ≡ follow i w
enter_same i w h = ap (λ (b : Bool). if b then follow i w else malformed) h

pub enter_malformed : (i : Instr) (w : Prefix) → opens i ≡ false → follow_enter i w ≡ malformed
enter_malformed i w h = ap (λ (b : Bool). if b then follow i w else malformed) h

-- an instruction of the class does not switch stacks
pub plain_checked : (i : Instr) → is_plain i ≡ true → is_checked i ≡ true
plain_checked (flat.Plain (op.Switching o)) h = h
plain_checked (flat.Plain o) h = refl
plain_checked i h = cc

-- nor does one that opens a block
pub opens_checked : (i : Instr) → opens i ≡ true → is_checked i ≡ true
opens_checked (flat.Block b x end) h = refl
opens_checked (flat.If x other end) h = refl
opens_checked i h = cc
