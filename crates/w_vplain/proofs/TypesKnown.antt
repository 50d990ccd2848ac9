-- An instruction that holds no others, by its type: the frames stand for the sequence followed by it.
use Rattle.std.proofs.Common.{◌≡◌, ◌↔◌, Bool, true, false, List, ◌∷◌, Option, Some, None, if◌then◌else◌, IsTrue, refl, sym, subst}
use Rattle.lists.specs.Rows.{Row, ε}
use Rattle.w_syntax.specs.Code.{Done, Plain}
use Rattle.w_syntax.specs.declared.instructions.Op.{Op}
use Rattle.w_canon.specs.declared.entry.Entry.{Entry}
use Rattle.w_canon.specs.Supertypes.{KeepsKinds}
use Rattle.w_rules.specs.View.{AreClasses}
use Rattle.w_rules.specs.Operands.{Operand}
use Rattle.w_rules.specs.Conditions.{Condition}
use Rattle.w_rules.specs.Context.{Context}
use Rattle.w_rules.specs.InstructionTypes.{InstrType, instr_type, sets}
use Rattle.w_rules.specs.Typing.{HasInstrType}
use Rattle.w_flow.specs.Flow.{Flow, ◌>>=◌, InFlow, Image}
use Rattle.w_steps.specs.Labels.{within}
use Rattle.w_vplain.specs.Prefixes.{OpenBlock, open_at, more, kinds_of, set_at, Reaches}
use Rattle.w_vplain.specs.Frames.{Frame, typed_next, StandsAll, Knows}
use Rattle.w_vplain.proofs.OpenBlocks.{reaches_in, reaches_out, framed, frame_is}
use Rattle.w_rules.proofs.Derive.{set_by-after, takes_right}
use Rattle.w_rules.proofs.Preorder.{row_refl}
use Rattle.w_flow.proofs.Exact.{exact}

-- the instruction's type where the sequence ends
abbrev pub instr_type_at : Context → List Bool → OpenBlock → List OpenBlock → Op → InstrType
instr_type_at c s l ls o = instr_type (within c (kinds_of (l ∷ ls))) (set_at s (l ∷ ls)) o

-- what its rule asks there beside its type
abbrev pub ConditionAt : Context → OpenBlock → List OpenBlock → Op → Type 0
ConditionAt c l ls o = Condition (within c (kinds_of (l ∷ ls))) o

-- the instruction leads on by its type
pub typed_reaches : (c : Context) → KeepsKinds c.types → (s : List Bool) (l : OpenBlock) (ls : List OpenBlock) (o : Op) (vs us : Row Operand) → Reaches c s l ls vs →
    ConditionAt c l ls o → HasInstrType c.types (instr_type_at c s l ls o) vs us → Reaches c s (more l (Plain o Done)) ls us
typed_reaches c keeps s l ls o vs us r h t = reaches_in c keeps s l ls (Plain o Done) vs us r (h, (us, t, row_refl c.types us))

-- and what is led to with it is led to by its type
pub typed_reached : (c : Context) → KeepsKinds c.types → (s : List Bool) (l : OpenBlock) (ls : List OpenBlock) (o : Op) (us : Row Operand) → Reaches c s (more l (Plain o Done)) ls us →
    (vs : Row Operand) × Reaches c s l ls vs × ConditionAt c l ls o × HasInstrType c.types (instr_type_at c s l ls o) vs us
typed_reached c keeps s l ls o us r =
    let q = reaches_out c s l ls (Plain o Done) us r in
    (q.0, q.1, q.2.0, takes_right c.types keeps (instr_type_at c s l ls o) q.0 q.2.1.0 us q.2.1.1 q.2.1.2)

-- the flow after the instruction, if there is one, stands for what its type leads to
typed_case : (c : Context) → KeepsKinds c.types → (s : List Bool) (o : Op) (p : Bool) (ts : Row Operand) (l : OpenBlock) (ls : List OpenBlock) (fs : List Frame) →
    StandsAll c s ε (framed s p ts l ls ∷ fs) (l ∷ ls) → ConditionAt c l ls o →
    (w : Option Flow) →
    ((us : Row Operand) → Image c.types (instr_type_at c s l ls o) p ts us → InFlow c.types w us) →
    ((us : Row Operand) → InFlow c.types w us → Image c.types (instr_type_at c s l ls o) p ts us) →
    Knows c s (w >>= λ x. Some (record { kind = l.kind; any = x.any; operands = x.operands; is_set = sets o (set_at s (l ∷ ls)) } ∷ fs))
    (open_at (more l (Plain o Done)) ls)
typed_case c keeps s o p ts l ls fs st h None f g = λ good.
    let r = typed_reached c keeps s l ls o good.0.0 good.0.1 in
    f good.0.0 (r.0, st.0.reaches r.0 r.1, r.3)
typed_case c keeps s o p ts l ls fs st h (Some w) f g = (
  record {
    kind = refl;
    is_set = sym (set_by-after l.code (Plain o Done) (set_at s ls));
    reaches = λ us r. (let q = typed_reached c keeps s l ls o us r in f us (q.0, st.0.reaches q.0 q.1, q.3));
    reached = λ us k. (let q = g us k in typed_reaches c keeps s l ls o q.0 us (st.0.reached q.0 q.1) h q.2);
  },
  st.1,
)

-- behind a test of what the rule asks beside the type
tested : (c : Context) → KeepsKinds c.types → (s : List Bool) (o : Op) (l : OpenBlock) (ls : List OpenBlock) (b : Bool) → IsTrue b ↔ ConditionAt c l ls o → (x : Option (List Frame)) →
    (ConditionAt c l ls o → Knows c s x (open_at (more l (Plain o Done)) ls)) →
    Knows c s (if b then x else None) (open_at (more l (Plain o Done)) ls)
tested c keeps s o l ls true h x f = f (h.0 refl)
tested c keeps s o l ls false h x f = λ good.
    let r = typed_reached c keeps s l ls o good.0.0 good.0.1 in
    let t = h.1 r.2 in
    absurd (cc)

-- the same, where the frame is that of the open block
framed_type : (es : List Entry) (c : Context) → AreClasses c.types es → (s : List Bool) (o : Op) (p : Bool) (ts : Row Operand) (l : OpenBlock) (ls : List OpenBlock) (fs : List Frame) →
    StandsAll c s ε (framed s p ts l ls ∷ fs) (l ∷ ls) → (b : Bool) → IsTrue b ↔ ConditionAt c l ls o →
    Knows c s (if b then typed_next es (instr_type_at c s l ls o) o (framed s p ts l ls) fs else None) (open_at (more l (Plain o Done)) ls)
framed_type es c known_types s o p ts l ls fs st b t = tested c known_types.keeps s o l ls b t _ (λ h.
    typed_case c known_types.keeps s o p ts l ls fs st h _
    (λ us. (exact c.types es known_types (instr_type_at c s l ls o) p ts us).0)
    (λ us. (exact c.types es known_types (instr_type_at c s l ls o) p ts us).1))

-- An instruction of this type, behind a test of what its rule asks beside it.
pub typed_known : (es : List Entry) (c : Context) → AreClasses c.types es → (s : List Bool) (o : Op) (n : InstrType) (f : Frame) (fs : List Frame) (l : OpenBlock) (ls : List OpenBlock) →
    StandsAll c s ε (f ∷ fs) (l ∷ ls) → (b : Bool) → IsTrue b ↔ ConditionAt c l ls o → instr_type_at c s l ls o ≡ n →
    Knows c s (if b then typed_next es n o f fs else None) (open_at (more l (Plain o Done)) ls)
typed_known es c known_types s o n f fs l ls st b t e =
    let P : Frame → Type 0 = λ g. StandsAll c s ε (g ∷ fs) (l ∷ ls) → Knows c s (if b then typed_next es n o g fs else None) (open_at (more l (Plain o Done)) ls) in
    subst P (sym (frame_is c s ε f l ls st.0)) (λ q.
    let Q : InstrType → Type 0 = λ m. Knows c s (if b then typed_next es m o (framed s f.any f.operands l ls) fs else None) (open_at (more l (Plain o Done)) ls) in
    subst Q e (framed_type es c known_types s o f.any f.operands l ls fs q b t)) st
