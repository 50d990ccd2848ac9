-- An instruction by a row that was found for it: the frames stand for the sequence followed by it, and count.
use Rattle.std.proofs.Common.{◌≡◌, ◌↔◌, inl, inr, ℕ, max, Bool, true, List, [], ◌∷◌, length, Option, Some, None, is_some, IsTrue, refl, sym, ◌∙◌, ap, subst}
use Rattle.w_types.specs.declared.types.ValType.{ValType}
use Rattle.lists.specs.Rows.{Row, ε, size}
use Rattle.w_syntax.specs.Code.{Done, Plain}
use Rattle.w_syntax.specs.declared.instructions.Instr.TheVariants as flat
use Rattle.w_syntax.specs.declared.instructions.Op.{Op}
use Rattle.w_canon.specs.declared.entry.Entry.{Entry}
use Rattle.w_canon.specs.Supertypes.{KeepsKinds}
use Rattle.w_rules.specs.View.{AreClasses}
use Rattle.w_rules.specs.Context.{Context}
use Rattle.w_rules.specs.InstructionTypes.{InstrType, fixed, sets}
use Rattle.w_rules.specs.Peak.{or_none, extra}
use Rattle.w_rules.specs.Typing.{HasInstrType}
use Rattle.w_flow.specs.Flow.{◌>>=◌, step}
use Rattle.w_steps.specs.Labels.{within, labels_of, arrow_at}
use Rattle.w_vplain.specs.Prefixes.{OpenBlock, Prefix, open_at, ended, malformed, more, follow, taken_by, IsDerivable}
use Rattle.w_vplain.specs.Frames.{Frame, frame_kinds, typed_next, StandsAll, FramesStand, Knows}
use Rattle.w_vplain.specs.Measures.{peak_of, total, CountsFor}
use Rattle.w_vplain.specs.Row.{labels_in, above, HasRow, IsRow, IsRefused, row_next, RaisedBy}
use Rattle.w_steps.specs.declared.frame_kind.FrameKind.{FrameKind}
use Rattle.w_vplain.proofs.Options.{held_fact, Whenever, whenever_map}
use Rattle.w_vplain.proofs.OpenBlocks.{kinds_same, count_same}
use Rattle.w_vplain.proofs.TypesKnown.{typed_reached, typed_known}
use Rattle.w_vplain.proofs.Monotone.{derivable_before}
use Rattle.w_vplain.proofs.CallsKnown.{knows_derivable, stands_derivable}
use Rattle.w_vplain.proofs.CallsCounted.{CountedBy, typed_counted}
use Rattle.w_vplain.proofs.CallsDeepen.{Deepens, typed_deepens}

-- a step by the row is a step by the type, which sets no local
row_is_typed : (es : List Entry) (c : Context) (s : List Bool) (o : Op) (ins outs : Row ValType) (raise : Option ℕ) (f : Frame) (fs : List Frame) (l : OpenBlock) (ls : List OpenBlock) →
    StandsAll c s ε (f ∷ fs) (l ∷ ls) → HasRow c s l ls o ins outs raise → typed_next es (fixed ins outs) o f fs ≡ row_next es ins outs (f ∷ fs)
row_is_typed es c s o ins outs raise f fs l ls st r =
    let keeps : sets o f.is_set ≡ f.is_set = ap (sets o) st.0.is_set ∙ r.keeps ∙ sym st.0.is_set in
    ap (λ (u : List Bool). step es (fixed ins outs) f.any f.operands >>= λ w. Some (record f { any = w.any; operands = w.operands; is_set = u } ∷ fs)) keeps

-- ## Typing

-- where the frames stand for the sequence before it
row_stands : (es : List Entry) (c : Context) → AreClasses c.types es → (s : List Bool) (o : Op) (ins outs : Row ValType) (raise : Option ℕ) (fs : List Frame) (w : Prefix) →
    FramesStand c s fs w → IsRow c s w o ins outs raise → Knows c s (row_next es ins outs fs) (follow (flat.Plain o) w)
row_stands es c types s o ins outs raise [] (open_at l ls) st r = absurd st
row_stands es c types s o ins outs raise [] (ended k) st r = λ good. good
row_stands es c types s o ins outs raise fs malformed st r = absurd st
row_stands es c types s o ins outs raise (f ∷ fs) (ended k) st r = absurd st.0
row_stands es c types s o ins outs raise (f ∷ fs) (open_at l ls) st r =
    let P : Option (List Frame) → Type 0 = λ x. Knows c s x (open_at (more l (Plain o Done)) ls) in
    subst P (row_is_typed es c s o ins outs raise f fs l ls st r)
    (typed_known es c types s o (fixed ins outs) f fs l ls st true (λ t. r.condition, λ h. refl) r.row)

-- what is known of the sequence followed by the instruction; the row need be its row only where the sequence is derived
pub row_knows : (es : List Entry) (c : Context) → AreClasses c.types es → (s : List Bool) (o : Op) (ins outs : Row ValType) (raise : Option ℕ) (x : Option (List Frame)) (w : Prefix) →
    Knows c s x w → (IsDerivable c s w → IsRow c s w o ins outs raise) → Knows c s (x >>= row_next es ins outs) (follow (flat.Plain o) w)
row_knows es c types s o ins outs raise None w k r = λ good. k (derivable_before c types.keeps s (flat.Plain o) w good)
row_knows es c types s o ins outs raise (Some fs) w k r = row_stands es c types s o ins outs raise fs w k (r (stands_derivable c s fs w k))

-- whether there are frames is whether the rules derive it
pub row_exact : (es : List Entry) (c : Context) → AreClasses c.types es → (s : List Bool) (o : Op) (ins outs : Row ValType) (raise : Option ℕ) (x : Option (List Frame)) (w : Prefix) →
    Knows c s x w → (IsDerivable c s w → IsRow c s w o ins outs raise) → (answer : Bool) → answer ≡ is_some (x >>= row_next es ins outs) → IsTrue answer ↔ IsDerivable c s (follow (flat.Plain o) w)
row_exact es c types s o ins outs raise x w k r answer e =
    knows_derivable c s (x >>= row_next es ins outs) (follow (flat.Plain o) w) (row_knows es c types s o ins outs raise x w k r) answer e

-- what is refused is not derived
pub not_derivable : (c : Context) → KeepsKinds c.types → (s : List Bool) (o : Op) (w : Prefix) → IsRefused c s w o → IsDerivable c s (follow (flat.Plain o) w) → ⊥
not_derivable c keeps s o (ended k) r g = g
not_derivable c keeps s o malformed r g = g
not_derivable c keeps s o (open_at l ls) (inl no_condition) g = no_condition (typed_reached c keeps s l ls o g.0.0 g.0.1).2
not_derivable c keeps s o (open_at l ls) (inr is_none) g =
    let q = typed_reached c keeps s l ls o g.0.0 g.0.1 in
    let P : InstrType → Type 0 = λ n. HasInstrType c.types n q.0 g.0.0 in
    subst P is_none q.3

-- ## Counting

-- where the frames go on, they count again, and the peak is raised by the row
pub row_counted : (es : List Entry) (c : Context) (s : List Bool) (o : Op) (ins outs : Row ValType) (raise : Option ℕ) (fs : List Frame) (w : Prefix) →
    FramesStand c s fs w → CountsFor c s fs w → IsRow c s w o ins outs raise →
    Whenever (row_next es ins outs fs) (λ (gs : List Frame). CountsFor c s gs (follow (flat.Plain o) w) × RaisedBy c s (size ins) raise fs gs w (follow (flat.Plain o) w))
row_counted es c s o ins outs raise [] w st t r = tt
row_counted es c s o ins outs raise (f ∷ fs) (ended k) st t r = absurd st.0
row_counted es c s o ins outs raise (f ∷ fs) malformed st t r = absurd st
row_counted es c s o ins outs raise (f ∷ fs) (open_at l ls) st t r =
    let P : Option (List Frame) → Type 0 = λ x. Whenever x (CountedBy c s (flat.Plain o) (f ∷ fs) (open_at l ls) (open_at (more l (Plain o Done)) ls)) in
    whenever_map (row_next es ins outs (f ∷ fs)) _ _
    (subst P (row_is_typed es c s o ins outs raise f fs l ls st r) (typed_counted es c s o (fixed ins outs) f fs l ls st t true r.row))
    (λ gs k. (k.0, k.1 ∙ ap (λ (x : ℕ). max (max (peak_of c s (open_at l ls)) x) (or_none (total gs) (λ (h : ℕ). h))) (added (total (f ∷ fs)))))
  where
    added : (m : Option ℕ) → or_none m (extra (within c (frame_kinds (f ∷ fs))) o) ≡ or_none m (above (size ins) raise)
    added None = refl
    added (Some h) = ap (λ (ks : List FrameKind). extra (within c ks) o h) (kinds_same c s ε (f ∷ fs) (l ∷ ls) st) ∙ r.adds h

-- and the depth by the number of open blocks
pub row_deepens : (es : List Entry) (c : Context) (s : List Bool) (o : Op) (ins outs : Row ValType) (raise : Option ℕ) (fs : List Frame) (w : Prefix) →
    FramesStand c s fs w → IsRow c s w o ins outs raise → Whenever (row_next es ins outs fs) (Deepens w (follow (flat.Plain o) w))
row_deepens es c s o ins outs raise [] w st r = tt
row_deepens es c s o ins outs raise (f ∷ fs) (ended k) st r = absurd st.0
row_deepens es c s o ins outs raise (f ∷ fs) malformed st r = absurd st
row_deepens es c s o ins outs raise (f ∷ fs) (open_at l ls) st r =
    let long : length fs ≡ length ls = held_fact (arrow_at c l.kind) _ _ st.1 (λ a h. count_same c s (taken_by l.kind a) fs ls h) in
    let P : Option (List Frame) → Type 0 = λ x. Whenever x (Deepens (open_at l ls) (open_at (more l (Plain o Done)) ls)) in
    subst P (row_is_typed es c s o ins outs raise f fs l ls st r) (typed_deepens es (fixed ins outs) o f fs l ls long true)

-- ## Labels

-- the labels are those of the frames' kinds
pub labels_same : (c : Context) (s : List Bool) (f : Frame) (fs : List Frame) (w : Prefix) → FramesStand c s (f ∷ fs) w →
    labels_in c w ≡ labels_of c (f.kind ∷ frame_kinds fs)
labels_same c s f fs (open_at l ls) st = ap (labels_of c) (sym (kinds_same c s ε (f ∷ fs) (l ∷ ls) st))
labels_same c s f fs (ended k) st = absurd st.0
labels_same c s f fs malformed st = absurd st

-- also after the end, where there are no frames
pub labels_of_frames : (c : Context) (s : List Bool) (fs : List Frame) (w : Prefix) → FramesStand c s fs w → labels_in c w ≡ labels_of c (frame_kinds fs)
labels_of_frames c s [] (open_at l ls) st = absurd st
labels_of_frames c s [] (ended k) st = refl
labels_of_frames c s fs malformed st = absurd st
labels_of_frames c s (f ∷ fs) (open_at l ls) st = labels_same c s f fs (open_at l ls) st
labels_of_frames c s (f ∷ fs) (ended k) st = absurd st.0
