-- What the calls of the checker answer, from what its data says.
use Rattle.std.proofs.Common.{◌≡◌, ◌≤◌, ◌↔◌, ℕ, max, Bool, true, false, List, [], ◌∷◌, length, reverse, Result, Ok, Err, Option, Some, None, if◌then◌else◌, refl, sym, ap, subst, ◌∙◌, arith}
use Rattle.std.specs.Prelude.{IfOk, IsTrue, is_some, slice_get}
use Rattle.std.specs.Borrow.{Bor}
use Rattle.std.proofs.lemmas.Bool.{false≢true}
use Rattle.w_syntax.specs.declared.instructions.Instr.{Instr}
use Rattle.w_syntax.specs.declared.instructions.Instr.TheVariants as flat
use Rattle.w_syntax.specs.declared.instructions.Op.{Op}
use Rattle.w_syntax.specs.declared.instructions.Op.TheVariants as op
use Rattle.w_types.specs.declared.types.ValType.{ValType}
use Rattle.lists.specs.Rows.{Row, row_of, size}
use Rattle.w_canon.specs.declared.entry.Entry.{Entry}
use Rattle.w_rules.specs.View.{AreClasses}
use Rattle.w_flow.specs.Flow.{◌>>=◌}
use Rattle.w_rules.specs.Context.{Context}
use Rattle.w_rules.specs.Peak.{or_none}
use Rattle.w_vplain.specs.Frames.{Frame, FramesStand, Knows, frame_kinds, next}
use Rattle.w_steps.specs.Labels.{labels_of, within}
use Rattle.w_vplain.specs.Prefixes.{Prefix, IsDerivable, empty, follow, is_checked, malformed}
use Rattle.w_vplain.specs.Measures.{CountsFor, Raised, extra_in, extra_at, peak_of, depth_of, tally, total}
use Rattle.w_vplain.specs.Row.{IsRow, RaisedBy, above, added_by, labels_in, move_next, raised_to, row_next}
use Rattle.w_vplain.specs.Standing.{StandsFor, Answers, AnswersRow, Refuses, IsSameBody, IsCall, IsCounted, Counts, counts_if, HasBases, KnowsClasses, IsDeep, context_for, classes_for, top_of, outer_of, frames_of, frames_of_derived}
use Rattle.w_locals.specs.Locals.{outer_sets}
use Rattle.w_steps.specs.View.{outer_kinds}
use Rattle.w_vplain.specs.View.{row_with}
use Rattle.w_syntax.specs.declared.packed.PackedInstr.{PackedInstr}
use Rattle.w_syntax.specs.Packed.{unpacked}
use Rattle.w_vplain.specs.declared.moves.InstrRow.{InstrRow}
use Rattle.w_vplain.specs.declared.moves.Move.{Move}
use Rattle.w_vplain.specs.declared.moves.Move.TheVariants as move
use Rattle.w_vplain.specs.declared.checker.Checker.{Checker}
use Rattle.w_steps.specs.declared.frame_kind.FrameKind.{FrameKind}
use Rattle.w_vplain.proofs.RowCalls.{row_knows, row_exact, row_counted, row_deepens, labels_same, labels_of_frames}
use Rattle.w_vplain.proofs.CallsCounted.{calls_counted}
use Rattle.w_vplain.proofs.CallsDeepen.{Deepens, calls_deepen}
use Rattle.w_vplain.proofs.CallsKnown.{step_knows, knows_derivable, stands_derivable}
use Rattle.w_vplain.proofs.FrameViews.{beneath_answered, kinds_with}
use Rattle.w_vplain.proofs.Options.{at_whenever, bind_same}
use Rattle.w_vplain.proofs.WholeBodies.{first_frame, begin_stands, begin_counts}

-- ## Results

pub ok_with : {A E : Type 0} (r : Result A E) (P Q : A → Type 0) → IfOk r P → ((x : A) → P x → Q x) → IfOk r Q
ok_with (Ok x) P Q h f = f x h
ok_with (Err e) P Q h f = h

-- ## What a checker stands for

counts_case : (b : Bool) (P : Type 0) → (b ≡ false → P) → counts_if b P
counts_case true P f = tt
counts_case false P f = f refl

counts_given : (b : Bool) (P : Type 0) → b ≡ false → counts_if b P → P
counts_given true P e c = absurd (cc)
counts_given false P e c = c

pub open_known : (b : Bool) (fs : List Frame) → b ≡ false → (if b then None else Some fs) ≡ Some fs
open_known b fs e = ap (λ (d : Bool). if d then None else Some fs) e

-- the checker before a call: what its frames stand for, and its counts
pub frames_stand : (c : Checker) (s : List Bool) (w : Prefix) → StandsFor c s w → c.refused ≡ false → FramesStand (context_for c) s (frames_of c) w
frames_stand c s w k alive =
    let P : Option (List Frame) → Type 0 = λ o. Knows (context_for c) s o w in
    subst P (open_known c.refused (frames_of c) alive) k.knows

pub counts_stand : (c : Checker) (s : List Bool) (w : Prefix) → StandsFor c s w → c.refused ≡ false → Counts c s w
counts_stand c s w k alive = counts_given c.refused (Counts c s w) alive k.counts

-- the checker after a call
pub stands_by : (old new : Checker) (s : List Bool) (w w' : Prefix) → IsSameBody old new → KnowsClasses old → Knows (context_for old) s (frames_of_derived new) w'
    → (new.refused ≡ false → CountsFor (context_for old) s (frames_of new) w' × (new.peak ≡ peak_of (context_for old) s w') × HasBases new × IsDeep new × (new.depth ≡ depth_of w'))
    → StandsFor new s w'
stands_by old new s w w' same types k counts = record {
  classes = (let P : Context → List Entry → Type 0 = λ d es. AreClasses d.types es in
      let Q : Context → Type 0 = λ d. P d (classes_for new) in
      subst Q (sym same.context) (subst (P (context_for old)) (sym same.classes) types));
  knows = (let P : Context → Type 0 = λ d. Knows d s (frames_of_derived new) w' in subst P (sym same.context) k);
  counts = counts_case new.refused (Counts new s w') (λ alive. (
      let r = counts alive in
      let P : Context → Type 0 = λ d. CountsFor d s (frames_of new) w' in
      record {
        frames = subst P (sym same.context) r.0;
        peak = r.1 ∙ ap (λ d. peak_of d s w') (sym same.context);
        bases = r.2;
        deep = r.3;
        depth = r.4;
      }));
}

-- ## A call of an instruction that does not switch stacks

-- it adds nothing to the operands of its place
no_extra : (c : Context) (i : Instr) (h : ℕ) → is_checked i ≡ true → extra_in c i h ≡ 0
no_extra c (flat.Plain (op.Control o)) h e = refl
no_extra c (flat.Plain (op.Parametric o)) h e = refl
no_extra c (flat.Plain (op.Variable o)) h e = refl
no_extra c (flat.Plain (op.Table o)) h e = refl
no_extra c (flat.Plain (op.Memory o)) h e = refl
no_extra c (flat.Plain (op.Numeric o)) h e = refl
no_extra c (flat.Plain (op.Reference o)) h e = refl
no_extra c (flat.Plain (op.Switching o)) h e = absurd (cc)
no_extra c (flat.Block b x end) h e = refl
no_extra c (flat.If x other end) h e = refl
no_extra c flat.Else h e = refl
no_extra c flat.End h e = refl

nothing_at : (c : Context) (i : Instr) (ks : List FrameKind) (now : Option ℕ) → is_checked i ≡ true → extra_at c i ks now ≡ 0
nothing_at c i ks None e = refl
nothing_at c i ks (Some h) e = no_extra (within c ks) i h e

-- what the old checker's frames led to, where the answer is true
module _ (old new : Checker) (m : Move) (answer : Bool) (h : IsCall old new m answer) (alive : new.refused ≡ false) where
  now_known : frames_of_derived new ≡ Some (frames_of new)
  now_known = open_known new.refused (frames_of new) alive

  was_alive : old.refused ≡ false
  was_alive = (h.counted (h.answer ∙ ap is_some now_known)).0

  is_counted : IsCounted old new (added_by m (frames_of old))
  is_counted = (h.counted (h.answer ∙ ap is_some now_known)).1

  leads_on : move_next (classes_for old) (context_for old) m (frames_of old) ≡ Some (frames_of new)
  leads_on =
      ap (λ (o : Option (List Frame)). o >>= move_next (classes_for old) (context_for old) m) (sym (open_known old.refused (frames_of old) was_alive))
      ∙ sym h.leads ∙ now_known

counts_after : (old new : Checker) (p : Bor PackedInstr) (s : List Bool) (w : Prefix) (answer : Bool) → is_checked (unpacked p.now) ≡ true → IsCall old new (move.Packed p) answer
    → StandsFor old s w → new.refused ≡ false
    → CountsFor (context_for old) s (frames_of new) (follow (unpacked p.now) w) × (new.peak ≡ peak_of (context_for old) s (follow (unpacked p.now) w)) × HasBases new × IsDeep new × (new.depth ≡ depth_of (follow (unpacked p.now) w))
counts_after old new p s w answer ch h k alive =
    let c = context_for old in
    let es = classes_for old in
    let w' = follow (unpacked p.now) w in
    let was = was_alive old new (move.Packed p) answer h alive in
    let next_is : next es c (unpacked p.now) (frames_of old) ≡ Some (frames_of new) = leads_on old new (move.Packed p) answer h alive in
    let counted = is_counted old new (move.Packed p) answer h alive in
    let stands = frames_stand old s w k was in
    let counts = counts_stand old s w k was in
    let r = at_whenever (next es c (unpacked p.now) (frames_of old)) (λ gs. CountsFor c s gs w' × Raised c s (unpacked p.now) (frames_of old) gs w w') (frames_of new) next_is
    (calls_counted es c s (unpacked p.now) (frames_of old) w stands counts.frames) in
    let d = at_whenever (next es c (unpacked p.now) (frames_of old)) (Deepens w w') (frames_of new) next_is (calls_deepen es c s (unpacked p.now) (frames_of old) w stands) in
    let b = counted.peak counts.bases in
    let e = counted.depth counts.deep in (
      r.0,
      b.1 ∙ ap (λ (p : ℕ). raised_to p 0 (frames_of new)) counts.peak
          ∙ ap (λ (x : ℕ). raised_to (peak_of c s w) x (frames_of new)) (sym (nothing_at c (unpacked p.now) (frame_kinds (frames_of old)) (total (frames_of old)) ch))
          ∙ sym r.1,
      b.0,
      e.0,
      e.1 ∙ ap (λ (m : ℕ). max m (length (frames_of new))) counts.depth ∙ sym d,
    )

-- the call answers for the sequence with the instruction
answered : (old new : Checker) (p : Bor PackedInstr) (answer : Bool) → is_checked (unpacked p.now) ≡ true → IsCall old new (move.Packed p) answer → IsSameBody old new → Answers old new (follow (unpacked p.now)) answer
answered old new p answer ch h same = λ s w k.
    let c = context_for old in
    let es = classes_for old in
    let P : Option (List Frame) → Type 0 = λ o. Knows c s o (follow (unpacked p.now) w) in
    let leads : frames_of_derived new ≡ (frames_of_derived old >>= next es c (unpacked p.now)) = h.leads ∙ bind_same (frames_of_derived old) (move_next es c (move.Packed p)) (next es c (unpacked p.now)) (λ fs. refl) in
    let knows = step_knows es c k.classes s (unpacked p.now) ch (frames_of_derived old) w k.knows in (
      stands_by old new s w (follow (unpacked p.now) w) same k.classes (subst P (sym leads) knows) (counts_after old new p s w answer ch h k),
      knows_derivable c s (frames_of_derived old >>= next es c (unpacked p.now)) (follow (unpacked p.now) w) knows answer (h.answer ∙ ap is_some leads),
    )

-- and for each sequence that is that one
answers_same : (old new : Checker) (f g : Prefix → Prefix) (answer : Bool) → ((w : Prefix) → g w ≡ f w) → Answers old new f answer → Answers old new g answer
answers_same old new f g answer e h = λ s w k.
    let P : Prefix → Type 0 = λ v. StandsFor new s v × (IsTrue answer ↔ IsDerivable (context_for old) s v) in
    subst P (sym (e w)) (h s w k)

pub answers_packed : {E : Type 0} (r : Result Bool E) (old new : Checker) (p : Bor PackedInstr) (next : Prefix → Prefix) → IfOk r (λ applies. IsCall old new (move.Packed p) applies) → IsSameBody old new
    → is_checked (unpacked p.now) ≡ true → ((w : Prefix) → next w ≡ follow (unpacked p.now) w) → IfOk r (λ applies. Answers old new next applies)
answers_packed r old new p next h same ch e = ok_with r _ _ h (λ applies x. answers_same old new (follow (unpacked p.now)) next applies e (answered old new p applies ch x same))

-- ## A call by a row

counts_by_row : (old new : Checker) (b : Bor InstrRow) (o : Op) (s : List Bool) (w : Prefix) (answer : Bool)
    → IsCall old new (move.Row b) answer → StandsFor old s w
    → (IsDerivable (context_for old) s w → IsRow (context_for old) s w o (row_with (row_of b.now.ins.types.now) b.now.top) (row_of b.now.outs.types.now) b.now.raise) → new.refused ≡ false
    → CountsFor (context_for old) s (frames_of new) (follow (flat.Plain o) w) × (new.peak ≡ peak_of (context_for old) s (follow (flat.Plain o) w)) × HasBases new × IsDeep new
    × (new.depth ≡ depth_of (follow (flat.Plain o) w))
counts_by_row old new b o s w answer h k found alive =
    let c = context_for old in
    let es = classes_for old in
    let m = move.Row b in
    let takes = row_with (row_of b.now.ins.types.now) b.now.top in
    let gives = row_of b.now.outs.types.now in
    let w' = follow (flat.Plain o) w in
    let was = was_alive old new m answer h alive in
    let next_is : row_next es takes gives (frames_of old) ≡ Some (frames_of new) = leads_on old new m answer h alive in
    let counted = is_counted old new m answer h alive in
    let stands = frames_stand old s w k was in
    let counts = counts_stand old s w k was in
    let r = found (stands_derivable c s (frames_of old) w stands) in
    let q = at_whenever (row_next es takes gives (frames_of old)) (λ gs. CountsFor c s gs w' × RaisedBy c s (size takes) b.now.raise (frames_of old) gs w w') (frames_of new) next_is
    (row_counted es c s o takes gives b.now.raise (frames_of old) w stands counts.frames r) in
    let d = at_whenever (row_next es takes gives (frames_of old)) (Deepens w w') (frames_of new) next_is (row_deepens es c s o takes gives b.now.raise (frames_of old) w stands r) in
    let bases = counted.peak counts.bases in
    let deep = counted.depth counts.deep in (
      q.0,
      bases.1 ∙ ap (λ (p : ℕ). raised_to p (added_by m (frames_of old)) (frames_of new)) counts.peak ∙ sym q.1,
      bases.0,
      deep.0,
      deep.1 ∙ ap (λ (n : ℕ). max n (length (frames_of new))) counts.depth ∙ sym d,
    )

-- the call answers for the sequence with each instruction of the row
pub answers_row : {E : Type 0} (r : Result Bool E) (old new : Checker) (b : Bor InstrRow)
    → IfOk r (λ applies. IsCall old new (move.Row b) applies) → IsSameBody old new
    → IfOk r (λ applies. AnswersRow old new (row_with (row_of b.now.ins.types.now) b.now.top) (row_of b.now.outs.types.now) b.now.raise applies)
answers_row r old new b call same =
    ok_with r _ _ call (λ applies h s w o k found.
    let c = context_for old in
    let es = classes_for old in
    let takes = row_with (row_of b.now.ins.types.now) b.now.top in
    let gives = row_of b.now.outs.types.now in
    let w' = follow (flat.Plain o) w in
    let P : Option (List Frame) → Type 0 = λ x. Knows c s x w' in
    let leads : frames_of_derived new ≡ (frames_of_derived old >>= row_next es takes gives) =
    h.leads ∙ bind_same (frames_of_derived old) (move_next es c (move.Row b)) (row_next es takes gives) (λ fs. refl) in (
      stands_by old new s w w' same k.classes
          (subst P (sym leads) (row_knows es c k.classes s o takes gives b.now.raise (frames_of_derived old) w k.knows found))
          (counts_by_row old new b o s w applies h k found),
      row_exact es c k.classes s o takes gives b.now.raise (frames_of_derived old) w k.knows found applies (h.answer ∙ ap is_some leads),
    ))

-- what a row adds to the operands of its place
pub added_answered : {E : Type 0} (r : Result ℕ E) (c : Checker) (ins : Row ValType) (raise : Option ℕ) (popped : ℕ) (here : Option ℕ)
    → c.ended ≡ false → here ≡ tally (top_of c).any (top_of c).operands c.top.base → popped ≡ size ins
    → IfOk r (λ n. n ≡ or_none here (above popped raise)) → IfOk r (λ n. HasBases c → n ≡ or_none (total (frames_of c)) (above (size ins) raise))
added_answered r c ins raise popped here going e f h =
    ok_with r _ _ h (λ n x bases.
    beneath_answered c.ended (top_of c) c.outer.items (outer_sets c.locals.sets) c.top.base here n (above popped raise) going bases.0 e x
    ∙ ap (λ (k : ℕ). or_none (total (frames_of c)) (above k raise)) f)

-- ## A sequence that is not derived

refused_knows : (c : Checker) (d : Context) (s : List Bool) (w : Prefix) → c.refused ≡ true → (IsDerivable d s w → ⊥) → Knows d s (frames_of_derived c) w
refused_knows c d s w t n =
    let P : Option (List Frame) → Type 0 = λ o. Knows d s o w in
    subst P (sym (ap (λ (b : Bool). if b then None else Some (frames_of c)) t)) n

-- a checker that refused stands for it
pub refuses : (old new : Checker) (answer : Bool) → IsSameBody old new → new.refused ≡ true → answer ≡ false → Refuses old new answer
refuses old new answer same t e = record {
  is_false = e;
  stands = λ s w v st no. stands_by old new s w v same st.classes (refused_knows new (context_for old) s v t no) (λ alive. absurd (false≢true (sym alive ∙ t)));
}

-- an instruction of another class begins no body
pub answers_malformed : {E : Type 0} (r : Result Bool E) (old new : Checker) (next : Prefix → Prefix) → ((w : Prefix) → next w ≡ malformed)
    → IfOk r (λ applies. Refuses old new applies) → IfOk r (λ applies. Answers old new next applies)
answers_malformed r old new next e h =
    ok_with r _ _ h (λ applies x. answers_same old new (λ w. malformed) next applies e
    (λ s w k. (x.stands s w malformed k (λ g. g), (λ t. absurd (false≢true (sym x.is_false ∙ t)), λ g. absurd g))))

-- ## The beginning

pub begins : (c : Checker) (s : List Bool) → KnowsClasses c → frames_of_derived c ≡ Some (first_frame s ∷ []) → frames_of c ≡ first_frame s ∷ [] → c.peak ≡ 0 → c.depth ≡ 1 → HasBases c → StandsFor c s empty
begins c s types e f p d b = record {
  classes = types;
  knows = (let P : Option (List Frame) → Type 0 = λ o. Knows (context_for c) s o empty in subst P (sym e) (begin_stands (context_for c) s));
  counts = counts_case c.refused (Counts c s empty) (λ alive. record {
    frames = (let P : List Frame → Type 0 = λ fs. CountsFor (context_for c) s fs empty in subst P (sym f) (begin_counts (context_for c) s));
    peak = p;
    bases = b;
    depth = d;
    deep = subst (λ (n : ℕ). n ≤ c.depth) (sym (ap length f)) (subst (λ (n : ℕ). 1 ≤ n) (sym d) (omega arith));
  });
}

-- ## Where the sequence is derived

known_derivable : (c : Context) (s : List Bool) (b : Bool) (fs : List Frame) (w : Prefix) → Knows c s (if b then None else Some fs) w → IsDerivable c s w → b ≡ false
known_derivable c s true fs w k g = absurd (k g)
known_derivable c s false fs w k g = refl

-- ## The labels

pub label_answered : (c : Checker) (s : List Bool) (w : Prefix) (index : ℕ) → StandsFor c s w → IsDerivable (context_for c) s w → c.ended ≡ false
    → slice_get (labels_in (context_for c) w) index ≡ slice_get (labels_of (context_for c) (c.top.kind ∷ outer_kinds c.outer.items)) index
label_answered c s w index k g e =
    let open_is : frames_of c ≡ top_of c ∷ outer_of c = ap (λ (b : Bool). if b then [] else top_of c ∷ outer_of c) e in
    let P : List Frame → Type 0 = λ fs. FramesStand (context_for c) s fs w in
    let stands = subst P open_is (frames_stand c s w k (known_derivable (context_for c) s c.refused (frames_of c) w k.knows g)) in
    ap (λ (ls : List (Row ValType)). slice_get ls index)
    (labels_same (context_for c) s (top_of c) (outer_of c) w stands
    ∙ ap (λ (ks : List FrameKind). labels_of (context_for c) (c.top.kind ∷ ks)) (kinds_with (reverse c.outer.items) (outer_sets c.locals.sets)))

none_at_end : (c : Context) (s : List Bool) (fs : List Frame) (w : Prefix) → fs ≡ [] → FramesStand c s fs w → labels_in c w ≡ []
none_at_end c s fs w e st = let P : List Frame → Type 0 = λ gs. FramesStand c s gs w in labels_of_frames c s [] w (subst P e st)

pub label_none : (c : Checker) (s : List Bool) (w : Prefix) (index : ℕ) → StandsFor c s w → IsDerivable (context_for c) s w → c.ended ≡ true
    → slice_get (labels_in (context_for c) w) index ≡ None
label_none c s w index k g e =
    let none : frames_of c ≡ [] = ap (λ (b : Bool). if b then [] else top_of c ∷ outer_of c) e in
    ap (λ (ls : List (Row ValType)). slice_get ls index)
    (none_at_end (context_for c) s (frames_of c) w none (frames_stand c s w k (known_derivable (context_for c) s c.refused (frames_of c) w k.knows g)))

-- ## The counts

-- where the sequence is derived, no answer was false
pub alive : (c : Checker) (s : List Bool) (w : Prefix) → StandsFor c s w → IsDerivable (context_for c) s w → c.refused ≡ false
alive c s w k g = known_derivable (context_for c) s c.refused (frames_of c) w k.knows g
