-- The frames of a checker, from its data.
use Rattle.std.proofs.Common.{◌≡◌, ◌≤◌, ℕ, zero, suc, ◌+◌, max, ◌==◌, Bool, true, false, List, [], ◌∷◌, ◌++◌, map, length, reverse, Option, Some, None, if◌then◌else◌, refl, sym, ap, subst, ◌∙◌, arith}
use Rattle.std.proofs.lemmas.Bool.Decides.{nat_tests}
use Rattle.std.proofs.lemmas.List.{length-reverse, reverse-append}
use Rattle.std.proofs.Math.Nat.{max-eq_left, le-max_right}
use Rattle.w_types.specs.declared.types.ValType.{ValType}
use Rattle.lists.specs.Rows.{Row, ◌▹◌, ◌⧺◌, size, row_of}
use Rattle.lists.proofs.Rows.{size-row_of}
use Rattle.w_syntax.specs.declared.instructions.Op.{Op}
use Rattle.w_syntax.specs.declared.instructions.Op.TheVariants as op
use Rattle.w_canon.specs.declared.entry.Entry.{Entry}
use Rattle.w_flow.specs.Flow.{Flow, ◌>>=◌, step}
use Rattle.w_flow.specs.View.{flow_view}
use Rattle.w_rules.specs.Operands.{Operand}
use Rattle.w_rules.specs.Context.{Context}
use Rattle.w_rules.specs.InstructionTypes.{instr_type, sets}
use Rattle.w_rules.specs.Matching.{known}
use Rattle.w_rules.specs.Peak.{or_none}
use Rattle.std.specs.Option.{unwrap_or}
use Rattle.w_rules.specs.Spaces.{in_body}
use Rattle.w_rows.specs.declared.type_row.TypeRow.{TypeRow}
use Rattle.w_vplain.specs.Frames.{Frame, frame_kinds, no_frames, leave, other_next, end_next, op_next}
use Rattle.w_steps.specs.Labels.{arrow_at, within}
use Rattle.w_vplain.specs.Measures.{total, tally}
use Rattle.w_vplain.specs.Row.{raised_to}
use Rattle.w_vplain.specs.Standing.{total_of}
use Rattle.w_locals.specs.Locals.{first_set, outer_sets, twice}
use Rattle.w_steps.specs.PlainTests.{plain_test}
use Rattle.w_steps.specs.View.{outer_kinds, gated}
use Rattle.w_vplain.specs.View.{frame_view, frames_with, inner_with, else_with, left_with}
use Rattle.w_steps.specs.declared.frame_kind.FrameKind.{FrameKind}
use Rattle.w_steps.specs.declared.frame_kind.FrameKind.TheVariants as kind
use Rattle.w_steps.specs.declared.frame.Frame as code

-- ## Lists of what is set

pub twice_now : (ss : List (List Bool)) → first_set (twice ss) ≡ first_set ss
twice_now [] = refl
twice_now (s ∷ ss) = refl

pub twice_around : (ss : List (List Bool)) → outer_sets (twice ss) ≡ ss
twice_around [] = refl
twice_around (s ∷ ss) = refl

-- frames see only what is set in each of them
pub same_frames : (fs : List code.Frame) (ss ts : List (List Bool)) → first_set ss ≡ first_set ts → outer_sets ss ≡ outer_sets ts → frames_with fs ss ≡ frames_with fs ts
same_frames [] ss ts e f = refl
same_frames (g ∷ gs) ss ts e f = ap (λ (s : List Bool). frame_view g s ∷ frames_with gs (outer_sets ss)) e ∙ ap (λ (us : List (List Bool)). frame_view g (first_set ts) ∷ frames_with gs us) f

-- ## Kinds and numbers

abbrev kind_of : code.Frame → FrameKind
kind_of f = f.kind

pub kinds_with : (fs : List code.Frame) (ss : List (List Bool)) → frame_kinds (frames_with fs ss) ≡ map kind_of fs
kinds_with [] ss = refl
kinds_with (f ∷ fs) ss = ap (λ (ks : List FrameKind). f.kind ∷ ks) (kinds_with fs (outer_sets ss))

-- a frame's number of operands doesn't look at what is set
pub totals_with : (fs : List code.Frame) (ss : List (List Bool)) → total (frames_with fs ss) ≡ total_of fs
totals_with [] ss = refl
totals_with (f ∷ fs) ss = ap (tally (flow_view f.flow).any (flow_view f.flow).operands) (totals_with fs (outer_sets ss))

-- ## Contexts

-- the type of a block doesn't look at the locals
pub arrow_in : (c : Context) (ls : List ValType) (rs : List ValType) (k : FrameKind) → arrow_at (in_body c ls rs) k ≡ arrow_at (in_body c [] rs) k
arrow_in c ls rs kind.Body = refl
arrow_in c ls rs (kind.Block b x) = refl
arrow_in c ls rs (kind.Then x) = refl
arrow_in c ls rs (kind.Else x) = refl

control_within : (es : List Entry) (c : Context) (ks : List FrameKind) (o : _) → plain_test es (within c ks) (op.Control o) ≡ plain_test es c (op.Control o)
control_within es c ks o = refl

-- nor a plain instruction's test at the labels
pub test_within : (es : List Entry) (c : Context) (ks : List FrameKind) (o : Op) → plain_test es (within c ks) o ≡ plain_test es c o
test_within es c ks (op.Control o) = control_within es c ks o
test_within es c ks (op.Parametric o) = refl
test_within es c ks (op.Variable o) = refl
test_within es c ks (op.Table o) = refl
test_within es c ks (op.Memory o) = refl
test_within es c ks (op.Numeric o) = refl
test_within es c ks (op.Reference o) = refl
test_within es c ks (op.Switching o) = refl

-- ## A block begins

-- the frame inside stands before that around, which is the last of the code's list
pub enter_frames : (xs ys : List code.Frame) (ss l : List (List Bool)) (o : Option code.Frame) (f v g h : code.Frame) → o ≡ Some g → h ≡ g → v ≡ f → ys ≡ xs ++ v ∷ [] → l ≡ twice ss
    → inner_with o f (first_set ss) (frames_with (reverse xs) (outer_sets ss)) ≡ Some (frame_view h (first_set l) ∷ frames_with (reverse ys) (outer_sets l))
enter_frames xs ys ss l o f v g h inside same around pushed twofold =
    let back : reverse ys ≡ f ∷ reverse xs = ap reverse pushed ∙ reverse-append xs (v ∷ []) ∙ ap (λ (w : code.Frame). w ∷ reverse xs) around in
    let now : first_set ss ≡ first_set l = sym (ap first_set twofold ∙ twice_now ss) in
    let rest : ss ≡ outer_sets l = sym (ap outer_sets twofold ∙ twice_around ss) in
    ap (λ (p : Option code.Frame). inner_with p f (first_set ss) (frames_with (reverse xs) (outer_sets ss))) inside
    ∙ ap (λ (k : code.Frame). Some (frame_view k (first_set ss) ∷ frames_with (f ∷ reverse xs) ss)) (sym same)
    ∙ ap (λ (s : List Bool). Some (frame_view h s ∷ frames_with (f ∷ reverse xs) ss)) now
    ∙ ap (λ (ts : List (List Bool)). Some (frame_view h (first_set l) ∷ frames_with (f ∷ reverse xs) ts)) rest
    ∙ ap (λ (ws : List code.Frame). Some (frame_view h (first_set l) ∷ frames_with ws (outer_sets l))) (sym back)

-- ## A second branch

module _ (es : List Entry) (c : Context) (k : FrameKind) (f : Frame) where
  else_frames : (ys : List code.Frame) (ss : List (List Bool)) (o : Option code.Frame) (h : code.Frame) (l : List (List Bool)) → (ys ≡ [] → ⊥) → o ≡ Some h → l ≡ twice (outer_sets ss)
      → ((g : Frame) (gs : List Frame) → other_next es c k f (g ∷ gs) ≡ else_with o g gs)
      → other_next es c k f (frames_with ys (outer_sets ss)) ≡ Some (frame_view h (first_set l) ∷ frames_with ys (outer_sets l))
  else_frames [] ss o h l none e m n = absurd (none refl)
  else_frames (y ∷ ys) ss o h l none e m n =
      let now : first_set l ≡ first_set (outer_sets ss) = ap first_set m ∙ twice_now (outer_sets ss) in
      let around : frames_with (y ∷ ys) (outer_sets l) ≡ frames_with (y ∷ ys) (outer_sets ss) =
      ap (λ (t : List (List Bool)). frames_with (y ∷ ys) (outer_sets t)) m ∙ ap (frames_with (y ∷ ys)) (twice_around (outer_sets ss)) in
      n (frame_view y (first_set (outer_sets ss))) (frames_with ys (outer_sets (outer_sets ss)))
      ∙ ap (λ (p : Option code.Frame). else_with p (frame_view y (first_set (outer_sets ss))) (frames_with ys (outer_sets (outer_sets ss)))) e
      ∙ ap (λ (s : List Bool). Some (frame_view h s ∷ frames_with (y ∷ ys) (outer_sets ss))) (sym now)
      ∙ ap (λ (gs : List Frame). Some (frame_view h (first_set l) ∷ gs)) (sym around)

  no_else : (ys : List code.Frame) (ss : List (List Bool)) (o : Option code.Frame) → (ys ≡ [] → ⊥) → o ≡ None
      → ((g : Frame) (gs : List Frame) → other_next es c k f (g ∷ gs) ≡ else_with o g gs)
      → other_next es c k f (frames_with ys (outer_sets ss)) ≡ None
  no_else [] ss o none e n = absurd (none refl)
  no_else (y ∷ ys) ss o none e n =
      n (frame_view y (first_set (outer_sets ss))) (frames_with ys (outer_sets (outer_sets ss)))
      ∙ ap (λ (p : Option code.Frame). else_with p (frame_view y (first_set (outer_sets ss))) (frames_with ys (outer_sets (outer_sets ss)))) e

  -- the code has the frames around with the innermost last
  pub turn_some : (xs : List code.Frame) (ss b l : List (List Bool)) (o : Option code.Frame) (h : code.Frame) → (length xs ≡ 0 → ⊥) → o ≡ Some h → b ≡ outer_sets ss → l ≡ twice b
      → ((g : Frame) (gs : List Frame) → other_next es c k f (g ∷ gs) ≡ else_with o g gs)
      → other_next es c k f (frames_with (reverse xs) (outer_sets ss)) ≡ Some (frame_view h (first_set l) ∷ frames_with (reverse xs) (outer_sets l))
  turn_some xs ss b l o h none e m m' n =
      else_frames (reverse xs) ss o h l (λ z. none (sym (length-reverse xs) ∙ ap length z)) e (m' ∙ ap twice m) n

  pub turn_none : (xs : List code.Frame) (ss : List (List Bool)) (o : Option code.Frame) → (length xs ≡ 0 → ⊥) → o ≡ None
      → ((g : Frame) (gs : List Frame) → other_next es c k f (g ∷ gs) ≡ else_with o g gs)
      → other_next es c k f (frames_with (reverse xs) (outer_sets ss)) ≡ None
  turn_none xs ss o none e n = no_else (reverse xs) ss o (λ z. none (sym (length-reverse xs) ∙ ap length z)) e n

-- ## The end of a block

-- whether there are blocks around
pub alone_answered : (xs : List code.Frame) (ss : List (List Bool)) → no_frames (frames_with (reverse xs) ss) ≡ (length xs == 0)
alone_answered xs ss = by (reverse xs) (length xs) (length-reverse xs)
  where
    by : (ys : List code.Frame) (n : ℕ) → length ys ≡ n → no_frames (frames_with ys ss) ≡ (n == 0)
    by [] zero e = refl
    by [] (suc n) e = absurd (omega (arith, e))
    by (y ∷ ys) zero e = absurd (omega (arith, e))
    by (y ∷ ys) (suc n) e = let t : (suc n == 0) ≡ false = grind (arith, nat_tests) in sym t

module _ (es : List Entry) (c : Context) (f : Frame) where
  pub left_none : (xs : List code.Frame) (ss : List (List Bool)) (alone : Bool) (o : Option TypeRow) → alone ≡ (length xs == 0) → o ≡ None
      → ((fs : List Frame) → alone ≡ no_frames fs → end_next es c f fs ≡ left_with o fs) → end_next es c f (frames_with (reverse xs) (outer_sets ss)) ≡ None
  left_none xs ss alone o a e n =
      n (frames_with (reverse xs) (outer_sets ss)) (a ∙ sym (alone_answered xs (outer_sets ss)))
      ∙ ap (λ (p : Option TypeRow). left_with p (frames_with (reverse xs) (outer_sets ss))) e

  pub left_body : (xs : List code.Frame) (ss : List (List Bool)) (alone : Bool) (o : Option TypeRow) (to : TypeRow) → alone ≡ (length xs == 0) → o ≡ Some to → xs ≡ []
      → ((fs : List Frame) → alone ≡ no_frames fs → end_next es c f fs ≡ left_with o fs) → end_next es c f (frames_with (reverse xs) (outer_sets ss)) ≡ Some []
  left_body xs ss alone o to a e none n =
      n (frames_with (reverse xs) (outer_sets ss)) (a ∙ sym (alone_answered xs (outer_sets ss)))
      ∙ ap (λ (p : Option TypeRow). left_with p (frames_with (reverse xs) (outer_sets ss))) e
      ∙ ap (λ (ys : List code.Frame). Some (leave (row_of to.types.now) (frames_with (reverse ys) (outer_sets ss)))) none

  pub left_block : (xs ws : List code.Frame) (ss l : List (List Bool)) (alone : Bool) (o : Option TypeRow) (to : TypeRow) (g h : code.Frame)
      → alone ≡ (length xs == 0) → o ≡ Some to → xs ≡ ws ++ g ∷ [] → l ≡ outer_sets ss
      → h.kind ≡ g.kind → (flow_view h.flow).any ≡ (flow_view g.flow).any → (flow_view h.flow).operands ≡ (flow_view g.flow).operands ⧺ known (row_of to.types.now)
      → ((fs : List Frame) → alone ≡ no_frames fs → end_next es c f fs ≡ left_with o fs)
      → end_next es c f (frames_with (reverse xs) (outer_sets ss)) ≡ Some (frame_view h (first_set l) ∷ frames_with (reverse ws) (outer_sets l))
  left_block xs ws ss l alone o to g h a e split m kd an ops n =
      let back : reverse xs ≡ g ∷ reverse ws = ap reverse split ∙ reverse-append ws (g ∷ []) in
      let now : first_set l ≡ first_set (outer_sets ss) = ap first_set m in
      let around : outer_sets l ≡ outer_sets (outer_sets ss) = ap outer_sets m in
      n (frames_with (reverse xs) (outer_sets ss)) (a ∙ sym (alone_answered xs (outer_sets ss)))
      ∙ ap (λ (p : Option TypeRow). left_with p (frames_with (reverse xs) (outer_sets ss))) e
      ∙ ap (λ (ys : List code.Frame). Some (leave (row_of to.types.now) (frames_with ys (outer_sets ss)))) back
      ∙ same_frame (h.kind) (g.kind) (flow_view h.flow).any (flow_view g.flow).any (flow_view h.flow).operands ((flow_view g.flow).operands ⧺ known (row_of to.types.now))
      (first_set l) (first_set (outer_sets ss)) (frames_with (reverse ws) (outer_sets l)) (frames_with (reverse ws) (outer_sets (outer_sets ss))) kd an ops now (ap (frames_with (reverse ws)) around)
    where
      same_frame : (k k' : FrameKind) (p p' : Bool) (ts ts' : Row Operand) (s s' : List Bool) (gs gs' : List Frame) → k ≡ k' → p ≡ p' → ts ≡ ts' → s ≡ s' → gs ≡ gs'
          → Some (record { kind = k'; any = p'; operands = ts'; is_set = s' } ∷ gs') ≡ Some (record { kind = k; any = p; operands = ts; is_set = s } ∷ gs)
      same_frame k k' p p' ts ts' s s' gs gs' e₁ e₂ e₃ e₄ e₅ = cc

-- ## A plain instruction

module _ (es : List Entry) (c : Context) where
  -- what a step leaves, in the frame
  stepped : (o : Op) (f : Frame) (fs : List Frame) (r : Option Flow) (applies : Bool) (w : Flow) → r ≡ (if applies then Some w else None)
      → (r >>= λ (v : Flow). Some (record f { any = v.any; operands = v.operands; is_set = sets o f.is_set } ∷ fs))
      ≡ (if applies then Some (record f { any = w.any; operands = w.operands; is_set = sets o f.is_set } ∷ fs) else None)
  stepped o f fs r true w e = ap (λ (q : Option Flow). q >>= λ (v : Flow). Some (record f { any = v.any; operands = v.operands; is_set = sets o f.is_set } ∷ fs)) e
  stepped o f fs r false w e = ap (λ (q : Option Flow). q >>= λ (v : Flow). Some (record f { any = v.any; operands = v.operands; is_set = sets o f.is_set } ∷ fs)) e

  handed : (o : Op) (f : Frame) (fs : List Frame) (b : Bool) (r : Option Flow) (applies : Bool) (w : Flow) → gated b r ≡ (if applies then Some w else None)
      → (if b then (r >>= λ (v : Flow). Some (record f { any = v.any; operands = v.operands; is_set = sets o f.is_set } ∷ fs)) else None)
      ≡ (if applies then Some (record f { any = w.any; operands = w.operands; is_set = sets o f.is_set } ∷ fs) else None)
  handed o f fs true r applies w e = stepped o f fs r applies w e
  handed o f fs false r applies w e = stepped o f fs None applies w e

  -- one instruction, by the step of its operands
  pub op_answered : (o : Op) (f : Frame) (fs : List Frame) (applies : Bool) (w : Flow)
      → gated (plain_test es c o) (step es (instr_type (within c (f.kind ∷ frame_kinds fs)) f.is_set o) f.any f.operands) ≡ (if applies then Some w else None)
      → op_next es c o f fs ≡ (if applies then Some (record f { any = w.any; operands = w.operands; is_set = sets o f.is_set } ∷ fs) else None)
  op_answered (op.Control o) f fs applies w e = handed (op.Control o) f fs (plain_test es c (op.Control o)) (step es (instr_type (within c (f.kind ∷ frame_kinds fs)) f.is_set (op.Control o)) f.any f.operands) applies w e
  op_answered (op.Parametric o) f fs applies w e = stepped (op.Parametric o) f fs _ applies w e
  op_answered (op.Variable o) f fs applies w e = stepped (op.Variable o) f fs _ applies w e
  op_answered (op.Table o) f fs applies w e = handed (op.Table o) f fs (plain_test es c (op.Table o)) (step es (instr_type (within c (f.kind ∷ frame_kinds fs)) f.is_set (op.Table o)) f.any f.operands) applies w e
  op_answered (op.Memory o) f fs applies w e = stepped (op.Memory o) f fs _ applies w e
  op_answered (op.Numeric o) f fs applies w e = stepped (op.Numeric o) f fs _ applies w e
  op_answered (op.Reference o) f fs applies w e = stepped (op.Reference o) f fs _ applies w e
  op_answered (op.Switching o) f fs applies w e = stepped (op.Switching o) f fs None applies w e

  -- as the code has it: the kinds of the blocks around are read from their data, and the test in the context inside them
  pub op_code : (o : Op) (f : Frame) (ys : List code.Frame) (ss : List (List Bool)) (applies : Bool) (w : Flow) (s' : List Bool) (rest : List (List Bool)) → (applies ≡ true → s' ≡ sets o f.is_set)
      → (applies ≡ true → rest ≡ ss)
      → gated (plain_test es (within c (f.kind ∷ map kind_of ys)) o) (step es (instr_type (within c (f.kind ∷ map kind_of ys)) f.is_set o) f.any f.operands) ≡ (if applies then Some w else None)
      → op_next es c o f (frames_with ys ss) ≡ (if applies then Some (record f { any = w.any; operands = w.operands; is_set = s' } ∷ frames_with ys rest) else None)
  op_code o f ys ss applies w s' rest sets_is rest_is e =
      let Same : List FrameKind → Type 0 = λ (ks : List FrameKind). gated (plain_test es c o) (step es (instr_type (within c (f.kind ∷ ks)) f.is_set o) f.any f.operands) ≡ (if applies then Some w else None) in
      let here : Same (map kind_of ys) =
      ap (λ (b : Bool). gated b (step es (instr_type (within c (f.kind ∷ map kind_of ys)) f.is_set o) f.any f.operands)) (sym (test_within es c (f.kind ∷ map kind_of ys) o)) ∙ e in
      op_answered o f (frames_with ys ss) applies w (subst Same (sym (kinds_with ys ss)) here) ∙ changed applies sets_is rest_is
    where
      changed : (t : Bool) → (t ≡ true → s' ≡ sets o f.is_set) → (t ≡ true → rest ≡ ss)
          → (if t then Some (record f { any = w.any; operands = w.operands; is_set = sets o f.is_set } ∷ frames_with ys ss) else None)
          ≡ (if t then Some (record f { any = w.any; operands = w.operands; is_set = s' } ∷ frames_with ys rest) else None)
      changed true a b =
          ap (λ (s : List Bool). let g : Frame = record f { any = w.any; operands = w.operands; is_set = s } in Some (g ∷ frames_with ys ss)) (sym (a refl))
          ∙ ap (λ (ts : List (List Bool)). let g : Frame = record f { any = w.any; operands = w.operands; is_set = s' } in Some (g ∷ frames_with ys ts)) (sym (b refl))
      changed false a b = refl

  pub op_taken : (o : Op) (f : Frame) (ys : List code.Frame) (ss : List (List Bool)) (applies : Bool) (w : Flow) (s' : List Bool) (rest : List (List Bool)) → applies ≡ true → s' ≡ sets o f.is_set
      → rest ≡ ss
      → gated (plain_test es (within c (f.kind ∷ map kind_of ys)) o) (step es (instr_type (within c (f.kind ∷ map kind_of ys)) f.is_set o) f.any f.operands) ≡ (if applies then Some w else None)
      → op_next es c o f (frames_with ys ss) ≡ Some (record f { any = w.any; operands = w.operands; is_set = s' } ∷ frames_with ys rest)
  op_taken o f ys ss applies w s' rest t a b e =
      op_code o f ys ss applies w s' rest (λ _. a) (λ _. b) e
      ∙ ap (λ (d : Bool). let g : Frame = record f { any = w.any; operands = w.operands; is_set = s' } in if d then Some (g ∷ frames_with ys rest) else None) t

  pub op_refused : (o : Op) (f : Frame) (ys : List code.Frame) (ss : List (List Bool)) (applies : Bool) (w : Flow) → applies ≡ false
      → gated (plain_test es (within c (f.kind ∷ map kind_of ys)) o) (step es (instr_type (within c (f.kind ∷ map kind_of ys)) f.is_set o) f.any f.operands) ≡ (if applies then Some w else None)
      → op_next es c o f (frames_with ys ss) ≡ None
  op_refused o f ys ss applies w t e =
      op_code o f ys ss applies w (sets o f.is_set) ss (λ _. refl) (λ _. refl) e
      ∙ ap (λ (d : Bool). let g : Frame = record f { any = w.any; operands = w.operands; is_set = sets o f.is_set } in if d then Some (g ∷ frames_with ys ss) else None) t

pub nonempty : (n : ℕ) → (n == 0) ≡ false → n ≡ 0 → ⊥
nonempty zero e z = absurd (cc)
nonempty (suc n) e z = absurd (omega (arith, z))

-- what the code knows of a plain step, where it reads its lists by reference
abbrev pub PlainStep : List Entry → Context → FrameKind → Op → Bool → Row Operand → Bool → Flow → List ValType → List Bool → List ValType → List code.Frame → Type 0
PlainStep es cx k o p ts applies w ls s rs xs =
    gated (plain_test es (within (in_body cx ls rs) (k ∷ outer_kinds xs)) o) (step es (instr_type (within (in_body cx ls rs) (k ∷ outer_kinds xs)) s o) p ts) ≡ (if applies then Some w else None)

-- the frames of a body that has not ended
pub not_ended : (b : Bool) (gs : List Frame) → b ≡ false → Some gs ≡ Some (if b then [] else gs)
not_ended b gs e = ap (λ (d : Bool). Some (if d then [] else gs)) (sym e)

-- as many frames
pub count_with : (fs : List code.Frame) (ss : List (List Bool)) → length (frames_with fs ss) ≡ length fs
count_with [] ss = refl
count_with (f ∷ fs) ss = ap suc (count_with fs (outer_sets ss))

-- the same blocks around are as many frames
pub as_many : (b d : Bool) (f g : Frame) (xs ys : List code.Frame) (ss ts : List (List Bool)) → b ≡ d → xs ≡ ys
    → length (if b then [] else f ∷ frames_with (reverse xs) ss) ≡ length (if d then [] else g ∷ frames_with (reverse ys) ts)
as_many b true f g xs ys ss ts e h = ap (λ (c : Bool). length (if c then [] else f ∷ frames_with (reverse xs) ss)) e
as_many b false f g xs ys ss ts e h =
    ap (λ (c : Bool). length (if c then [] else f ∷ frames_with (reverse xs) ss)) e
    ∙ ap suc (count_with (reverse xs) ss ∙ ap (λ (zs : List code.Frame). length (reverse zs)) h ∙ sym (count_with (reverse ys) ts))

-- ## Counting the place that was reached

-- where no more blocks are open than were counted, there are none to count
pub none_deeper : (old new m n : ℕ) → m ≡ n → new ≡ old → n ≤ old → (m ≤ new) × (new ≡ max old m)
none_deeper old new m n e f h = (omega arith, f ∙ sym (max-eq_left (omega arith)))

-- no more are open than are counted now
pub counted_deep : (old new m : ℕ) → new ≡ max old m → (m ≤ new) × (new ≡ max old m)
counted_deep old new m e = (subst (λ (k : ℕ). m ≤ k) (sym e) (le-max_right old m), e)

-- one block is open for each frame
pub depth_answered : (b : Bool) (f : Frame) (xs xs' : List code.Frame) (ss : List (List Bool)) (old n : ℕ) → b ≡ false → xs' ≡ xs → n ≡ length xs' + 1
    → max old n ≡ max old (length (if b then [] else f ∷ frames_with (reverse xs) ss))
depth_answered true f xs xs' ss old n e same h = absurd (cc)
depth_answered false f xs xs' ss old n e same h =
    let long : n ≡ suc (length (frames_with (reverse xs) ss)) =
    h ∙ ap (λ (ys : List code.Frame). length ys + 1) same ∙ omega (arith, count_with (reverse xs) ss, length-reverse xs) in
    ap (max old) long

-- the number of operands there
pub peak_answered : (b : Bool) (f : Frame) (xs : List code.Frame) (ss : List (List Bool)) (old n : ℕ) (base here : Option ℕ) → b ≡ false → base ≡ total_of (reverse xs) → here ≡ tally f.any f.operands base
    → n ≡ unwrap_or here 0 → max old n ≡ max old (or_none (total (if b then [] else f ∷ frames_with (reverse xs) ss)) (λ (h : ℕ). h))
peak_answered true f xs ss old n base here e d h u = absurd (cc)
peak_answered false f xs ss old n base here e d h u =
    let same : here ≡ total (f ∷ frames_with (reverse xs) ss) =
    h ∙ ap (tally f.any f.operands) (d ∙ sym (totals_with (reverse xs) ss)) in
    ap (max old) (u ∙ or_zero here ∙ ap (λ (o : Option ℕ). or_none o (λ (g : ℕ). g)) same)
  where
    or_zero : (o : Option ℕ) → unwrap_or o 0 ≡ or_none o (λ (g : ℕ). g)
    or_zero None = refl
    or_zero (Some g) = refl

-- ## Rows

pub row_some : {A : Type 0} (ts : List A) (t : A) → length ts + 1 ≡ size (row_of ts ▹ t)
row_some ts t = omega (arith, size-row_of ts)

pub row_none : {A : Type 0} (ts : List A) → length ts ≡ size (row_of ts)
row_none ts = sym (size-row_of ts)

-- what a resume adds goes by the number of operands of the place before
pub beneath_answered : (b : Bool) (f : Frame) (xs : List code.Frame) (ss : List (List Bool)) (base here : Option ℕ) (n : ℕ) (g : ℕ → ℕ) → b ≡ false → base ≡ total_of (reverse xs)
    → here ≡ tally f.any f.operands base → n ≡ or_none here g → n ≡ or_none (total (if b then [] else f ∷ frames_with (reverse xs) ss)) g
beneath_answered true f xs ss base here n g e d h u = absurd (cc)
beneath_answered false f xs ss base here n g e d h u =
    u ∙ ap (λ (o : Option ℕ). or_none o g) (h ∙ ap (tally f.any f.operands) (d ∙ sym (totals_with (reverse xs) ss)))

pub raised_answered : (old mid m beneath new added : ℕ) (gs gs' : List Frame) → m ≡ max mid beneath → mid ≡ old → beneath ≡ added
    → new ≡ max m (or_none (total gs') (λ (h : ℕ). h)) → gs ≡ gs' → new ≡ raised_to old added gs
raised_answered old mid m beneath new added gs gs' e₁ e₂ e₃ e₄ e₅ =
    e₄ ∙ ap (λ (hs : List Frame). max m (or_none (total hs) (λ (h : ℕ). h))) (sym e₅)
    ∙ ap (λ (p : ℕ). max p (or_none (total gs) (λ (h : ℕ). h)))
    (e₁ ∙ ap (λ (p : ℕ). max p beneath) e₂ ∙ ap (max old) e₃)
