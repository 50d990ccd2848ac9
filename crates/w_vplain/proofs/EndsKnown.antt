-- A branch or a block ends: the frames stand for the sequence with that.
use Rattle.std.proofs.Common.{◌≡◌, Bool, true, false, ◌&&◌, List, [], ◌∷◌, Option, Some, None, if◌then◌else◌, IsTrue, refl, sym, ◌∙◌}
use Rattle.std.proofs.lemmas.Bool.{false≢true}
use Rattle.lists.specs.Rows.{Row, ε, ◌⧺◌}
use Rattle.lists.proofs.Tests.{each_of}
use Rattle.w_syntax.specs.Code.{Code, Done}
use Rattle.w_syntax.specs.declared.instructions.BlockType.{BlockType}
use Rattle.w_canon.specs.declared.entry.Entry.{Entry}
use Rattle.w_canon.proofs.TestsOfLists.{and_both}
use Rattle.w_rules.specs.View.{AreClasses}
use Rattle.w_rules.specs.Operands.{Operand}
use Rattle.w_rules.specs.Context.{Context, Arrow, arrow_of}
use Rattle.w_rules.specs.Matching.{known}
use Rattle.w_flow.specs.Flow.{Covers, ◌>>=◌, ends}
use Rattle.w_steps.specs.Labels.{arrow_at}
use Rattle.w_vplain.specs.Prefixes.{OpenBlock, open_at, ended, malformed, more, in_else, node, closed, taken_by, kinds_of, set_at, Reaches}
use Rattle.w_vplain.specs.Frames.{Frame, other_next, end_test, leave, end_next, StandsAt, StandsAll, Knows}
use Rattle.w_steps.specs.declared.frame_kind.FrameKind.{FrameKind}
use Rattle.w_steps.specs.declared.frame_kind.FrameKind.TheVariants as kind
use Rattle.w_vplain.proofs.Options.{held_at, at_held, held_none, held_fact}
use Rattle.w_vplain.proofs.OpenBlocks.{open_block, framed, reaches_in, reaches_out, reaches_right}
use Rattle.w_vplain.proofs.BlockEnds.{covers_matches, matches_covers, ends_in, ends_out, end_test_in, end_test_out}
use Rattle.w_vplain.proofs.Nodes.{Inner, is_block, is_then, is_else, Whole, node_in, node_out, node_sets}
use Rattle.w_rules.proofs.Derive.{set_by-after}
use Rattle.w_rules.proofs.Preorder.{row_refl}
use Rattle.w_flow.proofs.Covers.{push_in, push_out}

-- ## The second branch begins

-- by the test of what is left
turn_test : (es : List Entry) (c : Context) → AreClasses c.types es → (s : List Bool) (x : BlockType) (f d : Code) (p : Bool) (ts : Row Operand) (m : OpenBlock) (ms : List OpenBlock) (g : Frame) (gs : List Frame) (a : Arrow) → arrow_of c x ≡ Some a →
    StandsAll c s ε (framed s p ts (open_block (kind.Then x) f d) (m ∷ ms) ∷ g ∷ gs) (open_block (kind.Then x) f d ∷ m ∷ ms) →
    (b : Bool) → ends es p ts a.to ≡ b →
    Knows c s (if b then Some (record { kind = kind.Else x; any = false; operands = known a.from; is_set = g.is_set } ∷ g ∷ gs) else None)
    (open_at (open_block (kind.Else x) d Done) (m ∷ ms))
turn_test es c types s x f d p ts m ms g gs a eq st false test = λ good.
    let h = held_at (arrow_of c x) a _ eq good.0.1 in
    false≢true (sym test ∙ ends_in c.types es types p ts a.to (st.0.reaches (known a.to) (at_held (arrow_of c x) a _ eq (tt, h.0))))
turn_test es c types s x f d p ts m ms g gs a eq st true test = (
  record {
    kind = refl;
    is_set = held_fact (arrow_of c x) _ _ st.1 (λ b h. h.0.is_set);
    reaches = λ us r. matches_covers c.types (known a.from) us (held_at (arrow_of c x) a _ eq r).1;
    reached = λ us h. at_held (arrow_of c x) a _ eq
        ((held_at (arrow_of c x) a _ eq (st.0.reached (known a.to) (ends_out c.types es types p ts a.to test))).1, covers_matches c.types (known a.from) us h);
  },
  st.1,
)

-- by the type of the block
turn_arrow : (es : List Entry) (c : Context) → AreClasses c.types es → (s : List Bool) (x : BlockType) (f d : Code) (p : Bool) (ts : Row Operand) (m : OpenBlock) (ms : List OpenBlock) (g : Frame) (gs : List Frame) (o : Option Arrow) → arrow_of c x ≡ o →
    StandsAll c s ε (framed s p ts (open_block (kind.Then x) f d) (m ∷ ms) ∷ g ∷ gs) (open_block (kind.Then x) f d ∷ m ∷ ms) →
    Knows c s (o >>= λ a. (if ends es p ts a.to
    then Some (record { kind = kind.Else x; any = false; operands = known a.from; is_set = g.is_set } ∷ g ∷ gs) else None))
    (open_at (open_block (kind.Else x) d Done) (m ∷ ms))
turn_arrow es c types s x f d p ts m ms g gs None eq st = λ good. held_none (arrow_of c x) _ eq good.0.1
turn_arrow es c types s x f d p ts m ms g gs (Some a) eq st = turn_test es c types s x f d p ts m ms g gs a eq st _ refl

-- an else
pub other_known : (es : List Entry) (c : Context) → AreClasses c.types es → (s : List Bool) (k : FrameKind) (f d : Code) (p : Bool) (ts : Row Operand) (ls : List OpenBlock) (fs : List Frame) →
    StandsAll c s ε (framed s p ts (open_block k f d) ls ∷ fs) (open_block k f d ∷ ls) →
    Knows c s (other_next es c k (framed s p ts (open_block k f d) ls) fs) (in_else k d ls)
other_known es c types s (kind.Then x) f d p ts [] [] st = λ good. good
other_known es c types s (kind.Then x) f d p ts [] (g ∷ gs) st = held_fact (arrow_of c x) _ _ st.1 (λ a h. absurd h)
other_known es c types s (kind.Then x) f d p ts (m ∷ ms) [] st = held_fact (arrow_of c x) _ _ st.1 (λ a h. absurd h)
other_known es c types s (kind.Then x) f d p ts (m ∷ ms) (g ∷ gs) st = turn_arrow es c types s x f d p ts m ms g gs _ refl st
other_known es c types s kind.Body f d p ts ls fs st = λ good. good
other_known es c types s (kind.Block b x) f d p ts ls fs st = λ good. good
other_known es c types s (kind.Else x) f d p ts ls fs st = λ good. good

-- ## A block ends

-- what is covered at the end of the block is what the rules ask of it
whole_in : (es : List Entry) (c : Context) → AreClasses c.types es → (s : List Bool) (k : FrameKind) (f d : Code) (ls : List OpenBlock) (a : Arrow) → arrow_at c k ≡ Some a → (p : Bool) (ts : Row Operand) →
    ((us : Row Operand) → Reaches c s (open_block k f d) ls us → Covers c.types p ts us) →
    Whole c (set_at s ls) k f d (kinds_of ls) a → IsTrue (ends es p ts a.to && end_test es k a)
whole_in es c types s k f d ls a eq p ts g w =
    and_both _ _ (ends_in c.types es types p ts a.to (g (known a.to) (at_held (arrow_at c k) a _ eq w.0))) (end_test_in es c types k a w.1)

-- and the other way
whole_out : (es : List Entry) (c : Context) → AreClasses c.types es → (s : List Bool) (k : FrameKind) (f d : Code) (ls : List OpenBlock) (a : Arrow) → arrow_at c k ≡ Some a → (p : Bool) (ts : Row Operand) →
    ((us : Row Operand) → Covers c.types p ts us → Reaches c s (open_block k f d) ls us) →
    IsTrue (ends es p ts a.to && end_test es k a) → Whole c (set_at s ls) k f d (kinds_of ls) a
whole_out es c types s k f d ls a eq p ts g h =
    let t = each_of _ _ h in
    (held_at (arrow_at c k) a _ eq (g (known a.to) (ends_out c.types es types p ts a.to t.0)), end_test_out es c types k a t.1)

-- in another block, by the test of what is left
inner_test : (es : List Entry) (c : Context) → AreClasses c.types es → (s : List Bool) (k : FrameKind) → Inner k → (f d : Code) (m : OpenBlock) (ms : List OpenBlock) (a : Arrow) → arrow_at c k ≡ Some a → (p : Bool) (ts : Row Operand) →
    (g : Frame) (gs : List Frame) →
    StandsAt c s ε (framed s p ts (open_block k f d) (m ∷ ms)) (open_block k f d) (m ∷ ms) →
    StandsAll c s (taken_by k a) (g ∷ gs) (m ∷ ms) →
    (b : Bool) → (ends es p ts a.to && end_test es k a) ≡ b →
    Knows c s (if b then Some (record g { operands = g.operands ⧺ known a.to } ∷ gs) else None) (open_at (more m (node k f d)) ms)
inner_test es c types s k inner f d m ms a eq p ts g gs st around false test = λ good.
    let r = reaches_out c s m ms (node k f d) good.0.0 good.0.1 in
    let n = node_out c types.keeps (set_at s (m ∷ ms)) k inner f d (kinds_of (m ∷ ms)) a eq r.0 good.0.0 r.2 in
    false≢true (sym test ∙ whole_in es c types s k f d (m ∷ ms) a eq p ts st.reaches n.0)
inner_test es c types s k inner f d m ms a eq p ts g gs st around true test =
    let w = whole_out es c types s k f d (m ∷ ms) a eq p ts st.reached test in (
      record {
        kind = around.0.kind;
        is_set = around.0.is_set ∙ sym (node_sets k inner f d (set_at s (m ∷ ms))) ∙ sym (set_by-after m.code (node k f d) (set_at s ms));
        reaches = λ us r. (
            let q = reaches_out c s m ms (node k f d) us r in
            let n = node_out c types.keeps (set_at s (m ∷ ms)) k inner f d (kinds_of (m ∷ ms)) a eq q.0 us q.2 in
            push_in c.types types.keeps g.any g.operands (known a.to) n.1.beneath us
            (around.0.reaches n.1.beneath (reaches_right c types.keeps s m ms q.0 (n.1.beneath ⧺ known (taken_by k a)) q.1 n.1.takes)) n.1.gives);
        reached = λ us h. (
            let q = push_out c.types g.any g.operands (known a.to) us h in
            reaches_in c types.keeps s m ms (node k f d) (q.0 ⧺ known (taken_by k a)) us (around.0.reached q.0 q.1)
            (node_in c (set_at s (m ∷ ms)) k inner f d (kinds_of (m ∷ ms)) a eq w (q.0 ⧺ known (taken_by k a)) us
            (record { beneath = q.0; takes = row_refl c.types (q.0 ⧺ known (taken_by k a)); gives = q.2 })));
      },
      around.1,
    )

-- by the type of the block
inner_arrow : (es : List Entry) (c : Context) → AreClasses c.types es → (s : List Bool) (k : FrameKind) → Inner k → (f d : Code) (m : OpenBlock) (ms : List OpenBlock) (o : Option Arrow) → arrow_at c k ≡ o → (p : Bool) (ts : Row Operand) →
    (g : Frame) (gs : List Frame) →
    StandsAll c s ε (framed s p ts (open_block k f d) (m ∷ ms) ∷ g ∷ gs) (open_block k f d ∷ m ∷ ms) →
    Knows c s (o >>= λ a. (if ends es p ts a.to && end_test es k a then Some (leave a.to (g ∷ gs)) else None))
    (open_at (more m (node k f d)) ms)
inner_arrow es c types s k inner f d m ms None eq p ts g gs st = absurd (held_none (arrow_at c k) _ eq st.1)
inner_arrow es c types s k inner f d m ms (Some a) eq p ts g gs st =
    inner_test es c types s k inner f d m ms a eq p ts g gs st.0 (held_at (arrow_at c k) a _ eq st.1) _ refl

-- nothing is known of what begins no body
no_way : (c : Context) (s : List Bool) (o : Option Arrow) → Knows c s (o >>= λ a. None) malformed
no_way c s None = λ good. good
no_way c s (Some a) = λ good. good

-- the body ends
body_case : (es : List Entry) (c : Context) → AreClasses c.types es → (s : List Bool) (f d : Code) (p : Bool) (ts : Row Operand) →
    StandsAll c s ε (framed s p ts (open_block kind.Body f d) [] ∷ []) (open_block kind.Body f d ∷ []) →
    (b : Bool) → (ends es p ts c.results && true) ≡ b → Knows c s (if b then Some [] else None) (ended d)
body_case es c types s f d p ts st false test = λ good.
    false≢true (sym test ∙ and_both _ _ (ends_in c.types es types p ts c.results (st.0.reaches (known c.results) (tt, good))) refl)
body_case es c types s f d p ts st true test =
    (tt, (st.0.reached (known c.results) (ends_out c.types es types p ts c.results (each_of _ _ test).0)).1)

-- an end
pub end_known : (es : List Entry) (c : Context) → AreClasses c.types es → (s : List Bool) (k : FrameKind) (f d : Code) (p : Bool) (ts : Row Operand) (ls : List OpenBlock) (fs : List Frame) →
    StandsAll c s ε (framed s p ts (open_block k f d) ls ∷ fs) (open_block k f d ∷ ls) →
    Knows c s (end_next es c (framed s p ts (open_block k f d) ls) fs) (closed k f d ls)
end_known es c types s kind.Body f d p ts [] [] st = body_case es c types s f d p ts st _ refl
end_known es c types s kind.Body f d p ts [] (g ∷ gs) st = absurd st.1
end_known es c types s kind.Body f d p ts (m ∷ ms) [] st = absurd st.1
end_known es c types s kind.Body f d p ts (m ∷ ms) (g ∷ gs) st = λ good. good
end_known es c types s (kind.Block b x) f d p ts [] [] st = no_way c s (arrow_of c x)
end_known es c types s (kind.Block b x) f d p ts [] (g ∷ gs) st = held_fact (arrow_of c x) _ _ st.1 (λ a h. absurd h)
end_known es c types s (kind.Block b x) f d p ts (m ∷ ms) [] st = held_fact (arrow_of c x) _ _ st.1 (λ a h. absurd h)
end_known es c types s (kind.Block b x) f d p ts (m ∷ ms) (g ∷ gs) st = inner_arrow es c types s (kind.Block b x) (is_block b x) f d m ms (arrow_of c x) refl p ts g gs st
end_known es c types s (kind.Then x) f d p ts [] [] st = no_way c s (arrow_of c x)
end_known es c types s (kind.Then x) f d p ts [] (g ∷ gs) st = held_fact (arrow_of c x) _ _ st.1 (λ a h. absurd h)
end_known es c types s (kind.Then x) f d p ts (m ∷ ms) [] st = held_fact (arrow_of c x) _ _ st.1 (λ a h. absurd h)
end_known es c types s (kind.Then x) f d p ts (m ∷ ms) (g ∷ gs) st = inner_arrow es c types s (kind.Then x) (is_then x) f d m ms (arrow_of c x) refl p ts g gs st
end_known es c types s (kind.Else x) f d p ts [] [] st = no_way c s (arrow_of c x)
end_known es c types s (kind.Else x) f d p ts [] (g ∷ gs) st = held_fact (arrow_of c x) _ _ st.1 (λ a h. absurd h)
end_known es c types s (kind.Else x) f d p ts (m ∷ ms) [] st = held_fact (arrow_of c x) _ _ st.1 (λ a h. absurd h)
end_known es c types s (kind.Else x) f d p ts (m ∷ ms) (g ∷ gs) st = inner_arrow es c types s (kind.Else x) (is_else x) f d m ms (arrow_of c x) refl p ts g gs st
