-- A block begins: the frames stand for the sequence with the block.
use Rattle.std.proofs.Common.{◌≡◌, Bool, false, List, ◌∷◌, Option, Some, None, refl}
use Rattle.lists.specs.Rows.{Row, ε, ◌⧺◌}
use Rattle.w_syntax.specs.Code.{Done}
use Rattle.w_canon.specs.declared.entry.Entry.{Entry}
use Rattle.w_rules.specs.View.{AreClasses}
use Rattle.w_rules.specs.Operands.{Operand}
use Rattle.w_rules.specs.Conditions.{Holds}
use Rattle.w_rules.specs.Context.{Context, Arrow}
use Rattle.w_rules.specs.Matching.{known}
use Rattle.w_flow.specs.Flow.{Covers, ◌>>=◌, pops}
use Rattle.w_steps.specs.Labels.{arrow_at}
use Rattle.w_vplain.specs.Prefixes.{OpenBlock, open_at, opened, taken_by, set_at, FirstDerives}
use Rattle.w_vplain.specs.Frames.{Frame, enter_next, StandsAll, Knows}
use Rattle.w_steps.specs.declared.frame_kind.FrameKind.{FrameKind}
use Rattle.w_vplain.proofs.Options.{held_at, at_held, held_none}
use Rattle.w_vplain.proofs.OpenBlocks.{framed}
use Rattle.w_vplain.proofs.BlockEnds.{covers_matches, matches_covers}
use Rattle.w_flow.proofs.Covers.{pops_in, pops_out}

-- no first branch has to be derived
abbrev pub Unbranched : FrameKind → Type 0
Unbranched k = (c : Context) (s : List Bool) (a : Arrow) → FirstDerives c s k Done a

-- by the operands that the block takes
enter_taken : (c : Context) (s : List Bool) (k : FrameKind) (a : Arrow) → arrow_at c k ≡ Some a → Unbranched k → (p : Bool) (ts : Row Operand) (l : OpenBlock) (ls : List OpenBlock) (fs : List Frame) →
    StandsAll c s ε (framed s p ts l ls ∷ fs) (l ∷ ls) →
    (o : Option (Row Operand)) →
    ((us : Row Operand) → Covers c.types p ts (us ⧺ known (taken_by k a)) → Holds o (λ (w : Row Operand). Covers c.types p w us)) →
    ((us : Row Operand) → Holds o (λ (w : Row Operand). Covers c.types p w us) → Covers c.types p ts (us ⧺ known (taken_by k a))) →
    Knows c s (o >>= λ w. Some (record { kind = k; any = false; operands = known a.from; is_set = set_at s (l ∷ ls) } ∷ framed s p w l ls ∷ fs)) (open_at (opened k) (l ∷ ls))
enter_taken c s k a eq un p ts l ls fs st None f g = λ good.
    let r = held_at (arrow_at c k) a _ eq good.1.0 in
    f r.0 (st.0.reaches (r.0 ⧺ known (taken_by k a)) r.1)
enter_taken c s k a eq un p ts l ls fs st (Some w) f g = (
  record {
    kind = refl;
    is_set = refl;
    reaches = λ us r. matches_covers c.types (known a.from) us (held_at (arrow_at c k) a _ eq r).1;
    reached = λ us h. at_held (arrow_at c k) a _ eq (un _ _ a, covers_matches c.types (known a.from) us h);
  },
  at_held (arrow_at c k) a (λ (b : Arrow). StandsAll c s (taken_by k b) (framed s p w l ls ∷ fs) (l ∷ ls)) eq (
    record {
      kind = refl;
      is_set = refl;
      reaches = λ us r. f us (st.0.reaches (us ⧺ known (taken_by k a)) r);
      reached = λ us h. st.0.reached (us ⧺ known (taken_by k a)) (g us h);
    },
    st.1,
  ),
)

-- by the type of the block
enter_arrow : (es : List Entry) (c : Context) → AreClasses c.types es → (s : List Bool) (k : FrameKind) (o : Option Arrow) → arrow_at c k ≡ o → Unbranched k → (p : Bool) (ts : Row Operand) (l : OpenBlock) (ls : List OpenBlock) (fs : List Frame) →
    StandsAll c s ε (framed s p ts l ls ∷ fs) (l ∷ ls) →
    Knows c s (o >>= λ a. pops es p ts (taken_by k a) >>= λ w.
    Some (record { kind = k; any = false; operands = known a.from; is_set = set_at s (l ∷ ls) } ∷ framed s p w l ls ∷ fs)) (open_at (opened k) (l ∷ ls))
enter_arrow es c types s k None eq un p ts l ls fs st = λ good. held_none (arrow_at c k) _ eq good.0.1
enter_arrow es c types s k (Some a) eq un p ts l ls fs st =
    enter_taken c s k a eq un p ts l ls fs st _ (λ us. pops_in c.types es types p ts (taken_by k a) us) (λ us. pops_out c.types es types p ts (taken_by k a) us)

-- a block of this kind begins
pub enter_known : (es : List Entry) (c : Context) → AreClasses c.types es → (s : List Bool) (k : FrameKind) → Unbranched k → (p : Bool) (ts : Row Operand) (l : OpenBlock) (ls : List OpenBlock) (fs : List Frame) →
    StandsAll c s ε (framed s p ts l ls ∷ fs) (l ∷ ls) → Knows c s (enter_next es c k (framed s p ts l ls) fs) (open_at (opened k) (l ∷ ls))
enter_known es c types s k un p ts l ls fs st = enter_arrow es c types s k (arrow_at c k) refl un p ts l ls fs st
