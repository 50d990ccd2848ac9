-- What the rules do not derive, they do not derive with more instructions behind it.
use Rattle.std.proofs.Common.{◌≡◌, Bool, List, [], ◌∷◌, Option, Some, None, refl}
use Rattle.lists.specs.Rows.{Row, ◌⧺◌}
use Rattle.w_syntax.specs.Code.{Code, Done, Plain}
use Rattle.w_syntax.specs.declared.instructions.Instr.{Instr}
use Rattle.w_syntax.specs.declared.instructions.Instr.TheVariants as flat
use Rattle.w_syntax.specs.declared.instructions.Op.{Op}
use Rattle.w_canon.specs.Supertypes.{KeepsKinds}
use Rattle.w_rules.specs.Operands.{Operand}
use Rattle.w_rules.specs.Context.{Context, Arrow, arrow_of}
use Rattle.w_rules.specs.Matching.{known}
use Rattle.w_rules.specs.Typing.{Derives}
use Rattle.w_steps.specs.Labels.{arrow_at, within}
use Rattle.w_vplain.specs.Prefixes.{OpenBlock, Prefix, open_at, ended, malformed, opened, more, in_else, node, closed, followed, follow, follow_all, taken_by, kinds_of, set_at, Reaches, Around, IsDerivable}
use Rattle.w_steps.specs.declared.frame_kind.FrameKind.{FrameKind}
use Rattle.w_steps.specs.declared.frame_kind.FrameKind.TheVariants as kind
use Rattle.w_vplain.proofs.Options.{at_held, held_fact}
use Rattle.w_vplain.proofs.OpenBlocks.{open_block, reaches_out, reaches_right}
use Rattle.w_vplain.proofs.TypesKnown.{typed_reached}
use Rattle.w_vplain.proofs.Nodes.{Inner, is_block, is_then, is_else, node_out, no_node}
use Rattle.w_rules.proofs.Derive.{holds_pull}

-- a block's instructions, where the rules derive the whole block
node_derivable : (c : Context) → KeepsKinds c.types → (s : List Bool) (k : FrameKind) → Inner k → (f d : Code) (m : OpenBlock) (ms : List OpenBlock) (o : Option Arrow) → arrow_at c k ≡ o →
    (vs us : Row Operand) → Reaches c s m ms vs → Derives (within c (kinds_of (m ∷ ms))) (set_at s (m ∷ ms)) (node k f d) vs us → Around c s m.kind ms →
    IsDerivable c s (open_at (open_block k f d) (m ∷ ms))
node_derivable c keeps s k inner f d m ms None eq vs us r n around = absurd (no_node c (set_at s (m ∷ ms)) k inner f d (kinds_of (m ∷ ms)) eq vs us n)
node_derivable c keeps s k inner f d m ms (Some a) eq vs us r n around =
    let w = node_out c keeps (set_at s (m ∷ ms)) k inner f d (kinds_of (m ∷ ms)) a eq vs us n in (
      (known a.to, at_held (arrow_at c k) a _ eq w.0.0),
      (at_held (arrow_at c k) a _ eq (w.1.beneath, reaches_right c keeps s m ms vs (w.1.beneath ⧺ known (taken_by k a)) r w.1.takes), around),
    )

-- before the end of a block in another
inner_before : (c : Context) → KeepsKinds c.types → (s : List Bool) (k : FrameKind) → Inner k → (f d : Code) (m : OpenBlock) (ms : List OpenBlock) → IsDerivable c s (open_at (more m (node k f d)) ms) →
    IsDerivable c s (open_at (open_block k f d) (m ∷ ms))
inner_before c keeps s k inner f d m ms g =
    let r = reaches_out c s m ms (node k f d) g.0.0 g.0.1 in
    node_derivable c keeps s k inner f d m ms _ refl r.0 g.0.0 r.1 r.2 g.1

-- before an end
closed_before : (c : Context) → KeepsKinds c.types → (s : List Bool) (k : FrameKind) (f d : Code) (ls : List OpenBlock) → IsDerivable c s (closed k f d ls) → IsDerivable c s (open_at (open_block k f d) ls)
closed_before c keeps s kind.Body f d [] g = ((known c.results, (tt, g)), tt)
closed_before c keeps s kind.Body f d (m ∷ ms) g = absurd g
closed_before c keeps s (kind.Block b x) f d [] g = absurd g
closed_before c keeps s (kind.Block b x) f d (m ∷ ms) g = inner_before c keeps s (kind.Block b x) (is_block b x) f d m ms g
closed_before c keeps s (kind.Then x) f d [] g = absurd g
closed_before c keeps s (kind.Then x) f d (m ∷ ms) g = inner_before c keeps s (kind.Then x) (is_then x) f d m ms g
closed_before c keeps s (kind.Else x) f d [] g = absurd g
closed_before c keeps s (kind.Else x) f d (m ∷ ms) g = inner_before c keeps s (kind.Else x) (is_else x) f d m ms g

-- before an else
in_else_before : (c : Context) (s : List Bool) (k : FrameKind) (f d : Code) (ls : List OpenBlock) → IsDerivable c s (in_else k d ls) → IsDerivable c s (open_at (open_block k f d) ls)
in_else_before c s kind.Body f d ls g = absurd g
in_else_before c s (kind.Block b x) f d ls g = absurd g
in_else_before c s (kind.Else x) f d ls g = absurd g
in_else_before c s (kind.Then x) f d [] g = absurd g
in_else_before c s (kind.Then x) f d (m ∷ ms) g =
    let r = holds_pull {W = Row Operand} (arrow_of c x) _
    (λ (a : Arrow) (us : Row Operand). Unit {0} × Derives (within c (kind.Then x ∷ kinds_of (m ∷ ms))) (set_at s (m ∷ ms)) d (known a.from) us)
    (λ (us : Row Operand). Unit {0}) g.0.1 (λ a h. (known a.to, (tt, h.0), tt)) in
    ((r.0, r.1), g.1)

-- before the block
entered_before : (c : Context) (s : List Bool) (k : FrameKind) (l : OpenBlock) (ls : List OpenBlock) → IsDerivable c s (open_at (opened k) (l ∷ ls)) → IsDerivable c s (open_at l ls)
entered_before c s k l ls g = (held_fact (arrow_at c k) _ _ g.1.0 (λ a h. (h.0 ⧺ known (taken_by k a), h.1)), g.1.1)

-- before an instruction that holds no others
pub typed_before : (c : Context) → KeepsKinds c.types → (s : List Bool) (o : Op) (l : OpenBlock) (ls : List OpenBlock) → IsDerivable c s (open_at (more l (Plain o Done)) ls) → IsDerivable c s (open_at l ls)
typed_before c keeps s o l ls g = let r = typed_reached c keeps s l ls o g.0.0 g.0.1 in ((r.0, r.1), g.1)

-- before any instruction
followed_before : (c : Context) → KeepsKinds c.types → (s : List Bool) (i : Instr) (l : OpenBlock) (ls : List OpenBlock) → IsDerivable c s (followed i l ls) → IsDerivable c s (open_at l ls)
followed_before c keeps s (flat.Plain o) l ls g = typed_before c keeps s o l ls g
followed_before c keeps s (flat.Block b x end) l ls g = entered_before c s (kind.Block b x) l ls g
followed_before c keeps s (flat.If x other end) l ls g = entered_before c s (kind.Then x) l ls g
followed_before c keeps s flat.Else l ls g = in_else_before c s l.kind l.first l.code ls g
followed_before c keeps s flat.End l ls g = closed_before c keeps s l.kind l.first l.code ls g

-- what is derived with an instruction behind it is derived
pub derivable_before : (c : Context) → KeepsKinds c.types → (s : List Bool) (i : Instr) (w : Prefix) → IsDerivable c s (follow i w) → IsDerivable c s w
derivable_before c keeps s i (ended k) g = absurd g
derivable_before c keeps s i malformed g = g
derivable_before c keeps s i (open_at l ls) g = followed_before c keeps s i l ls g

-- and with any number of them
pub derivable_before_all : (c : Context) → KeepsKinds c.types → (s : List Bool) (is : List Instr) (w : Prefix) → IsDerivable c s (follow_all is w) → IsDerivable c s w
derivable_before_all c keeps s [] w g = g
derivable_before_all c keeps s (i ∷ is) w g = derivable_before c keeps s i w (derivable_before_all c keeps s is (follow i w) g)

-- what begins no body begins none with more behind it
pub malformed_stays : (is : List Instr) → follow_all is malformed ≡ malformed
malformed_stays [] = refl
malformed_stays (i ∷ is) = malformed_stays is

-- behind a whole body there is nothing
pub ended_breaks : (i : Instr) (is : List Instr) (k : Code) → follow_all (i ∷ is) (ended k) ≡ malformed
ended_breaks i is k = malformed_stays is
