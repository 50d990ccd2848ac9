-- Blocks and loops: what they need, and where the stack stands inside.
use Rattle.std.proofs.Common.{rules, ◌≡◌, ℕ, suc, ◌+◌, ◌<◌, ◌≤◌, List, [], ◌∷◌, Some, length, slice_get, sym, ap, ◌∙◌, subst, add-one, drop, refl}
use Rattle.std.specs.Prelude.{◌^◌, IsSome}
use Rattle.w_types.specs.declared.value.Value.{Value}
use Rattle.w_syntax.specs.Code.{Code, Block, after}
use Rattle.w_syntax.specs.declared.instructions.BlockKind.{BlockKind}
use Rattle.w_syntax.specs.declared.instructions.BlockKind.TheVariants as kind
use Rattle.w_syntax.specs.declared.instructions.BlockType.{BlockType}
use Rattle.w_syntax.specs.declared.instructions.Instr.{Instr}
use Rattle.w_syntax.specs.declared.instructions.Instr.TheVariants as flat
use Rattle.w_syntax.specs.declared.module.Module.{Module}
use Rattle.w_segment.specs.Shape.{Shape, Level, Label}
use Rattle.w_tables.specs.Store as instances
use Rattle.w_reduce.specs.Terms.{Rest, rest_of, Context}
use Rattle.w_reduce.specs.Program.{Program, Arity, arity_of}
use Rattle.w_reduce.specs.Reduced.{steps_to}
use Rattle.w_reduce.specs.Reduce.{next}
use Rattle.w_reduce.specs.Branches.{label_of, block}
use Rattle.w_stands.specs.Values.{stack, store_of}
use Rattle.w_stands.specs.declared.did.Did.TheVariants as did
use Rattle.w_stands.specs.Code.{instrs, IsMark, Reads, stop, plain, block as reads_block, choice as reads_choice, choices as reads_choices, at_end}
use Rattle.w_stands.specs.Stands.{LevelsAre, label}
use Rattle.w_stands.specs.Steps.{Outside, next_of, Configured, MovesAlone, FollowsAlone}
use Rattle.w_stands.proofs.RoomOfFrames.{same_room, room_for_label}
use Rattle.w_stands.proofs.AtInstructions.{here, onward}
use Rattle.w_stands.proofs.PlainSteps.{place_fits}
use Rattle.w_control_ops.specs.Entering.{kept_by, target_of, IsLabelled}
use Rattle.w_control_ops.proofs.EnteredLabels.{Enters, enters, entered, enters_with}

-- ## What stands there

-- a block, and what follows it
pub record ShowsBlock (is : List Instr) (p : ℕ) (c : Code) (q : ℕ) (k : BlockKind) (b : BlockType) (z : ℕ) : Type 0 where
  pub contents : Code
  pub following : Code
  pub shape : c ≡ Block k b contents following
  pub inside : Reads is (suc p) contents z
  pub ends : slice_get is z ≡ Some flat.End
  pub reads : Reads is (suc z) following q

-- it is there
pub shows_block : {is : List Instr} {p q z : ℕ} {c : Code} (k : BlockKind) (b : BlockType) → Reads is p c q → slice_get is p ≡ Some (flat.Block k b z) → ShowsBlock is p c q k b z
shows_block k b (stop m) g = absurd (subst IsMark g m)
shows_block k b (plain h r) g = absurd cc
shows_block {is} {p} {q} {z} k b (reads_block {z = z'} {k = k'} {b = b'} {x = x} {c = d} h i e r) g =
    let s : flat.Block k' b' z' ≡ flat.Block k b z = cc in
    let sk : k' ≡ k = cc s in
    let sb : b' ≡ b = cc s in
    let sz : z' ≡ z = cc s in
    record {
      contents = x;
      following = d;
      shape = ap (λ (n : BlockKind). Block n b' x d) sk ∙ ap (λ (n : BlockType). Block k n x d) sb;
      inside = subst (λ (n : ℕ). Reads is (suc p) x n) sz i;
      ends = subst (λ (n : ℕ). slice_get is n ≡ Some flat.End) sz e;
      reads = subst (λ (n : ℕ). Reads is (suc n) d q) sz r;
    }
shows_block k b (reads_choice h x z r) g = absurd cc
shows_block k b (reads_choices h x t y z r) g = absurd cc

-- what stands around its contents
around_contents : {m : Module} {outer : Context} {behind : Rest} {f p q z : ℕ} {b : BlockType} {x d : Code} {ls : List Level} {e : Context} (k : BlockKind) (a : Arity) (below : List Value) →
    slice_get (instrs m f) z ≡ Some flat.End → Reads (instrs m f) (suc z) d q → Reads (instrs m f) p (Block k b x d) q → LevelsAre m outer behind f q ls e →
    LevelsAre m outer behind f z (Label below (kept_by k a.params a.results) (target_of k p z) ∷ ls) (label_of k b a x (stack below) d e)
unfolding after
around_contents {m} {f = f} {q = q} {z = z} {d = d} kind.Block a below g r s w = label (at_end g) r (subst (λ (n : ℕ). Reads (instrs m f) n d q) (sym (add-one z)) r) w
around_contents kind.Loop a below g r s w = label (at_end g) r s w

-- ## The block

module _ (m : Module) (s : Shape) (k : BlockKind) (b : BlockType) (z : ℕ) (mv : MovesAlone (flat.Block k b z) m s) where
  -- what comes in any configuration
  shown : (u : instances.Store) (p : Program) (o : Outside) (e : Context) (r : Rest) (a : Configured m u s p o e r) →
      let h = here a.stands mv.moves.stage in (w : ShowsBlock (instrs m s.func) s.place h.code h.end k b z)
      × (next_of p u s e r ≡ block p (store_of u) e (stack s.operands) k b w.contents w.following)
  shown u p o e r a =
      let h = here a.stands mv.moves.stage in
      let w = shows_block k b h.reads mv.moves.here in
      (w, ap (λ (x : Rest). next p (store_of u) e (stack s.operands) x.ahead x.code) h.rest ∙ ap (λ (x : Code). next p (store_of u) e (stack s.operands) [] x) w.shape)

  -- the type has an arity, and its parameters are there
  block_enters : Enters m b s.operands
  block_enters =
      let v = mv.moves in
      let w = shown mv.u v.p v.o v.e v.r v.at in
      subst (λ (n : Module). Enters n b s.operands) v.at.source (enters v.p (store_of mv.u) v.e s.operands k b w.0.contents w.0.following (λ q. v.at.applies (w.1 ∙ q)))

  pub block_known : IsSome (arity_of m b)
  block_known = let e = block_enters.is in search (rules, e)

  pub block_fits : (a : Arity) → arity_of m b ≡ Some a → a.params ≤ length s.operands
  block_fits a is = enters_with a block_enters is

  -- the places that the stack may go to are numbers of 32 bits
  pub block_place : s.place + 1 < 2 ^ 32
  block_place = place_fits m s.func s.place (flat.Block k b z) (mv.moves.at.short s.func) mv.moves.here

  pub block_end : z + 1 < 2 ^ 32
  block_end =
      let v = mv.moves in
      place_fits m s.func z flat.End (v.at.short s.func) (shown mv.u v.p v.o v.e v.r v.at).0.ends

  -- there is room for the label
  pub block_room : length s.levels < s.capacity.levels
  block_room = room_for_label m mv.u s (flat.Block k b z) refl mv.moves

  -- it goes on in the contents, inside the label
  pub block_follows : (a : Arity) (s' : Shape) → arity_of m b ≡ Some a → IsLabelled 0 a.params (kept_by k a.params a.results) (target_of k s.place z) (s.place + 1) s s' → FollowsAlone did.Went m s s'
  block_follows a s' is l = λ u p o e r at.
      let h = here at.stands mv.moves.stage in
      let w = shown u p o e r at in
      let x = w.0.contents in
      let d = w.0.following in
      let e' = label_of k b a x (stack (drop a.params s.operands)) d e in
      record {
        around = e';
        rest = rest_of x;
        is = w.1 ∙ entered p (store_of u) e s.operands k b x d a (ap (λ (n : Module). arity_of n b) at.source ∙ is) (block_fits a is)
            ∙ ap (λ (vs : List Value). steps_to (store_of u) e' (stack vs) (rest_of x)) (sym l.operands);
        stands = onward s.func (suc s.place) (Label (drop a.params s.operands) (kept_by k a.params a.results) (target_of k s.place z) ∷ s.levels) w.0.inside
            (around_contents k a (drop a.params s.operands) w.0.ends w.0.reads (subst (λ (c : Code). Reads (instrs m s.func) s.place c h.end) w.0.shape h.reads) h.around)
            (l.stage ∙ mv.moves.stage) l.func (l.place ∙ add-one s.place) l.levels;
        room = let t : Shape = record s { levels = Label (drop a.params s.operands) (kept_by k a.params a.results) (target_of k s.place z) ∷ s.levels } in same_room m t s' l.levels l.func l.capacity at.room;
      }
