-- Branches: the label that one goes to is there, and where the stack stands behind it.
use Rattle.std.proofs.Common.{◌≡◌, ℕ, zero, suc, ◌≤◌, List, ◌++◌, Some, true, length, refl, sym, ap, ◌∙◌, subst, take}
use Rattle.std.specs.Prelude.{◌≢◌}
use Rattle.lists.specs.Rows.{Row, ◌⧺◌}
use Rattle.w_types.specs.declared.value.Value.{Value}
use Rattle.w_syntax.specs.Code.{Code, after}
use Rattle.w_syntax.specs.declared.instructions.Instr.TheVariants as flat
use Rattle.w_syntax.specs.declared.instructions.Op.{Op}
use Rattle.w_syntax.specs.declared.module.Module.{Module}
use Rattle.w_segment.specs.Shape.{Shape, Level, Target, label_at, IsAt}
use Rattle.w_segment.specs.Changes.{branched}
use Rattle.w_segment.specs.Holds.{Holds}
use Rattle.w_segment.proofs.FactsOfValues.{branched_holds}
use Rattle.w_tables.specs.Store as instances
use Rattle.w_reduce.specs.Values.{Val}
use Rattle.w_reduce.specs.Store.{Store}
use Rattle.w_reduce.specs.Terms.{Rest, rest_of, Context}
use Rattle.w_reduce.specs.Program.{Program}
use Rattle.w_reduce.specs.Reduced.{Reduced, Stuck, steps_to}
use Rattle.w_reduce.specs.Branches.{branch}
use Rattle.w_stands.specs.Values.{stack, store_of}
use Rattle.w_stands.specs.declared.did.Did.TheVariants as did
use Rattle.w_stands.specs.Code.{instrs, Reads}
use Rattle.w_stands.specs.Keeps.{Keeps}
use Rattle.w_stands.specs.Stands.{LevelsAre, label, frame, outermost}
use Rattle.w_stands.specs.Steps.{Outside, next_of, Configured, MovesAlone, FollowsAlone}
use Rattle.w_stands.specs.Taking.{Kind, Going, IsTaking, AreOf, taken_of}
use Rattle.w_stands.specs.Room.{HasRoom}
use Rattle.w_stands.proofs.RoomOfFrames.{same_room, branch_fit}
use Rattle.w_stands.proofs.AtInstructions.{onward}
use Rattle.w_control_ops.proofs.OperandsAtInstructions.{arrives}
use Rattle.w_stands.proofs.ManyTakenOperands.{stack_take, stack_enough, stack_append}

-- ## Where a branch goes

-- the label, and what it leads to
pub record Branches (m : Module) (outer : Context) (behind : Rest) (u : Store) (f l : ℕ) (ls : List Level) (vs : List Value) (d : Reduced) : Type 0 where
  pub target : Target
  pub at : label_at l ls ≡ Some target
  pub fits : target.arity ≤ length vs
  pub end : ℕ
  pub code : Code
  pub around : Context
  pub is : d ≡ steps_to u around (stack (take target.arity vs ++ target.below)) (rest_of code)
  pub reads : Reads (instrs m f) target.target code end
  pub stands : LevelsAre m outer behind f end target.outer around

-- there is one where the rule applies
pub branches : {m : Module} {outer : Context} {behind : Rest} {f q : ℕ} {ls : List Level} {e : Context} (u : Store) (l : ℕ) (vs : List Value) → LevelsAre m outer behind f q ls e →
    branch u l e (stack vs) ≢ Stuck → Branches m outer behind u f l ls vs (branch u l e (stack vs))
branches u zero vs (label {q' = q'} {n = n} {target = t} {below = below} {again = again} {rest = rest} {ls = ls} {e = e} b k g w) h =
    let go : Row Val × Row Val → Reduced = λ (x : Row Val × Row Val). steps_to u e (stack below ⧺ x.1) (rest_of (after again rest)) in
    let fits = stack_enough n vs go h in
    record {
      target = record { below = below; arity = n; target = t; outer = ls };
      at = refl;
      fits = fits;
      end = q';
      code = after again rest;
      around = e;
      is = stack_take n vs go fits ∙ ap (λ (x : Row Val). steps_to u e x (rest_of (after again rest))) (sym (stack_append (take n vs) below));
      reads = g;
      stands = w;
    }
branches u (suc l) vs (label b k g w) h =
    let r = branches u l vs w h in
    record { target = r.target; at = r.at; fits = r.fits; end = r.end; code = r.code; around = r.around; is = r.is; reads = r.reads; stands = r.stands }
branches u zero vs (frame n k w) h = absurd (h refl)
branches u (suc l) vs (frame n k w) h = absurd (h refl)
branches u zero vs (outermost n) h = absurd (h refl)
branches u (suc l) vs (outermost n) h = absurd (h refl)

-- ## A branch that is taken, with these operands

-- the stack in the same place, with these operands left
pub record Beneath (s : Shape) (vs : List Value) (t : Shape) : Type 0 where
  pub levels : t.levels ≡ s.levels
  pub operands : t.operands ≡ vs
  pub func : t.func ≡ s.func
  pub stage : t.stage ≡ s.stage
  pub capacity : t.capacity ≡ s.capacity

-- it branches to the label
abbrev pub IsBranched : ℕ → Shape → Shape → Type 0
IsBranched l t s' = (x : Target) → label_at l t.levels ≡ Some x → s' ≡ branched x t

-- an instruction whose rule branches
abbrev pub IsBranching : List Kind → Going → Module → List Value → List Value → ℕ → List Value → Type 0
IsBranching ks go m args rest l vs =
    (p : Program) (u : instances.Store) (e : Context) (c : Code) → go p (store_of u) e c (taken_of ks args) (stack rest) ≡ branch (store_of u) l e (stack vs)

module _ (m : Module) (s : Shape) (i : Op) (ks : List Kind) (go : Going) (rule : IsTaking i ks go) (k : MovesAlone (flat.Plain i) m s) (args rest : List Value)
    (is : s.operands ≡ args ++ rest) (of : AreOf ks args) (l : ℕ) (vs : List Value) (does : IsBranching ks go m args rest l vs) where
  -- in any configuration
  popped : (u : instances.Store) (p : Program) (o : Outside) (e : Context) (r : Rest) → Configured m u s p o e r →
      (next_of p u s e r ≡ branch (store_of u) l e (stack vs)) × Branches m o.outer o.behind (store_of u) s.func l s.levels vs (branch (store_of u) l e (stack vs))
  popped u p o e r a =
      let v = arrives m u s p o e r i ks go rule a k.moves.stage k.moves.here args rest is of in
      let q = v.is ∙ does p u e v.following in
      (q, branches (store_of u) l vs v.around (λ x. a.applies (q ∙ x)))

  -- the label is there
  pub taken_there : (t : Shape) → Beneath s vs t → IsAt l t
  taken_there t b =
      let mv = k.moves in
      let w = (popped k.u mv.p mv.o mv.e mv.r mv.at).1 in
      (w.target, ap (label_at l) b.levels ∙ w.at, subst (λ (xs : List Value). w.target.arity ≤ length xs) (sym b.operands) w.fits)

  -- it goes on there
  pub taken_follows : (t s' : Shape) → Beneath s vs t → IsBranched l t s' → FollowsAlone did.Went m s s'
  taken_follows t s' b to = λ u p o e r a.
      let w = popped u p o e r a in
      let g = w.1 in
      let after = to g.target (ap (label_at l) b.levels ∙ g.at) in
      record {
        around = g.around;
        rest = rest_of g.code;
        is = w.0 ∙ g.is ∙ ap (λ (xs : List Value). steps_to (store_of u) g.around (stack (take g.target.arity xs ++ g.target.below)) (rest_of g.code)) (sym b.operands)
            ∙ ap (λ (x : Shape). steps_to (store_of u) g.around (stack x.operands) (rest_of g.code)) (sym after);
        stands = onward s.func g.target.target g.target.outer g.reads g.stands (ap (λ (x : Shape). x.stage) after ∙ b.stage ∙ k.moves.stage) (ap (λ (x : Shape). x.func) after ∙ b.func)
            (ap (λ (x : Shape). x.place) after) (ap (λ (x : Shape). x.levels) after);
        room = subst (HasRoom m) (sym after) (branch_fit m t.capacity t.func l t.levels g.target (ap (label_at l) b.levels ∙ g.at) (same_room m s t b.levels b.func b.capacity a.room));
      }

-- what held of every value still holds
pub branch_keeps : (l : ℕ) (s t s' : Shape) → IsAt l t → IsBranched l t s' → ((P : Value → Type 0) → Holds P s → Holds P t) → Keeps s s'
branch_keeps l s t s' at to keep = λ test on h.
    subst (Holds (λ v. test v ≡ true)) (sym (to at.0 at.1)) (branched_holds (λ v. test v ≡ true) l at.0 t at.1 (keep (λ v. test v ≡ true) h))
