-- The branch that a caught suspend left: its label is there, and where the stack stands behind it.
use Rattle.std.proofs.Common.{◌≡◌, ℕ, ◌∷◌, [], refl, sym, ap, ◌∙◌, subst}
use Rattle.w_types.specs.declared.value.Value.{Value}
use Rattle.w_syntax.specs.Code.{Code}
use Rattle.w_syntax.specs.declared.module.Module.{Module}
use Rattle.w_segment.specs.declared.entry.Stage.TheVariants.{Body, Branch as AtBranch}
use Rattle.w_segment.specs.Shape.{Shape, IsAt}
use Rattle.w_segment.specs.Changes.{staged}
use Rattle.w_segment.proofs.FactsOfValues.{staged_holds}
use Rattle.w_tables.specs.Store as instances
use Rattle.w_reduce.specs.Terms.{Branch, Rest, rest_of, Context}
use Rattle.w_reduce.specs.Program.{Program}
use Rattle.w_reduce.specs.Reduced.{steps_to}
use Rattle.w_reduce.specs.Branches.{branch}
use Rattle.w_reduce.specs.Reduce.{next}
use Rattle.w_stands.specs.Values.{stack, store_of}
use Rattle.w_stands.specs.declared.did.Did.TheVariants as did
use Rattle.w_stands.specs.Keeps.{Keeps}
use Rattle.w_stands.specs.Stands.{LevelsAre, StackIs, body, left, fresh, values}
use Rattle.w_stands.specs.Steps.{Outside, next_of, Configured, FollowsAlone}
use Rattle.w_stands.specs.Room.{HasRoom}
use Rattle.w_stands.proofs.RoomOfFrames.{branch_fit}
use Rattle.w_stands.proofs.AtInstructions.{onward}
use Rattle.w_control_ops.specs.Left.{BranchLeft}
use Rattle.w_control_ops.proofs.Branches.{Branches, branches, IsBranched, branch_keeps}

-- a stack at such a branch has levels around it, and the branch comes next
pub record LeftHere (m : Module) (outer : Context) (behind : Rest) (l : ℕ) (s : Shape) (e : Context) (r : Rest) : Type 0 where
  pub end : ℕ
  pub code : Code
  pub rest : r ≡ record { ahead = Branch l ∷ []; code = code }
  pub around : LevelsAre m outer behind s.func end s.levels e

same_label : {l k : ℕ} → AtBranch l ≡ AtBranch k → l ≡ k
same_label h = cc

left_here : {m : Module} {outer : Context} {behind : Rest} {l : ℕ} {s : Shape} {e : Context} {r : Rest} → StackIs m outer behind s e r → s.stage ≡ AtBranch l → LeftHere m outer behind l s e r
left_here (body g k w) h = absurd cc
left_here {l = l} (left {l = k} {q = q} {c = c} g j w) h =
    let e : k ≡ l = same_label (sym g ∙ h) in
    record { end = q; code = c; rest = ap (λ (n : ℕ). let r : Rest = record { ahead = Branch n ∷ []; code = c } in r) e; around = w }
left_here (fresh g k) h = absurd cc
left_here (values g k) h = absurd cc

module _ (l : ℕ) (m : Module) (s : Shape) (k : BranchLeft l m s) where
  -- in any configuration
  popped : (u : instances.Store) (p : Program) (o : Outside) (e : Context) (r : Rest) → Configured m u s p o e r →
      (next_of p u s e r ≡ branch (store_of u) l e (stack s.operands)) × Branches m o.outer o.behind (store_of u) s.func l s.levels s.operands (branch (store_of u) l e (stack s.operands))
  popped u p o e r a =
      let h = left_here a.stands k.stage in
      let q : next_of p u s e r ≡ branch (store_of u) l e (stack s.operands) = ap (λ (x : Rest). next p (store_of u) e (stack s.operands) x.ahead x.code) h.rest in
      (q, branches (store_of u) l s.operands h.around (λ x. a.applies (q ∙ x)))

  -- the label is there
  pub left_there : (t : Shape) → t ≡ staged Body s → IsAt l t
  left_there t is =
      let w = (popped k.u k.p k.o k.e k.r k.at).1 in
      subst (IsAt l) (sym is) (w.target, w.at, w.fits)

  -- and so the stack branches in its body
  from_body : (t s' : Shape) → t ≡ staged Body s → IsBranched l t s' → IsBranched l (staged Body s) s'
  from_body t s' is to = subst (λ (x : Shape). IsBranched l x s') is to

  -- it goes on there
  pub left_follows : (t s' : Shape) → t ≡ staged Body s → IsBranched l t s' → FollowsAlone did.Went m s s'
  left_follows t s' is to = λ u p o e r a.
      let w = popped u p o e r a in
      let g = w.1 in
      let after = from_body t s' is to g.target g.at in
      record {
        around = g.around;
        rest = rest_of g.code;
        is = w.0 ∙ g.is ∙ ap (λ (x : Shape). steps_to (store_of u) g.around (stack x.operands) (rest_of g.code)) (sym after);
        stands = onward s.func g.target.target g.target.outer g.reads g.stands (ap (λ (x : Shape). x.stage) after) (ap (λ (x : Shape). x.func) after)
            (ap (λ (x : Shape). x.place) after) (ap (λ (x : Shape). x.levels) after);
        room = subst (HasRoom m) (sym after) (branch_fit m s.capacity s.func l s.levels g.target g.at a.room);
      }

  -- what held of every value still holds
  pub left_keeps : (t s' : Shape) → t ≡ staged Body s → IsBranched l t s' → Keeps s s'
  left_keeps t s' is to = branch_keeps l s (staged Body s) s' (left_there (staged Body s) refl) (from_body t s' is to) (λ P h. staged_holds P Body s h)
