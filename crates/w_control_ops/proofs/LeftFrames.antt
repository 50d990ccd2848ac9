-- Frames that are left: where a stack stands behind one.
use Rattle.std.proofs.Common.{◌≡◌, ℕ, ◌≤◌, List, [], ◌∷◌, ◌++◌, Option, Some, None, slice_get, true, length, refl, sym, ap, ◌∙◌, subst, take}
use Rattle.lists.specs.Rows.{Row, ◌⧺◌}
use Rattle.w_types.specs.declared.value.Value.{Value}
use Rattle.w_syntax.specs.declared.instructions.Instr.TheVariants as flat
use Rattle.w_syntax.specs.declared.instructions.Op.TheVariants as op
use Rattle.w_syntax.specs.declared.instructions.ControlOp.TheVariants as control
use Rattle.w_syntax.specs.declared.module.Module.{Module}
use Rattle.w_segment.specs.declared.entry.Stage.TheVariants.{Body}
use Rattle.w_segment.specs.Shape.{Shape, Level, Frame, ReturnTarget, frame_at, IsIn}
use Rattle.w_segment.specs.Changes.{returned}
use Rattle.w_segment.specs.Holds.{Holds}
use Rattle.w_segment.proofs.FactsOfValues.{returned_holds}
use Rattle.w_tables.specs.Store as instances
use Rattle.w_reduce.specs.Values.{Val}
use Rattle.w_reduce.specs.Store.{Store}
use Rattle.w_reduce.specs.Terms.{Rest, rest_of, Frame as InFrame, Context}
use Rattle.w_reduce.specs.Program.{Program}
use Rattle.w_reduce.specs.Reduced.{Reduced, steps_to, take_values}
use Rattle.w_reduce.specs.Calls.{around_frame}
use Rattle.w_reduce.specs.Branches.{returns}
use Rattle.w_stands.specs.Values.{stack, local_vals, store_of}
use Rattle.w_stands.specs.Code.{instrs}
use Rattle.w_stands.specs.declared.did.Did.TheVariants as did
use Rattle.w_stands.specs.Keeps.{Keeps}
use Rattle.w_stands.specs.Stands.{LevelsAre, label, frame, outermost, StackIs, values}
use Rattle.w_stands.specs.Steps.{Outside, next_of, Configured, MovesAlone, FollowsAlone}
use Rattle.w_stands.specs.Taking.{Going}
use Rattle.w_stands.specs.Room.{HasRoom}
use Rattle.w_stands.proofs.RoomOfFrames.{same_room, return_fit}
use Rattle.w_stands.proofs.AtInstructions.{onward}
use Rattle.w_control_ops.specs.Ended.{stage_in, ended_in, ended}
use Rattle.w_control_ops.proofs.OperandsAtInstructions.{arrives}
use Rattle.w_stands.proofs.ManyTakenOperands.{stack_take, stack_enough, stack_append}

-- ## The innermost frame

-- levels that are a context are some
pub inside : {m : Module} {outer : Context} {behind : Rest} {f q : ℕ} {ls : List Level} {e : Context} → LevelsAre m outer behind f q ls e → stage_in ls ≡ Body
inside (label b k g w) = refl
inside (frame n k w) = refl
inside (outermost n) = refl

-- what a return from it leads to, and a tail call
pub record Framed (m : Module) (outer : Context) (behind : Rest) (ls : List Level) (e : Context) : Type 0 where
  pub caller : ReturnTarget
  pub at : frame_at ls ≡ Some caller
  pub around : Context
  pub rest : Rest
  pub leads : (u : Store) (vs : Row Val) → returns u e vs ≡ take_values caller.arity vs (λ x. steps_to u around (stack caller.below ⧺ x.1) rest)
  pub stands : (s' : Shape) → s'.levels ≡ caller.outer → s'.func ≡ caller.caller → s'.place ≡ caller.back → s'.stage ≡ stage_in caller.outer → StackIs m outer behind s' around rest
  pub leads_out : (go : Row Val × Rest × Context → Reduced) → around_frame e go ≡ go (stack caller.below, rest, around)
  -- the frame of another function in its place
  pub replaced : (i q n : ℕ) (locals : List (Option Value)) → slice_get (instrs m i) q ≡ None
      → LevelsAre m outer behind i q (Frame caller.below n locals caller.caller caller.back ∷ caller.outer) (InFrame (stack caller.below) n i (local_vals locals) rest ∷ around)

-- there is one in each body
pub framed : {m : Module} {outer : Context} {behind : Rest} {f q : ℕ} {ls : List Level} {e : Context} → LevelsAre m outer behind f q ls e → Framed m outer behind ls e
framed (label b k g w) =
    let r = framed w in
    record { caller = r.caller; at = r.at; around = r.around; rest = r.rest; leads = r.leads; stands = r.stands; leads_out = r.leads_out; replaced = r.replaced }
framed (frame {n = n} {caller = g} {back = b} {below = below} {rest = rest} {ls = ls} {e = e} p k w) = record {
  caller = record { below = below; arity = n; caller = g; back = b; outer = ls };
  at = refl;
  around = e;
  rest = rest_of rest;
  leads = λ u vs. refl;
  stands = λ s' l f at t. onward g b ls k w (t ∙ inside w) f at l;
  leads_out = λ go. refl;
  replaced = λ i q n' locals ends. frame ends k w;
}
framed {outer = outer} {behind = behind} (outermost {n = n} {caller = g} {back = b} {below = below} p) = record {
  caller = record { below = below; arity = n; caller = g; back = b; outer = [] };
  at = refl;
  around = outer;
  rest = behind;
  leads = λ u vs. refl;
  stands = λ s' l f at t. values t l;
  leads_out = λ go. refl;
  replaced = λ i q n' locals ends. outermost ends;
}

-- ## Behind a frame

-- the same but for the stage
pub record IsEnded (s s' : Shape) : Type 0 where
  pub levels : s'.levels ≡ s.levels
  pub operands : s'.operands ≡ s.operands
  pub func : s'.func ≡ s.func
  pub place : s'.place ≡ s.place
  pub stage : s'.stage ≡ stage_in s.levels
  pub capacity : s'.capacity ≡ s.capacity

ended_parts_in : (ls : List Level) (s s' : Shape) → s.levels ≡ ls → s' ≡ ended_in ls s → s.stage ≡ Body → IsEnded s s'
ended_parts_in [] s s' l e b = record {
  levels = ap (λ (x : Shape). x.levels) e;
  operands = ap (λ (x : Shape). x.operands) e;
  func = ap (λ (x : Shape). x.func) e;
  place = ap (λ (x : Shape). x.place) e;
  stage = ap (λ (x : Shape). x.stage) e ∙ ap stage_in (sym l);
  capacity = ap (λ (x : Shape). x.capacity) e;
}
ended_parts_in (k ∷ ls) s s' l e b = record {
  levels = ap (λ (x : Shape). x.levels) e;
  operands = ap (λ (x : Shape). x.operands) e;
  func = ap (λ (x : Shape). x.func) e;
  place = ap (λ (x : Shape). x.place) e;
  stage = ap (λ (x : Shape). x.stage) e ∙ b ∙ ap stage_in (sym l);
  capacity = ap (λ (x : Shape). x.capacity) e;
}

pub ended_parts : (s s' : Shape) → s' ≡ ended s → s.stage ≡ Body → IsEnded s s'
ended_parts s s' e b = ended_parts_in s.levels s s' refl e b

-- what held of every value still holds
ended_holds_in : (P : Value → Type 0) (ls : List Level) (s : Shape) → Holds P s → Holds P (ended_in ls s)
ended_holds_in P [] s h = record { operands = h.operands; levels = h.levels }
ended_holds_in P (l ∷ ls) s h = h

pub ended_holds : (P : Value → Type 0) (s : Shape) → Holds P s → Holds P (ended s)
ended_holds P s h = ended_holds_in P s.levels s h

-- and each frame still has room
ended_room_in : (m : Module) (ls : List Level) (s : Shape) → HasRoom m s → HasRoom m (ended_in ls s)
ended_room_in m [] s h = h
ended_room_in m (l ∷ ls) s h = h

pub ended_room : (m : Module) (s : Shape) → HasRoom m s → HasRoom m (ended s)
ended_room m s h = ended_room_in m s.levels s h

-- ## return

-- its rule
returning : Going
returning p u e c xs vs = returns u e vs

module _ (m : Module) (s : Shape) (k : MovesAlone (flat.Plain (op.Control control.Return)) m s) where
  -- in any configuration
  left : (u : instances.Store) (p : Program) (o : Outside) (e : Context) (r : Rest) → Configured m u s p o e r →
      (next_of p u s e r ≡ returns (store_of u) e (stack s.operands)) × Framed m o.outer o.behind s.levels e
  unfolding returning
  left u p o e r a =
      let v = arrives m u s p o e r (op.Control control.Return) [] returning (λ p s e vs c. refl) a k.moves.stage k.moves.here [] s.operands refl tt in
      (v.is, framed v.around)

  -- the results are there
  enough : (u : instances.Store) (p : Program) (o : Outside) (e : Context) (r : Rest) (a : Configured m u s p o e r) → (w : Framed m o.outer o.behind s.levels e) →
      next_of p u s e r ≡ returns (store_of u) e (stack s.operands) → w.caller.arity ≤ length s.operands
  enough u p o e r a w q =
      stack_enough w.caller.arity s.operands (λ x. steps_to (store_of u) w.around (stack w.caller.below ⧺ x.1) w.rest) (λ z. a.applies (q ∙ w.leads (store_of u) (stack s.operands) ∙ z))

  -- there is a frame with its results
  pub return_there : IsIn s
  return_there =
      let mv = k.moves in
      let w = left k.u mv.p mv.o mv.e mv.r mv.at in
      (w.1.caller, w.1.at, enough k.u mv.p mv.o mv.e mv.r mv.at w.1 w.0)

  -- it goes on in the caller
  pub return_follows : (t s' : Shape) → ((c : ReturnTarget) → frame_at s.levels ≡ Some c → t ≡ returned c.arity c s) → s' ≡ ended t → FollowsAlone did.Went m s s'
  return_follows t s' back after = λ u p o e r a.
      let w = left u p o e r a in
      let g = w.1 in
      let c = g.caller in
      let fits = enough u p o e r a g w.0 in
      let e1 = back c g.at in
      let h = ended_parts t s' after (ap (λ (x : Shape). x.stage) e1 ∙ k.moves.stage) in
      let ops : s'.operands ≡ take c.arity s.operands ++ c.below = h.operands ∙ ap (λ (x : Shape). x.operands) e1 in
      record {
        around = g.around;
        rest = g.rest;
        is = w.0 ∙ g.leads (store_of u) (stack s.operands)
            ∙ stack_take c.arity s.operands (λ x. steps_to (store_of u) g.around (stack c.below ⧺ x.1) g.rest) fits
            ∙ ap (λ (x : Row Val). steps_to (store_of u) g.around x g.rest) (sym (stack_append (take c.arity s.operands) c.below))
            ∙ ap (λ (xs : List Value). steps_to (store_of u) g.around (stack xs) g.rest) (sym ops);
        stands = g.stands s' (h.levels ∙ ap (λ (x : Shape). x.levels) e1) (h.func ∙ ap (λ (x : Shape). x.func) e1) (h.place ∙ ap (λ (x : Shape). x.place) e1)
            (h.stage ∙ ap (λ (x : Shape). stage_in x.levels) e1);
        room = same_room m t s' h.levels h.func h.capacity (subst (HasRoom m) (sym e1) (return_fit m s.capacity s.func s.levels c g.at a.room));
      }

  -- what held of every value still holds
  pub return_keeps : (t s' : Shape) → ((c : ReturnTarget) → frame_at s.levels ≡ Some c → t ≡ returned c.arity c s) → s' ≡ ended t → Keeps s s'
  return_keeps t s' back after = λ test on h.
      let P : Value → Type 0 = λ v. test v ≡ true in
      let at = return_there in
      subst (Holds P) (sym after) (ended_holds P t (subst (Holds P) (sym (back at.0 at.1)) (returned_holds P at.0.arity at.0 s at.1 h)))
