-- Exits at an else: where a stack stands behind the label of an if that is left there.
use Rattle.std.proofs.Common.{◌≡◌, ℕ, List, ◌∷◌, Some, slice_get, refl, sym, ap, ◌∙◌, subst}
use Rattle.lists.specs.Rows.{Row}
use Rattle.w_types.specs.declared.value.Value.{Value}
use Rattle.w_syntax.specs.declared.instructions.Instr.{Instr}
use Rattle.w_syntax.specs.declared.instructions.Instr.TheVariants as flat
use Rattle.w_syntax.specs.declared.module.Module.{Module}
use Rattle.w_segment.specs.declared.entry.Stage.TheVariants.{Body}
use Rattle.w_segment.specs.Shape.{Shape, Level, Label}
use Rattle.w_segment.specs.Changes.{left, left_at, moved}
use Rattle.w_reduce.specs.Values.{Val}
use Rattle.w_reduce.specs.Store.{Store}
use Rattle.w_reduce.specs.Terms.{Rest, rest_of, Context}
use Rattle.w_reduce.specs.Reduced.{steps_to}
use Rattle.w_reduce.specs.Exits.{leave}
use Rattle.w_stands.specs.Values.{stack, store_of}
use Rattle.w_stands.specs.declared.did.Did.TheVariants as did
use Rattle.w_stands.specs.Code.{instrs, instr_of, Behind, at_end, at_else}
use Rattle.w_stands.specs.Stands.{LevelsAre, label, frame, outermost}
use Rattle.w_stands.specs.Steps.{FollowsAlone}
use Rattle.w_stands.specs.Room.{HasRoom}
use Rattle.w_stands.proofs.RoomOfFrames.{left_fit}
use Rattle.w_stands.proofs.AtInstructions.{onward}
use Rattle.w_control_ops.specs.Exits.{ExitsAlone}
use Rattle.w_stands.proofs.ManyTakenOperands.{stack_append}
use Rattle.w_control_ops.proofs.LeftLevels.{Left, left_there, to_left}

-- contents that end at an else go on where the label leads
behind_else : {is : List Instr} {q t z : ℕ} → Behind is q t z → slice_get is q ≡ Some flat.Else → z ≡ t
behind_else (at_end g) h = absurd cc
behind_else (at_else g) h = refl

-- a label, at an else
else_label : {m : Module} {outer : Context} {behind : Rest} {q : ℕ} {ls : List Level} {e : Context} (u : Store) (s s' : Shape) → LevelsAre m outer behind s.func q ls e → s.levels ≡ ls →
    slice_get (instrs m s.func) q ≡ Some flat.Else → s.stage ≡ Body → ((below : List Value) (n t : ℕ) (outside : List Level) → ls ≡ Label below n t ∷ outside → s' ≡ moved t (left s)) →
    Left m outer behind u s' (leave u e (stack s.operands))
else_label u s s' (label {q = q} {n = n} {target = t} {below = below} {rest = rest} {ls = ls} {e = e} b k g w) l mark stage after =
    let z = behind_else b mark in
    let is = after below n t ls refl ∙ ap (λ (x : List Level). moved t (left_at x s)) l in
    record {
      around = e;
      rest = rest_of rest;
      is = ap (λ (x : Row Val). steps_to u e x (rest_of rest)) (sym (stack_append s.operands below)) ∙ ap (λ (x : Shape). steps_to u e (stack x.operands) (rest_of rest)) (sym is);
      stands = onward s.func _ ls k w (ap (λ (x : Shape). x.stage) is ∙ stage) (ap (λ (x : Shape). x.func) is) (ap (λ (x : Shape). x.place) is ∙ sym z) (ap (λ (x : Shape). x.levels) is);
    }
else_label u s s' (frame n k w) l mark stage after = absurd cc
else_label u s s' (outermost n) l mark stage after = absurd cc

-- each frame still has room
else_room : {m : Module} {outer : Context} {behind : Rest} {q : ℕ} {ls : List Level} {e : Context} (s s' : Shape) → LevelsAre m outer behind s.func q ls e → s.levels ≡ ls →
    slice_get (instrs m s.func) q ≡ Some flat.Else → ((below : List Value) (n t : ℕ) (outside : List Level) → ls ≡ Label below n t ∷ outside → s' ≡ moved t (left s)) → HasRoom m s → HasRoom m s'
else_room {m} s s' (label {n = n} {target = t} {below = below} {ls = ls} b k g w) l mark after room =
    subst (HasRoom m) (sym (after below n t ls refl)) (left_fit m s s.levels refl room)
else_room s s' (frame n k w) l mark after room = absurd cc
else_room s s' (outermost n) l mark after room = absurd cc

module _ (m : Module) (s : Shape) (k : ExitsAlone m s) where
  pub exit_else : (s' : Shape) → instr_of m s.func s.place ≡ Some flat.Else → ((below : List Value) (n t : ℕ) (outside : List Level) → s.levels ≡ Label below n t ∷ outside → s' ≡ moved t (left s)) →
      FollowsAlone did.Went m s s'
  exit_else s' mark after = λ u p o e r a.
      let w = left_there m s k u p o e r a in
      to_left m s k u p o e r s' w.0 (else_label (store_of u) s s' w.1.2 refl (subst (λ (q : ℕ). instr_of m s.func q ≡ Some flat.Else) (sym w.1.1) mark) k.stage after)
      (else_room s s' w.1.2 refl (subst (λ (q : ℕ). instr_of m s.func q ≡ Some flat.Else) (sym w.1.1) mark) after a.room)
