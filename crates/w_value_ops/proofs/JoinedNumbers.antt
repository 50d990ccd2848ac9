-- What instructions need that join two numbers to one, and where they go.
use Rattle.std.proofs.Common.{◌≡◌, ℕ, ◌+◌, ◌<◌, ◌≤◌, List, [], ◌∷◌, Some, length, drop, refl, sym, ap, ◌∙◌, arith, subst}
use Rattle.std.specs.Prelude.{◌^◌, Result, Ok, Err}
use Rattle.lists.specs.Rows.{Row, ◌▹◌}
use Rattle.w_types.specs.declared.value.Value.{Value}
use Rattle.w_num.specs.declared.fault.NumFault.{NumFault}
use Rattle.w_syntax.specs.Code.{Code}
use Rattle.w_syntax.specs.declared.instructions.Instr.TheVariants as flat
use Rattle.w_syntax.specs.declared.instructions.Op.{Op}
use Rattle.w_syntax.specs.declared.numeric.IntType.{IntType}
use Rattle.w_syntax.specs.declared.module.Module.{Module}
use Rattle.w_segment.specs.declared.entry.Stage.TheVariants.{Body}
use Rattle.w_segment.specs.Shape.{Shape}
use Rattle.w_tables.specs.Store as instances
use Rattle.w_reduce.specs.Values.{Val}
use Rattle.w_reduce.specs.Terms.{Rest, rest_of, Context}
use Rattle.w_reduce.specs.Program.{Program}
use Rattle.w_reduce.specs.Reduced.{Reduced, steps_to, take_number, number, unless_fault, trap_of}
use Rattle.w_reduce.specs.Reduce.{instruction}
use Rattle.w_stands.specs.Values.{stack, store_of}
use Rattle.w_stands.specs.declared.did.Did.TheVariants as did
use Rattle.w_stands.specs.Code.{instr_of}
use Rattle.w_stands.specs.Steps.{Outside, Configured, MovesAlone, FollowsAlone}
use Rattle.w_stands.proofs.PlainSteps.{following, applies, next_is, went, place_fits}
use Rattle.w_stands.specs.GoingOn.{replaced}
use Rattle.w_stands.specs.Numbers.{IsNumber, bits_in, value_of}
use Rattle.w_value_ops.specs.Numbers.{given}
use Rattle.w_value_ops.proofs.Behind.{replaced_next}
use Rattle.w_stands.proofs.Numbers.{number_val}
use Rattle.w_value_ops.proofs.Operands.{TakesTwo, same_top, two_there, two_taken}

-- the rule of an instruction that joins numbers of type t to one of type w, or traps
abbrev pub joining : instances.Store → Context → IntType → (ℕ → ℕ → Result ℕ NumFault) → Code → Row Val × ℕ → ℕ → Reduced
joining u e w f c q b = unless_fault (f q.1 b) (λ r. steps_to (store_of u) e (q.0 ▹ number w r) (rest_of c))

-- in any configuration
abbrev pub IsJoining : Op → IntType → IntType → (ℕ → ℕ → Result ℕ NumFault) → Type 0
IsJoining i t w f = (p : Program) (u : instances.Store) (e : Context) (vs : List Value) (c : Code) →
    instruction p (store_of u) e (stack vs) i c ≡ take_number t (stack vs) (λ q. take_number t q.0 (λ q'. joining u e w f c q' q.1))

-- what the code of such an instruction needs
pub record NeedsTwo (t : IntType) (s : Shape) : Type 0 where
  pub some : 2 ≤ length s.operands
  pub one : (a b : Value) → s.operands ≡ b ∷ a ∷ drop 2 s.operands → IsNumber t a
  pub other : (a b : Value) → s.operands ≡ b ∷ a ∷ drop 2 s.operands → IsNumber t b
  pub place : s.place + 1 < 2 ^ 32

module _ (m : Module) (s : Shape) (i : Op) (t w : IntType) (f : ℕ → ℕ → Result ℕ NumFault) (rule : IsJoining i t w f) where
  two_of : (u : instances.Store) (p : Program) (o : Outside) (e : Context) (r : Rest) (a : Configured m u s p o e r) (stage : s.stage ≡ Body) →
      instr_of m s.func s.place ≡ Some (flat.Plain i) → TakesTwo t s.operands
  two_of u p o e r a stage at =
      let c = following m u s p o e r i a stage at in
      two_there t s.operands (joining u e w f c) (λ q. applies m u s p o e r i a stage at (rule p u e s.operands c ∙ q))

  pub join_needs : MovesAlone (flat.Plain i) m s → NeedsTwo t s
  join_needs k =
      let mv = k.moves in
      let h = two_of k.u mv.p mv.o mv.e mv.r mv.at mv.stage mv.here in
      let long = ap (λ (l : List Value). length l) h.is in
      record {
        some = omega (arith, long);
        one = λ a b whole. subst (IsNumber t) (same_top (h.below ∷ h.rest) h.below a h.rest (drop 2 s.operands) refl (same_top s.operands h.top b (h.below ∷ h.rest) (a ∷ drop 2 s.operands) h.is whole).1).0 h.one;
        other = λ a b whole. subst (IsNumber t) (same_top s.operands h.top b (h.below ∷ h.rest) (a ∷ drop 2 s.operands) h.is whole).0 h.other;
        place = place_fits m s.func s.place (flat.Plain i) (mv.at.short s.func) mv.here;
      }

  -- what the rule comes to
  joined_is : (u : instances.Store) (p : Program) (o : Outside) (e : Context) (r : Rest) (x : Configured m u s p o e r) (stage : s.stage ≡ Body)
      (at : instr_of m s.func s.place ≡ Some (flat.Plain i)) (a b : Value) → s.operands ≡ b ∷ a ∷ drop 2 s.operands →
      instruction p (store_of u) e (stack s.operands) i (following m u s p o e r i x stage at)
      ≡ joining u e w f (following m u s p o e r i x stage at) (stack (drop 2 s.operands), bits_in a) (bits_in b)
  joined_is u p o e r x stage at a b whole =
      let c = following m u s p o e r i x stage at in
      let h = two_of u p o e r x stage at in
      let top = same_top s.operands h.top b (h.below ∷ h.rest) (a ∷ drop 2 s.operands) h.is whole in
      let beneath = same_top (h.below ∷ h.rest) h.below a h.rest (drop 2 s.operands) refl top.1 in
      rule p u e s.operands c ∙ two_taken t s.operands (joining u e w f c) h
      ∙ ap (λ (l : List Value). joining u e w f c (stack l, bits_in h.below) (bits_in h.top)) beneath.1
      ∙ ap (λ (y : Value). joining u e w f c (stack (drop 2 s.operands), bits_in y) (bits_in h.top)) beneath.0
      ∙ ap (λ (y : Value). joining u e w f c (stack (drop 2 s.operands), bits_in a) (bits_in y)) top.0

  gives : (o : Result ℕ NumFault) (v : Value) → Ok v ≡ given w o → (n : ℕ) × (o ≡ Ok n) × (v ≡ value_of w n)
  gives (Ok n) v e = (n, refl, cc)
  gives (Err x) v e = absurd cc

  faults : (o : Result ℕ NumFault) (x : NumFault) → Err x ≡ given w o → o ≡ Err x
  faults (Ok n) x e = absurd cc
  faults (Err y) x e = cc

  pub join_follows : (s' : Shape) (a b v : Value) → MovesAlone (flat.Plain i) m s → s.operands ≡ b ∷ a ∷ drop 2 s.operands →
      Ok v ≡ given w (f (bits_in a) (bits_in b)) → s' ≡ replaced 2 v s → FollowsAlone did.Went m s s'
  join_follows s' a b v k whole made after = λ u p o e r x.
      let c = following m u s p o e r i x k.moves.stage k.moves.here in
      let g = gives (f (bits_in a) (bits_in b)) v made in
      let row : stack (drop 2 s.operands) ▹ number w g.0 ≡ stack s'.operands =
      sym (ap (λ (y : Shape). stack y.operands) after ∙ ap (λ (y : Value). stack (y ∷ drop 2 s.operands)) g.2 ∙ ap (λ (y : Val). stack (drop 2 s.operands) ▹ y) (number_val w g.0)) in
      went m u s p o e r i x k.moves.stage k.moves.here [] u s'
      (replaced_next 2 v s s' after k.moves.stage)
      (joined_is u p o e r x k.moves.stage k.moves.here a b whole
      ∙ ap (λ (y : Result ℕ NumFault). unless_fault y (λ n. steps_to (store_of u) e (stack (drop 2 s.operands) ▹ number w n) (rest_of c))) g.1
      ∙ ap (λ (l : Row Val). steps_to (store_of u) e l (rest_of c)) row)

  pub join_traps : (s' : Shape) (a b : Value) (x : NumFault) → MovesAlone (flat.Plain i) m s → s.operands ≡ b ∷ a ∷ drop 2 s.operands →
      Err x ≡ given w (f (bits_in a) (bits_in b)) → s' ≡ s → FollowsAlone (did.Trapped (trap_of x)) m s s'
  join_traps s' a b x k whole made same = λ u. (
    λ p o e r y.
        let c = following m u s p o e r i y k.moves.stage k.moves.here in
        next_is m u s p o e r i y k.moves.stage k.moves.here
        ∙ joined_is u p o e r y k.moves.stage k.moves.here a b whole
        ∙ ap (λ (z : Result ℕ NumFault). unless_fault z (λ n. steps_to (store_of u) e (stack (drop 2 s.operands) ▹ number w n) (rest_of c))) (faults (f (bits_in a) (bits_in b)) x made),
    refl,
    refl,
    same,
  )
