-- What numeric instructions need, and where they go.
use Rattle.std.proofs.Common.{◌≡◌, ℕ, ◌+◌, ◌<◌, List, [], ◌∷◌, Some, length, drop, sym, ap, ◌∙◌, arith, subst}
use Rattle.std.specs.Prelude.{◌^◌}
use Rattle.lists.specs.Rows.{Row, ◌▹◌}
use Rattle.w_types.specs.declared.value.Value.{Value}
use Rattle.w_syntax.specs.Code.{Code}
use Rattle.w_syntax.specs.declared.instructions.Instr.TheVariants as flat
use Rattle.w_syntax.specs.declared.instructions.Op.{Op}
use Rattle.w_syntax.specs.declared.numeric.IntType.{IntType}
use Rattle.w_syntax.specs.declared.module.Module.{Module}
use Rattle.w_segment.specs.declared.entry.Stage.TheVariants.{Body}
use Rattle.w_segment.specs.Shape.{Shape}
use Rattle.w_tables.specs.Store as instances
use Rattle.w_reduce.specs.Values.{Val}
use Rattle.w_reduce.specs.Terms.{Rest, rest_of, Context}
use Rattle.w_reduce.specs.Program.{Program}
use Rattle.w_reduce.specs.Reduced.{Reduced, steps_to, take_number, number}
use Rattle.w_reduce.specs.Reduce.{instruction}
use Rattle.w_stands.specs.Values.{stack, store_of}
use Rattle.w_stands.specs.Code.{instr_of}
use Rattle.w_stands.specs.declared.did.Did.TheVariants as did
use Rattle.w_stands.specs.Steps.{Outside, next_of, Configured, LeadsTo, MovesAlone, FollowsAlone}
use Rattle.w_stands.proofs.PlainSteps.{following, applies, went, place_fits}
use Rattle.w_stands.specs.GoingOn.{replaced}
use Rattle.w_stands.specs.Numbers.{IsNumber, bits_in, value_of}
use Rattle.w_value_ops.proofs.Behind.{replaced_next}
use Rattle.w_stands.proofs.Numbers.{TakesNumber, number_there, number_taken, number_val}
use Rattle.w_value_ops.proofs.Operands.{same_top}

-- the rule of an instruction that turns a number of type t into one of type w
abbrev pub turning : instances.Store → Context → IntType → IntType → (ℕ → ℕ) → Code → Row Val × ℕ → Reduced
turning u e t w f c q = steps_to (store_of u) e (q.0 ▹ number w (f q.1)) (rest_of c)

-- the operands after it
turned_row : (w : IntType) (f : ℕ → ℕ) (v top : Value) (rest vs : List Value) → vs ≡ v ∷ rest → v ≡ value_of w (f (bits_in top)) →
    stack rest ▹ number w (f (bits_in top)) ≡ stack vs
turned_row w f v top rest vs e g =
    sym (ap stack e ∙ ap (λ (x : Value). stack (x ∷ rest)) g ∙ ap (λ (x : Val). stack rest ▹ x) (number_val w (f (bits_in top))))

module _ (m : Module) (u : instances.Store) (s : Shape) (p : Program) (o : Outside) (e : Context) (r : Rest) (a : Configured m u s p o e r) (stage : s.stage ≡ Body) where
  -- an instruction that turns the topmost number
  pub turns_there : (i : Op) (t w : IntType) (f : ℕ → ℕ) (at : instr_of m s.func s.place ≡ Some (flat.Plain i)) →
      ((vs : List Value) (c : Code) → instruction p (store_of u) e (stack vs) i c ≡ take_number t (stack vs) (turning u e t w f c)) → TakesNumber t s.operands
  turns_there i t w f at rule =
      number_there t s.operands (turning u e t w f (following m u s p o e r i a stage at))
      (λ q. applies m u s p o e r i a stage at (rule s.operands (following m u s p o e r i a stage at) ∙ q))

  pub turns : (i : Op) (t w : IntType) (f : ℕ → ℕ) (at : instr_of m s.func s.place ≡ Some (flat.Plain i)) →
      ((vs : List Value) (c : Code) → instruction p (store_of u) e (stack vs) i c ≡ take_number t (stack vs) (turning u e t w f c)) →
      (s' : Shape) (top v : Value) → s.operands ≡ top ∷ drop 1 s.operands → v ≡ value_of w (f (bits_in top)) → s' ≡ replaced 1 v s → LeadsTo m o [] u s' (next_of p u s e r)
  turns i t w f at rule s' top v whole made e' =
      let c = following m u s p o e r i a stage at in
      let h = turns_there i t w f at rule in
      let same = same_top s.operands h.top top h.rest (drop 1 s.operands) h.is whole in
      let made' : v ≡ value_of w (f (bits_in h.top)) = made ∙ ap (λ (x : Value). value_of w (f (bits_in x))) (sym same.0) in
      let ops : s'.operands ≡ v ∷ h.rest = ap (λ (x : Shape). x.operands) e' ∙ ap (λ (l : List Value). v ∷ l) (sym same.1) in
      went m u s p o e r i a stage at [] u s'
      (replaced_next 1 v s s' e' stage)
      (rule s.operands c ∙ number_taken t s.operands (turning u e t w f c) h
      ∙ ap (λ (l : Row Val). steps_to (store_of u) e l (rest_of c)) (turned_row w f v h.top h.rest s'.operands ops made'))

-- ## Calls

-- what the code of such an instruction needs
pub record Needs (m : Module) (t : IntType) (s : Shape) : Type 0 where
  pub some : 0 < length s.operands
  pub number : (v : Value) → s.operands ≡ v ∷ drop 1 s.operands → IsNumber t v
  pub place : s.place + 1 < 2 ^ 32

-- the rule of the instruction, in any configuration
abbrev pub IsTurning : Op → IntType → IntType → (ℕ → ℕ) → Type 0
IsTurning i t w f = (p : Program) (u : instances.Store) (e : Context) (vs : List Value) (c : Code) →
    instruction p (store_of u) e (stack vs) i c ≡ take_number t (stack vs) (turning u e t w f c)

pub turn_needs : (m : Module) (s : Shape) (i : Op) (t w : IntType) (f : ℕ → ℕ) → IsTurning i t w f → MovesAlone (flat.Plain i) m s → Needs m t s
turn_needs m s i t w f rule k =
    let mv = k.moves in
    let h = turns_there m k.u s mv.p mv.o mv.e mv.r mv.at mv.stage i t w f mv.here (rule mv.p k.u mv.e) in
    let long = ap (λ (l : List Value). length l) h.is in
    record {
      some = omega (arith, long);
      number = λ v whole. subst (IsNumber t) (same_top s.operands h.top v h.rest (drop 1 s.operands) h.is whole).0 h.number;
      place = place_fits m s.func s.place (flat.Plain i) (mv.at.short s.func) mv.here;
    }

pub turn_follows : (m : Module) (s s' : Shape) (i : Op) (t w : IntType) (f : ℕ → ℕ) (top v : Value) → IsTurning i t w f → MovesAlone (flat.Plain i) m s →
    s.operands ≡ top ∷ drop 1 s.operands → v ≡ value_of w (f (bits_in top)) → s' ≡ replaced 1 v s → FollowsAlone did.Went m s s'
turn_follows m s s' i t w f top v rule k whole made after = λ u p o e r a.
    turns m u s p o e r a k.moves.stage i t w f k.moves.here (rule p u e) s' top v whole made after
