-- What drop and select need, and where they go.
use Rattle.std.proofs.Common.{◌≡◌, ℕ, ◌+◌, ◌<◌, ◌≤◌, List, [], ◌∷◌, length, drop, refl, sym, ap, ◌∙◌, arith, subst}
use Rattle.std.specs.Prelude.{◌^◌, ◌≢◌, zero, suc}
use Rattle.lists.specs.Rows.{Row, ◌▹◌}
use Rattle.w_types.specs.declared.value.Value.{Value}
use Rattle.w_syntax.specs.Code.{Code}
use Rattle.w_syntax.specs.declared.instructions.Instr.TheVariants as flat
use Rattle.w_syntax.specs.declared.instructions.Op.TheVariants as op
use Rattle.w_syntax.specs.declared.instructions.ParametricOp.{ParametricOp}
use Rattle.w_syntax.specs.declared.instructions.ParametricOp.TheVariants as parametric
use Rattle.w_syntax.specs.declared.numeric.IntType.TheVariants as int
use Rattle.w_syntax.specs.declared.module.Module.{Module}
use Rattle.w_segment.specs.Shape.{Shape}
use Rattle.w_segment.specs.Changes.{moved, discarded}
use Rattle.w_tables.specs.Store as instances
use Rattle.w_reduce.specs.Values.{Val, val}
use Rattle.w_reduce.specs.Terms.{Rest, rest_of, Context}
use Rattle.w_reduce.specs.Program.{Program}
use Rattle.w_reduce.specs.Reduced.{Reduced, Stuck, steps_to, take_value}
use Rattle.w_reduce.specs.Reduce.{instruction}
use Rattle.w_reduce.specs.Parametric.{selected, select}
use Rattle.w_stands.specs.Values.{stack, store_of}
use Rattle.w_stands.specs.declared.did.Did.TheVariants as did
use Rattle.w_stands.specs.Steps.{Outside, Configured, MovesAlone, FollowsAlone}
use Rattle.w_stands.proofs.PlainSteps.{following, applies, went, place_fits}
use Rattle.w_stands.specs.GoingOn.{replaced}
use Rattle.w_stands.specs.Numbers.{IsNumber, bits_in}
use Rattle.w_value_ops.specs.Selects.{IsSelect}
use Rattle.w_value_ops.proofs.Behind.{replaced_next, discarded_next}
use Rattle.w_stands.proofs.Numbers.{number_there, number_taken}
use Rattle.w_value_ops.proofs.Operands.{same_top}

-- ## drop

one_there : (u : instances.Store) (e : Context) (c : Code) (vs : List Value) → take_value (stack vs) (λ q. steps_to (store_of u) e q.0 (rest_of c)) ≢ Stuck → 0 < length vs
one_there u e c [] h = absurd (h refl)
one_there u e c (v ∷ vs) h = omega arith

dropped : (u : instances.Store) (e : Context) (c : Code) (vs : List Value) → 0 < length vs →
    take_value (stack vs) (λ q. steps_to (store_of u) e q.0 (rest_of c)) ≡ steps_to (store_of u) e (stack (drop 1 vs)) (rest_of c)
dropped u e c [] h = absurd (omega arith)
dropped u e c (v ∷ vs) h = refl

module _ (m : Module) (s : Shape) (k : MovesAlone (flat.Plain (op.Parametric parametric.Drop)) m s) where
  pub drop_there : 0 < length s.operands
  drop_there =
      let mv = k.moves in
      one_there k.u mv.e (following m k.u s mv.p mv.o mv.e mv.r (op.Parametric parametric.Drop) mv.at mv.stage mv.here) s.operands
      (applies m k.u s mv.p mv.o mv.e mv.r (op.Parametric parametric.Drop) mv.at mv.stage mv.here)

  pub drop_place : s.place + 1 < 2 ^ 32
  drop_place = place_fits m s.func s.place (flat.Plain (op.Parametric parametric.Drop)) (k.moves.at.short s.func) k.moves.here

  pub drop_follows : (s' : Shape) → s' ≡ moved (s.place + 1) (discarded 1 s) → FollowsAlone did.Went m s s'
  drop_follows s' after = λ u p o e r a.
      let i = op.Parametric parametric.Drop in
      let c = following m u s p o e r i a k.moves.stage k.moves.here in
      went m u s p o e r i a k.moves.stage k.moves.here [] u s'
      (discarded_next 1 s s' after k.moves.stage)
      (dropped u e c s.operands drop_there ∙ ap (λ (y : Shape). steps_to (store_of u) e (stack y.operands) (rest_of c)) (sym after))

-- ## select

pub record TakesThree (vs : List Value) : Type 0 where
  pub one : Value
  pub other : Value
  pub top : Value
  pub rest : List Value
  pub is : vs ≡ top ∷ other ∷ one ∷ rest
  pub number : IsNumber int.I32 top

-- what select does with an operand that was taken
abbrev selecting : instances.Store → Context → Code → ℕ → Row Val → Reduced
selecting u e c n vs = take_value vs (λ q. take_value q.0 (λ t. steps_to (store_of u) e (t.0 ▹ selected n t.1 q.1) (rest_of c)))

two_beneath : (u : instances.Store) (e : Context) (c : Code) (n : ℕ) (vs : List Value) → selecting u e c n (stack vs) ≢ Stuck →
    (b : Value) × (a : Value) × (rest : List Value) × (vs ≡ b ∷ a ∷ rest)
two_beneath u e c n [] h = absurd (h refl)
two_beneath u e c n (b ∷ []) h = absurd (h refl)
two_beneath u e c n (b ∷ a ∷ rest) h = (b, a, rest, refl)

three_there : (u : instances.Store) (e : Context) (c : Code) (vs : List Value) → select (store_of u) e (stack vs) c ≢ Stuck → TakesThree vs
three_there u e c vs h =
    let t = number_there int.I32 vs (λ q. selecting u e c q.1 q.0) h in
    let k : selecting u e c (bits_in t.top) (stack t.rest) ≢ Stuck = λ q. h (number_taken int.I32 vs (λ q. selecting u e c q.1 q.0) t ∙ q) in
    let b = two_beneath u e c (bits_in t.top) t.rest k in
    record { one = b.1; other = b.0; top = t.top; rest = b.2; is = t.is ∙ ap (λ (l : List Value). t.top ∷ l) b.3; number = t.number }

-- the value is chosen before it is read as one of the definitions, or behind
chosen_val : (n : ℕ) (a b : Value) → selected n (val a) (val b) ≡ val (selected n a b)
chosen_val zero a b = refl
chosen_val (suc n) a b = refl

-- both instructions have one rule
one_rule : (o : ParametricOp) → IsSelect o → (p : Program) (u : instances.Store) (e : Context) (vs : List Value) (c : Code) →
    instruction p (store_of u) e (stack vs) (op.Parametric o) c ≡ select (store_of u) e (stack vs) c
one_rule parametric.Drop h p u e vs c = absurd h
one_rule parametric.Select h p u e vs c = refl
one_rule (parametric.SelectOf ts) h p u e vs c = refl

module _ (m : Module) (s : Shape) (i : ParametricOp) (is : IsSelect i) (k : MovesAlone (flat.Plain (op.Parametric i)) m s) where
  three_of : (u : instances.Store) (p : Program) (o : Outside) (e : Context) (r : Rest) → Configured m u s p o e r → TakesThree s.operands
  three_of u p o e r a =
      let c = following m u s p o e r (op.Parametric i) a k.moves.stage k.moves.here in
      three_there u e c s.operands (λ q. applies m u s p o e r (op.Parametric i) a k.moves.stage k.moves.here (one_rule i is p u e s.operands c ∙ q))

  pub select_there : 3 ≤ length s.operands
  select_there =
      let mv = k.moves in
      let h = three_of k.u mv.p mv.o mv.e mv.r mv.at in
      let long = ap (λ (l : List Value). length l) h.is in
      omega (arith, long)

  pub select_number : (a b c : Value) → s.operands ≡ c ∷ b ∷ a ∷ drop 3 s.operands → IsNumber int.I32 c
  select_number a b c whole =
      let mv = k.moves in
      let h = three_of k.u mv.p mv.o mv.e mv.r mv.at in
      subst (IsNumber int.I32) (same_top s.operands h.top c (h.other ∷ h.one ∷ h.rest) (b ∷ a ∷ drop 3 s.operands) h.is whole).0 h.number

  pub select_place : s.place + 1 < 2 ^ 32
  select_place = place_fits m s.func s.place (flat.Plain (op.Parametric i)) (k.moves.at.short s.func) k.moves.here

  pub select_follows : (s' : Shape) (a b c v : Value) → s.operands ≡ c ∷ b ∷ a ∷ drop 3 s.operands → v ≡ selected (bits_in c) a b → s' ≡ replaced 3 v s →
      FollowsAlone did.Went m s s'
  select_follows s' a b c v whole made after = λ u p o e r x.
      let d = following m u s p o e r (op.Parametric i) x k.moves.stage k.moves.here in
      let t = number_there int.I32 s.operands (λ q. selecting u e d q.1 q.0) (λ q. applies m u s p o e r (op.Parametric i) x k.moves.stage k.moves.here (one_rule i is p u e s.operands d ∙ q)) in
      let same = same_top s.operands t.top c t.rest (b ∷ a ∷ drop 3 s.operands) t.is whole in
      went m u s p o e r (op.Parametric i) x k.moves.stage k.moves.here [] u s'
      (replaced_next 3 v s s' after k.moves.stage)
      (one_rule i is p u e s.operands d ∙ number_taken int.I32 s.operands (λ q. selecting u e d q.1 q.0) t
      ∙ ap (λ (l : List Value). selecting u e d (bits_in t.top) (stack l)) same.1
      ∙ ap (λ (y : Value). selecting u e d (bits_in y) (stack (b ∷ a ∷ drop 3 s.operands))) same.0
      ∙ ap (λ (y : Val). steps_to (store_of u) e (stack (drop 3 s.operands) ▹ y) (rest_of d)) (chosen_val (bits_in c) a b ∙ ap val (sym made))
      ∙ ap (λ (y : Shape). steps_to (store_of u) e (stack y.operands) (rest_of d)) (sym after))
