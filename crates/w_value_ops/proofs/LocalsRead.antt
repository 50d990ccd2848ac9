-- What instructions on locals need, and where they go.
use Rattle.std.proofs.Common.{◌≡◌, ℕ, suc, ◌+◌, ◌<◌, List, [], ◌∷◌, Some, None, Option, slice_get, length, drop, refl, sym, ap, ◌∙◌, arith, add-one}
use Rattle.std.specs.Prelude.{◌^◌, ◌≢◌}
use Rattle.std.specs.Option.{option_map}
use Rattle.std.proofs.lemmas.Option.{slice_get_within}
use Rattle.lists.specs.Rows.{Row, ◌▹◌}
use Rattle.w_types.specs.declared.value.Value.{Value}
use Rattle.w_syntax.specs.Code.{Code}
use Rattle.w_syntax.specs.declared.instructions.Instr.TheVariants as flat
use Rattle.w_syntax.specs.declared.instructions.Op.{Op}
use Rattle.w_syntax.specs.declared.instructions.Op.TheVariants as op
use Rattle.w_syntax.specs.declared.instructions.VariableOp.TheVariants as variable
use Rattle.w_syntax.specs.declared.module.Module.{Module}
use Rattle.w_segment.specs.Shape.{Shape, locals_of}
use Rattle.w_segment.specs.Changes.{with_local, with_locals}
use Rattle.w_tables.specs.Store as instances
use Rattle.w_reduce.specs.Values.{Val, val}
use Rattle.w_reduce.specs.Terms.{Rest, rest_of, Context, locals_of as locals_in, with_local as with_local_in}
use Rattle.w_reduce.specs.Program.{Program}
use Rattle.w_reduce.specs.Reduced.{Reduced, Stuck, steps_to, or_stuck, take_value}
use Rattle.w_reduce.specs.Reduce.{instruction}
use Rattle.w_stands.specs.Values.{stack, store_of}
use Rattle.w_stands.specs.declared.did.Did.TheVariants as did
use Rattle.w_stands.specs.Steps.{Outside, Configured, MovesAlone, FollowsAlone}
use Rattle.w_stands.proofs.Locals.{local_seen, around_set}
use Rattle.w_stands.proofs.AtInstructions.{onward}
use Rattle.w_stands.proofs.RoomOfFrames.{same_room, local_fit}
use Rattle.w_stands.proofs.PlainSteps.{there, shown, following, next_is, applies, went, place_fits}
use Rattle.w_stands.specs.GoingOn.{IsPushedNext}

-- a local that is read, as a value of the definitions
abbrev seen : Option (Option Value) → Option (Option Val)
seen o = option_map (λ (l : Option Value). option_map val l) o

-- what local.get does with what it finds
abbrev getting : instances.Store → Context → Row Val → Code → Option (Option Val) → Reduced
getting u e vs c o = or_stuck o (λ l. or_stuck l (λ v. steps_to (store_of u) e (vs ▹ v) (rest_of c)))

set_there : (u : instances.Store) (e : Context) (vs : Row Val) (c : Code) (o : Option (Option Value)) → getting u e vs c (seen o) ≢ Stuck → (v : Value) × (o ≡ Some (Some v))
set_there u e vs c None h = absurd (h refl)
set_there u e vs c (Some None) h = absurd (h refl)
set_there u e vs c (Some (Some v)) h = (v, refl)

module _ (m : Module) (s : Shape) (x : ℕ) (k : MovesAlone (flat.Plain (op.Variable (variable.LocalGet x))) m s) where
  abbrev i : Op
  i = op.Variable (variable.LocalGet x)

  found : (u : instances.Store) (p : Program) (o : Outside) (e : Context) (r : Rest) (a : Configured m u s p o e r) →
      instruction p (store_of u) e (stack s.operands) i (following m u s p o e r i a k.moves.stage k.moves.here)
      ≡ getting u e (stack s.operands) (following m u s p o e r i a k.moves.stage k.moves.here) (seen (slice_get (locals_of s.levels) x))
  found u p o e r a =
      ap (getting u e (stack s.operands) (following m u s p o e r i a k.moves.stage k.moves.here)) (local_seen (there m u s p o e r i a k.moves.stage k.moves.here).around x)

  pub get_there : (v : Value) × (slice_get (locals_of s.levels) x ≡ Some (Some v))
  get_there =
      let mv = k.moves in
      let c = following m k.u s mv.p mv.o mv.e mv.r i mv.at mv.stage mv.here in
      set_there k.u mv.e (stack s.operands) c (slice_get (locals_of s.levels) x)
      (λ q. applies m k.u s mv.p mv.o mv.e mv.r i mv.at mv.stage mv.here (found k.u mv.p mv.o mv.e mv.r mv.at ∙ q))

  pub get_within : x < length (locals_of s.levels)
  get_within = slice_get_within (locals_of s.levels) x (Some get_there.0) get_there.1

  pub get_place : s.place + 1 < 2 ^ 32
  get_place = place_fits m s.func s.place (flat.Plain i) (k.moves.at.short s.func) k.moves.here

  pub get_follows : (s' : Shape) (v : Value) → slice_get (locals_of s.levels) x ≡ Some (Some v) → IsPushedNext v s s' → FollowsAlone did.Went m s s'
  get_follows s' v is n = λ u p o e r a.
      let c = following m u s p o e r i a k.moves.stage k.moves.here in
      went m u s p o e r i a k.moves.stage k.moves.here [] u s'
      (record { levels = n.levels; func = n.func; place = n.place; stage = n.stage ∙ k.moves.stage; capacity = n.capacity })
      (found u p o e r a ∙ ap (λ (l : Option (Option Value)). getting u e (stack s.operands) c (seen l)) is
      ∙ ap (λ (l : List Value). steps_to (store_of u) e (stack l) (rest_of c)) (sym n.operands))

-- ## Setting

-- what local.set and local.tee do with the local that they find: they go on with these operands
abbrev setting : instances.Store → Context → ℕ → Row Val → Code → (Row Val → Val → Row Val) → Option (Option Val) → Reduced
setting u e x vs c left o = or_stuck o (λ _. take_value vs (λ q. steps_to (store_of u) (with_local_in x q.1 e) (left q.0 q.1) (rest_of c)))

-- there is a local, and an operand
setting_there : (u : instances.Store) (e : Context) (x : ℕ) (vs : List Value) (c : Code) (left : Row Val → Val → Row Val) (o : Option (Option Value)) →
    setting u e x (stack vs) c left (seen o) ≢ Stuck → (l : Option Value) × (o ≡ Some l) × (0 < length vs)
setting_there u e x vs c left None h = absurd (h refl)
setting_there u e x [] c left (Some l) h = absurd (h refl)
setting_there u e x (v ∷ vs) c left (Some l) h = (l, refl, omega arith)

-- where they go
set_on : (u : instances.Store) (e : Context) (x : ℕ) (vs : List Value) (v : Value) (c : Code) (left : Row Val → Val → Row Val) (o : Option (Option Value)) (l : Option Value) →
    o ≡ Some l → setting u e x (stack (v ∷ vs)) c left (seen o) ≡ steps_to (store_of u) (with_local_in x (val v) e) (left (stack vs) (val v)) (rest_of c)
set_on u e x vs v c left o l h = ap (λ (y : Option (Option Value)). setting u e x (stack (v ∷ vs)) c left (seen y)) h

-- the rule of such an instruction
abbrev pub IsSetting : Op → ℕ → (Row Val → Val → Row Val) → Type 0
IsSetting j x left = (p : Program) (u : instances.Store) (e : Context) (vs : Row Val) (c : Code) →
    instruction p (store_of u) e vs j c ≡ setting u e x vs c left (slice_get (locals_in e) x)

module _ (m : Module) (s : Shape) (j : Op) (x : ℕ) (left : Row Val → Val → Row Val) (rule : IsSetting j x left) (k : MovesAlone (flat.Plain j) m s) where
  sets : (u : instances.Store) (p : Program) (o : Outside) (e : Context) (r : Rest) (a : Configured m u s p o e r) →
      instruction p (store_of u) e (stack s.operands) j (following m u s p o e r j a k.moves.stage k.moves.here)
      ≡ setting u e x (stack s.operands) (following m u s p o e r j a k.moves.stage k.moves.here) left (seen (slice_get (locals_of s.levels) x))
  sets u p o e r a =
      let c = following m u s p o e r j a k.moves.stage k.moves.here in
      rule p u e (stack s.operands) c ∙ ap (setting u e x (stack s.operands) c left) (local_seen (there m u s p o e r j a k.moves.stage k.moves.here).around x)

  pub set_needs : (l : Option Value) × (slice_get (locals_of s.levels) x ≡ Some l) × (0 < length s.operands)
  set_needs =
      let mv = k.moves in
      let c = following m k.u s mv.p mv.o mv.e mv.r j mv.at mv.stage mv.here in
      setting_there k.u mv.e x s.operands c left (slice_get (locals_of s.levels) x)
      (λ q. applies m k.u s mv.p mv.o mv.e mv.r j mv.at mv.stage mv.here (sets k.u mv.p mv.o mv.e mv.r mv.at ∙ q))

  pub set_within : x < length (locals_of s.levels)
  set_within = slice_get_within (locals_of s.levels) x set_needs.0 set_needs.1

  pub set_place : s.place + 1 < 2 ^ 32
  set_place = place_fits m s.func s.place (flat.Plain j) (k.moves.at.short s.func) k.moves.here

  pub set_follows : (s' : Shape) (v : Value) → s.operands ≡ v ∷ drop 1 s.operands → s'.levels ≡ with_local x v s.levels → s'.func ≡ s.func → s'.place ≡ s.place + 1 →
      s'.stage ≡ s.stage → s'.capacity ≡ s.capacity → left (stack (drop 1 s.operands)) (val v) ≡ stack s'.operands → FollowsAlone did.Went m s s'
  set_follows s' v whole ls f pl st cap row = λ u p o e r a.
      let c = following m u s p o e r j a k.moves.stage k.moves.here in
      let h = there m u s p o e r j a k.moves.stage k.moves.here in
      let w = shown m u s p o e r j a k.moves.stage k.moves.here in
      record {
        around = with_local_in x (val v) e;
        rest = rest_of c;
        is = next_is m u s p o e r j a k.moves.stage k.moves.here ∙ sets u p o e r a
            ∙ ap (λ (y : List Value). setting u e x (stack y) c left (seen (slice_get (locals_of s.levels) x))) whole
            ∙ set_on u e x (drop 1 s.operands) v c left (slice_get (locals_of s.levels) x) set_needs.0 set_needs.1
            ∙ ap (λ (y : Row Val). steps_to (store_of u) (with_local_in x (val v) e) y (rest_of c)) row;
        stands = onward s.func (suc s.place) (with_local x v s.levels) w.reads (around_set x v h.around) (st ∙ k.moves.stage) f (pl ∙ add-one s.place) ls;
        room = same_room m (with_locals x v s) s' ls f cap (local_fit m s.capacity s.func x v s.levels a.room);
      }
