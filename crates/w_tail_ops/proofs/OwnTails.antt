-- What a tail call of a function of the module needs, and where it goes.
use Rattle.std.proofs.Common.{◌≡◌, ℕ, suc, ◌≤◌, List, [], ◌∷◌, ◌++◌, length, take, drop, Option, Some, None, slice_get, refl, sym, ap, ◌∙◌, subst, arith, length-append}
use Rattle.std.specs.Prelude.{◌≢◌}
use Rattle.std.proofs.lemmas.List.{length-take-le}
use Rattle.std.specs.Option.{option_map}
use Rattle.lists.specs.Rows.{Row, ε, ◌⧺◌}
use Rattle.w_types.specs.declared.types.FuncType.{FuncType}
use Rattle.w_types.specs.declared.value.Value.{Value}
use Rattle.w_syntax.specs.Code.{Done}
use Rattle.w_syntax.specs.Flat.{size}
use Rattle.w_syntax.specs.Functions.{type_of_function}
use Rattle.w_syntax.specs.declared.module.Module.{Module}
use Rattle.w_segment.specs.Shape.{Shape, Level, Frame, ReturnTarget, frame_at}
use Rattle.w_tables.specs.Store as instances
use Rattle.w_tables.specs.declared.entries.FuncEntry.{FuncEntry}
use Rattle.w_tables.specs.declared.entries.FuncEntry.TheVariants as entry
use Rattle.w_reduce.specs.Values.{Val}
use Rattle.w_reduce.specs.Terms.{Rest, rest_of, Label as InLabel, Frame as InFrame, Context}
use Rattle.w_reduce.specs.Program.{Program}
use Rattle.w_reduce.specs.Reduced.{Reduced, Stuck, steps_to, or_stuck, take_values}
use Rattle.w_reduce.specs.Calls.{enter, invoked, params_of, around_frame, return_invoke}
use Rattle.w_stands.specs.Values.{stack, local_vals, store_of}
use Rattle.w_stands.specs.Stands.{LevelsAre}
use Rattle.w_stands.specs.Steps.{Follows}
use Rattle.w_stands.specs.Room.{HasRoom}
use Rattle.w_stands.specs.declared.did.Did.TheVariants as did
use Rattle.w_stands.proofs.PlainSteps.{there, following, next_is, applies}
use Rattle.w_stands.proofs.ManyTakenOperands.{stack_take, stack_enough, stack_append}
use Rattle.w_control_ops.proofs.LeftFrames.{Framed, framed}
use Rattle.w_call_ops.specs.Calling.{TailCalls}
use Rattle.w_call_ops.specs.Entering.{HasFrameRoom, IsFunction, CanEnter, IsEntered}
use Rattle.w_call_ops.proofs.FrameRoom.{entered_room}
use Rattle.w_call_ops.proofs.InFunctions.{enter_is, enter_there, behind_end, in_body, locals_in}
use Rattle.w_tail_ops.proofs.LeftRoom.{front_dropped}

-- ## The rule

-- with n arguments, in the place of the innermost frame
abbrev replacing : Program → instances.Store → Context → List Value → ℕ → ℕ → Reduced
replacing p u e vs i n = take_values n (stack vs) (λ q. around_frame e (λ z. enter p (store_of u) z.2 (z.0 ⧺ q.1) i z.1))

abbrev params : FuncType → ℕ
params t = length t.params

-- the address is that of the module's own function i
own_returned : (p : Program) (u : instances.Store) (e : Context) (vs : List Value) (a i : ℕ) → slice_get u.functions a ≡ Some (entry.Own i) →
    return_invoke p (store_of u) e (stack vs) a ≡ or_stuck (option_map params (type_of_function p.source i)) (replacing p u e vs i)
own_returned p u e vs a i h =
    ap (λ (o : Option FuncEntry). or_stuck o (λ f. or_stuck (params_of p f) (λ n. take_values n (stack vs) (λ q. around_frame e (λ z. invoked p (store_of u) z.2 (z.0 ⧺ q.1) f z.1))))) h

module _ (m : Module) (u : instances.Store) (p : Program) (e : Context) (outer : Context) (behind : Rest) (vs : List Value) (i : ℕ) (ls : List Level) (w : Framed m outer behind ls e) where
  -- it is entered over what stands below the frame
  replaced_is : (n : ℕ) → n ≤ length vs → replacing p u e vs i n ≡ enter p (store_of u) w.around (stack (take n vs ++ w.caller.below)) i w.rest
  replaced_is n h =
      stack_take n vs (λ q. around_frame e (λ z. enter p (store_of u) z.2 (z.0 ⧺ q.1) i z.1)) h
      ∙ w.leads_out (λ z. enter p (store_of u) z.2 (z.0 ⧺ stack (take n vs)) i z.1)
      ∙ ap (λ (x : Row Val). enter p (store_of u) w.around x i w.rest) (sym (stack_append (take n vs) w.caller.below))

  -- where it applies, the function is there, and so are its arguments
  can_replace : (o : Option FuncType) → type_of_function p.source i ≡ o → or_stuck (option_map params o) (replacing p u e vs i) ≢ Stuck → CanEnter p.source i vs
  can_replace None f h = absurd (h refl)
  can_replace (Some t) f h =
      let some : params t ≤ length vs = stack_enough (params t) vs (λ q. around_frame e (λ z. enter p (store_of u) z.2 (z.0 ⧺ q.1) i z.1)) h in
      let g = enter_there p u w.around (take (params t) vs ++ w.caller.below) i w.rest (λ q. h (replaced_is (params t) some ∙ q)) in
      let type : Some g.kind ≡ Some t = sym g.there.type_is ∙ f in
      let same : g.kind ≡ t = cc in
      record { kind = g.kind; code = g.code; there = g.there; some = subst (λ (x : FuncType). params x ≤ length vs) (sym same) some }

-- ## Where the stack goes

module _ (m : Module) (u : instances.Store) (s : Shape) (a popped i : ℕ) (k : TailCalls a popped m u s) (own : slice_get u.functions a ≡ Some (entry.Own i)) where
  abbrev given : List Value
  given = drop popped s.operands

  -- the frame that the instruction stands in
  frame_here : Framed m k.moves.o.outer k.moves.o.behind s.levels k.moves.e
  frame_here = let mv = k.moves in framed (there m u s mv.p mv.o mv.e mv.r k.i mv.at mv.stage mv.here).around

  pub tail_there : CanEnter m i given
  tail_there =
      let mv = k.moves in
      let c = following m u s mv.p mv.o mv.e mv.r k.i mv.at mv.stage mv.here in
      subst (λ (x : Module). CanEnter x i given) mv.at.source
      (can_replace m u mv.p mv.e mv.o.outer mv.o.behind given i s.levels frame_here (type_of_function mv.p.source i) refl
      (λ q. applies m u s mv.p mv.o mv.e mv.r k.i mv.at mv.stage mv.here
      (k.rule mv.p mv.e c mv.at.source mv.at.program ∙ own_returned mv.p u mv.e given a i own ∙ q)))

  -- where the frame's caller goes on
  pub tail_caller : ReturnTarget
  tail_caller = frame_here.caller

  pub tail_frame : frame_at s.levels ≡ Some tail_caller
  unfolding tail_caller frame_here
  tail_frame = frame_here.at

  pub tail_follows : (t : FuncType) (mid s' : Shape) → type_of_function m i ≡ Some t → mid.levels ≡ tail_caller.outer → mid.operands ≡ take (params t) given ++ tail_caller.below
      → mid.func ≡ tail_caller.caller → mid.place ≡ tail_caller.back → IsEntered m i mid.place mid.operands mid s' → HasFrameRoom m i mid s' → (HasRoom m s → HasRoom m mid)
      → Follows did.Went m [] u s u s'
  tail_follows t mid s' type levels operands func place h g room = λ p o e r at.
      let c = following m u s p o e r k.i at k.moves.stage k.moves.here in
      let w = framed (there m u s p o e r k.i at k.moves.stage k.moves.here).around in
      let one : Some tail_caller ≡ Some w.caller = sym tail_frame ∙ w.at in
      let same : tail_caller ≡ w.caller = cc in
      let types : Some h.kind ≡ Some t = sym h.there.type_is ∙ type in
      let kinds : h.kind ≡ t = cc in
      let n = params h.kind in
      let some : n ≤ length given = (let there = tail_there in let x : Some there.kind ≡ Some h.kind = sym there.there.type_is ∙ h.there.type_is in let y : there.kind ≡ h.kind = cc in
      subst (λ (z : FuncType). params z ≤ length given) y there.some) in
      let arguments = take n given ++ w.caller.below in
      let are : mid.operands ≡ arguments = operands ∙ ap (λ (z : FuncType). take (params z) given ++ tail_caller.below) (sym kinds) ∙ ap (λ (z : ReturnTarget). take n given ++ z.below) same in
      let around : mid.levels ≡ w.caller.outer = levels ∙ ap (λ (z : ReturnTarget). z.outer) same in
      let caller : mid.func ≡ w.caller.caller = func ∙ ap (λ (z : ReturnTarget). z.caller) same in
      let back : mid.place ≡ w.caller.back = place ∙ ap (λ (z : ReturnTarget). z.back) same in
      let joined = length-append (take n given) w.caller.below in
      let taken = length-take-le n given some in
      let many : n ≤ length arguments = omega (arith, joined, taken) in
      let locals = locals_in arguments h.kind h.code in
      let frame = InFrame (stack (drop n arguments)) (length h.kind.results) i (local_vals locals) w.rest in
      let inside : Context = InLabel ε (length h.kind.results) Done Done ∷ frame ∷ w.around in
      let below : drop n arguments ≡ w.caller.below = front_dropped n given w.caller.below some in
      let stands : LevelsAre m o.outer o.behind i (suc (size h.code.body)) (Frame (drop n arguments) (length h.kind.results) locals w.caller.caller w.caller.back ∷ w.caller.outer) (frame ∷ w.around) =
      subst (λ (b : List Value). LevelsAre m o.outer o.behind i (suc (size h.code.body)) (Frame b (length h.kind.results) locals w.caller.caller w.caller.back ∷ w.caller.outer)
      (InFrame (stack b) (length h.kind.results) i (local_vals locals) w.rest ∷ w.around)) (sym below)
      (w.replaced i (suc (size h.code.body)) (length h.kind.results) locals (behind_end m i h.kind h.code h.there)) in
      let entered = h.levels in
      let function = subst (λ (x : Module). IsFunction x i h.kind h.code) (sym at.source) h.there in
      record {
        around = inside;
        rest = rest_of h.code.body;
        is = next_is m u s p o e r k.i at k.moves.stage k.moves.here
            ∙ k.rule p e c at.source at.program
            ∙ own_returned p u e given a i own
            ∙ ap (λ (x : Option FuncType). or_stuck (option_map params x) (replacing p u e given i)) function.type_is
            ∙ replaced_is m u p e o.outer o.behind given i s.levels w n some
            ∙ enter_is p u w.around arguments i w.rest h.kind h.code function many
            ∙ ap (λ (l : List Value). steps_to (store_of u) inside (stack l) (rest_of h.code.body)) (sym h.operands);
        stands = in_body m i h.kind h.code h.there o.outer o.behind s' (frame ∷ w.around)
            (Frame (drop n arguments) (length h.kind.results) locals w.caller.caller w.caller.back ∷ w.caller.outer) stands (cc) h.func h.place h.stage;
        room = entered_room m i mid.place mid.operands mid s' h g (room at.room);
      }
