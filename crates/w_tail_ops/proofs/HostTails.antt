-- What a tail call of a function of the host needs, and where it goes.
use Rattle.std.proofs.Common.{◌≡◌, ℕ, ◌+◌, ◌≤◌, List, [], ◌∷◌, ◌++◌, length, take, drop, Option, Some, slice_get, true, refl, sym, ap, ◌∙◌, subst, arith}
use Rattle.std.specs.Prelude.{◌≢◌}
use Rattle.std.proofs.lemmas.List.{length-drop}
use Rattle.lists.specs.Rows.{Row, ◌⧺◌}
use Rattle.w_types.specs.declared.value.Value.{Value}
use Rattle.w_syntax.specs.declared.module.Module.{Module}
use Rattle.w_segment.specs.Shape.{Shape, Level, ReturnTarget, frame_at}
use Rattle.w_segment.specs.Changes.{discarded, returned}
use Rattle.w_segment.specs.Holds.{Holds}
use Rattle.w_segment.proofs.FactsOfValues.{discarded_holds, returned_holds}
use Rattle.w_tables.specs.Store as instances
use Rattle.w_tables.specs.declared.entries.FuncEntry.{FuncEntry}
use Rattle.w_tables.specs.declared.entries.FuncEntry.TheVariants as entry
use Rattle.w_tables.specs.declared.entries.Printer.{Printer}
use Rattle.w_reduce.specs.Values.{Val}
use Rattle.w_reduce.specs.Terms.{Rest, Context}
use Rattle.w_reduce.specs.Program.{Program}
use Rattle.w_reduce.specs.Reduced.{Reduced, Went, Stuck, or_stuck, take_values}
use Rattle.w_reduce.specs.Calls.{print, invoked, params_of, around_frame, return_invoke}
use Rattle.w_stands.specs.Values.{stack, store_of}
use Rattle.w_stands.specs.Numbers.{IsNumber}
use Rattle.w_stands.specs.Keeps.{Keeps}
use Rattle.w_stands.specs.Steps.{Follows}
use Rattle.w_stands.specs.Room.{HasRoom}
use Rattle.w_stands.specs.declared.did.Did.TheVariants as did
use Rattle.w_stands.proofs.PlainSteps.{there, following, next_is, applies}
use Rattle.w_stands.proofs.ManyTakenOperands.{stack_take, stack_enough, stack_append}
use Rattle.w_stands.proofs.RoomOfFrames.{same_room, return_fit}
use Rattle.w_control_ops.specs.Ended.{stage_in, ended}
use Rattle.w_control_ops.proofs.LeftFrames.{Framed, framed, ended_parts, ended_holds}
use Rattle.w_call_ops.specs.Calling.{TailCalls}
use Rattle.w_call_ops.specs.Printing.{taken_by, first, text_of}
use Rattle.w_call_ops.proofs.HostCalls.{print_there, print_is, argument}

-- ## The rule

-- with one argument, in the place of the innermost frame
abbrev replacing : instances.Store → Context → List Value → Printer → Reduced
replacing u e vs k = take_values 1 (stack vs) (λ q. around_frame e (λ z. print (store_of u) z.2 (z.0 ⧺ q.1) k z.1))

-- the address is that of this function of the host
host_returned : (p : Program) (u : instances.Store) (e : Context) (vs : List Value) (a : ℕ) (k : Printer) → slice_get u.functions a ≡ Some (entry.Printer k) →
    return_invoke p (store_of u) e (stack vs) a ≡ replacing u e vs k
host_returned p u e vs a k h =
    ap (λ (o : Option FuncEntry). or_stuck o (λ f. or_stuck (params_of p f) (λ n. take_values n (stack vs) (λ q. around_frame e (λ z. invoked p (store_of u) z.2 (z.0 ⧺ q.1) f z.1))))) h

-- the argument stands on what is below the frame
one_taken : (vs below : List Value) → 1 ≤ length vs → take 1 vs ++ below ≡ first vs ∷ below
one_taken [] below h = absurd (omega arith)
one_taken (v ∷ vs) below h = refl

module _ (m : Module) (u : instances.Store) (p : Program) (e outer : Context) (behind : Rest) (vs : List Value) (k : Printer) (ls : List Level) (w : Framed m outer behind ls e) where
  -- it prints over what stands below the frame
  replaced_is : 1 ≤ length vs → replacing u e vs k ≡ print (store_of u) w.around (stack (first vs ∷ w.caller.below)) k w.rest
  replaced_is h =
      stack_take 1 vs (λ q. around_frame e (λ z. print (store_of u) z.2 (z.0 ⧺ q.1) k z.1)) h
      ∙ w.leads_out (λ z. print (store_of u) z.2 (z.0 ⧺ stack (take 1 vs)) k z.1)
      ∙ ap (λ (x : Row Val). print (store_of u) w.around x k w.rest) (sym (stack_append (take 1 vs) w.caller.below))
      ∙ ap (λ (l : List Value). print (store_of u) w.around (stack l) k w.rest) (one_taken vs w.caller.below h)

  -- where it applies, there is a number
  number_there : replacing u e vs k ≢ Stuck → (1 ≤ length vs) × IsNumber (taken_by k) (first vs)
  number_there h =
      let some : 1 ≤ length vs = stack_enough 1 vs (λ q. around_frame e (λ z. print (store_of u) z.2 (z.0 ⧺ q.1) k z.1)) h in
      (some, (argument k (first vs ∷ w.caller.below) (print_there u w.around k w.rest (first vs ∷ w.caller.below) (λ q. h (replaced_is some ∙ q)))).1)

-- ## Where the stack goes

module _ (m : Module) (u : instances.Store) (s : Shape) (a popped : ℕ) (h : Printer) (k : TailCalls a popped m u s) (host : slice_get u.functions a ≡ Some (entry.Printer h)) where
  abbrev given : List Value
  given = drop popped s.operands

  frame_here : Framed m k.moves.o.outer k.moves.o.behind s.levels k.moves.e
  frame_here = let mv = k.moves in framed (there m u s mv.p mv.o mv.e mv.r k.i mv.at mv.stage mv.here).around

  argument_there : (1 ≤ length given) × IsNumber (taken_by h) (first given)
  argument_there =
      let mv = k.moves in
      let c = following m u s mv.p mv.o mv.e mv.r k.i mv.at mv.stage mv.here in
      number_there m u mv.p mv.e mv.o.outer mv.o.behind given h s.levels frame_here
      (λ q. applies m u s mv.p mv.o mv.e mv.r k.i mv.at mv.stage mv.here
      (k.rule mv.p mv.e c mv.at.source mv.at.program ∙ host_returned mv.p u mv.e given a h host ∙ q))

  pub tail_some : popped + 1 ≤ length s.operands
  tail_some = let l = argument_there.0 in let d = length-drop popped s.operands in omega (arith, l, d)

  pub tail_number : IsNumber (taken_by h) (first given)
  tail_number = argument_there.1

  pub tail_caller : ReturnTarget
  tail_caller = frame_here.caller

  pub tail_frame : frame_at s.levels ≡ Some tail_caller
  unfolding tail_caller frame_here
  tail_frame = frame_here.at

  pub tail_follows : (t s' : Shape) → ((c : ReturnTarget) → frame_at s.levels ≡ Some c → t ≡ returned 0 c (discarded (popped + 1) s)) → s' ≡ ended t
      → Follows did.Went m (text_of h popped s.operands) u s u s'
  tail_follows t s' back after = λ p o e r at.
      let c = following m u s p o e r k.i at k.moves.stage k.moves.here in
      let g = framed (there m u s p o e r k.i at k.moves.stage k.moves.here).around in
      let e1 = back g.caller g.at in
      let ends = ended_parts t s' after (ap (λ (x : Shape). x.stage) e1 ∙ k.moves.stage) in
      let below : s'.operands ≡ g.caller.below = ends.operands ∙ ap (λ (x : Shape). x.operands) e1 in
      record {
        around = g.around;
        rest = g.rest;
        is = next_is m u s p o e r k.i at k.moves.stage k.moves.here
            ∙ k.rule p e c at.source at.program
            ∙ host_returned p u e given a h host
            ∙ replaced_is m u p e o.outer o.behind given h s.levels g argument_there.0
            ∙ print_is u g.around h g.rest (first given) g.caller.below argument_there.1
            ∙ ap (λ (l : List Value). Went (text_of h popped s.operands) (store_of u) (record { around = g.around; operands = stack l; rest = g.rest })) (sym below);
        stands = g.stands s' (ends.levels ∙ ap (λ (x : Shape). x.levels) e1) (ends.func ∙ ap (λ (x : Shape). x.func) e1) (ends.place ∙ ap (λ (x : Shape). x.place) e1)
            (ends.stage ∙ ap (λ (x : Shape). stage_in x.levels) e1);
        room = same_room m t s' ends.levels ends.func ends.capacity (subst (HasRoom m) (sym e1) (return_fit m s.capacity s.func s.levels g.caller g.at at.room));
      }

  -- what held of every value still holds
  pub tail_keeps : (t s' : Shape) → ((c : ReturnTarget) → frame_at s.levels ≡ Some c → t ≡ returned 0 c (discarded (popped + 1) s)) → s' ≡ ended t → Keeps s s'
  tail_keeps t s' back after = λ test on held.
      let P : Value → Type 0 = λ v. test v ≡ true in
      let fewer = discarded_holds P (popped + 1) s held in
      subst (Holds P) (sym after) (ended_holds P t (subst (Holds P) (sym (back tail_caller tail_frame)) (returned_holds P 0 tail_caller (discarded (popped + 1) s) tail_frame fewer)))
