-- What an instruction needs that invokes a function of the module, and where it goes.
use Rattle.std.proofs.Common.{◌≡◌, ℕ, ◌+◌, ◌<◌, ◌≤◌, List, [], ◌∷◌, length, drop, Option, Some, slice_get, sym, ap, ◌∙◌, subst, add-one}
use Rattle.std.specs.Prelude.{◌^◌}
use Rattle.lists.specs.Rows.{ε}
use Rattle.w_types.specs.declared.value.Value.{Value}
use Rattle.w_syntax.specs.Code.{Done}
use Rattle.w_syntax.specs.declared.instructions.Instr.TheVariants as flat
use Rattle.w_syntax.specs.declared.module.Module.{Module}
use Rattle.w_types.specs.declared.types.FuncType.{FuncType}
use Rattle.w_segment.specs.Shape.{Shape, Frame}
use Rattle.w_tables.specs.Store as instances
use Rattle.w_tables.specs.declared.entries.FuncEntry.{FuncEntry}
use Rattle.w_tables.specs.declared.entries.FuncEntry.TheVariants as entry
use Rattle.w_reduce.specs.Terms.{Rest, rest_of, Label as InLabel, Frame as InFrame, Context}
use Rattle.w_reduce.specs.Program.{Program}
use Rattle.w_reduce.specs.Reduced.{steps_to, or_stuck}
use Rattle.w_reduce.specs.Calls.{enter, invoke, invoked}
use Rattle.w_stands.specs.Values.{stack, local_vals, store_of}
use Rattle.w_stands.specs.Code.{instrs, Reads}
use Rattle.w_stands.specs.Stands.{frame}
use Rattle.w_stands.specs.Steps.{Follows}
use Rattle.w_stands.specs.declared.did.Did.TheVariants as did
use Rattle.w_stands.proofs.PlainSteps.{there, shown, following, next_is, applies, place_fits}
use Rattle.w_call_ops.proofs.FrameRoom.{entered_room}
use Rattle.w_call_ops.specs.Entering.{HasFrameRoom, IsFunction, CanEnter, IsEntered}
use Rattle.w_call_ops.specs.Calling.{Calls}
use Rattle.w_call_ops.proofs.InFunctions.{enter_is, enter_there, behind_end, in_body, locals_in}

-- the address is that of the module's own function i
pub own_invoked : (p : Program) (u : instances.Store) (e : Context) (vs : List Value) (a i : ℕ) (rest : Rest) → slice_get u.functions a ≡ Some (entry.Own i) →
    invoke p (store_of u) e (stack vs) a rest ≡ enter p (store_of u) e (stack vs) i rest
own_invoked p u e vs a i rest h = ap (λ (o : Option FuncEntry). or_stuck o (λ f. invoked p (store_of u) e (stack vs) f rest)) h

module _ (m : Module) (u : instances.Store) (s : Shape) (a popped i : ℕ) (k : Calls a popped m u s) (own : slice_get u.functions a ≡ Some (entry.Own i)) where
  pub call_there : CanEnter m i (drop popped s.operands)
  call_there =
      let mv = k.moves in
      let c = following m u s mv.p mv.o mv.e mv.r k.i mv.at mv.stage mv.here in
      subst (λ (x : Module). CanEnter x i (drop popped s.operands)) mv.at.source
      (enter_there mv.p u mv.e (drop popped s.operands) i (rest_of c)
      (λ q. applies m u s mv.p mv.o mv.e mv.r k.i mv.at mv.stage mv.here
      (k.rule mv.p mv.e c mv.at.source mv.at.program ∙ own_invoked mv.p u mv.e (drop popped s.operands) a i (rest_of c) own ∙ q)))

  pub call_place : s.place + 1 < 2 ^ 32
  call_place = place_fits m s.func s.place (flat.Plain k.i) (k.moves.at.short s.func) k.moves.here

  -- the arguments of the function that was entered are there
  fits : (s' : Shape) (h : IsEntered m i (s.place + 1) (drop popped s.operands) s s') → length h.kind.params ≤ length (drop popped s.operands)
  fits s' h =
      let e : call_there.kind ≡ h.kind = (let f = call_there.there.type_is in let g = h.there.type_is in let x : Some call_there.kind ≡ Some h.kind = sym f ∙ g in cc) in
      subst (λ (t : FuncType). length t.params ≤ length (drop popped s.operands)) e call_there.some

  pub call_follows : (s' : Shape) → IsEntered m i (s.place + 1) (drop popped s.operands) s s' → HasFrameRoom m i s s' → Follows did.Went m [] u s u s'
  call_follows s' h g = λ p o e r at.
      let c = following m u s p o e r k.i at k.moves.stage k.moves.here in
      let hr = there m u s p o e r k.i at k.moves.stage k.moves.here in
      let w = shown m u s p o e r k.i at k.moves.stage k.moves.here in
      let vs = drop popped s.operands in
      let n = length h.kind.params in
      let ls = locals_in vs h.kind h.code in
      let own_frame = InFrame (stack (drop n vs)) (length h.kind.results) i (local_vals ls) (rest_of c) in
      let around : Context = InLabel ε (length h.kind.results) Done Done ∷ own_frame ∷ e in
      let back : Reads (instrs m s.func) (s.place + 1) c hr.end = subst (λ (x : ℕ). Reads (instrs m s.func) x c hr.end) (sym (add-one s.place)) w.reads in
      record {
        around = around;
        rest = rest_of h.code.body;
        is = next_is m u s p o e r k.i at k.moves.stage k.moves.here
            ∙ k.rule p e c at.source at.program
            ∙ own_invoked p u e vs a i (rest_of c) own
            ∙ enter_is p u e vs i (rest_of c) h.kind h.code (subst (λ (x : Module). IsFunction x i h.kind h.code) (sym at.source) h.there) (fits s' h)
            ∙ ap (λ (l : List Value). steps_to (store_of u) around (stack l) (rest_of h.code.body)) (sym h.operands);
        stands = in_body m i h.kind h.code h.there o.outer o.behind s' (own_frame ∷ e) (Frame (drop n vs) (length h.kind.results) ls s.func (s.place + 1) ∷ s.levels)
            (frame (behind_end m i h.kind h.code h.there) back hr.around) h.levels h.func h.place h.stage;
        room = entered_room m i (s.place + 1) vs s s' h g at.room;
      }
