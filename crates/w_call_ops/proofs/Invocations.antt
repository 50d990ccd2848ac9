-- What a fresh segment needs that invokes a function of the module, and where it goes.
use Rattle.std.proofs.Common.{◌≡◌, ℕ, ◌≤◌, List, [], ◌∷◌, length, drop, Some, slice_get, refl, sym, ap, ◌∙◌, subst}
use Rattle.lists.specs.Rows.{ε}
use Rattle.w_types.specs.declared.types.FuncType.{FuncType}
use Rattle.w_types.specs.declared.value.Value.{Value}
use Rattle.w_syntax.specs.Code.{Done}
use Rattle.w_syntax.specs.Flat.{whole}
use Rattle.w_syntax.specs.declared.module.Module.{Module}
use Rattle.w_segment.specs.declared.entry.Stage.TheVariants.{Fresh}
use Rattle.w_segment.specs.Shape.{Shape, Level, Label, Frame}
use Rattle.w_tables.specs.Store as instances
use Rattle.w_tables.specs.declared.entries.FuncEntry.TheVariants as entry
use Rattle.w_reduce.specs.Terms.{Invoke, Rest, rest_of, Label as InLabel, Frame as InFrame, Context}
use Rattle.w_reduce.specs.Reduced.{steps_to}
use Rattle.w_reduce.specs.Reduce.{next}
use Rattle.w_stands.specs.Values.{stack, local_vals, store_of}
use Rattle.w_stands.specs.Stands.{StackIs, body, left, fresh, values, outermost}
use Rattle.w_stands.specs.Steps.{Follows}
use Rattle.w_stands.specs.declared.did.Did.TheVariants as did
use Rattle.w_call_ops.proofs.FrameRoom.{entered_room}
use Rattle.w_call_ops.specs.Entering.{HasFrameRoom, IsFunction, CanEnter, IsEntered}
use Rattle.w_call_ops.specs.Calling.{Invokes}
use Rattle.w_call_ops.proofs.OwnCalls.{own_invoked}
use Rattle.w_call_ops.proofs.InFunctions.{enter_is, enter_there, behind_end, in_body, locals_in}

-- a fresh segment is outside, and its invoke comes next
pub record Begins (m : Module) (outer : Context) (behind : Rest) (s : Shape) (e : Context) (r : Rest) : Type 0 where
  pub outside : e ≡ outer
  pub rest : r ≡ record { ahead = Invoke s.func ∷ behind.ahead; code = behind.code }
  pub levels : s.levels ≡ []

pub begins : {m : Module} {outer : Context} {behind : Rest} {s : Shape} {e : Context} {r : Rest} → StackIs m outer behind s e r → s.stage ≡ Fresh → Begins m outer behind s e r
begins (body g k w) h = absurd cc
begins (left g k w) h = absurd cc
begins (fresh g k) h = record { outside = refl; rest = refl; levels = k }
begins (values g k) h = absurd cc

module _ (m : Module) (u : instances.Store) (s : Shape) (i : ℕ) (k : Invokes m u s) (own : slice_get u.functions s.func ≡ Some (entry.Own i)) where
  pub invoke_there : CanEnter m i s.operands
  invoke_there =
      let b = begins k.at.stands k.stage in
      subst (λ (x : Module). CanEnter x i s.operands) k.at.source
      (enter_there k.p u k.e s.operands i k.o.behind
      (λ q. k.at.applies
      (ap (λ (x : Rest). next k.p (store_of u) k.e (stack s.operands) x.ahead x.code) b.rest ∙ own_invoked k.p u k.e s.operands s.func i k.o.behind own ∙ q)))

  fits : (s' : Shape) (h : IsEntered m i 0 s.operands s s') → length h.kind.params ≤ length s.operands
  fits s' h =
      let e : invoke_there.kind ≡ h.kind = (let f = invoke_there.there.type_is in let g = h.there.type_is in let x : Some invoke_there.kind ≡ Some h.kind = sym f ∙ g in cc) in
      subst (λ (t : FuncType). length t.params ≤ length s.operands) e invoke_there.some

  pub invoke_follows : (s' : Shape) → IsEntered m i 0 s.operands s s' → HasFrameRoom m i s s' → Follows did.Went m [] u s u s'
  invoke_follows s' h g = λ p o e r at.
      let b = begins at.stands k.stage in
      let vs = s.operands in
      let n = length h.kind.params in
      let ls = locals_in vs h.kind h.code in
      let own_frame = InFrame (stack (drop n vs)) (length h.kind.results) i (local_vals ls) o.behind in
      let around : Context = InLabel ε (length h.kind.results) Done Done ∷ own_frame ∷ o.outer in
      let levels : List Level = Frame (drop n vs) (length h.kind.results) ls s.func 0 ∷ [] in
      record {
        around = around;
        rest = rest_of h.code.body;
        is = ap (λ (x : Rest). next p (store_of u) e (stack vs) x.ahead x.code) b.rest
            ∙ ap (λ (x : Context). next p (store_of u) x (stack vs) (Invoke s.func ∷ o.behind.ahead) o.behind.code) b.outside
            ∙ own_invoked p u o.outer vs s.func i o.behind own
            ∙ enter_is p u o.outer vs i o.behind h.kind h.code (subst (λ (x : Module). IsFunction x i h.kind h.code) (sym at.source) h.there) (fits s' h)
            ∙ ap (λ (l : List Value). steps_to (store_of u) around (stack l) (rest_of h.code.body)) (sym h.operands);
        stands = in_body m i h.kind h.code h.there o.outer o.behind s' (own_frame ∷ o.outer) levels
            (outermost (behind_end m i h.kind h.code h.there))
            (h.levels ∙ ap (λ (l : List Level). Label [] (length h.kind.results) (length (whole h.code.body)) ∷ Frame (drop n vs) (length h.kind.results) ls s.func 0 ∷ l) b.levels)
            h.func h.place h.stage;
        room = entered_room m i 0 vs s s' h g at.room;
      }
