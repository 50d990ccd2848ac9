-- The instructions that switch stacks (stack-switching explainer, execution).
use Rattle.std.specs.Prelude.{ℕ, ◌-◌, [], ◌∷◌, length, Option, Some, None}
use Rattle.w_types.specs.declared.types.HeapType.{HeapType}
use Rattle.w_types.specs.declared.types.HeapType.TheVariants.{Index}
use Rattle.w_types.specs.declared.types.ValType.{ValType}
use Rattle.w_types.specs.declared.types.ValType.TheVariants.{Ref}
use Rattle.lists.specs.Rows.{Row, ◌▹◌, ◌⧺◌, row_of}
use Rattle.w_syntax.specs.Code.{Code}
use Rattle.w_syntax.specs.declared.instructions.SwitchingOp.{SwitchingOp}
use Rattle.w_syntax.specs.declared.instructions.SwitchingOp.TheVariants as switching
use Rattle.w_rules.specs.Context.{cont_of, type_of_tag}
use Rattle.w_rules.specs.Spaces.{context_of}
use Rattle.w_reduce.specs.declared.trap.Trap.TheVariants as trap
use Rattle.w_reduce.specs.Values.{Val, Cont}
use Rattle.w_reduce.specs.Store.{Store, next_cont, with_cont, without_cont}
use Rattle.w_reduce.specs.Terms.{rest_of, Branch, Handle, Context, Continuation, filled, fresh_continuation, in_context}
use Rattle.w_reduce.specs.Program.{Program}
use Rattle.w_reduce.specs.Reduced.{Reduced, Went, Trapped, steps_to, ◌>>=◌, or_stuck, take_value, take_values, as_function, as_continuation}
use Rattle.w_reduce.specs.Handlers.{Handler, label_clause, switch_clause, find}

abbrev pub or_unhandled : {A : Type 0} → ℕ → Option (Handler A) → (Handler A → Reduced) → Reduced
or_unhandled e None go = Trapped (trap.Unhandled e)
or_unhandled e (Some h) go = go h

-- E, with the values below and the code after, as a continuation of n values
abbrev pub continuation_at : ℕ → Context → Row Val → Code → Continuation
continuation_at n inner below c = record { takes = n; term = record { around = inner; operands = below; rest = rest_of c } }

-- the continuation type that the last of these values refers to
abbrev pub heap_index : HeapType → Option ℕ
heap_index (Index y) = Some y
heap_index h = None

abbrev pub back_type : Row ValType → Option ℕ
back_type (ts ▹ Ref r) = heap_index r.heap
back_type ts = None

abbrev pub switching_op : Program → Store → Context → Row Val → SwitchingOp → Code → Reduced
-- S; (ref.func f) (cont.new x)  ↪  S'; (ref.cont a)   where x is cont [t1^n] to [t2*], and a is new and keeps [ ] (invoke f)
switching_op p s e vs (switching.ContNew x) c = do
  (vs, v) ← take_value vs
  f ← as_function trap.NullReference v
  t ← or_stuck (cont_of (context_of p.source) x)
  steps_to (with_cont (fresh_continuation f (length t.params)) s) e (vs ▹ Cont (next_cont s)) (rest_of c)
-- S; v^n (ref.cont a) (cont.bind x y)  ↪  S'; (ref.cont b)   where y is cont [t1*] to [t2*], a, which kept E, is consumed, and b is
-- new and keeps E[v^n [ ]], which takes as many values as t1*
switching_op p s e vs (switching.ContBind x y) c = do
  (vs, v) ← take_value vs
  (a, k) ← as_continuation s v
  t ← or_stuck (cont_of (context_of p.source) y)
  (below, us) ← take_values (k.takes - length t.params) vs
  steps_to (with_cont (record { takes = length t.params; term = filled k.term us }) (without_cont a s)) e (below ▹ Cont (next_cont s)) (rest_of c)
-- S; v^n (ref.cont a) (resume x hdl*)  ↪  S'; handle{hdl*} E[v^n] end   where a, which kept E, is consumed
switching_op p s e vs (switching.Resume x hs) c = do
  (vs, v) ← take_value vs
  (a, k) ← as_continuation s v
  (below, us) ← take_values k.takes vs
  Went [] (without_cont a s) (in_context (Handle below hs c ∷ e) (filled k.term us))
-- S; handle{hdl*} E[v^n (suspend e)] end  ↪  S'; v^n (ref.cont a) (br l)   where e is [t1^n] to [t2*], E handles e nowhere, (on e l) is
-- the first clause for e among hdl*, and a is new and keeps E
switching_op p s e vs (switching.Suspend x) c = do
  t ← or_stuck (type_of_tag (context_of p.source) x)
  (below, us) ← take_values (length t.params) vs
  h ← or_unhandled x (find (label_clause x) e)
  steps_to (with_cont (continuation_at (length t.results) h.inner below c) s) h.outer ((h.below ⧺ us) ▹ Cont (next_cont s)) (record { ahead = Branch h.answer ∷ []; code = h.rest })
-- S; handle{hdl*} E[v^n (ref.cont a) (switch x e)] end  ↪  S'; handle{hdl*} E'[v^n (ref.cont b)] end   where (on e switch) is among
-- hdl*, E handles no switch of e, a, which kept E', is consumed, and b is new and keeps E
switching_op p s e vs (switching.Switch x y) c = do
  (vs, v) ← take_value vs
  (a, k) ← as_continuation s v
  h ← or_unhandled y (find (switch_clause y) e)
  t ← or_stuck (cont_of (context_of p.source) x)
  back ← or_stuck (back_type (row_of t.params))
  u ← or_stuck (cont_of (context_of p.source) back)
  (below, us) ← take_values (k.takes - 1) vs
  Went [] (with_cont (continuation_at (length u.params) h.inner below c) (without_cont a s))
      (in_context (Handle h.below h.clauses h.rest ∷ h.outer) (filled k.term (us ▹ Cont (next_cont s))))
