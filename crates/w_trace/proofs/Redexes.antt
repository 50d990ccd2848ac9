-- What the event of a redex says of its reduction.
use Rattle.std.proofs.Common.{◌≡◌, ℕ, false, List, [], ◌∷◌, length, Option, Some, None, refl, sym, ap, subst}
use Rattle.std.specs.Prelude.{◌-◌, slice_get, option_map}
use Rattle.lists.specs.Rows.{Row, ε, ◌▹◌, row_of}
use Rattle.w_syntax.specs.Code.{Code, Done, Plain, Block, If, IfElse}
use Rattle.w_syntax.specs.declared.instructions.Op.TheVariants as op
use Rattle.w_syntax.specs.declared.instructions.SwitchingOp.{SwitchingOp}
use Rattle.w_syntax.specs.declared.instructions.SwitchingOp.TheVariants as switching
use Rattle.w_rules.specs.Context.{cont_of, type_of_tag}
use Rattle.w_rules.specs.Spaces.{context_of}
use Rattle.w_reduce.specs.declared.limit.RunLimit.{RunLimit}
use Rattle.w_reduce.specs.declared.trap.Trap.{Trap}
use Rattle.w_reduce.specs.declared.trap.Trap.TheVariants as trap
use Rattle.w_reduce.specs.Apart.{switches, apart, PlainReductionsGoApart}
use Rattle.w_reduce.specs.Handlers.{find, label_clause, switch_clause}
use Rattle.w_reduce.specs.Limits.{passed}
use Rattle.w_reduce.specs.Program.{Program}
use Rattle.w_reduce.specs.Reduce.{next, reduce, limited, unless_passed}
use Rattle.w_reduce.specs.Reduced.{Reduced, Went, Trapped, Limited, Ended, Stuck, take_value, unless_consumed, as_continuation}
use Rattle.w_reduce.specs.Store.{Store, next_cont}
use Rattle.w_reduce.specs.Switching.{switching_op, back_type}
use Rattle.w_reduce.specs.Terms.{Administrative, Context, Label, Frame, Handle, Term, Continuation}
use Rattle.w_reduce.specs.Values.{Val, I32, I64, Null, Func, Cont}
use Rattle.w_reduce.proofs.GoesOn.{Allows, allows_or_stuck, allows_take_value, allows_take_values, allows_as_function, allows_or_unhandled}
use Rattle.w_trace.specs.declared.event.EventKind.{EventKind}
use Rattle.w_trace.specs.declared.event.EventKind.TheVariants.{Bind, Resume, Switch}
use Rattle.w_trace.specs.Once.{Use, uses}
use Rattle.w_trace.specs.Events.{top_cont, switching_event, leaving_event, next_event, event_of, uses_if, Leads, RedexesTell}
use Rattle.w_trace.proofs.UsedStores.{leads_same, leads_made, leads_consumed, leads_both}

-- where it goes on, these uses lead there
pub data Tells (us : List Use) (ks : List (Option Continuation)) : Reduced → Type 0 where
  went : {out : List ℕ} {s : Store} {t : Term} → Leads us ks s.conts → Tells us ks (Went out s t)
  trapped : {t : Trap} → Tells us ks (Trapped t)
  is_limited : {l : RunLimit} → Tells us ks (Limited l)
  ended : {vs : Row Val} → Tells us ks (Ended vs)
  is_stuck : Tells us ks Stuck

-- ## The instructions that switch stacks

closed : (us : List Use) (ks : List (Option Continuation)) → Allows (Tells us ks)
closed us ks = record { stuck = is_stuck; traps = λ t. trapped }

-- a rule that takes a continuation goes on where the topmost operand refers to one that isn't consumed
tells_top : (s : Store) (event : ℕ → EventKind) (vs : Row Val) (go : Row Val × Val → ℕ × Continuation → Reduced)
    → ((q : Row Val × Val) (a : ℕ) (k : Continuation) → slice_get s.conts a ≡ Some (Some k) → Tells (uses (event a)) s.conts (go q (a, k)))
    → Tells (uses_if (option_map event (top_cont vs))) s.conts (take_value vs (λ q. as_continuation s q.1 (go q)))
tells_top s event ε go h = is_stuck
tells_top s event (vs ▹ I32 n) go h = is_stuck
tells_top s event (vs ▹ I64 n) go h = is_stuck
tells_top s event (vs ▹ Null) go h = trapped
tells_top s event (vs ▹ Func f) go h = is_stuck
tells_top s event (vs ▹ Cont a) go h = by (slice_get s.conts a) refl
  where
    by : (o : Option (Option Continuation)) → slice_get s.conts a ≡ o → Tells (uses (event a)) s.conts (unless_consumed o (λ k. go (vs, Cont a) (a, k)))
    by None e = is_stuck
    by (Some None) e = trapped
    by (Some (Some k)) e = h (vs, Cont a) a k e

tells_switching : (p : Program) (s : Store) (e : Context) (vs : Row Val) (o : SwitchingOp) (c : Code) → Tells (uses_if (switching_event s vs o)) s.conts (switching_op p s e vs o c)
tells_switching p s e vs (switching.ContNew x) c =
    allows_take_value (closed _ s.conts) vs _ (λ q. allows_as_function (closed _ s.conts) trap.NullReference q.1 _ (λ f.
    allows_or_stuck (closed _ s.conts) (cont_of (context_of p.source) x) _ (λ t. went (leads_made s.conts _))))
tells_switching p s e vs (switching.ContBind x y) c =
    tells_top s (λ a. Bind a (next_cont s)) vs _ (λ q a k is. allows_or_stuck (closed _ s.conts) (cont_of (context_of p.source) y) _ (λ t.
    allows_take_values (closed _ s.conts) (k.takes - length t.params) q.0 _ (λ u. went (leads_both s.conts a k _ is))))
tells_switching p s e vs (switching.Resume x hs) c =
    tells_top s Resume vs _ (λ q a k is. allows_take_values (closed _ s.conts) k.takes q.0 _ (λ u. went (leads_consumed s.conts a k is)))
tells_switching p s e vs (switching.Suspend x) c =
    allows_or_stuck (closed _ s.conts) (type_of_tag (context_of p.source) x) _ (λ t. allows_take_values (closed _ s.conts) (length t.params) vs _ (λ u.
    allows_or_unhandled (closed _ s.conts) x (find (label_clause x) e) _ (λ h. went (leads_made s.conts _))))
tells_switching p s e vs (switching.Switch x y) c =
    tells_top s (λ a. Switch a y (next_cont s)) vs _ (λ q a k is. allows_or_unhandled (closed _ s.conts) y (find (switch_clause y) e) _ (λ h.
    allows_or_stuck (closed _ s.conts) (cont_of (context_of p.source) x) _ (λ t. allows_or_stuck (closed _ s.conts) (back_type (row_of t.params)) _ (λ back.
    allows_or_stuck (closed _ s.conts) (cont_of (context_of p.source) back) _ (λ u. allows_take_values (closed _ s.conts) (k.takes - 1) q.0 _ (λ w.
    went (leads_both s.conts a k _ is)))))))

-- ## The others use no continuation

abbrev conts_of : List (Option Continuation) → Reduced → List (Option Continuation)
conts_of ks (Went out s t) = s.conts
conts_of ks r = ks

tells_apart : (ks : List (Option Continuation)) (r : Reduced) → r ≡ apart ks r → Tells [] ks r
tells_apart ks (Went out s t) e = went (subst (Leads [] ks) (sym (ap (conts_of ks) e)) (leads_same ks))
tells_apart ks (Trapped t) e = trapped
tells_apart ks (Limited l) e = is_limited
tells_apart ks (Ended vs) e = ended
tells_apart ks Stuck e = is_stuck

-- nor does the exit of a handle
exits_use_none : (e : Context) → uses_if (leaving_event e) ≡ []
exits_use_none [] = refl
exits_use_none (Label below n again rest ∷ e) = refl
exits_use_none (Frame below n f locals rest ∷ e) = refl
exits_use_none (Handle below hs rest ∷ e) = refl

module _ (plain : PlainReductionsGoApart) where
  tells_plainly : (p : Program) (s : Store) (e : Context) (vs : Row Val) (ahead : List Administrative) (c : Code) → switches ahead c ≡ false → Tells [] s.conts (next p s e vs ahead c)
  tells_plainly p s e vs ahead c h = tells_apart s.conts (next p s e vs ahead c) (plain s.conts p s e vs ahead c h)

  tells_next : (p : Program) (s : Store) (e : Context) (vs : Row Val) (ahead : List Administrative) (c : Code) → Tells (uses_if (next_event s e vs ahead c)) s.conts (next p s e vs ahead c)
  tells_next p s e vs [] (Plain (op.Switching o) c) = tells_switching p s e vs o c
  tells_next p s e vs [] (Plain (op.Control o) c) = tells_plainly p s e vs [] (Plain (op.Control o) c) refl
  tells_next p s e vs [] (Plain (op.Parametric o) c) = tells_plainly p s e vs [] (Plain (op.Parametric o) c) refl
  tells_next p s e vs [] (Plain (op.Variable o) c) = tells_plainly p s e vs [] (Plain (op.Variable o) c) refl
  tells_next p s e vs [] (Plain (op.Memory o) c) = tells_plainly p s e vs [] (Plain (op.Memory o) c) refl
  tells_next p s e vs [] (Plain (op.Table o) c) = tells_plainly p s e vs [] (Plain (op.Table o) c) refl
  tells_next p s e vs [] (Plain (op.Numeric o) c) = tells_plainly p s e vs [] (Plain (op.Numeric o) c) refl
  tells_next p s e vs [] (Plain (op.Reference o) c) = tells_plainly p s e vs [] (Plain (op.Reference o) c) refl
  tells_next p s e vs [] (Block b t x c) = tells_plainly p s e vs [] (Block b t x c) refl
  tells_next p s e vs [] (If t x c) = tells_plainly p s e vs [] (If t x c) refl
  tells_next p s e vs [] (IfElse t x y c) = tells_plainly p s e vs [] (IfElse t x y c) refl
  tells_next p s e vs [] Done = subst (λ (us : List Use). Tells us s.conts (next p s e vs [] Done)) (sym (exits_use_none e)) (tells_plainly p s e vs [] Done refl)
  tells_next p s e vs (a ∷ ahead) c = tells_plainly p s e vs (a ∷ ahead) c refl

  -- ## Reductions

  tells_limited : (us : List Use) (ks : List (Option Continuation)) (r : Reduced) → Tells us ks r → Tells us ks (limited r)
  tells_limited us ks (Went out s t) (went h) = by (passed s t.around)
    where
      by : (o : Option RunLimit) → Tells us ks (unless_passed o (Went out s t))
      by None = went h
      by (Some l) = is_limited
  tells_limited us ks (Trapped t) h = trapped
  tells_limited us ks (Limited l) h = is_limited
  tells_limited us ks (Ended vs) h = ended
  tells_limited us ks Stuck h = is_stuck

  pub tells_reduction : (p : Program) (s : Store) (t : Term) → Tells (uses_if (event_of s t)) s.conts (reduce p s t)
  tells_reduction p s t = tells_limited _ s.conts _ (tells_next p s t.around t.operands t.rest.ahead t.rest.code)

  leads_if : (us : List Use) (ks : List (Option Continuation)) (s' : Store) (t' : Term) (out : List ℕ) → Tells us ks (Went out s' t') → Leads us ks s'.conts
  leads_if us ks s' t' out (went h) = h

  pub redexes_tell : RedexesTell
  redexes_tell p s s' t t' out e = leads_if _ s.conts s' t' out (subst (Tells (uses_if (event_of s t)) s.conts) e (tells_reduction p s t))
