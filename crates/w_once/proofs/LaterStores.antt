-- Each reduction leads to a later store of continuations.
use Rattle.std.proofs.Common.{◌≡◌, ℕ, suc, false, List, [], ◌∷◌, Option, Some, None, refl, sym, ap, subst}
use Rattle.std.specs.Prelude.{◌-◌, length}
use Rattle.lists.specs.Rows.{Row, row_of}
use Rattle.w_syntax.specs.Code.{Code, Done, Plain, Block, If, IfElse}
use Rattle.w_syntax.specs.declared.instructions.Op.TheVariants as op
use Rattle.w_syntax.specs.declared.instructions.SwitchingOp.{SwitchingOp}
use Rattle.w_syntax.specs.declared.instructions.SwitchingOp.TheVariants as switching
use Rattle.w_rules.specs.Context.{cont_of, type_of_tag}
use Rattle.w_rules.specs.Spaces.{context_of}
use Rattle.w_reduce.specs.declared.limit.RunLimit.{RunLimit}
use Rattle.w_reduce.specs.declared.trap.Trap.{Trap}
use Rattle.w_reduce.specs.declared.trap.Trap.TheVariants as trap
use Rattle.w_reduce.specs.Apart.{switches, apart, PlainReductionsGoApart}
use Rattle.w_reduce.specs.Handlers.{find, label_clause, switch_clause}
use Rattle.w_reduce.specs.Limits.{passed}
use Rattle.w_reduce.specs.Program.{Program}
use Rattle.w_reduce.specs.Reduce.{next, reduce, limited, unless_passed}
use Rattle.w_reduce.specs.Reduced.{Reduced, Went, Trapped, Limited, Ended, Stuck}
use Rattle.w_reduce.specs.Run.{Outcome, Running, Values, Traps, Limit, NoRule, RunState, after_reduction, continued, Run}
use Rattle.w_reduce.specs.Store.{Store}
use Rattle.w_reduce.specs.Switching.{switching_op, back_type}
use Rattle.w_reduce.specs.Terms.{Administrative, Context, Term, Continuation}
use Rattle.w_reduce.specs.Values.{Val}
use Rattle.w_reduce.proofs.GoesOn.{Allows, allows_or_stuck, allows_take_value, allows_take_values, allows_as_function, allows_as_continuation, allows_or_unhandled}
use Rattle.w_once.proofs.Later.{Later, later_same, later_with, later_without}

-- where it goes on, the store of continuations is a later one
pub data Leads (ks : List (Option Continuation)) : Reduced → Type 0 where
  leads : {out : List ℕ} {s : Store} {t : Term} → Later ks s.conts → Leads ks (Went out s t)
  trapped : {t : Trap} → Leads ks (Trapped t)
  is_limited : {l : RunLimit} → Leads ks (Limited l)
  ended : {vs : Row Val} → Leads ks (Ended vs)
  is_stuck : Leads ks Stuck

-- ## The instructions that switch stacks

closed : (ks : List (Option Continuation)) → Allows (Leads ks)
closed ks = record { stuck = is_stuck; traps = λ t. trapped }

leads_switching : (p : Program) (s : Store) (e : Context) (vs : Row Val) (o : SwitchingOp) (c : Code) → Leads s.conts (switching_op p s e vs o c)
leads_switching p s e vs (switching.ContNew x) c =
    allows_take_value (closed s.conts) vs _ (λ q. allows_as_function (closed s.conts) trap.NullReference q.1 _ (λ f.
    allows_or_stuck (closed s.conts) (cont_of (context_of p.source) x) _ (λ t. leads (later_with _ (later_same s.conts)))))
leads_switching p s e vs (switching.ContBind x y) c =
    allows_take_value (closed s.conts) vs _ (λ q. allows_as_continuation (closed s.conts) s q.1 _ (λ b. allows_or_stuck (closed s.conts) (cont_of (context_of p.source) y) _ (λ t.
    allows_take_values (closed s.conts) (b.1.takes - length t.params) q.0 _ (λ u. leads (later_with _ (later_without s.conts b.0))))))
leads_switching p s e vs (switching.Resume x hs) c =
    allows_take_value (closed s.conts) vs _ (λ q. allows_as_continuation (closed s.conts) s q.1 _ (λ b. allows_take_values (closed s.conts) b.1.takes q.0 _ (λ u. leads (later_without s.conts b.0))))
leads_switching p s e vs (switching.Suspend x) c =
    allows_or_stuck (closed s.conts) (type_of_tag (context_of p.source) x) _ (λ t. allows_take_values (closed s.conts) (length t.params) vs _ (λ u.
    allows_or_unhandled (closed s.conts) x (find (label_clause x) e) _ (λ h. leads (later_with _ (later_same s.conts)))))
leads_switching p s e vs (switching.Switch x y) c =
    allows_take_value (closed s.conts) vs _ (λ q. allows_as_continuation (closed s.conts) s q.1 _ (λ b. allows_or_unhandled (closed s.conts) y (find (switch_clause y) e) _ (λ h.
    allows_or_stuck (closed s.conts) (cont_of (context_of p.source) x) _ (λ t. allows_or_stuck (closed s.conts) (back_type (row_of t.params)) _ (λ back.
    allows_or_stuck (closed s.conts) (cont_of (context_of p.source) back) _ (λ u. allows_take_values (closed s.conts) (b.1.takes - 1) q.0 _ (λ w.
    leads (later_with _ (later_without s.conts b.0)))))))))

-- ## The others change no continuation

abbrev conts_of : List (Option Continuation) → Reduced → List (Option Continuation)
conts_of ks (Went out s t) = s.conts
conts_of ks r = ks

leads_apart : (ks : List (Option Continuation)) (r : Reduced) → r ≡ apart ks r → Leads ks r
leads_apart ks (Went out s t) e = leads (subst (Later ks) (sym (ap (conts_of ks) e)) (later_same ks))
leads_apart ks (Trapped t) e = trapped
leads_apart ks (Limited l) e = is_limited
leads_apart ks (Ended vs) e = ended
leads_apart ks Stuck e = is_stuck

module _ (plain : PlainReductionsGoApart) where
  leads_plainly : (p : Program) (s : Store) (e : Context) (vs : Row Val) (ahead : List Administrative) (c : Code) → switches ahead c ≡ false → Leads s.conts (next p s e vs ahead c)
  leads_plainly p s e vs ahead c h = leads_apart s.conts (next p s e vs ahead c) (plain s.conts p s e vs ahead c h)

  leads_next : (p : Program) (s : Store) (e : Context) (vs : Row Val) (ahead : List Administrative) (c : Code) → Leads s.conts (next p s e vs ahead c)
  leads_next p s e vs [] (Plain (op.Switching o) c) = leads_switching p s e vs o c
  leads_next p s e vs [] (Plain (op.Control o) c) = leads_plainly p s e vs [] (Plain (op.Control o) c) refl
  leads_next p s e vs [] (Plain (op.Parametric o) c) = leads_plainly p s e vs [] (Plain (op.Parametric o) c) refl
  leads_next p s e vs [] (Plain (op.Variable o) c) = leads_plainly p s e vs [] (Plain (op.Variable o) c) refl
  leads_next p s e vs [] (Plain (op.Memory o) c) = leads_plainly p s e vs [] (Plain (op.Memory o) c) refl
  leads_next p s e vs [] (Plain (op.Table o) c) = leads_plainly p s e vs [] (Plain (op.Table o) c) refl
  leads_next p s e vs [] (Plain (op.Numeric o) c) = leads_plainly p s e vs [] (Plain (op.Numeric o) c) refl
  leads_next p s e vs [] (Plain (op.Reference o) c) = leads_plainly p s e vs [] (Plain (op.Reference o) c) refl
  leads_next p s e vs [] (Block b t x c) = leads_plainly p s e vs [] (Block b t x c) refl
  leads_next p s e vs [] (If t x c) = leads_plainly p s e vs [] (If t x c) refl
  leads_next p s e vs [] (IfElse t x y c) = leads_plainly p s e vs [] (IfElse t x y c) refl
  leads_next p s e vs [] Done = leads_plainly p s e vs [] Done refl
  leads_next p s e vs (a ∷ ahead) c = leads_plainly p s e vs (a ∷ ahead) c refl

  -- ## Reductions and runs

  leads_limited : (ks : List (Option Continuation)) (r : Reduced) → Leads ks r → Leads ks (limited r)
  leads_limited ks (Went out s t) (leads h) = by (passed s t.around)
    where
      by : (o : Option RunLimit) → Leads ks (unless_passed o (Went out s t))
      by None = leads h
      by (Some l) = is_limited
  leads_limited ks (Trapped t) h = trapped
  leads_limited ks (Limited l) h = is_limited
  leads_limited ks (Ended vs) h = ended
  leads_limited ks Stuck h = is_stuck

  later_reduction : (p : Program) (r : RunState) (d : Reduced) → Leads r.store.conts d → Later r.store.conts (after_reduction p r d).store.conts
  later_reduction p r (Went out s t) (leads h) = h
  later_reduction p r (Trapped t) h = later_same r.store.conts
  later_reduction p r (Limited l) h = later_same r.store.conts
  later_reduction p r (Ended vs) h = later_same r.store.conts
  later_reduction p r Stuck h = later_same r.store.conts

  later_continued : (p : Program) (r : RunState) (o : Outcome) → Later r.store.conts (continued p r o).store.conts
  later_continued p r Running =
      later_reduction p r (reduce p r.store r.term)
      (leads_limited r.store.conts _ (leads_next p r.store r.term.around r.term.operands r.term.rest.ahead r.term.rest.code))
  later_continued p r (Values vs) = later_same r.store.conts
  later_continued p r (Traps t) = later_same r.store.conts
  later_continued p r (Limit l) = later_same r.store.conts
  later_continued p r NoRule = later_same r.store.conts

  -- the store after one reduction more is a later one
  pub later_run : (p : Program) (s : Store) (t : Term) (n : ℕ) → Later (Run p s t n).store.conts (Run p s t (suc n)).store.conts
  later_run p s t n = later_continued p (Run p s t n) (Run p s t n).outcome
